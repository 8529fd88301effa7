-- The refusals of the makers of spaces, by number and by what they tell.
use Rattle.std.specs.Prelude.{ℕ}
use Rattle.space.specs.declared.refusal.BadGrid.{BadGrid}
use Rattle.space.specs.declared.refusal.BadGrid.TheVariants.{Objectives, Objective}

-- bad grid
abbrev pub bad_grid_number : ℕ
bad_grid_number = 7

-- what a bad grid tells: 255 where the number of objectives is at fault, else the objective
abbrev pub told_place : BadGrid → ℕ
told_place Objectives = 255
told_place (Objective i) = i

-- too many
abbrev pub too_many_number : ℕ
too_many_number = 8
