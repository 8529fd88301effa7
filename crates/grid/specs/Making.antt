-- Which scales make a grid, and which refusal the others get.
use Rattle.std.specs.Prelude.{ℕ, ◌+◌, Bool, cond, ◌&&◌, List, [], ◌∷◌, ◌++◌, ◌-◌, length, replicate, Some, None, Option, nat_le}
use Rattle.grid.specs.Line.{Line}
use Rattle.space.specs.declared.refusal.BadGrid.{BadGrid}
use Rattle.space.specs.declared.refusal.BadGrid.TheVariants.{Objectives, Objective}

-- the first scale that is not sound, counted from i
abbrev pub first_fault : {S : Type 0} → (S → Bool) → ℕ → List S → Option BadGrid
first_fault sound i [] = None
first_fault sound i (s ∷ ss) = cond (sound s) (first_fault sound (i + 1) ss) (Some (Objective i))

-- the fault of a grid with these scales: the number of objectives before all else
abbrev pub grid_fault : {S : Type 0} → (S → Bool) → List S → Option BadGrid
grid_fault sound scales = cond (nat_le 1 (length scales) && nat_le (length scales) 6) (first_fault sound 0 scales) (Some Objectives)

-- six rules: these, and the first of them again in the places past them
abbrev pub six_rules : {F : Type 0} → List (Line F) → List (Line F)
six_rules [] = []
six_rules (l ∷ ls) = (l ∷ ls) ++ replicate (5 - length ls) l
