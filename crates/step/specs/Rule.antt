-- What a scale means: which scales are sound, and the line that a sound one makes.
use Rattle.std.specs.Prelude.{ℕ, ◌+◌, ◌/◌, Bool, cond, ◌&&◌, ℤ, pos, ◌+ℤ◌, ◌-ℤ◌, int_le, int_lt, nat_le, unsigned_abs}
use Rattle.grid.specs.Line.{Line}
use Rattle.step.specs.declared.scaling.Scale.{Scale}
use Rattle.step.specs.Direction.{rise}

-- how many boxes there are: one for each whole step from the low end to the high end, and one for what is left
abbrev pub extent_of : Scale → ℕ
extent_of s = unsigned_abs (s.high -ℤ s.low) / s.step + 1

-- the ends are in order, the step is 1 to 2,147,483,647, and there are at most 1,024 boxes
abbrev pub step_sound : Scale → Bool
step_sound s = int_le s.low s.high && nat_le 1 s.step && nat_le s.step 2147483647 && nat_le (extent_of s) 1024

-- the figures from the low end to the high end are admitted
abbrev pub on_grid : Scale → ℤ → Bool
on_grid s v = int_le s.low v && int_le v s.high

-- a figure's height, by which figures compare: from 0 at the worse end up, and below zero past it
abbrev pub height : Scale → ℤ → ℤ
height s v = rise s.direction s.low s.high v

-- the box of a figure on the grid, where no height is below zero: how many whole steps its height has
abbrev pub box_of : Scale → ℤ → ℕ
box_of s v = unsigned_abs (height s v) / s.step

-- greater heights are better, and v covers w where less than a step is missing to w's height
abbrev pub step_line : Scale → Line ℤ
step_line s = record {
  admits = on_grid s;
  no_worse = λ v w. int_le (height s w) (height s v);
  extent = extent_of s;
  box = λ v. cond (on_grid s v) (box_of s v) 0;
  covers = λ v w. int_lt (height s w) (height s v +ℤ pos s.step);
}
