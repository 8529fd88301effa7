-- The levels of a box, by heights.
use Rattle.std.specs.Prelude.{ℕ, ◌+◌, ◌-◌, ◌*◌, Bool, ℤ, pos, ◌+ℤ◌, ◌-ℤ◌, min, unsigned_abs}
use Rattle.grid.specs.declared.levels.Levels.{Levels}
use Rattle.step.specs.declared.scaling.Scale.{Scale}

-- the levels of box n, where those on the grid go from the lowest to the highest: it begins n steps above the lowest, and ends where the next
-- one begins, or at the highest
abbrev pub levels_above : Scale → ℕ → Bool → ℤ → ℤ → Levels
levels_above s n turned lowest highest = record {
  turned = turned;
  lowest = lowest;
  highest = highest;
  bottom = lowest +ℤ pos (min (n * s.step) (unsigned_abs (s.high -ℤ s.low)));
  top = lowest +ℤ pos (min ((n + 1) * s.step - 1) (unsigned_abs (s.high -ℤ s.low)));
}
