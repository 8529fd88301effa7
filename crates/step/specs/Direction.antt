-- Which figures are better.
use Rattle.std.specs.Prelude.{ℕ, ℤ, ◌-ℤ◌}
use Rattle.step.specs.declared.scaling.Direction.{Direction}
use Rattle.step.specs.declared.scaling.Direction.TheVariants.{LargerIsBetter, SmallerIsBetter}

-- the number of a direction
abbrev pub direction_number : Direction → ℕ
direction_number LargerIsBetter = 0
direction_number SmallerIsBetter = 1

-- how far v is from the worse of the two ends, toward the better one
abbrev pub rise : Direction → ℤ → ℤ → ℤ → ℤ
rise LargerIsBetter low high v = v -ℤ low
rise SmallerIsBetter low high v = high -ℤ v
