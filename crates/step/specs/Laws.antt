-- A sound scale's line keeps the laws.
use Rattle.std.specs.Prelude.{◌≡◌, ℕ, ◌+◌, ◌/◌, ◌<◌, ◌≤◌, true, ℤ, pos, ◌-ℤ◌, ◌≤ℤ◌, unsigned_abs}
use Rattle.std.proofs.Common.{arith}
use Rattle.std.proofs.lemmas.Nat.{div-add-mod', le-div, mod_below, mul-le}
use Rattle.std.proofs.lemmas.Int.{ints}
use Rattle.std.proofs.lemmas.Bool.{and_parts, leb-true, cond-true}
use Rattle.std.proofs.lemmas.Bool.Decides.{nat_tests}
use Rattle.grid.specs.Line.{LineLawful}
use Rattle.step.specs.declared.scaling.Direction.{Direction}
use Rattle.step.specs.declared.scaling.Direction.TheVariants.{LargerIsBetter, SmallerIsBetter}
use Rattle.step.specs.declared.scaling.Scale.{Scale}
use Rattle.step.specs.Direction.{rise}
use Rattle.step.specs.Rule.{on_grid, height, box_of, step_sound, step_line}

-- between the ends a height is from 0 to the whole way
within : (d : Direction) (low high v : ℤ) → low ≤ℤ v → v ≤ℤ high → (pos 0 ≤ℤ rise d low high v) × (rise d low high v ≤ℤ (high -ℤ low))
within LargerIsBetter low high v l h = (omega (arith, ints), omega (arith, ints))
within SmallerIsBetter low high v l h = (omega (arith, ints), omega (arith, ints))

-- no more whole steps in m than in n: m is less than a step above n
less_than_a_step : (step m n : ℕ) → 1 ≤ step → m / step ≤ n / step → m < n + step
less_than_a_step step m n some h =
    let of-m = div-add-mod' m step in
    let of-n = div-add-mod' n step in
    let rest = mod_below m step some in
    let steps = mul-le (m / step) step (n / step) step h (omega arith) in
    omega arith

-- no fewer whole steps in what is no less
steps_mono : (step m n : ℕ) → 1 ≤ step → m ≤ n → m / step ≤ n / step
steps_mono step m n some h = le-div (m / step) n step some (omega (arith, div-add-mod' m step))

module _ (s : Scale) (sound : step_sound s ≡ true) where
  a_step : 1 ≤ s.step
  a_step = grind (arith, nat_tests)

  -- an admitted figure's height
  admitted : (v : ℤ) → on_grid s v ≡ true → (pos 0 ≤ℤ height s v) × (height s v ≤ℤ (s.high -ℤ s.low))
  admitted v a = within s.direction s.low s.high v (grind (arith, ints)) (grind (arith, ints))

  -- and its box
  boxed : (v : ℤ) → on_grid s v ≡ true → (step_line s).box v ≡ box_of s v
  boxed v a = cond-true (on_grid s v) (box_of s v) 0 a

  pub step_lawful : LineLawful (step_line s)
  step_lawful = record {
    reflexive = λ v a. grind (arith, ints);
    transitive = λ u v w a b c d e. grind (arith, ints);
    monotone = λ v w a b d.
        let of-v = admitted v a in
        let of-w = admitted w b in
        omega (arith, boxed v a, boxed w b, steps_mono s.step (unsigned_abs (height s w)) (unsigned_abs (height s v)) a_step (omega (arith, ints)));
    bounded = λ v a.
        let of-v = admitted v a in
        omega (arith, boxed v a, steps_mono s.step (unsigned_abs (height s v)) (unsigned_abs (s.high -ℤ s.low)) a_step (omega (arith, ints)));
    small = (omega arith, leb-true _ _ (and_parts _ _ sound).1);
    covering = λ v w a b h.
        let of-v = admitted v a in
        let of-w = admitted w b in
        let near = less_than_a_step s.step (unsigned_abs (height s w)) (unsigned_abs (height s v)) a_step (omega (arith, boxed v a, boxed w b)) in
        grind (arith, ints);
  }
