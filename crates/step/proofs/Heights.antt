-- Boxes and figures by heights.
use Rattle.std.proofs.Common.{◌≡◌, ℕ, ◌+◌, ◌-◌, ◌*◌, ◌/◌, ◌≤◌, Bool, true, false, cond, ◌&&◌, min, refl, sym, ap, ◌∙◌, arith}
use Rattle.std.specs.Prelude.{ℤ, pos, negsuc, ◌+ℤ◌, ◌-ℤ◌, ◌≤ℤ◌, int_le, nat_le, nat_lt, unsigned_abs}
use Rattle.std.specs.Int.{int_max, int_min}
use Rattle.std.specs.Cmp.{both_ways}
use Rattle.std.proofs.Math.Bool.{and_comm}
use Rattle.std.proofs.lemmas.Nat.{div-mul-add, div-add-mod', div_below, le-div, mod_below, mul-le}
use Rattle.std.proofs.lemmas.Int.{ints, clamps}
use Rattle.std.proofs.lemmas.Bool.{and_parts, leb-true, le-leb}
use Rattle.std.proofs.lemmas.Bool.Decides.{nat_tests}
use Rattle.step.specs.declared.scaling.Direction.{Direction}
use Rattle.step.specs.declared.scaling.Direction.TheVariants.{LargerIsBetter, SmallerIsBetter}
use Rattle.step.specs.Direction.{rise}

-- at least n whole steps
steps_from : (step m n : ℕ) → 1 ≤ step → nat_le (n * step) m ≡ nat_le n (m / step)
steps_from step m n some =
    both_ways _ _
    (λ e. le-leb _ _ (le-div n m step some (leb-true _ _ e)))
    (λ e. le-leb _ _ (omega (arith, mul-le n step (m / step) step (leb-true _ _ e) (omega arith), div-add-mod' m step)))

-- at most n whole steps
steps_up_to : (step m n : ℕ) → 1 ≤ step → nat_lt m ((n + 1) * step) ≡ nat_le (m / step) n
steps_up_to step m n some =
    both_ways _ _
    (λ e. le-leb _ _ (omega (arith, div_below m step (n + 1) some (leb-true _ _ e))))
    (λ e. le-leb _ _ (omega (arith, mul-le (m / step) step n step (leb-true _ _ e) (omega arith), div-add-mod' m step, mod_below m step some)))

-- numbers are in order where they are so above another, and in the other order below it
above : (low a b : ℤ) → int_le (a -ℤ low) (b -ℤ low) ≡ int_le a b
above low a b = grind (arith, ints)

below : (high a b : ℤ) → int_le (high -ℤ b) (high -ℤ a) ≡ int_le a b
below high a b = grind (arith, ints)

-- the figures between two are those between their heights
pub between_by_heights : (d : Direction) (low high a b v : ℤ) (from to : ℕ) → from ≤ to → rise d low high a ≡ pos from → rise d low high b ≡ pos to → (int_le (int_min a b) v && int_le v (int_max a b)) ≡ (int_le (pos from) (rise d low high v) && int_le (rise d low high v) (pos to))
between_by_heights LargerIsBetter low high a b v from to o p q =
    let least : int_min a b ≡ a = omega (arith, ints, clamps) in
    let most : int_max a b ≡ b = omega (arith, ints, clamps) in
    rw (least, most, ← p, ← q, above low a v, above low v b) refl
between_by_heights SmallerIsBetter low high a b v from to o p q =
    let least : int_min a b ≡ b = omega (arith, ints, clamps) in
    let most : int_max a b ≡ a = omega (arith, ints, clamps) in
    rw (least, most, ← p, ← q, below high v a, below high b v) (and_comm (int_le b v) (int_le v a))

-- the figures on the grid are those of the heights up to the whole way
pub grid_by_heights : (d : Direction) (low high v : ℤ) → low ≤ℤ high → (int_le (pos 0) (rise d low high v) && int_le (rise d low high v) (pos (unsigned_abs (high -ℤ low)))) ≡ (int_le low v && int_le v high)
grid_by_heights LargerIsBetter low high v o = grind (arith, ints)
grid_by_heights SmallerIsBetter low high v o = grind (arith, ints)

-- a height at most the whole way is below the next box where its box is at most n
pub heights_up_to : (z : ℤ) (step n way : ℕ) → 1 ≤ step → (int_le (pos 0) z && int_le z (pos (min ((n + 1) * step - 1) way))) ≡ ((int_le (pos 0) z && int_le z (pos way)) && nat_le (unsigned_abs z / step) n)
heights_up_to (negsuc m) step n way some = refl
heights_up_to (pos m) step n way some =
    let next : 1 ≤ (n + 1) * step = omega (arith, mul-le 1 1 (n + 1) step (omega arith) some) in
    let steps = steps_up_to step m n some in
    grind (arith, nat_tests)

-- a height at most the whole way is at the box n or above where its box is at least n
pub heights_from : (z : ℤ) (step n way : ℕ) → 1 ≤ step → (int_le (pos (n * step)) z && int_le z (pos way)) ≡ ((int_le (pos 0) z && int_le z (pos way)) && nat_le n (unsigned_abs z / step))
heights_from (negsuc m) step n way some = refl
heights_from (pos m) step n way some =
    let steps = steps_from step m n some in
    grind (arith, nat_tests)

-- a test of the box of what is on the grid
pub tested : (on : Bool) (box : ℕ) (test : ℕ → Bool) → (on && test box) ≡ (on && test (cond on box 0))
tested true box test = refl
tested false box test = refl

-- so many whole steps, and less than a step more
pub whole_steps : (n m step k : ℕ) → m ≡ k → (nat_le (n * step) m && nat_lt (m - n * step) step) ≡ true → n ≡ k / step
whole_steps n m step k same e =
    let both = and_parts (nat_le (n * step) m) (nat_lt (m - n * step) step) e in
    let within : n * step + (m - n * step) ≡ k = omega (arith, same, leb-true (n * step) m both.0) in
    sym (div-mul-add n step (m - n * step) (leb-true _ _ both.1)) ∙ ap (λ x. x / step) within

-- a level is a height above the lowest: it is one of the grid, past a bound or short of one where the height is
pub grid_by_level : (lowest highest level z : ℤ) (way : ℕ) → level ≡ lowest +ℤ z → highest ≡ lowest +ℤ pos way → (int_le lowest level && int_le level highest) ≡ (int_le (pos 0) z && int_le z (pos way))
grid_by_level lowest highest level z way e f = grind (arith, ints)

pub top_by_level : (lowest level z : ℤ) (h : ℕ) → level ≡ lowest +ℤ z → int_le level (lowest +ℤ pos h) ≡ int_le z (pos h)
top_by_level lowest level z h e = grind (arith, ints)

pub bottom_by_level : (lowest level z : ℤ) (h : ℕ) → level ≡ lowest +ℤ z → int_le (lowest +ℤ pos h) level ≡ int_le (pos h) z
bottom_by_level lowest level z h e = grind (arith, ints)

-- of the heights on the grid those below the next box are of boxes up to n
pub top_tells : (z : ℤ) (step n way : ℕ) → 1 ≤ step → (int_le (pos 0) z && int_le z (pos way)) ≡ true → int_le z (pos (min ((n + 1) * step - 1) way)) ≡ nat_le (unsigned_abs z / step) n
top_tells z step n way some on =
    let zero = (and_parts (int_le (pos 0) z) (int_le z (pos way)) on).0 in
    let told = heights_up_to z step n way some in
    sym (ap (λ b. b && int_le z (pos (min ((n + 1) * step - 1) way))) zero) ∙ told ∙ ap (λ b. b && nat_le (unsigned_abs z / step) n) on

-- and those from box n on of boxes from it on, where the grid has a height of box n
pub bottom_tells : (z x : ℤ) (step n way : ℕ) → 1 ≤ step → (int_le (pos 0) z && int_le z (pos way)) ≡ true → (int_le (pos 0) x && int_le x (pos way)) ≡ true → unsigned_abs x / step ≡ n → int_le (pos (min (n * step) way)) z ≡ nat_le n (unsigned_abs z / step)
bottom_tells z x step n way some on on' box =
    let there = and_parts (int_le (pos (n * step)) x) (int_le x (pos way)) (heights_from x step n way some ∙ ap (λ b. b && nat_le n (unsigned_abs x / step)) on' ∙ le-leb n (unsigned_abs x / step) (omega (arith, box))) in
    let within : n * step ≤ way = grind (arith, ints, there.0, there.1) in
    let least : min (n * step) way ≡ n * step = omega (arith, within) in
    let past = (and_parts (int_le (pos 0) z) (int_le z (pos way)) on).1 in
    let told = heights_from z step n way some in
    ap (λ h. int_le (pos h) z) least ∙ sym (ap (λ b. int_le (pos (n * step)) z && b) past ∙ and_comm (int_le (pos (n * step)) z) true) ∙ told ∙ ap (λ b. b && nat_le n (unsigned_abs z / step)) on
