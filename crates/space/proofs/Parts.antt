-- A point in the front of a longer part.
use Rattle.std.proofs.Common.{◌≡◌, ℕ, ◌-◌, ◌≤◌, true, List, ◌++◌, length, take, drop, ap, ◌∙◌, arith}
use Rattle.std.proofs.lemmas.List.{length-take, take_at}
use Rattle.std.proofs.lemmas.Slice.{drop-append-drop}
use Rattle.std.proofs.lemmas.Bool.{cond-true, eq-eqb}
use Rattle.space.specs.Recording.{Recording, Faithful, as_wide, written_over}

module _ {P : Type 0} (R : Recording P) (n : ℕ) (bs : List ℕ) (wide : n ≡ R.width) (enough : n ≤ length bs) where
  -- the front is as long as a point takes
  pub front_wide : as_wide R (take (n - 0) bs) ≡ true
  front_wide = eq-eqb (length (take (n - 0) bs)) R.width (length-take (n - 0) bs ∙ omega arith)

  -- what it is written over with is as long
  front_long : Faithful R → (p : P) (front : List ℕ) → front ≡ written_over R p (take (n - 0) bs) → length front ≡ n - 0
  front_long faithful p front e =
      let first : front ≡ R.writes p = e ∙ cond-true (as_wide R (take (n - 0) bs)) (R.writes p) (take (n - 0) bs) front_wide in
      ap length first ∙ faithful.long p ∙ omega arith

  -- so the part behind it is left
  pub rest_left : Faithful R → (p : P) (front : List ℕ) → front ≡ written_over R p (take (n - 0) bs) → drop n (front ++ drop (n - 0) bs) ≡ drop n bs
  rest_left faithful p front e = drop-append-drop (n - 0) bs front n (omega arith) (front_long faithful p front e)

  -- and it holds the point once it is written
  pub front_written : Faithful R → (p : P) (front rest : List ℕ) → front ≡ written_over R p (take (n - 0) bs) → take n (front ++ rest) ≡ R.writes p
  front_written faithful p front rest e =
      take_at front rest n (front_long faithful p front e ∙ omega arith) ∙ e ∙ cond-true (as_wide R (take (n - 0) bs)) (R.writes p) (take (n - 0) bs) front_wide
