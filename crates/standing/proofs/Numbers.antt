-- What is said of the places of a range from 0 on is said of the numbers below its end.
use Rattle.std.proofs.Common.{◌≡◌, ℕ, ◌<◌, length, get_or, subst, arith}
use Rattle.std.specs.List.{AllWithin, HoldsAt, range_with_len}
use Rattle.std.proofs.lemmas.List.FromFn.{length-range_with_len, get_or-range_with_len}

module _ (Q : ℕ → Type 0) (n : ℕ) where
  -- the number at a place is that place
  place : (k : ℕ) → k < n → get_or (range_with_len 0 n) k 0 ≡ k
  place k l = omega (arith, get_or-range_with_len 0 n k 0 l)

  pub at_each : AllWithin Q (range_with_len 0 n) 0 (length (range_with_len 0 n)) → (k : ℕ) → k < n → Q k
  at_each all k l = subst Q (place k l) (all k 0 (omega arith) (omega (arith, length-range_with_len 0 n)))

  pub at_some : (k : ℕ) × (k < length (range_with_len 0 n)) × HoldsAt Q (range_with_len 0 n) k → (k : ℕ) × (k < n) × Q k
  at_some h =
      let inside : h.0 < n = omega (arith, h.1, length-range_with_len 0 n) in
      (h.0, inside, subst Q (place h.0 inside) (h.2 0))
