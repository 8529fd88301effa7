-- A sum of remainders has the remainder of the sum.
use Rattle.std.proofs.Common.{◌≡◌, ℕ, ◌%◌, List, [], ◌∷◌, map, sum, refl, arith}
use Rattle.std.proofs.lemmas.List.Sums.{sum_by-cons}

pub sum_of_remainders : (f : ℕ → ℕ) (ks : List ℕ) → sum (map (λ k. f k % 65536) ks) % 65536 ≡ sum (map f ks) % 65536
sum_of_remainders f [] = refl
sum_of_remainders f (k ∷ ks) =
    let parts = sum_by-cons (λ x. x) (f k % 65536) (map (λ k. f k % 65536) ks) in
    let whole = sum_by-cons (λ x. x) (f k) (map f ks) in
    omega (arith, parts, whole, sum_of_remainders f ks)
