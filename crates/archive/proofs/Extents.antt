-- Row need, one objective at a time.
use Rattle.std.proofs.Common.{◌≡◌, ℕ, zero, suc, ◌+◌, ◌*◌, ◌^◌, ◌≤◌, cond, eqb, ltb, refl, ap, mul-le-mul, pow-suc, add-one, arith}
use Rattle.std.proofs.lemmas.Bool.{cond_both}
use Rattle.space.specs.Meaning.{Meaning, Lawful}
use Rattle.history.specs.RowNeed.{first_largest, product_but}

module _ {P : Type 0} (M : Meaning P) where
  -- one objective more
  pub largest_more : (k : ℕ) → first_largest M (k + 1) ≡ cond (ltb (M.extent (first_largest M k)) (M.extent k)) k (first_largest M k)
  unfolding first_largest
  largest_more k = ap (first_largest M) (add-one k)

  pub product_more : (i k : ℕ) → product_but M i (k + 1) ≡ cond (eqb k i) (product_but M i k) (product_but M i k * M.extent k)
  unfolding product_but
  product_more i k = ap (product_but M i) (add-one k)

  pub largest_none : first_largest M 0 ≡ 0
  unfolding first_largest
  largest_none = refl

  pub product_none : (i : ℕ) → product_but M i 0 ≡ 1
  unfolding product_but
  product_none i = refl

  -- a product of so many extents is small
  pub product_small : Lawful M → (i k : ℕ) → product_but M i k ≤ 1024 ^ k
  unfolding product_but
  product_small L i zero = omega arith
  product_small L i (suc k) =
      let less = product_small L i k in
      let step = pow-suc 1024 k in
      cond_both (eqb k i) (product_but M i k) (product_but M i k * M.extent k) (λ n. n ≤ 1024 ^ suc k)
      (λ _. omega (arith, less, step))
      (λ _. omega (arith, mul-le-mul less (L.small k).1, step))
