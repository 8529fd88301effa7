-- Row need leaves out an objective with a largest extent, and so is the least of the products.
use Rattle.std.proofs.Common.{◌≡◌, ℕ, zero, suc, ◌*◌, ◌<◌, ◌≤◌, eqb, ltb, sym, refl, ap, ◌∙◌, subst, ⊎_elim, mul-le-mul_left, mul_right_comm, le_of_mul-le-mul_right, arith}
use Rattle.std.proofs.lemmas.Bool.{cond_both, cond-true, cond-false, cases_eq, eq-eqb, ne_eqb, ltb-true, ltb-false}
use Rattle.space.specs.Meaning.{Meaning, Lawful}
use Rattle.history.specs.RowNeed.{product_but, first_largest, all_but, largest, row_need}
use Rattle.history.specs.Theorems.{RowNeedIsLeast}

-- the product of the first k extents
abbrev product : {P : Type 0} → Meaning P → ℕ → ℕ
product M zero = 1
product M (suc k) = product M k * M.extent k

module _ {P : Type 0} (M : Meaning P) where
  largest_in : (k : ℕ) → first_largest M (suc k) < suc k
  unfolding first_largest
  largest_in zero = cond_both (ltb (M.extent 0) (M.extent 0)) 0 0 (λ i. i < 1) (λ e. omega arith) (λ e. omega arith)
  largest_in (suc k) =
      cond_both (ltb (M.extent (first_largest M (suc k))) (M.extent (suc k))) (suc k) (first_largest M (suc k)) (λ i. i < suc (suc k))
      (λ e. omega arith)
      (λ e. omega (arith, largest_in k))

  in_range : (k : ℕ) → 1 ≤ k → first_largest M k < k
  in_range zero l = omega arith
  in_range (suc k) l = largest_in k

  largest_is : (k i : ℕ) → i < k → M.extent i ≤ M.extent (first_largest M k)
  unfolding first_largest
  largest_is zero i l = omega arith
  largest_is (suc k) i l =
      let f = first_largest M k in
      let low : (i ≡ k → ⊥) → M.extent i ≤ M.extent f = λ n. largest_is k i (omega arith) in
      cond_both (ltb (M.extent f) (M.extent k)) k f (λ z. M.extent i ≤ M.extent z)
      (λ e.
      ⊎_elim
      (λ q. subst (λ z. M.extent z ≤ M.extent k) (sym q) (omega arith))
      (λ n. omega (arith, low n, ltb-true (M.extent f) (M.extent k) e))
      (cases_eq i k))
      (λ e.
      ⊎_elim
      (λ q. subst (λ z. M.extent z ≤ M.extent f) (sym q) (ltb-false (M.extent f) (M.extent k) e))
      low
      (cases_eq i k))

  -- an objective at k or past it leaves out nothing
  past : (i k : ℕ) → k ≤ i → product_but M i k ≡ product M k
  unfolding product_but
  past i zero l = refl
  past i (suc k) l =
      cond-false (eqb k i) (product_but M i k) (product_but M i k * M.extent k) (ne_eqb k i (λ e. omega arith))
      ∙ ap (λ n. n * M.extent k) (past i k (omega arith))

  -- what is left out, put in again
  put_in : (i k : ℕ) → i < k → product_but M i k * M.extent i ≡ product M k
  unfolding product_but
  put_in i zero l = omega arith
  put_in i (suc k) l =
      let x = product_but M i k in
      let y = product_but M i k * M.extent k in
      ⊎_elim
      (λ q.
      ap (λ n. n * M.extent i) (cond-true (eqb k i) x y (eq-eqb k i q) ∙ past i k (omega arith))
      ∙ ap (λ z. product M k * M.extent z) (sym q))
      (λ n.
      ap (λ m. m * M.extent i) (cond-false (eqb k i) x y (ne_eqb k i n))
      ∙ mul_right_comm x (M.extent k) (M.extent i)
      ∙ ap (λ m. m * M.extent k) (put_in i k (omega arith)))
      (cases_eq k i)

  least : Lawful M → (i : ℕ) → i < M.objectives → row_need M ≤ all_but M i
  least L i l =
      let n = M.objectives in
      let a = put_in i n l in
      let b = put_in (largest M) n (in_range n L.few.0) in
      let c = mul-le-mul_left (all_but M i) (largest_is n i l) in
      let d : row_need M * M.extent (largest M) ≤ all_but M i * M.extent (largest M) = omega (arith, a, b, c) in
      le_of_mul-le-mul_right d (L.small (largest M)).0

pub row_need_is_least : {P : Type 0} → RowNeedIsLeast P
row_need_is_least M L = (in_range M M.objectives L.few.0, largest_is M M.objectives, least M L)
