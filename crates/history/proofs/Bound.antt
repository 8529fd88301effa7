-- Trials on the grid whose boxes are apart are no more than the product of all extents but one.
use Rattle.std.proofs.Common.{◌≡◌, ℕ, zero, suc, ◌+◌, ◌*◌, ◌/◌, ◌%◌, ◌<◌, ◌≤◌, true, false, cond, eqb, List, length, sym, ap, ◌∙◌, subst, ⊎_elim, arith}
use lib.Arith.{digits_lt, digits_div, digits_mod}
use Rattle.std.proofs.lemmas.Bool.{cond-true, cond-false, cases_Bool, cases_eq, cases_lt, eqb-true}
use Rattle.space.specs.Meaning.{Meaning, Lawful}
use Rattle.space.specs.Boxes.{AtLeast}
use Rattle.space.specs.declared.tagged.Trial.{Trial}
use Rattle.history.specs.Lists.{EachIn, Pairwise}
use Rattle.history.specs.Comparing.{Apart}
use Rattle.history.specs.State.{on_grid}
use Rattle.history.specs.RowNeed.{product_but, all_but}
use Rattle.history.proofs.Pairs.{pairwise_weaker, pigeonhole}

-- the first k box numbers but that of objective i, as the digits of one number
abbrev digits : {P : Type 0} → Meaning P → ℕ → ℕ → P → ℕ
digits M i zero p = 0
digits M i (suc k) p = cond (eqb k i) (digits M i k p) (digits M i k p * M.extent k + M.box k p)

module _ {P : Type 0} (M : Meaning P) (L : Lawful M) (i : ℕ) where
  digits_below : (p : P) → M.admits p ≡ true → (k : ℕ) → digits M i k p < product_but M i k
  unfolding product_but
  digits_below p a zero = omega arith
  digits_below p a (suc k) =
      let h = digits_below p a k in
      elim (eqb k i) as (λ b. cond b (digits M i k p) (digits M i k p * M.extent k + M.box k p) < cond b (product_but M i k) (product_but M i k * M.extent k)) [ true ↦ h | false ↦ digits_lt h (L.bounded p a k) ]

  same_digits : (p q : P) → M.admits p ≡ true → M.admits q ≡ true → (k : ℕ) → digits M i k p ≡ digits M i k q → (j : ℕ) → j < k → (j ≡ i → ⊥) → M.box j p ≡ M.box j q
  same_digits p q a b zero e j l n = omega arith
  same_digits p q a b (suc k) e j l n =
      let x = digits M i k p in
      let y = digits M i k q in
      let m = M.extent k in
      let v = M.box k p in
      let w = M.box k q in
      ⊎_elim
      (λ t.
      let s = eqb-true k i t in
      let c : j ≡ k → ⊥ = λ z. n (z ∙ s) in
      same_digits p q a b k (sym (cond-true (eqb k i) x (x * m + v) t) ∙ e ∙ cond-true (eqb k i) y (y * m + w) t) j (omega arith) n)
      (λ t.
      let d = sym (cond-false (eqb k i) x (x * m + v) t) ∙ e ∙ cond-false (eqb k i) y (y * m + w) t in
      let low : v ≡ w = sym (digits_mod x (L.bounded p a k)) ∙ ap (λ z. z % m) d ∙ digits_mod y (L.bounded q b k) in
      let high : x ≡ y = sym (digits_div x (L.bounded p a k)) ∙ ap (λ z. z / m) d ∙ digits_div y (L.bounded q b k) in
      ⊎_elim
      (λ z. subst (λ z. M.box z p ≡ M.box z q) (sym z) low)
      (λ z. same_digits p q a b k high j (omega arith) n)
      (cases_eq j k))
      (cases_Bool (eqb k i))

  -- where all box numbers but that of objective i agree, one box is at least the other
  one_over : (p q : P) → ((j : ℕ) → (j ≡ i → ⊥) → M.box j p ≡ M.box j q) → M.box i q ≤ M.box i p → AtLeast M p q
  one_over p q h l j =
      ⊎_elim (λ z. subst (λ z. M.box z q ≤ M.box z p) (sym z) l) (λ n. let s = h j n in omega arith) (cases_eq j i)

  distinct : (r s : Trial P) → on_grid M r ≡ true → on_grid M s ≡ true → Apart M r s → digits M i M.objectives r.point ≡ digits M i M.objectives s.point → ⊥
  distinct r s a b c e =
      let p = r.point in
      let q = s.point in
      let agree : (j : ℕ) → (j ≡ i → ⊥) → M.box j p ≡ M.box j q = λ j n. ⊎_elim (λ l. same_digits p q a b M.objectives e j l n) (λ l. L.outside_box p j l ∙ sym (L.outside_box q j l)) (cases_lt j M.objectives) in
      ⊎_elim
      (λ l. c.1 (one_over q p (λ j n. sym (agree j n)) (omega arith)))
      (λ l. c.0 (one_over p q agree l))
      (cases_lt (M.box i p) (M.box i q))

  pub bounded : (rs : List (Trial P)) → EachIn rs (λ r. on_grid M r ≡ true) → Pairwise (Apart M) rs → length rs ≤ all_but M i
  bounded rs a p =
      pigeonhole (λ r. digits M i M.objectives r.point) (all_but M i) rs
      (pairwise_weaker (Apart M) (λ r s. digits M i M.objectives r.point ≡ digits M i M.objectives s.point → ⊥) rs (λ r s m n. distinct r s (a r m) (a s n)) p)
      (λ r m. digits_below r.point (a r m) M.objectives)
