-- The pair that an audit tells is at fault, and none before it is.
use Rattle.std.proofs.Common.{◌≡◌, ℕ, zero, suc, ◌+◌, ◌<◌, true, false, not, List, [], ◌∷◌, Some, None, Option, sym, refl, ap, ◌∙◌, subst, inl, inr, ⊎_elim, zero-add, arith}
use Rattle.std.specs.List.{slice_get}
use Rattle.std.specs.Option.{option_or}
use Rattle.std.proofs.lemmas.Bool.{cond_both, cases_lt, both_ways, not-true, not-false}
use Rattle.space.specs.Meaning.{Meaning, Lawful}
use Rattle.space.specs.declared.tagged.Trial.{Trial}
use Rattle.history.specs.Comparing.{Apart}
use Rattle.history.specs.State.{on_grid}
use Rattle.history.specs.Auditing.{AtFault, NotAfter, FirstAtFault, clash, clash_from, pair_from}
use Rattle.history.specs.Theorems.{AuditTells}
use Rattle.history.proofs.Audit.{no_clash, clash_not}

some_same : {A : Type 0} {a b : A} → Some a ≡ Some b → a ≡ b
some_same e = cc

never : {A : Type 0} {a : A} → None ≡ Some a → ⊥
never e = let z : ◌≡◌ {A = ℕ} 0 1 = cc in omega arith

module _ {P : Type 0} (M : Meaning P) where
  -- a pair at fault of a list with a head: the head alone, the head with a later row, or a pair of later rows
  fault_by : (C : ℕ → ℕ → Type 0) (r : Trial P) (rs : List (Trial P)) → (on_grid M r ≡ false → C 0 0)
      → ((j : ℕ) (s : Trial P) → slice_get rs j ≡ Some s → (Apart M r s → ⊥) → C 0 (suc j)) → ((i j : ℕ) → AtFault M rs i j → C (suc i) (suc j))
      → (i j : ℕ) → AtFault M (r ∷ rs) i j → C i j
  fault_by C r rs alone over later zero zero (inl f) = alone (ap (on_grid M) (some_same f.1.row) ∙ f.1.off)
  fault_by C r rs alone over later zero zero (inr f) = absurd (omega (arith, f.ordered))
  fault_by C r rs alone over later zero (suc j) (inl f) = absurd (omega (arith, f.0))
  fault_by C r rs alone over later zero (suc j) (inr f) = over j f.second f.second_row (λ a. f.not_apart (subst (λ z. Apart M z f.second) (some_same f.first_row) a))
  fault_by C r rs alone over later (suc i) zero (inl f) = absurd (omega (arith, f.0))
  fault_by C r rs alone over later (suc i) zero (inr f) = absurd (omega (arith, f.ordered))
  fault_by C r rs alone over later (suc i) (suc j) (inl f) = later i j (inl (omega (arith, f.0), record { trial = f.1.trial; row = f.1.row; off = f.1.off }))
  fault_by C r rs alone over later (suc i) (suc j) (inr f) =
      later i j (inr (record { first = f.first; second = f.second; ordered = omega (arith, f.ordered); first_row = f.first_row; second_row = f.second_row; not_apart = f.not_apart }))

  -- one row further on
  fault_later : (r : Trial P) (rs : List (Trial P)) (i j : ℕ) → AtFault M rs i j → AtFault M (r ∷ rs) (suc i) (suc j)
  fault_later r rs i j (inl f) = inl (ap suc f.0, record { trial = f.1.trial; row = f.1.row; off = f.1.off })
  fault_later r rs i j (inr f) =
      inr (record { first = f.first; second = f.second; ordered = omega (arith, f.ordered); first_row = f.first_row; second_row = f.second_row; not_apart = f.not_apart })

  -- the first pair at fault of rows that are counted from o on
  abbrev FirstFrom : ℕ → List (Trial P) → Option (ℕ × ℕ) → Type 0
  FirstFrom o rs None = FirstAtFault M rs None
  FirstFrom o rs (Some p) = (x : ℕ) × ((y : ℕ) × ((p ≡ (o + x, o + y)) × FirstAtFault M rs (Some (x, y))))

  -- the first of these rows, counted from o on, that is not apart from r
  abbrev ClashFirst : ℕ → ℕ → Trial P → List (Trial P) → Option (ℕ × ℕ) → Type 0
  ClashFirst i o r ss None = (k : ℕ) (s : Trial P) → slice_get ss k ≡ Some s → Apart M r s
  ClashFirst i o r ss (Some p) =
      (y : ℕ) × ((s : Trial P) × ((p ≡ (i, o + y)) × (slice_get ss y ≡ Some s) × (Apart M r s → ⊥) × ((k : ℕ) (u : Trial P) → k < y → slice_get ss k ≡ Some u → Apart M r u)))

  -- a row of a list with a head that is apart from r
  apart_later : (r s : Trial P) (ss : List (Trial P)) (y : ℕ) → Apart M r s → ((k : ℕ) (u : Trial P) → k < y → slice_get ss k ≡ Some u → Apart M r u) → (k : ℕ) (u : Trial P) → k < suc y → slice_get (s ∷ ss) k ≡ Some u → Apart M r u
  apart_later r s ss y a h zero u l e = subst (Apart M r) (some_same e) a
  apart_later r s ss y a h (suc k) u l e = h k u (omega arith) e

  clash_later : (i o : ℕ) (r s : Trial P) (ss : List (Trial P)) → Apart M r s → (c : Option (ℕ × ℕ)) → ClashFirst i (o + 1) r ss c → ClashFirst i o r (s ∷ ss) c
  clash_later i o r s ss a None h = λ k u e. apart_later r s ss k a (λ n u l. h n u) k u (omega arith) e
  clash_later i o r s ss a (Some p) h = (
    suc h.0,
    (
      h.1.0,
      (
        h.1.1.0 ∙ ap (λ n. (i, n)) (omega arith),
        h.1.1.1,
        h.1.1.2,
        apart_later r s ss h.0 a h.1.1.3,
      ),
    ),
  )

  -- a head on the grid: it clashes with a later row, or what is first at fault comes later
  head_on : (o : ℕ) (r : Trial P) (rs : List (Trial P)) → on_grid M r ≡ true → (c : Option (ℕ × ℕ)) → ClashFirst o (o + 1) r rs c → (q : Option (ℕ × ℕ)) → FirstFrom (o + 1) rs q → FirstFrom o (r ∷ rs) (option_or c q)
  head_on o r rs on (Some p) h q g =
      let y = h.0 in
      let f = h.1.1 in (
        0,
        (
          suc y,
          (
            f.0 ∙ ap (λ n. (n, o + 1 + y)) (omega arith) ∙ ap (λ n. (o + 0, n)) (omega arith),
            (
              inr (record { first = r; second = h.1.0; ordered = omega arith; first_row = refl; second_row = f.1; not_apart = f.2 }),
              fault_by (NotAfter 0 (suc y)) r rs
                  (λ off. absurd (both_ways (on_grid M r) off on))
                  (λ j u row n. inr (refl, ⊎_elim (λ l. absurd (n (f.3 j u l row))) (λ l. omega arith) (cases_lt j y)))
                  (λ i j _. inl (omega arith)),
            ),
          ),
        ),
      )
  head_on o r rs on None h None g =
      fault_by (λ i j. ⊥) r rs (λ off. both_ways (on_grid M r) off on) (λ j u row n. n (h j u row)) g
  head_on o r rs on None h (Some p) g =
      let x = g.0 in
      let y = g.1.0 in
      let f = g.1.1 in (
        suc x,
        (
          suc y,
          (
            f.0 ∙ ap (λ n. (n, o + 1 + y)) (omega arith) ∙ ap (λ n. (o + suc x, n)) (omega arith),
            (
              fault_later r rs x y f.1.0,
              fault_by (NotAfter (suc x) (suc y)) r rs
                  (λ off. absurd (both_ways (on_grid M r) off on))
                  (λ j u row n. absurd (n (h j u row)))
                  (λ i j k. ⊎_elim (λ l. inl (omega arith)) (λ e. inr (ap suc e.0, omega (arith, e.1))) (f.1.1 i j k)),
            ),
          ),
        ),
      )

  from_zero : (rs : List (Trial P)) (c : Option (ℕ × ℕ)) → FirstFrom 0 rs c → FirstAtFault M rs c
  from_zero rs None h = h
  from_zero rs (Some p) h =
      let x = h.0 in
      let y = h.1.0 in
      subst (λ z. FirstAtFault M rs (Some z)) (sym (h.1.1.0 ∙ ap (λ n. (n, 0 + y)) (zero-add x) ∙ ap (λ n. (x, n)) (zero-add y))) h.1.1.1

  module _ (L : Lawful M) where
    clash_first : (i o : ℕ) (r : Trial P) (ss : List (Trial P)) → ClashFirst i o r ss (clash_from M i r o ss)
    unfolding clash_from
    clash_first i o r [] = λ k s e. absurd (never e)
    clash_first i o r (s ∷ ss) =
        cond_both (clash M r s) (Some (i, o)) (clash_from M i r (o + 1) ss) (ClashFirst i o r (s ∷ ss))
        (λ e. (
          0,
          (
            s,
            (
              ap (λ n. (i, n)) (omega arith),
              refl,
              λ a. both_ways (clash M r s) (no_clash M L r s a) e,
              λ k u l. absurd (omega arith),
            ),
          ),
        ))
        (λ e. clash_later i o r s ss (clash_not M L r s e) (clash_from M i r (o + 1) ss) (clash_first i (o + 1) r ss))

    first_from : (o : ℕ) (rs : List (Trial P)) → FirstFrom o rs (pair_from M o rs)
    unfolding pair_from
    first_from o [] = λ i j f. ⊎_elim (λ h. never h.1.row) (λ h. never h.first_row) f
    first_from o (r ∷ rs) =
        cond_both (not (on_grid M r)) (Some (o, o)) (option_or (clash_from M o r (o + 1) rs) (pair_from M (o + 1) rs)) (FirstFrom o (r ∷ rs))
        (λ e. (
          0,
          (
            0,
            (
              ap (λ n. (n, n)) (omega arith),
              (
                inl (refl, record { trial = r; row = refl; off = not-true (on_grid M r) e }),
                λ i j f. ⊎_elim inl (λ l. inr (omega arith, omega arith)) (cases_lt 0 i),
              ),
            ),
          ),
        ))
        (λ e. head_on o r rs (not-false (on_grid M r) e) (clash_from M o r (o + 1) rs) (clash_first o (o + 1) r rs) (pair_from M (o + 1) rs) (first_from (o + 1) rs))

pub audit_tells : {P : Type 0} → AuditTells P
audit_tells M L members = from_zero M members (pair_from M 0 members) (first_from M L 0 members)
