-- What the tests on points and boxes tell, and the laws of the relations that they test.
use Rattle.std.proofs.Common.{◌≡◌, ℕ, zero, suc, ◌<◌, ◌≤◌, true, false, not, leb, ◌⊎◌, List, [], ◌∷◌, Decides, sym, refl, ◌∙◌, subst, inl, inr, ⊎_elim, arith}
use Rattle.std.proofs.lemmas.Bool.{and_cases, leb-true, leb-false, le-leb, true≢false, cases_lt, cases_Bool, both_ways, not-true, not_from_false}
use Rattle.std.proofs.lemmas.Bool.Decides.{Decides-like, Decides-not, Decides-and, Decides-below_and}
use Rattle.space.specs.Meaning.{Meaning, Lawful}
use Rattle.space.specs.Boxes.{Dominates, AtLeast, SameBox, BoxDominates, at_least_in, at_least, same_box}
use Rattle.space.specs.declared.tagged.Trial.{Trial}
use Rattle.history.specs.Lists.{◌∈◌, Pairwise}
use Rattle.history.specs.Comparing.{Apart, dominates}
use Rattle.history.specs.Step.{below, beaten, shuts}
use Rattle.history.specs.TwoLevel.{Below, Beaten, Shuts}
use Rattle.history.proofs.Membership.{in_nothing, in_cons}

module _ {P : Type 0} (M : Meaning P) where
  pub at_least_refl : (p : P) → AtLeast M p p
  at_least_refl p i = omega arith

  pub at_least_trans : {p q r : P} → AtLeast M p q → AtLeast M q r → AtLeast M p r
  at_least_trans h k i = let a = h i in let b = k i in omega arith

  pub same_both : {p q : P} → SameBox M p q → AtLeast M p q × AtLeast M q p
  same_both h = (λ i. let a = h i in omega arith, λ i. let a = h i in omega arith)

  pub both_same : {p q : P} → AtLeast M p q → AtLeast M q p → SameBox M p q
  both_same h k i = let a = h i in let b = k i in omega arith

  pub box_dominates_back : {p q : P} → BoxDominates M p q → AtLeast M q p → ⊥
  box_dominates_back d h = omega (arith, d.1.1, h d.1.0)

  pub irreflexive : {p : P} → Dominates M p p → ⊥
  irreflexive {p} d = both_ways (M.no_worse p p) d.1 d.0

  -- of two members whose boxes are apart unless they stand in one place, one box is at least the other only where both are the same
  pub meet : {r d : Trial P} (xs : List (Trial P)) → Pairwise (Apart M) xs → r ∈ xs → d ∈ xs → AtLeast M r.point d.point → AtLeast M d.point r.point
  meet [] p mr md h = in_nothing mr
  meet {r} {d} (x ∷ xs) p mr md h =
      ⊎_elim
      (λ qr.
      ⊎_elim
      (λ qd. subst (λ z. AtLeast M z.point r.point) (qr ∙ sym qd) (at_least_refl r.point))
      (λ n. absurd ((p.0 d n).0 (subst (λ z. AtLeast M z.point d.point) qr h)))
      (in_cons md))
      (λ m.
      ⊎_elim
      (λ qd. absurd ((p.0 r m).1 (subst (λ z. AtLeast M r.point z.point) qd h)))
      (λ n. meet xs p.1 m n h)
      (in_cons md))
      (in_cons mr)

  -- a box that is not at least another is less in some objective
  less_in : (k : ℕ) (p q : P) → at_least_in M k p q ≡ false → (i : ℕ) × (M.box i p < M.box i q)
  less_in zero p q e = absurd (true≢false e)
  less_in (suc k) p q e =
      ⊎_elim
      (λ h. (k, leb-false (M.box k q) (M.box k p) h))
      (less_in k p q)
      (and_cases (leb (M.box k q) (M.box k p)) (at_least_in M k p q) e)

  decides_dominates : (p q : P) → Decides (dominates M p q) (Dominates M p q)
  decides_dominates p q =
      Decides-and (M.no_worse p q) (not (M.no_worse q p)) (λ e. e, λ e. e) (not-true (M.no_worse q p), not_from_false (M.no_worse q p))

  module _ (L : Lawful M) where
    pub dominates_trans : (p q r : P) → M.admits p ≡ true → M.admits q ≡ true → M.admits r ≡ true → Dominates M p q → Dominates M q r → Dominates M p r
    dominates_trans p q r ap aq ar d e = (
      L.transitive p q r ap aq ar d.0 e.0,
      ⊎_elim
          (λ h. absurd (both_ways (M.no_worse r q) e.1 (L.transitive r p q ar ap aq h d.0)))
          (λ h. h)
          (cases_Bool (M.no_worse r p)),
    )

    -- past the last objective all box numbers are 0
    pub decides_at_least : (p q : P) → Decides (at_least M p q) (AtLeast M p q)
    decides_at_least p q =
        Decides-like (at_least M p q)
        (λ below i. ⊎_elim (below i) (λ l. let z = L.outside_box q i l in omega arith) (cases_lt i M.objectives))
        (λ all i l. all i)
        (Decides-below_and (λ i. leb (M.box i q) (M.box i p)) (λ i. M.box i q ≤ M.box i p) (λ k. at_least_in M k p q)
        (λ i. (leb-true (M.box i q) (M.box i p), le-leb (M.box i q) (M.box i p)))
        refl
        (λ _. refl)
        M.objectives)

    at_least_or : (p q : P) → AtLeast M p q ⊎ ((i : ℕ) × (M.box i p < M.box i q))
    at_least_or p q =
        ⊎_elim (λ e. inl ((decides_at_least p q).0 e)) (λ e. inr (less_in M.objectives p q e)) (cases_Bool (at_least M p q))

    -- at least, and not the other way round
    pub box_dominates_from : {p q : P} → AtLeast M p q → (AtLeast M q p → ⊥) → BoxDominates M p q
    box_dominates_from {p} {q} h n = (h, ⊎_elim (λ k. absurd (n k)) (λ s. s) (at_least_or q p))

    -- a box that is at least another is the same or dominates it
    pub same_or_dominates : {p q : P} → AtLeast M p q → SameBox M p q ⊎ BoxDominates M p q
    same_or_dominates {p} {q} h = ⊎_elim (λ k. inl (both_same h k)) (λ s. inr (h, s)) (at_least_or q p)

    pub not_dominated : {p q : P} → (BoxDominates M p q → ⊥) → AtLeast M p q → AtLeast M q p
    not_dominated n h = ⊎_elim (λ s. (same_both s).1) (λ d. absurd (n d)) (same_or_dominates h)

    module _ (t r : Trial P) where
      pub decides_below : Decides (below M t r) (Below M t r)
      decides_below =
          let there = decides_at_least t.point r.point in
          let back = decides_at_least r.point t.point in
          Decides-like (below M t r)
          (λ h. box_dominates_from h.0 h.1)
          (λ d. (d.0, box_dominates_back d))
          (Decides-and (at_least M t.point r.point) (not (at_least M r.point t.point)) there (Decides-not (at_least M r.point t.point) back))

      pub decides_beaten : Decides (beaten M t r) (Beaten M t r)
      decides_beaten =
          let there = decides_at_least t.point r.point in
          let back = decides_at_least r.point t.point in
          Decides-and (same_box M t.point r.point) (dominates M t.point r.point)
          (Decides-like (same_box M t.point r.point) (λ h. both_same h.1 h.0) (λ s. ((same_both s).1, (same_both s).0)) (Decides-and (at_least M t.point r.point) (at_least M r.point t.point) there back))
          (decides_dominates t.point r.point)

      -- the member's box equals the trial's or dominates it: it is at least the trial's
      pub shuts_from : AtLeast M r.point t.point → Shuts M t r
      shuts_from h = same_or_dominates h

      pub shuts_least : Shuts M t r → AtLeast M r.point t.point
      shuts_least s = ⊎_elim (λ h. (same_both h).0) (λ d. d.0) s

      pub decides_shuts : Decides (shuts M t r) (Shuts M t r)
      decides_shuts = Decides-like (shuts M t r) shuts_from shuts_least (decides_at_least r.point t.point)
