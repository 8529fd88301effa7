-- Over every trial something stands: going once through the list, and on to each trial that is over the one at hand.
use Rattle.std.proofs.Common.{◌≡◌, ℕ, zero, suc, ◌<◌, true, ◌⊎◌, List, [], ◌∷◌, length, get_or, sym, refl, subst, inl, inr, ⊎_elim, arith}
use Rattle.std.proofs.lemmas.Bool.{cases_lt, cases_Bool, both_ways}
use Rattle.space.specs.declared.tagged.Trial.{Trial}
use Rattle.space.specs.Meaning.{Meaning, Lawful}
use Rattle.space.specs.Boxes.{Dominates, AtLeast, SameBox, BoxDominates}
use Rattle.standing.specs.Standing.{OnGrid, Pair, NoneOf, BoxStands, BoxAbove, TrialWithin}
use Rattle.standing.proofs.Boxes.{upto, box_dominates_decided, box_dominates_onward, box_dominates_never, box_dominates_same}
use Rattle.standing.proofs.Places.{at_defaults}

-- a list that has a place has an element
some_of : {X : Type 0} (xs : List X) (i : ℕ) → i < length xs → X
some_of [] i l = absurd (omega arith)
some_of (x ∷ xs) i l = x

module _ {P : Type 0} (M : Meaning P) (ts : List (Trial P)) (R : P → P → Type 0) where
  -- trial j is on the grid, is trial i or over it, and has none of the first n over it
  record Top (i n j : ℕ) : Type 0 where
    on : OnGrid M ts j
    reach : (j ≡ i) ⊎ Pair R ts j i
    none : NoneOf M R ts n j

  module _ (decided : (p q : P) → R p q ⊎ (R p q → ⊥))
      (onward : (p q r : P) → M.admits p ≡ true → M.admits q ≡ true → M.admits r ≡ true → R p q → R q r → R p r)
      (never : (p : P) → R p p → ⊥) (i : ℕ) (on-i : OnGrid M ts i) where
    pair_onward : (a b c : ℕ) → OnGrid M ts a → OnGrid M ts b → OnGrid M ts c → Pair R ts a b → Pair R ts b c → Pair R ts a c
    pair_onward a b c oa ob oc h k d = onward _ _ _ (oa.1 d) (ob.1 d) (oc.1 d) (h d) (k d)

    on_grid_decided : (n : ℕ) → OnGrid M ts n ⊎ (OnGrid M ts n → ⊥)
    on_grid_decided n =
        let d = some_of ts i on-i.0 in
        let there : n < length ts → OnGrid M ts n ⊎ (OnGrid M ts n → ⊥) = λ l. ⊎_elim (λ a. inl (l, λ e. at_defaults ts n n l l (λ t u. M.admits t.point ≡ true) d d e e a)) (λ a. inr (λ o. both_ways _ a (o.1 d))) (cases_Bool (M.admits (get_or ts n d).point)) in
        ⊎_elim there (λ l. inr (λ o. omega (arith, o.0))) (cases_lt n (length ts))

    pair_decided : (n j : ℕ) → OnGrid M ts n → OnGrid M ts j → Pair R ts n j ⊎ (Pair R ts n j → ⊥)
    pair_decided n j on oj =
        let d = some_of ts i on-i.0 in
        ⊎_elim
        (λ h. inl (λ e. at_defaults ts n j on.0 oj.0 (λ t u. R t.point u.point) d d e e h))
        (λ none. inr (λ p. none (p d)))
        (decided (get_or ts n d).point (get_or ts j d).point)

    -- what trial n of the list is to the trial at hand
    met : (n j : ℕ) → OnGrid M ts j → (OnGrid M ts n × Pair R ts n j) ⊎ (OnGrid M ts n → Pair R ts n j → ⊥)
    met n j oj =
        let tested : OnGrid M ts n → (OnGrid M ts n × Pair R ts n j) ⊎ (OnGrid M ts n → Pair R ts n j → ⊥) = λ on. ⊎_elim (λ p. inl (on, p)) (λ none. inr (λ o p. none p)) (pair_decided n j on oj) in
        ⊎_elim tested (λ off. inr (λ o p. off o)) (on_grid_decided n)

    top_more : (n j : ℕ) → Top i n j → (m : ℕ) × Top i (suc n) m
    top_more n j t =
        let d = some_of ts i on-i.0 in
        ⊎_elim
        (λ (h : OnGrid M ts n × Pair R ts n j). (
          n,
          record {
            on = h.0;
            reach = inr (⊎_elim (λ e. subst (Pair R ts n) e h.1) (λ p. pair_onward n j i h.0 t.on on-i h.1 p) t.reach);
            none = upto _ n (λ k l o p. t.none k l o (pair_onward k n j o h.0 t.on p h.1)) (λ o p. never _ (p d));
          },
        ))
        (λ (no : OnGrid M ts n → Pair R ts n j → ⊥).
        (j, record { on = t.on; reach = t.reach; none = upto _ n t.none no }))
        (met n j t.on)

    -- the top of the first n
    top : (n : ℕ) → (j : ℕ) × Top i n j
    top zero = (i, record { on = on-i; reach = inl refl; none = λ k l. absurd (omega arith) })
    top (suc n) = let t = top n in top_more n t.0 t.1

module _ {P : Type 0} (M : Meaning P) (law : Lawful M) where
  -- boxes at least as great cover
  pub above : BoxAbove M
  above ts i on-i =
      let t = top M ts (BoxDominates M) (box_dominates_decided M law) (λ p q r a b c. box_dominates_onward M law p q r) (box_dominates_never M law) i on-i (length ts) in
      let least : Pair (AtLeast M) ts t.0 i = ⊎_elim (λ e. subst (λ j. Pair (AtLeast M) ts j i) (sym e) (λ d k. omega arith)) (λ p d. (p d).0) t.1.reach in (
        t.0,
        (
          (t.1.on, t.1.none),
          least,
          λ d. law.covering _ _ (t.1.on.1 d) (on-i.1 d) (least d),
        ),
      )

  dominates_decided : (p q : P) → Dominates M p q ⊎ (Dominates M p q → ⊥)
  dominates_decided p q =
      ⊎_elim
      (λ a. ⊎_elim (λ b. inr (λ h. both_ways _ h.1 b)) (λ b. inl (a, b)) (cases_Bool (M.no_worse q p)))
      (λ a. inr (λ h. both_ways _ a h.0))
      (cases_Bool (M.no_worse p q))

  -- were r no worse than p, q would be too
  dominates_onward : (p q r : P) → M.admits p ≡ true → M.admits q ≡ true → M.admits r ≡ true → Dominates M p q → Dominates M q r → Dominates M p r
  dominates_onward p q r a b c h k = (
    law.transitive p q r a b c h.0 k.0,
    ⊎_elim
        (λ back. absurd (both_ways _ h.1 (law.transitive q r p b c a k.0 back)))
        (λ no. no)
        (cases_Bool (M.no_worse r p)),
  )

  -- a trial that dominates one whose box stands is in that box
  stays_in_box : (ts : List (Trial P)) (j k : ℕ) → BoxStands M ts j → OnGrid M ts k → Pair (Dominates M) ts k j → Pair (SameBox M) ts k j
  stays_in_box ts j k stands ok h d i =
      let least : AtLeast M (get_or ts k d).point (get_or ts j d).point = law.monotone _ _ (ok.1 d) (stands.0.1 d) (h d).0 in
      ⊎_elim
      (λ l.
      absurd
      (stands.1 k ok.0 ok
      (λ e. at_defaults ts k j ok.0 stands.0.0 (λ t u. BoxDominates M t.point u.point) d d e e (least, (i, l)))))
      (λ l. omega (arith, least i))
      (cases_lt (M.box i (get_or ts j d).point) (M.box i (get_or ts k d).point))

  pub within : TrialWithin M
  within ts j stands =
      let t = top M ts (Dominates M) dominates_decided dominates_onward (λ p h. both_ways _ h.1 h.0) j stands.0 (length ts) in
      let same : Pair (SameBox M) ts t.0 j = ⊎_elim (λ e. subst (λ k. Pair (SameBox M) ts k j) (sym e) (λ d i. refl)) (λ p. stays_in_box ts j t.0 stands t.1.on p) t.1.reach in (
        t.0,
        (
          (t.1.on, t.1.none),
          (t.1.on, λ k l o p. stands.1 k l o (λ d. box_dominates_same M law _ _ _ (p d) (same d))),
          same,
        ),
      )
