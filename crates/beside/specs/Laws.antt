-- A pair keeps the laws where both of its spaces do.
use Rattle.std.specs.Prelude.{◌≡◌, ℕ, ◌+◌, ◌-◌, ◌≤◌, true, cond, ◌&&◌, nat_lt, refl}
use Rattle.std.proofs.Common.{arith}
use Rattle.std.proofs.Math.Nat.{add-sub_cancel_left}
use Rattle.std.proofs.lemmas.Bool.{and_parts, and_from, cond_both, cond-true, cond-false, leb-true, false≢true}
use Rattle.std.proofs.lemmas.Bool.Decides.{nat_tests}
use Rattle.space.specs.Meaning.{Meaning, Lawful}
use Rattle.beside.specs.Pair.{fit, joined, first_alone, pair_meaning}

module _ {P Q : Type 0} (M : Meaning P) (N : Meaning Q) (LM : Lawful M) (LN : Lawful N) where
  -- the box numbers of an admitted pair, by the space that the objective is of
  pub box_of : (p : P × Q) → (joined M N).admits p ≡ true → (i : ℕ) → (joined M N).box i p ≡ cond (nat_lt i M.objectives) (M.box i p.0) (N.box (i - M.objectives) p.1)
  box_of p a i = cond-true (M.admits p.0 && N.admits p.1) _ _ a

  -- boxes at least as great in every objective of the pair are so in the first space
  first_at_least : (p q : P × Q) → (joined M N).admits p ≡ true → (joined M N).admits q ≡ true → ((i : ℕ) → (joined M N).box i q ≤ (joined M N).box i p) → (i : ℕ) → M.box i q.0 ≤ M.box i p.0
  first_at_least p q a b h i =
      let here = h i in
      let at_p = box_of p a i in
      let at-q = box_of q b i in
      let past-p = LM.outside_box p.0 i in
      let past-q = LM.outside_box q.0 i in
      grind (arith, nat_tests)

  -- and in the second
  second_at_least : (p q : P × Q) → (joined M N).admits p ≡ true → (joined M N).admits q ≡ true → ((i : ℕ) → (joined M N).box i q ≤ (joined M N).box i p) → (i : ℕ) → N.box i q.1 ≤ N.box i p.1
  second_at_least p q a b h i =
      let here = h (M.objectives + i) in
      let at_p = rw (add-sub_cancel_left M.objectives i) at (box_of p a (M.objectives + i)) in
      let at-q = rw (add-sub_cancel_left M.objectives i) at (box_of q b (M.objectives + i)) in
      grind (arith, nat_tests)

  pub lawful_joined : M.objectives + N.objectives ≤ 6 → Lawful (joined M N)
  lawful_joined six = record {
    few = omega (arith, LM.few.0, LN.few.0);
    reflexive = λ p a. let h = and_parts _ _ a in and_from _ _ (LM.reflexive p.0 h.0) (LN.reflexive p.1 h.1);
    transitive = λ p q r a b c d e.
        let ap = and_parts _ _ a in
        let aq = and_parts _ _ b in
        let ar = and_parts _ _ c in
        let pq = and_parts _ _ d in
        let qr = and_parts _ _ e in
        and_from _ _ (LM.transitive p.0 q.0 r.0 ap.0 aq.0 ar.0 pq.0 qr.0) (LN.transitive p.1 q.1 r.1 ap.1 aq.1 ar.1 pq.1 qr.1);
    monotone = λ p q a b d i.
        let ap = and_parts _ _ a in
        let aq = and_parts _ _ b in
        let pq = and_parts _ _ d in
        let first = LM.monotone p.0 q.0 ap.0 aq.0 pq.0 i in
        let second = LN.monotone p.1 q.1 ap.1 aq.1 pq.1 (i - M.objectives) in
        grind (arith, nat_tests);
    bounded = λ p a i.
        let ap = and_parts _ _ a in
        let first = LM.bounded p.0 ap.0 i in
        let second = LN.bounded p.1 ap.1 (i - M.objectives) in
        grind (arith, nat_tests);
    small = λ i.
        let first = LM.small i in
        let second = LN.small (i - M.objectives) in
        (grind (arith, nat_tests), grind (arith, nat_tests));
    covering = λ p q a b h.
        let ap = and_parts _ _ a in
        let aq = and_parts _ _ b in
        and_from _ _ (LM.covering p.0 q.0 ap.0 aq.0 (first_at_least p q a b h)) (LN.covering p.1 q.1 ap.1 aq.1 (second_at_least p q a b h));
    outside_box = λ p i l.
        let none = LN.outside_box p.1 (i - M.objectives) (omega arith) in
        grind (arith, nat_tests);
    outside_extent = λ i l.
        let one = LN.outside_extent (i - M.objectives) (omega arith) in
        grind (arith, nat_tests);
    off_grid = λ p a i. cond-false _ _ _ a;
  }

  pub lawful_first_alone : Lawful (first_alone {P = P} {Q = Q} M)
  lawful_first_alone = record {
    few = LM.few;
    reflexive = λ p a. absurd (false≢true a);
    transitive = λ p q r a b c d e. absurd (false≢true a);
    monotone = λ p q a b d i. absurd (false≢true a);
    bounded = λ p a i. absurd (false≢true a);
    small = LM.small;
    covering = λ p q a b h. absurd (false≢true a);
    outside_box = λ p i l. refl;
    outside_extent = LM.outside_extent;
    off_grid = λ p a i. refl;
  }

  pub lawful_pair : Lawful (pair_meaning M N)
  lawful_pair = cond_both (fit M N) (joined M N) (first_alone M) Lawful (λ e. lawful_joined (leb-true _ _ e)) (λ e. lawful_first_alone)
