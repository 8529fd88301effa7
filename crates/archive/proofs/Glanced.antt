-- What a glance at the members tells of what is to be done with a trial.
use Rattle.std.proofs.Common.{◌≡◌, ℕ, ◌*◌, ◌<◌, Bool, true, false, ◌&&◌, not, List, length, get_or, Some, None, Result, sym, ap, ◌∙◌, ⊎_elim, arith}
use Rattle.std.specs.Prelude.{◌≢◌}
use Rattle.std.specs.List.{position}
use Rattle.std.proofs.lemmas.Bool.{and_from, and_left, and_parts, and_right, cases_eq, cond-true, eq-eqb, not_from_true}
use Rattle.std.proofs.lemmas.List.{get_or_default}
use Rattle.word.specs.Word.{Bytes}
use Rattle.space.specs.Meaning.{Meaning}
use Rattle.space.specs.Recording.{Recording, as_wide, blank_point, read_point}
use Rattle.space.specs.Boxes.{at_least, same_box}
use Rattle.space.specs.Spans.{each_in}
use Rattle.space.specs.declared.tagged.Trial.{Trial}
use Rattle.history.specs.declared.answers.Offered.{Offered}
use Rattle.history.specs.declared.denials.Denial.{Denial}
use Rattle.history.specs.Comparing.{dominates}
use Rattle.history.specs.Lists.{any}
use Rattle.history.specs.State.{on_grid}
use Rattle.history.specs.Step.{below, beaten, judge, shuts}
use Rattle.archive.specs.declared.deciding.Decision.TheVariants.{Replace, PassOver}
use Rattle.archive.specs.declared.knowing.Known.{Known}
use Rattle.archive.specs.declared.knowing.Glance.TheVariants.{Shut, Rival}
use Rattle.archive.specs.declared.members.Members.{Members}
use Rattle.archive.specs.Deciding.{decision, first_step}
use Rattle.archive.specs.Feeding.{TriedRight}
use Rattle.archive.specs.Held.{held_by}
use Rattle.archive.specs.Knowing.{Knows, MeetsAlone, Tells, in_least, in_most, span_at}
use Rattle.archive.specs.Offering.{StepRight}
use Rattle.archive.proofs.Beaten.{Alone, any_none, any_some, holder_beaten, holder_stays, nobody_beaten}

module _ {P : Type 0} (M : Meaning P) (t : Trial P) (members : List (Trial P)) where
  -- the decision, by what is so of the members
  decided : (below_any shut_any : Bool) (first : _) → any (below M t) members ≡ below_any → position (beaten M t) members ≡ first → any (shuts M t) members ≡ shut_any → decision M members t ≡ first_step below_any first shut_any
  decided below_any shut_any first a b c =
      ap (λ x. first_step x (position (beaten M t) members) (any (shuts M t) members)) a
      ∙ ap (λ x. first_step below_any x (any (shuts M t) members)) b
      ∙ ap (first_step below_any first) c

  -- a trial that is shut out, and whose box is at least no member's, is passed over
  shut_decided : (k : ℕ) (m : Trial P) → k < length members → m ≡ get_or members k m → at_least M m.point t.point ≡ true
      → ((k : ℕ) (m : Trial P) → k < length members → m ≡ get_or members k m → at_least M t.point m.point ≡ false) → decision M members t ≡ PassOver
  shut_decided k m inside is shut apart =
      decided false true None
      (any_none (below M t) members (λ k m l is. and_left (at_least M t.point m.point) (not (at_least M m.point t.point)) (apart k m l is)))
      (nobody_beaten M t members (λ k m l is. and_left (at_least M t.point m.point) (at_least M m.point t.point) (apart k m l is)))
      (any_some (shuts M t) members k m inside is shut)

  module _ (row : ℕ) (rival : Trial P) (is : rival ≡ get_or members row rival) (A : MeetsAlone M t row members) where
    both : (at_least M t.point rival.point ≡ true) × (at_least M rival.point t.point ≡ true)
    both = and_parts (at_least M t.point rival.point) (at_least M rival.point t.point) (A.2 rival is)

    -- what holds at the row and at the others, holds of every member
    none_below : (k : ℕ) (m : Trial P) → k < length members → m ≡ get_or members k m → below M t m ≡ false
    none_below k m l at =
        ⊎_elim
        (λ (e : k ≡ row).
        let same : at_least M m.point t.point ≡ true = (and_parts (at_least M t.point m.point) (at_least M m.point t.point) (A.2 m (at ∙ ap (λ n. get_or members n m) e))).1 in
        and_right (at_least M t.point m.point) (not (at_least M m.point t.point)) (not_from_true (at_least M m.point t.point) same))
        (λ (d : k ≢ row). and_left (at_least M t.point m.point) (not (at_least M m.point t.point)) (A.3 k m l d at))
        (cases_eq k row)

    alone : Alone (λ m. same_box M t.point m.point) members row
    alone = (A.1, A.2, λ k m l d at. and_left (at_least M t.point m.point) (at_least M m.point t.point) (A.3 k m l d at))

    shut_by : any (shuts M t) members ≡ true
    shut_by = any_some (shuts M t) members row rival A.1 is both.1

    -- the trial goes in for the rival that it dominates
    pub rival_goes : dominates M t.point rival.point ≡ true → decision M members t ≡ Replace row
    rival_goes better = decided false true (Some row) (any_none (below M t) members none_below) (holder_beaten M t members row alone rival is better) shut_by

    -- and is passed over for another
    pub rival_stays : dominates M t.point rival.point ≡ false → decision M members t ≡ PassOver
    rival_stays worse = decided false true None (any_none (below M t) members none_below) (holder_stays M t members row alone rival is worse) shut_by

  -- what a glance at the bytes tells of the trial that they say
  module _ (R : Recording P) (known : Known) (bs : List ℕ) (K : Knows M R members known) (small : Bytes bs) (read : t.point ≡ read_point R bs) where
    module _ (long : length bs ≡ 4 * known.objectives) where
      wide : length bs ≡ R.width
      wide = omega (arith, long, K.objectives, K.four_each)

      reads : t.point ≡ R.reads bs
      reads = read ∙ cond-true (as_wide R bs) (R.reads bs) (blank_point R) (eq-eqb (length bs) R.width wide)

      most_is : (k : ℕ) (m : Trial P) → k < known.count → m ≡ get_or members k m → in_most known bs k ≡ (M.admits t.point && at_least M m.point t.point)
      most_is k m l is =
          ap (λ n. each_in n (span_at known.most k) bs) K.objectives ∙ (K.each k m l is).most bs small wide
          ∙ ap (λ p. M.admits p && at_least M m.point p) (sym reads)

      least_is : (k : ℕ) (m : Trial P) → k < known.count → m ≡ get_or members k m → in_least known bs k ≡ (M.admits t.point && at_least M t.point m.point)
      least_is k m l is =
          ap (λ n. each_in n (span_at known.least k) bs) K.objectives ∙ (K.each k m l is).least bs small wide
          ∙ ap (λ p. M.admits p && at_least M p m.point) (sym reads)

      -- on the grid, a box that is at least no other is so by the span
      apart_is : on_grid M t ≡ true → (k : ℕ) (m : Trial P) → k < length members → m ≡ get_or members k m → in_least known bs k ≡ false → at_least M t.point m.point ≡ false
      apart_is on k m l is e = ap (λ b. b && at_least M t.point m.point) (sym on) ∙ sym (least_is k m (omega (arith, l, K.all)) is) ∙ e

      on_by : (k : ℕ) (m : Trial P) → k < known.count → m ≡ get_or members k m → in_most known bs k ≡ true → (M.admits t.point ≡ true) × (at_least M m.point t.point ≡ true)
      on_by k m l is e = and_parts (M.admits t.point) (at_least M m.point t.point) (sym (most_is k m l is) ∙ e)

    pub told_shut : Tells known bs Shut → (on_grid M t ≡ true) × (decision M members t ≡ PassOver)
    told_shut T =
        let long = T.1 in
        let k = T.2.0 in
        let inside : k < length members = omega (arith, T.2.1.0, K.all) in
        let m = get_or members k t in
        let is : m ≡ get_or members k m = get_or_default members k t m inside in
        let on = on_by long k m T.2.1.0 is T.2.1.1 in
        (on.0, shut_decided k m inside is on.1 (λ j r l at. apart_is long on.0 j r l at (T.3 j (omega (arith, l, K.all)))))

    pub told_rival : (row : ℕ) → Tells known bs (Rival row) → MeetsAlone M t row members
    told_rival row T =
        let long = T.1 in
        let inside : row < length members = omega (arith, T.2, K.all) in
        let m = get_or members row t in
        let is : m ≡ get_or members row m = get_or_default members row t m inside in
        let on = on_by long row m T.2 is T.3 in (
          on.0,
          inside,
          λ r at. and_from _ _ (and_parts (M.admits t.point) (at_least M t.point r.point) (sym (least_is long row r T.2 at) ∙ T.4)).1 (on_by long row r T.2 at T.3).1,
          λ j r l d at. apart_is long on.0 j r l at (T.5 j (omega (arith, l, K.all)) d),
        )

  -- a trial on the grid is tried by its step
  pub tried_by : (a b : Members P) (list list' : List ℕ) (r : Result Offered Denial) → on_grid M t ≡ true → StepRight (judge M (length a.rows.now) (held_by a) t) a list r b list' → TriedRight M t a r b
  tried_by a b list list' r on S = record {
    value = S.value ∙ sym (cond-true (on_grid M t) _ _ on);
    in_order = S.in_order ∙ sym (cond-true (on_grid M t) _ _ on);
    long = S.long;
    same_rows = S.same_rows;
  }
