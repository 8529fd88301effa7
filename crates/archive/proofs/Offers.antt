-- What holds of an offer, by the checks and by the step.
use Rattle.std.proofs.Common.{◌≡◌, ℕ, ◌<◌, ◌≤◌, true, false, cond, not, eqb, ltb, List, [], ◌∷◌, length, take, Ok, Err, Result, sym, refl, ap, ◌∙◌, subst, length-take, arith}
use Rattle.std.proofs.lemmas.Bool.{cond-true, cond-false, ne_eqb, eq-eqb, lt-ltb, le-ltb, not_from_true, not_from_false}
use Rattle.space.specs.Meaning.{Meaning, Lawful}
use Rattle.space.specs.declared.tagged.Trial.{Trial}
use Rattle.history.specs.declared.answers.Answer.TheVariants as answer
use Rattle.history.specs.declared.answers.Offered.{Offered}
use Rattle.history.specs.declared.denials.Denial.{Denial}
use Rattle.history.specs.declared.denials.Denial.TheVariants.{StrangeRows, ShortList, OffGrid}
use Rattle.history.specs.Answers.{verdict_of, told}
use Rattle.history.specs.Calls.{Event}
use Rattle.history.specs.State.{members_after}
use Rattle.history.specs.Step.{judge, members_then}
use Rattle.history.proofs.Kept.{call_keeps, idle_call_keeps}
use Rattle.archive.specs.declared.members.Members.{Members}
use Rattle.archive.specs.Held.{held_by}
use Rattle.archive.specs.Lent.{Lent, members}
use Rattle.archive.specs.Offering.{offer_of, to_judge, gone_of, TagsInFront, StepRight, OfferRight}
use Rattle.archive.proofs.Stepped.{few_go, no_tags}

module _ {P : Type 0} (M : Meaning P) (t : Trial P) (a : Lent P) where
  -- what the checks come to
  pub strange_rows : (length a.held ≡ a.rows → ⊥) → to_judge M a t ≡ Err StrangeRows
  strange_rows other = cond-false (eqb (length a.held) a.rows) _ _ (ne_eqb (length a.held) a.rows other)

  module _ (own : length a.held ≡ a.rows) where
    own_rows_lent : to_judge M a t ≡ cond (ltb (length a.list) a.rows) (Err ShortList) (cond (not (M.admits t.point)) (Err OffGrid) (Ok t))
    own_rows_lent = cond-true (eqb (length a.held) a.rows) _ _ (eq-eqb (length a.held) a.rows own)

    pub short_list : length a.list < a.rows → to_judge M a t ≡ Err ShortList
    short_list l = own_rows_lent ∙ cond-true (ltb (length a.list) a.rows) _ _ (lt-ltb (length a.list) a.rows l)

    module _ (long : a.rows ≤ length a.list) where
      list_long : to_judge M a t ≡ cond (not (M.admits t.point)) (Err OffGrid) (Ok t)
      list_long = own_rows_lent ∙ cond-false (ltb (length a.list) a.rows) _ _ (le-ltb (length a.list) a.rows long)

      pub off_grid : M.admits t.point ≡ false → to_judge M a t ≡ Err OffGrid
      off_grid e = list_long ∙ cond-true (not (M.admits t.point)) _ _ (not_from_false (M.admits t.point) e)

      pub passes : M.admits t.point ≡ true → to_judge M a t ≡ Ok t
      passes e = list_long ∙ cond-false (not (M.admits t.point)) _ _ (not_from_true (M.admits t.point) e)

  -- what is said of an offer, by what the checks came to
  abbrev answer_by : List (Trial P) → Result (Trial P) Denial → Result Offered Denial
  answer_by ms k = elim k [ Ok r ↦ verdict_of (judge M a.rows ms r) | Err d ↦ Err d ]

  abbrev count_by : Result (Trial P) Denial → ℕ
  count_by k = elim k [ Ok r ↦ length (members_then (members a) (judge M a.rows (members a) r)) | Err d ↦ a.count ]

  abbrev members_by : Result (Trial P) Denial → List (Trial P)
  members_by k = elim k [ Ok r ↦ members_then (members a) (judge M a.rows (members a) r) | Err d ↦ members a ]

  abbrev gone_by : Result (Trial P) Denial → List (Trial P)
  gone_by k = elim k [ Ok r ↦ gone_of (judge M a.rows (members a) r) | Err d ↦ [] ]

  abbrev brought_by : Result (Trial P) Denial → List (Trial P)
  brought_by k = elim k [ Ok r ↦ r ∷ [] | Err d ↦ [] ]

  module _ (L : Lawful M) where
    -- a check fails: nothing is altered
    pub denied_right : (d : Denial) → to_judge M a t ≡ Err d → OfferRight M t a (Err d) a
    denied_right d e =
        let answered : (ms : List (Trial P)) → Err d ≡ answer_by ms (to_judge M a t) = λ ms. ap (answer_by ms) (sym e) in
        let idle : brought_by (to_judge M a t) ≡ [] = ap brought_by e in
        let event : Event P = record { call = offer_of a t; answer = told answer.Offered (Err d) } in
        record {
          value = answered (members a);
          same_rows = refl;
          counted = ap count_by (sym e);
          in_order = ap members_by (sym e);
          tags = subst (λ k. TagsInFront (gone_by k) a.list a.list) (sym e) (no_tags a.list);
          untouched = λ _. (refl, refl, refl);
          stays = λ reads h S. (idle_call_keeps M L reads h a.rows a.count a.held S event (ap (told answer.Offered) (answered (members a))) idle).1;
          stays_apart = λ other held reads h S. (idle_call_keeps M L reads h a.rows a.count held S event (ap (told answer.Offered) (answered (take a.count held))) idle).1;
        }

    -- the checks pass: the step decides
    pub judged_right : (r : Result Offered Denial) (held b : Members P) (held' : List (Trial P)) (list' : List ℕ) → held' ≡ b.rows.now → held.count ≡ a.count → held.rows.now ≡ a.held → length a.held ≡ a.rows → a.rows ≤ length a.list → to_judge M a t ≡ Ok t → StepRight (judge M (length held.rows.now) (held_by held) t) held a.list r b list' → OfferRight M t a r (record { rows = a.rows; count = b.count; held = held'; list = list' })
    unfolding members_after
    judged_right r held b held' list' left count rows own long e stepped =
        let same : held_by held ≡ members a = cc in
        let outcome : judge M (length held.rows.now) (held_by held) t ≡ judge M a.rows (members a) t = ap (λ n. judge M n (held_by held) t) (ap length rows ∙ own) ∙ ap (λ ms. judge M a.rows ms t) same in
        let S = subst (λ o. StepRight o held a.list r b list') outcome stepped in
        let value : r ≡ answer_by (members a) (to_judge M a t) = S.value ∙ ap (answer_by (members a)) (sym e) in
        let room : length (gone_of (judge M a.rows (members a) t)) ≤ length a.list = omega (arith, (few_go M t a.rows (members a)).0, length-take a.count a.held) in
        let called = ap (λ k. members_after M a.rows (members a) (brought_by k)) (sym e) in
        let after = λ (ms : List (Trial P)). members_then ms (judge M a.rows (members a) t) in
        let counted : b.count ≡ length (after (members a)) = S.counted ∙ ap (λ ms. length (after ms)) same in
        let in_order : held_by b ≡ after (members a) = S.in_order ∙ ap after same in
        record {
          value = value;
          same_rows = refl;
          counted = counted ∙ ap count_by (sym e);
          in_order = ap (take b.count) left ∙ in_order ∙ ap members_by (sym e);
          tags = subst (λ k. TagsInFront (gone_by k) a.list list') (sym e) (S.tags room);
          untouched = λ h. let u = S.untouched h in (u.0 ∙ count, left ∙ (u.1 ∙ rows), u.2);
          stays = λ reads h stood.
              call_keeps M L reads h a.rows a.count a.held stood (record { call = offer_of a t; answer = told answer.Offered r })
              (ap (told answer.Offered) value) b.count held' (ap length left ∙ (S.long ∙ ap length rows ∙ own)) (counted ∙ ap length called) (ap (take b.count) left ∙ in_order ∙ called);
          stays_apart = λ other. absurd (other own);
        }
