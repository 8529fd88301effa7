-- With row need rows no answer tells of a want of rows, and a feed denies only what is off the grid.
use Rattle.std.proofs.Common.{◌≡◌, ℕ, ◌≤◌, Bool, true, false, cond, not, eqb, ltb, leb, List, [], ◌∷◌, map, length, Ok, Err, filter, Result, sym, refl, subst, ⊎_elim, arith}
use Rattle.std.specs.Result.{result_map_both, result_unwrap_or}
use Rattle.std.proofs.lemmas.Bool.{cond_both}
use Rattle.log_block.specs.declared.faults.BlockFault.{BlockFault}
use Rattle.log_block.specs.declared.faults.BlockFault.TheVariants.{WrongLength, Torn, StrangeFirst, StrangeFourth, OtherGrid}
use Rattle.log_block.specs.declared.faults.RecordFault.{RecordFault}
use Rattle.log_block.specs.declared.faults.RecordFault.TheVariants.{Overlong, OtherKind, OtherLength, Tail}
use Rattle.log_block.specs.Faults.{block_report, record_report}
use Rattle.space.specs.Meaning.{Meaning, Lawful}
use Rattle.space.specs.declared.tagged.Trial.{Trial}
use Rattle.history.specs.declared.denials.Denial.{Denial}
use Rattle.history.specs.declared.faults.FeedFault.{FeedFault}
use Rattle.history.specs.declared.faults.FeedFault.TheVariants.{StrangeRows, Block, Record}
use Rattle.history.specs.declared.faults.DeniedTrial.TheVariants.{OffGrid}
use Rattle.history.specs.declared.answers.Answer.{Answer}
use Rattle.history.specs.declared.answers.Answer.TheVariants as answer
use Rattle.history.specs.Numbers.{denial_number}
use Rattle.history.specs.Reports.{feed_report}
use Rattle.history.specs.Lists.{EachIn}
use Rattle.history.specs.Step.{Outcome, judge, members_then}
use Rattle.history.specs.Step.Outcome.{judged, full}
use Rattle.history.specs.Calls.{Call, Event}
use Rattle.history.specs.Calls.Call.{offer, feed, audit, list, save}
use Rattle.history.specs.BlockTrials.{TrialAt}
use Rattle.history.specs.Saving.{per_block, block_count}
use Rattle.history.specs.Checks.{offer_check, feed_check}
use Rattle.history.specs.State.{State, after, on_grid, state_of}
use Rattle.history.specs.Feeding.{then_denied, then_judged, tally}
use Rattle.history.specs.Answers.{verdict_of, told, told_feed, audit_answer, list_answer, save_answer, answer_of}
use Rattle.history.specs.Truthful.{TruthfulOf}
use Rattle.history.specs.RowNeed.{row_need}
use Rattle.history.specs.Told.{tells_denied, tells_number}
use Rattle.history.specs.Promises.{off_in}
use Rattle.history.proofs.Membership.{in_nothing, in_cons}
use Rattle.history.proofs.Steps.{Holds, Given, Passed, offer_passed, step, has_verdict, holds}

-- no fault of a block has the number 6
block_not_six : (f : BlockFault) → (block_report f).number ≡ 6 → ⊥
block_not_six WrongLength e = omega arith
block_not_six Torn e = omega arith
block_not_six StrangeFirst e = omega arith
block_not_six StrangeFourth e = omega arith
block_not_six OtherGrid e = omega arith

record_not_six : (f : RecordFault) → (record_report f).number ≡ 6 → ⊥
record_not_six (Overlong at) e = omega arith
record_not_six (OtherKind at) e = omega arith
record_not_six (OtherLength at) e = omega arith
record_not_six (Tail at) e = omega arith

feed_not_six : (f : FeedFault) → (feed_report f).number ≡ 6 → ⊥
feed_not_six StrangeRows e = omega arith
feed_not_six (Block f) e = block_not_six f e
feed_not_six (Record f) e = record_not_six f e

-- so many trials were denied, and nothing is told of number 6
abbrev Denies : ℕ → Answer → Type 0
Denies n a = (tells_denied a ≡ n) × (tells_number a ≡ 6 → ⊥)

-- if it is a denial, it is not 6
abbrev NotFull : {A : Type 0} → Result A Denial → Type 0
NotFull (Ok a) = Unit {0}
NotFull (Err d) = denial_number d ≡ 6 → ⊥

told_denies : {A : Type 0} (granted : A → Answer) (r : Result A Denial) → ((a : A) → Denies 0 (granted a)) → NotFull r → Denies 0 (told granted r)
told_denies granted (Ok a) g n = g a
told_denies granted (Err d) g n = (refl, n)

module _ {P : Type 0} (M : Meaning P) (L : Lawful M) (rows : ℕ) (enough : row_need M ≤ rows) where
  abbrev off : Trial P → Bool
  off t = not (on_grid M t)

  judged_denies : (n : ℕ) (s : State P) (t : Trial P) (place : ℕ) (xs : List (TrialAt P)) (o : Outcome P) → Given o → Denies n (answer.Fed (tally M rows (after s t o).members xs)) → Denies n (answer.Fed (then_judged place o (tally M rows (members_then s.members o) xs)))
  judged_denies n s t place xs (judged verdict gone members) g h = h
  judged_denies n s t place xs full g h = absurd g

  tally_denies : (s : State P) (xs : List (TrialAt P)) → Holds M rows s → Denies (length (filter off (map (λ x. x.read) xs))) (answer.Fed (tally M rows s.members xs))
  unfolding tally
  tally_denies s [] H = (refl, λ e. omega arith)
  tally_denies s (x ∷ xs) H =
      let t = x.read in
      let o = judge M rows s.members t in
      let ts = filter off (map (λ x. x.read) xs) in
      let yes' = then_judged x.place o (tally M rows (members_then s.members o) xs) in
      let no' = then_denied (OffGrid x.place) (tally M rows s.members xs) in
      (elim (on_grid M t) as (λ a. on_grid M t ≡ a → Denies (length (cond (not a) (t ∷ ts) ts)) (answer.Fed (cond a yes' no'))) [
        | true ↦ λ e. judged_denies (length ts) s t x.place xs o (has_verdict M L rows s t e H enough) (tally_denies (after s t o) xs (step M L rows s t e H))
        | false ↦ λ e. (omega (arith, (tally_denies s xs H).0), λ n. omega arith)
      ])
      refl

  feed_denies : (s : State P) (c : Result (List (TrialAt P)) FeedFault) → Holds M rows s → Denies (length (filter off (map (λ x. x.read) (result_unwrap_or c [])))) (told_feed (result_map_both (tally M rows s.members) (λ f. f) c))
  feed_denies s (Ok xs) H = tally_denies s xs H
  feed_denies s (Err f) H = (refl, feed_not_six f)

  verdict_denies : (o : Outcome P) → Given o → Denies 0 (told answer.Offered (verdict_of o))
  verdict_denies (judged verdict gone members) g = (refl, λ e. omega arith)
  verdict_denies full g = absurd g

  offer_denies : (s : State P) (c : Result (Trial P) Denial) → Holds M rows s → Passed M c → NotFull c → Denies 0 (told answer.Offered (elim c [ Ok r ↦ verdict_of (judge M rows s.members r) | Err d ↦ Err d ]))
  offer_denies s (Ok r) H g n = verdict_denies (judge M rows s.members r) (has_verdict M L rows s r g H enough)
  offer_denies s (Err d) H g n = (refl, n)

  check_not_full : (lent room : ℕ) (t : Trial P) → NotFull (offer_check M rows lent room t)
  check_not_full lent room t =
      cond_both (eqb lent rows) _ _ NotFull
      (λ e.
      cond_both (ltb room rows) _ _ NotFull
      (λ f n. omega arith)
      (λ f. cond_both (not (on_grid M t)) _ _ NotFull (λ g n. omega arith) (λ g. tt)))
      (λ e n. omega arith)

  answer_denies : (reads : List ℕ → P) (s : State P) (c : Call P) → Holds M rows s → Denies (off_in M reads rows c) (answer_of M reads rows s.members c)
  answer_denies reads s (offer lent room t) H =
      offer_denies s (offer_check M rows lent room t) H (offer_passed M L rows lent room t) (check_not_full lent room t)
  answer_denies reads s (feed lent block) H = feed_denies s (feed_check M reads rows lent block) H
  answer_denies reads s (audit lent) H =
      told_denies answer.Audited (audit_answer M rows s.members lent) (λ p. (refl, λ n. omega arith))
      (cond_both (eqb lent rows) _ _ NotFull (λ e. tt) (λ e n. omega arith))
  answer_denies reads s (list lent room) H =
      told_denies answer.Listed (list_answer rows s.members lent room) (λ p. (refl, λ n. omega arith))
      (cond_both (eqb lent rows) _ _ NotFull
      (λ e. cond_both (ltb room (length s.members)) _ _ NotFull (λ f n. omega arith) (λ f. tt))
      (λ e n. omega arith))
  answer_denies reads s (save lent number size) H =
      told_denies answer.Saved (save_answer M rows s.members lent number size) (λ p. (refl, λ n. omega arith))
      (cond_both (eqb lent rows) _ _ NotFull
      (λ e.
      cond_both (not (eqb size 512)) _ _ NotFull
      (λ f n. omega arith)
      (λ f. cond_both (leb (block_count (per_block M) (length s.members)) number) _ _ NotFull (λ g n. omega arith) (λ g. tt)))
      (λ e n. omega arith))

  pub all_denies : (reads : List ℕ → P) (es : List (Event P)) → TruthfulOf M reads rows es → EachIn es (λ e. Denies (off_in M reads rows e.call) e.answer)
  all_denies reads [] r e m = in_nothing m
  all_denies reads (x ∷ es) r e m =
      ⊎_elim
      (λ q.
      subst (λ (z : Event P). Denies (off_in M reads rows z.call) z.answer) (sym q)
      (subst (Denies (off_in M reads rows x.call)) (sym r.1) (answer_denies reads (state_of M reads rows es) x.call (holds M L rows reads es))))
      (λ n. all_denies reads es r.0 e n)
      (in_cons m)
