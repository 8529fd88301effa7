-- What the defined answers tell adds up to what the steps came to.
use Rattle.std.proofs.Common.{◌≡◌, ℕ, ◌+◌, true, false, cond, List, [], ◌∷◌, map, Ok, Err, filter, Result, sym, refl, ap, ◌∙◌, arith}
use Rattle.std.specs.Result.{result_map_both, result_unwrap_or}
use Rattle.space.specs.Meaning.{Meaning}
use Rattle.space.specs.declared.tagged.Trial.{Trial}
use Rattle.history.specs.declared.denials.Denial.{Denial}
use Rattle.history.specs.declared.faults.FeedFault.{FeedFault}
use Rattle.history.specs.declared.faults.DeniedTrial.TheVariants.{OffGrid}
use Rattle.history.specs.declared.answers.Answer.{Answer}
use Rattle.history.specs.declared.answers.Answer.TheVariants as answer
use Rattle.history.specs.Step.{Outcome, judge, members_then}
use Rattle.history.specs.Step.Outcome.{judged, full}
use Rattle.history.specs.Calls.{Call, Event}
use Rattle.history.specs.Calls.Call.{offer, feed, audit, list, save}
use Rattle.history.specs.BlockTrials.{TrialAt}
use Rattle.history.specs.Checks.{offer_check, feed_check}
use Rattle.history.specs.State.{State, after, after_all, brought, on_grid, state_of, members_after}
use Rattle.history.specs.Feeding.{then_denied, then_judged, tally}
use Rattle.history.specs.Answers.{verdict_of, told, told_feed, audit_answer, list_answer, save_answer, answer_of}
use Rattle.history.specs.Truthful.{TruthfulOf}
use Rattle.history.specs.Told.{tells_entered, tells_displaced, summed}

-- the members of the state after an outcome, and after trials, hang on the members before alone
pub members_of_after : {P : Type 0} (s : State P) (t : Trial P) (o : Outcome P) → (after s t o).members ≡ members_then s.members o
members_of_after s t (judged verdict gone members) = refl
members_of_after s t full = refl

pub members_of_all : {P : Type 0} (M : Meaning P) (rows : ℕ) (s : State P) (ts : List (Trial P)) → (after_all M rows s ts).members ≡ members_after M rows s.members ts
unfolding members_after
members_of_all M rows s [] = refl
members_of_all M rows s (t ∷ ts) =
    let o = judge M rows s.members t in
    members_of_all M rows (after s t o) ts ∙ ap (λ ms. members_after M rows ms ts) (members_of_after s t o)

-- from s to s' so many entered, and so many members went
abbrev Adds : {P : Type 0} → State P → ℕ → ℕ → State P → Type 0
Adds s n d s' = (s'.entered ≡ s.entered + n) × (s'.displaced ≡ s.displaced + d)

-- from s to s' there is what the answer tells
abbrev Tells : {P : Type 0} → State P → State P → Answer → Type 0
Tells s s' a = Adds s (tells_entered a) (tells_displaced a) s'

module _ {P : Type 0} (M : Meaning P) (rows : ℕ) where
  judged_adds : (s : State P) (t : Trial P) (place : ℕ) (xs : List (TrialAt P)) (s' : State P) (o : Outcome P) → Adds (after s t o) (tally M rows (after s t o).members xs).entered (tally M rows (after s t o).members xs).displaced s' → Adds s (then_judged place o (tally M rows (members_then s.members o) xs)).entered (then_judged place o (tally M rows (members_then s.members o) xs)).displaced s'
  judged_adds s t place xs s' (judged verdict gone members) h = (omega (arith, h.0), omega (arith, h.1))
  judged_adds s t place xs s' full h = h

  tally_adds : (s : State P) (xs : List (TrialAt P)) → Adds s (tally M rows s.members xs).entered (tally M rows s.members xs).displaced (after_all M rows s (filter (on_grid M) (map (λ x. x.read) xs)))
  unfolding tally
  tally_adds s [] = (omega arith, omega arith)
  tally_adds s (x ∷ xs) =
      let t = x.read in
      let o = judge M rows s.members t in
      let ts = filter (on_grid M) (map (λ x. x.read) xs) in
      let on = then_judged x.place o (tally M rows (members_then s.members o) xs) in
      let off = then_denied (OffGrid x.place) (tally M rows s.members xs) in
      elim (on_grid M t) as (λ a. Adds s (cond a on off).entered (cond a on off).displaced (after_all M rows s (cond a (t ∷ ts) ts))) [
        | true ↦ judged_adds s t x.place xs (after_all M rows (after s t o) ts) o (tally_adds (after s t o) xs)
        | false ↦ tally_adds s xs
      ]

  feed_adds : (s : State P) (c : Result (List (TrialAt P)) FeedFault) → Tells s (after_all M rows s (filter (on_grid M) (map (λ x. x.read) (result_unwrap_or c [])))) (told_feed (result_map_both (tally M rows s.members) (λ f. f) c))
  feed_adds s (Ok xs) = tally_adds s xs
  feed_adds s (Err f) = (omega arith, omega arith)

  verdict_adds : (s : State P) (t : Trial P) (o : Outcome P) → Tells s (after s t o) (told answer.Offered (verdict_of o))
  verdict_adds s t (judged verdict gone members) = (refl, refl)
  verdict_adds s t full = (omega arith, omega arith)

  offer_adds : (s : State P) (c : Result (Trial P) Denial) → Tells s (after_all M rows s (elim c [ Ok r ↦ r ∷ [] | Err d ↦ [] ])) (told answer.Offered (elim c [ Ok r ↦ verdict_of (judge M rows s.members r) | Err d ↦ Err d ]))
  offer_adds s (Ok r) = verdict_adds s r (judge M rows s.members r)
  offer_adds s (Err d) = (omega arith, omega arith)

  -- an answer that never tells of an entry, nor does a denial
  idle_adds : {A : Type 0} (s : State P) (granted : A → Answer) (r : Result A Denial) → ((a : A) → (tells_entered (granted a) ≡ 0) × (tells_displaced (granted a) ≡ 0)) → Tells s s (told granted r)
  idle_adds s granted (Ok a) i = (omega (arith, (i a).0), omega (arith, (i a).1))
  idle_adds s granted (Err d) i = (omega arith, omega arith)

  answer_adds : (reads : List ℕ → P) (s : State P) (c : Call P) → Tells s (after_all M rows s (brought M reads rows c)) (answer_of M reads rows s.members c)
  answer_adds reads s (offer lent room t) = offer_adds s (offer_check M rows lent room t)
  answer_adds reads s (feed lent block) = feed_adds s (feed_check M reads rows lent block)
  answer_adds reads s (audit lent) = idle_adds s answer.Audited (audit_answer M rows s.members lent) (λ a. (refl, refl))
  answer_adds reads s (list lent room) = idle_adds s answer.Listed (list_answer rows s.members lent room) (λ a. (refl, refl))
  answer_adds reads s (save lent number size) = idle_adds s answer.Saved (save_answer M rows s.members lent number size) (λ a. (refl, refl))

  -- what was told is what the steps came to
  pub told_right : (reads : List ℕ → P) (es : List (Event P)) → TruthfulOf M reads rows es → (summed tells_entered es ≡ (state_of M reads rows es).entered) × (summed tells_displaced es ≡ (state_of M reads rows es).displaced)
  unfolding summed state_of
  told_right reads [] r = (refl, refl)
  told_right reads (e ∷ es) r =
      let k = told_right reads es r.0 in
      let s = state_of M reads rows es in
      let a = answer_adds reads s e.call in (
        ap (λ n. n + tells_entered e.answer) k.0 ∙ ap (λ x. s.entered + tells_entered x) r.1 ∙ sym a.0,
        ap (λ n. n + tells_displaced e.answer) k.1 ∙ ap (λ x. s.displaced + tells_displaced x) r.1 ∙ sym a.1,
      )
