-- What holds of the reference state after every call.
use Rattle.std.proofs.Common.{◌≡◌, ℕ, ◌+◌, ◌<◌, ◌≤◌, true, not, eqb, ltb, List, [], ◌∷◌, ◌++◌, map, length, Ok, Err, filter, Result, refl, arith}
use Rattle.std.specs.Result.{result_unwrap_or}
use Rattle.std.specs.List.{AllByRecursion}
use Rattle.std.proofs.lemmas.List.{length_push}
use Rattle.std.proofs.ByRecursion.{kept_by_passes}
use Rattle.std.proofs.lemmas.List.Filters.{length-filter_both}
use Rattle.std.proofs.lemmas.Bool.{cond_both, not-false}
use Rattle.space.specs.Meaning.{Meaning, Lawful}
use Rattle.space.specs.declared.tagged.Trial.{Trial}
use Rattle.history.specs.declared.denials.Denial.{Denial}
use Rattle.history.specs.Lists.{EachIn, any, without_first}
use Rattle.history.specs.Comparing.{Apart}
use Rattle.history.specs.Step.{Outcome, below, beaten, displacing, replacing, judge}
use Rattle.history.specs.Step.Outcome.{judged, full}
use Rattle.history.specs.Calls.{Call, Event}
use Rattle.history.specs.Calls.Call.{offer, feed, audit, list, save}
use Rattle.history.specs.Checks.{offer_check, feed_check}
use Rattle.history.specs.State.{State, after, after_all, brought, on_grid, state_of}
use Rattle.history.specs.RowNeed.{largest, row_need}
use Rattle.history.proofs.Membership.{each_push, some_kept, one_first, length_without}
use Rattle.history.proofs.Pairs.{pairwise_push}
use Rattle.history.proofs.Cases.{Free, judge_by}
use Rattle.history.proofs.Sound.{Sound, sound_none, displaces, replaces, enters, passed_over, clear}
use Rattle.history.proofs.Bound.{bounded}

-- of a state over so many rows: it is sound, its members are those that entered and did not go, they fit, and with row need rows none found no row
pub record Holds {P : Type 0} (M : Meaning P) (rows : ℕ) (s : State P) : Type 0 where
  pub sound : Sound M s.members s.trials
  pub balance : length s.members + s.displaced ≡ s.entered
  pub fits : length s.members ≤ rows
  pub roomy : row_need M ≤ rows → s.rowless ≡ 0

-- there is a verdict
abbrev pub Given : {P : Type 0} → Outcome P → Type 0
Given (judged verdict gone after) = Unit {0}
Given full = ⊥

-- a trial that passed the checks of an offer is on the grid
abbrev pub Passed : {P : Type 0} → Meaning P → Result (Trial P) Denial → Type 0
Passed M (Ok r) = on_grid M r ≡ true
Passed M (Err d) = Unit {0}

module _ {P : Type 0} (M : Meaning P) (L : Lawful M) (rows : ℕ) where
  module _ (s : State P) (t : Trial P) (good : on_grid M t ≡ true) (H : Holds M rows s) where
    abbrev Then : Outcome P → Type 0
    Then o = Holds M rows (after s t o)

    displaced : any (below M t) s.members ≡ true → Then (displacing M s.members t)
    displaced e =
        let stay = filter (λ r. not (below M t r)) s.members in
        let both = length-filter_both (below M t) (λ r. not (below M t r)) (λ _. refl) s.members in
        record {
          sound = displaces M L H.sound t good e;
          balance = omega (arith, H.balance, length_push stay t);
          fits = omega (arith, H.fits, some_kept (below M t) s.members e, length_push stay t);
          roomy = H.roomy;
        }

    replaced : any (beaten M t) s.members ≡ true → Then (replacing M s.members t)
    replaced e =
        let stay = without_first (beaten M t) s.members in
        let both = length_without (beaten M t) s.members in
        record {
          sound = replaces M L H.sound t good e;
          balance = omega (arith, H.balance, length_push stay t);
          fits = omega (arith, H.fits, one_first (beaten M t) s.members e, length_push stay t);
          roomy = H.roomy;
        }

    -- the members and a trial that is apart from all of them are no more than the bound
    spare : Free M s.members t → length s.members < row_need M
    spare F =
        let S = H.sound in
        let all-good : EachIn (s.members ++ (t ∷ [])) (λ r. on_grid M r ≡ true) = each_push (λ r. on_grid M r ≡ true) s.members (λ r m. S.admitted r (S.own r m)) good in
        let All-apart = pairwise_push (Apart M) t s.members S.apart (clear M L S t good F) in
        omega (arith, bounded M L (largest M) (s.members ++ (t ∷ [])) all-good All-apart, length_push s.members t)

    pub step : Then (judge M rows s.members t)
    step =
        judge_by M L s.members t rows Then
        displaced
        (λ n. replaced)
        (λ n b g. record { sound = passed_over M L H.sound t good n b g; balance = omega (arith, H.balance); fits = H.fits; roomy = H.roomy })
        (λ F l. record {
          sound = enters M L H.sound t good F;
          balance = omega (arith, H.balance, length_push s.members t);
          fits = omega (arith, length_push s.members t);
          roomy = H.roomy;
        })
        (λ F l. record { sound = H.sound; balance = H.balance; fits = H.fits; roomy = λ enough. omega (arith, spare F) })

    -- with row need rows there is always a verdict
    pub has_verdict : row_need M ≤ rows → Given (judge M rows s.members t)
    has_verdict enough =
        judge_by M L s.members t rows Given (λ e. tt) (λ n e. tt) (λ n b g. tt) (λ F l. tt) (λ F l. omega (arith, spare F))

  steps : (s : State P) (ts : List (Trial P)) → AllByRecursion (λ t. on_grid M t ≡ true) ts → Holds M rows s → Holds M rows (after_all M rows s ts)
  steps s [] a H = H
  steps s (t ∷ ts) a H = steps (after s t (judge M rows s.members t)) ts a.1 (step s t a.0 H)

  pub offer_passed : (lent room : ℕ) (t : Trial P) → Passed M (offer_check M rows lent room t)
  offer_passed lent room t =
      cond_both (eqb lent rows) _ _ (Passed M)
      (λ e.
      cond_both (ltb room rows) _ _ (Passed M)
      (λ f. tt)
      (λ f. cond_both (not (on_grid M t)) _ _ (Passed M) (λ g. tt) (λ g. not-false (on_grid M t) g)))
      (λ e. tt)

  good_offer : (c : Result (Trial P) Denial) → Passed M c → AllByRecursion (λ t. on_grid M t ≡ true) (elim c [ Ok r ↦ r ∷ [] | Err d ↦ [] ])
  good_offer (Ok r) g = (g, tt)
  good_offer (Err d) g = tt

  good_brought : (reads : List ℕ → P) (c : Call P) → AllByRecursion (λ t. on_grid M t ≡ true) (brought M reads rows c)
  good_brought reads (offer lent room t) = good_offer (offer_check M rows lent room t) (offer_passed lent room t)
  good_brought reads (feed lent block) = kept_by_passes (on_grid M) (map (λ x. x.read) (result_unwrap_or (feed_check M reads rows lent block) []))
  good_brought reads (audit lent) = tt
  good_brought reads (list lent room) = tt
  good_brought reads (save lent number size) = tt

  pub holds : (reads : List ℕ → P) (es : List (Event P)) → Holds M rows (state_of M reads rows es)
  unfolding state_of
  holds reads [] = record { sound = sound_none M; balance = refl; fits = omega arith; roomy = λ l. refl }
  holds reads (e ∷ es) = steps (state_of M reads rows es) (brought M reads rows e.call) (good_brought reads e.call) (holds reads es)
