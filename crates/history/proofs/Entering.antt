-- Trials that are apart from the members and from each other all enter, if there are rows enough.
use Rattle.std.proofs.Common.{◌≡◌, ℕ, ◌+◌, ◌<◌, ◌≤◌, true, List, [], ◌∷◌, ◌++◌, map, length, filter, sym, refl, ap, ◌∙◌, subst, ⊎_elim, append_assoc, append-nil, one-add, arith}
use mathlib.Core.List.Memᴰ
use Rattle.std.specs.List.{AllByRecursion}
use Rattle.std.proofs.lemmas.List.{length_push}
use Rattle.std.proofs.lemmas.Bool.{cond-true}
use Rattle.space.specs.Meaning.{Meaning, Lawful}
use Rattle.space.specs.declared.tagged.Trial.{Trial}
use Rattle.history.specs.declared.verdicts.Verdict.TheVariants.{Entered}
use Rattle.history.specs.declared.faults.DeniedTrial.TheVariants.{OffGrid}
use Rattle.history.specs.Lists.{EachIn, Pairwise}
use Rattle.history.specs.Comparing.{Apart}
use Rattle.history.specs.Step.{judge, members_then}
use Rattle.history.specs.Step.Outcome.{judged}
use Rattle.history.specs.BlockTrials.{TrialAt}
use Rattle.history.specs.State.{on_grid, members_after}
use Rattle.history.specs.Feeding.{all_entered, then_denied, then_judged, tally}
use Rattle.history.proofs.Membership.{in_nothing, in_cons, in_head}
use Rattle.history.proofs.Order.{same_both, shuts_least}
use Rattle.history.proofs.Cases.{some_below, some_beaten, judge_by}

-- what stands before t in a list stands to it as a pair of places
before : {A : Type 0} (R : A → A → Type 0) (xs : List A) (t : A) (ys : List A) → Pairwise R (xs ++ (t ∷ ys)) → EachIn xs (λ x. R x t)
before R [] t ys p a m = in_nothing m
before R (x ∷ xs) t ys p a m =
    ⊎_elim
    (λ q. subst (λ z. R z t) (sym q) (p.0 t (Memᴰ.append_right xs in_head)))
    (before R xs t ys p.1 a)
    (in_cons m)

module _ {P : Type 0} (M : Meaning P) (L : Lawful M) (rows : ℕ) where
  judge_enters : (ms : List (Trial P)) (t : Trial P) → EachIn ms (λ r. Apart M r t) → length ms < rows → judge M rows ms t ≡ judged Entered [] (ms ++ (t ∷ []))
  judge_enters ms t apart l =
      judge_by M L ms t rows (λ o. o ≡ judged Entered [] (ms ++ (t ∷ [])))
      (λ e. let d = some_below M L ms t e in absurd ((apart d.0 d.1).1 d.2.0))
      (λ n e. let d = some_beaten M L ms t e in absurd ((apart d.0 d.1).0 (same_both M d.2.0).0))
      (λ n b d. absurd ((apart d.0 d.1).0 (shuts_least M L t d.0 d.2)))
      (λ F k. refl)
      (λ F k. absurd (omega arith))

  -- the tally, and the members after
  pub all_enter : (ms : List (Trial P)) (xs : List (TrialAt P)) → Pairwise (Apart M) (ms ++ map (λ x. x.read) xs) → AllByRecursion (λ t. on_grid M t ≡ true) (map (λ x. x.read) xs) → length ms + length xs ≤ rows
      → (tally M rows ms xs ≡ all_entered (length xs)) × (members_after M rows ms (filter (on_grid M) (map (λ x. x.read) xs)) ≡ ms ++ map (λ x. x.read) xs)
  unfolding tally members_after
  all_enter ms [] apart good fits = (refl, sym (append-nil ms))
  all_enter ms (x ∷ xs) apart good fits =
      let t = x.read in
      let ts = map (λ x. x.read) xs in
      let e = judge_enters ms t (before (Apart M) ms t ts apart) (omega arith) in
      let assoc = append_assoc ms (t ∷ []) ts in
      let rest = all_enter (ms ++ (t ∷ [])) xs (subst (Pairwise (Apart M)) (sym assoc) apart) good.1 (omega (arith, length_push ms t)) in
      let on = then_judged x.place (judge M rows ms t) (tally M rows (members_then ms (judge M rows ms t)) xs) in (
        cond-true (on_grid M t) on (then_denied (OffGrid x.place) (tally M rows ms xs)) good.0
            ∙ ap (λ o. then_judged x.place o (tally M rows (members_then ms o) xs)) e
            ∙ ap (then_judged x.place (judged Entered [] (ms ++ (t ∷ [])))) rest.0
            ∙ ap all_entered (one-add (length xs)),
        ap (members_after M rows ms) (cond-true (on_grid M t) (t ∷ filter (on_grid M) ts) (filter (on_grid M) ts) good.0)
            ∙ ap (λ o. members_after M rows (members_then ms o) (filter (on_grid M) ts)) e
            ∙ rest.1
            ∙ assoc,
      )
