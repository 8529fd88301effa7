-- The step by its five cases, in words of relations.
use Rattle.std.proofs.Common.{◌≡◌, ℕ, ◌<◌, ◌≤◌, true, ltb, List, [], ◌∷◌, ◌++◌, length}
use Rattle.std.proofs.lemmas.Bool.{cond_both, ltb-true, ltb-false}
use Rattle.space.specs.Meaning.{Meaning, Lawful}
use Rattle.space.specs.declared.tagged.Trial.{Trial}
use Rattle.history.specs.declared.verdicts.Verdict.TheVariants.{PassedOver, Entered}
use Rattle.history.specs.Lists.{NoneIn, SomeIn, any}
use Rattle.history.specs.Step.{Outcome, below, beaten, shuts, displacing, replacing, judge}
use Rattle.history.specs.Step.Outcome.{judged, full}
use Rattle.history.specs.TwoLevel.{Below, Beaten, Shuts}
use Rattle.history.proofs.Membership.{decides_any, none_from}
use Rattle.history.proofs.Order.{decides_below, decides_beaten, decides_shuts}

-- no member is below the trial, beaten by it, or shuts it out
pub record Free {P : Type 0} (M : Meaning P) (ms : List (Trial P)) (t : Trial P) : Type 0 where
  pub none_below : NoneIn ms (Below M t)
  pub none_beaten : NoneIn ms (Beaten M t)
  pub none_shuts : NoneIn ms (Shuts M t)

module _ {P : Type 0} (M : Meaning P) (L : Lawful M) (ms : List (Trial P)) (t : Trial P) where
  pub some_below : any (below M t) ms ≡ true → SomeIn ms (Below M t)
  some_below e = (decides_any (below M t) (Below M t) (decides_below M L t) ms).0 e

  pub some_beaten : any (beaten M t) ms ≡ true → SomeIn ms (Beaten M t)
  some_beaten e = (decides_any (beaten M t) (Beaten M t) (decides_beaten M L t) ms).0 e

  pub judge_by : (rows : ℕ) (Q : Outcome P → Type 0)
      → (any (below M t) ms ≡ true → Q (displacing M ms t))
      → (NoneIn ms (Below M t) → any (beaten M t) ms ≡ true → Q (replacing M ms t))
      → (NoneIn ms (Below M t) → NoneIn ms (Beaten M t) → SomeIn ms (Shuts M t) → Q (judged PassedOver [] ms))
      → (Free M ms t → length ms < rows → Q (judged Entered [] (ms ++ (t ∷ []))))
      → (Free M ms t → rows ≤ length ms → Q full)
      → Q (judge M rows ms t)
  unfolding judge
  judge_by rows Q displaces replaces passes enters rowless =
      cond_both (any (below M t) ms) _ _ Q displaces (λ e.
      let n = none_from (below M t) (Below M t) (decides_below M L t) ms e in
      cond_both (any (beaten M t) ms) _ _ Q (replaces n) (λ f.
      let b = none_from (beaten M t) (Beaten M t) (decides_beaten M L t) ms f in
      cond_both (any (shuts M t) ms) _ _ Q (λ g. passes n b ((decides_any (shuts M t) (Shuts M t) (decides_shuts M L t) ms).0 g)) (λ g.
      let free : Free M ms t = record { none_below = n; none_beaten = b; none_shuts = none_from (shuts M t) (Shuts M t) (decides_shuts M L t) ms g } in
      cond_both (ltb (length ms) rows) _ _ Q (λ h. enters free (ltb-true (length ms) rows h)) (λ h. rowless free (ltb-false (length ms) rows h)))))
