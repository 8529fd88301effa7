-- The step is the two-level update.
use Rattle.std.proofs.Common.{◌≡◌, true, not, ◌⊎◌, ◌↔◌, List, [], ◌∷◌, ◌++◌, filter, refl, inl, inr, ⊎_elim, arith}
use Rattle.std.proofs.lemmas.Bool.Decides.{Decides-not}
use Rattle.space.specs.Meaning.{Meaning, Lawful}
use Rattle.space.specs.declared.tagged.Trial.{Trial}
use Rattle.history.specs.declared.verdicts.Verdict.TheVariants.{PassedOver, Entered, Displaced, Replaced}
use Rattle.history.specs.Lists.{◌∈◌, Pairwise, any, first_of, without_first}
use Rattle.history.specs.Comparing.{Apart}
use Rattle.history.specs.Step.{below, beaten}
use Rattle.history.specs.Step.Outcome.{full}
use Rattle.history.specs.TwoLevel.{Below, InBox, Becomes}
use Rattle.history.specs.State.{state}
use Rattle.history.specs.Theorems.{StepIsTwoLevel, StepIsTwoLevelAfter}
use Rattle.history.proofs.Membership.{in_nothing, in_push, in_kept, in_first, in_without, first_or_rest}
use Rattle.history.proofs.Pairs.{first_apart}
use Rattle.history.proofs.Order.{at_least_trans, same_both, decides_below, decides_beaten}
use Rattle.history.proofs.Cases.{some_below, some_beaten, judge_by}
use Rattle.history.proofs.Steps.{holds}

none_went : {A : Type 0} (r : A) → (r ∈ []) ↔ ⊥
none_went r = (λ m. in_nothing m, λ n. absurd n)

-- those of xs, which are such, and t
pushed : {A : Type 0} (t : A) (xs : List A) (Q : A → Type 0) → ((r : A) → (r ∈ xs) ↔ Q r) → (r : A) → (r ∈ (xs ++ (t ∷ []))) ↔ (Q r ⊎ (r ≡ t))
pushed t xs Q such r = (
  λ m. ⊎_elim (λ n. inl ((such r).0 n)) inr ((in_push xs).0 m),
  λ q. (in_push xs).1 (⊎_elim (λ n. inl ((such r).1 n)) inr q),
)

module _ {P : Type 0} (M : Meaning P) (L : Lawful M) (ms : List (Trial P)) (t : Trial P) where
  stays : (r : Trial P) → (r ∈ filter (λ r. not (below M t r)) ms) ↔ ((r ∈ ms) × (Below M t r → ⊥))
  stays r =
      let d = Decides-not (below M t r) (decides_below M L t r) in
      let k = in_kept (λ r. not (below M t r)) ms in
      (λ m. ((k.0 m).0, d.0 (k.0 m).1), λ q. k.1 (q.0, d.1 q.1))

  goes : (r : Trial P) → (r ∈ filter (below M t) ms) ↔ ((r ∈ ms) × Below M t r)
  goes r =
      let d = decides_below M L t r in
      let k = in_kept (below M t) ms in
      (λ m. ((k.0 m).0, d.0 (k.0 m).1), λ q. k.1 (q.0, d.1 q.1))

  module _ (apart : Pairwise (Apart M) ms) (e : any (beaten M t) ms ≡ true) where
    -- of those that stay, none has the trial's box
    left : (r : Trial P) → r ∈ without_first (beaten M t) ms → InBox M t r → ⊥
    left r m s =
        let b = first_apart (Apart M) (λ a c h. (h.1, h.0)) (beaten M t) ms apart e in
        let k = (decides_beaten M L t b.0).0 b.2 in
        (b.3 r m).1 (at_least_trans M (same_both M s).0 (same_both M k.0).1)

    first_goes : (r : Trial P) → (r ∈ first_of (beaten M t) ms) ↔ ((r ∈ ms) × InBox M t r)
    first_goes r = (
      λ m. let f = in_first (beaten M t) ms m in (f.0, ((decides_beaten M L t r).0 f.1).0),
      λ q. ⊎_elim (λ m. m) (λ m. absurd (left r m q.1)) (first_or_rest (beaten M t) ms q.0),
    )

    others_stay : (r : Trial P) → (r ∈ without_first (beaten M t) ms) ↔ ((r ∈ ms) × (InBox M t r → ⊥))
    others_stay r = (
      λ m. (in_without (beaten M t) ms m, left r m),
      λ q. ⊎_elim (λ m. absurd (q.1 ((first_goes r).0 m).1)) (λ m. m) (first_or_rest (beaten M t) ms q.0),
    )

pub step_is_two_level : {P : Type 0} → StepIsTwoLevel P
step_is_two_level {P} M L rows ms t apart =
    let by = judge_by M L ms t rows in
    -- of five cases one is at hand, and the others are ruled out by what is given
    record {
      displaces = λ s.
          by (λ o. Becomes o Displaced (λ r. ((r ∈ ms) × (Below M t r → ⊥)) ⊎ (r ≡ t)) (λ r. (r ∈ ms) × Below M t r))
          (λ e. (refl, pushed t (filter (λ r. not (below M t r)) ms) (λ r. (r ∈ ms) × (Below M t r → ⊥)) (stays M L ms t), goes M L ms t))
          (λ n e. absurd (n s.0 s.1 s.2))
          (λ n b g. absurd (n s.0 s.1 s.2))
          (λ F l. absurd (F.none_below s.0 s.1 s.2))
          (λ F l. absurd (F.none_below s.0 s.1 s.2));
      replaces = λ n s.
          by (λ o. Becomes o Replaced (λ r. ((r ∈ ms) × (InBox M t r → ⊥)) ⊎ (r ≡ t)) (λ r. (r ∈ ms) × InBox M t r))
          (λ e. let d = some_below M L ms t e in absurd (n d.0 d.1 d.2))
          (λ _ e. (refl, pushed t (without_first (beaten M t) ms) (λ r. (r ∈ ms) × (InBox M t r → ⊥)) (others_stay M L ms t apart e), first_goes M L ms t apart e))
          (λ _ b g. absurd (b s.0 s.1 s.2))
          (λ F l. absurd (F.none_beaten s.0 s.1 s.2))
          (λ F l. absurd (F.none_beaten s.0 s.1 s.2));
      passes_over = λ n b s.
          by (λ o. Becomes o PassedOver (λ r. r ∈ ms) (λ r. ⊥))
          (λ e. let d = some_below M L ms t e in absurd (n d.0 d.1 d.2))
          (λ _ e. let d = some_beaten M L ms t e in absurd (b d.0 d.1 d.2))
          (λ _ _ g. (refl, λ r. (λ m. m, λ m. m), none_went))
          (λ F l. absurd (F.none_shuts s.0 s.1 s.2))
          (λ F l. absurd (F.none_shuts s.0 s.1 s.2));
      enters = λ n b f l.
          by (λ o. Becomes o Entered (λ r. (r ∈ ms) ⊎ (r ≡ t)) (λ r. ⊥))
          (λ e. let d = some_below M L ms t e in absurd (n d.0 d.1 d.2))
          (λ _ e. let d = some_beaten M L ms t e in absurd (b d.0 d.1 d.2))
          (λ _ _ g. absurd (f g.0 g.1 g.2))
          (λ F _. (refl, pushed t ms (λ r. r ∈ ms) (λ r. (λ m. m, λ m. m)), none_went))
          (λ F k. omega arith);
      finds_no_row = λ n b f l.
          by (λ o. o ≡ full)
          (λ e. let d = some_below M L ms t e in absurd (n d.0 d.1 d.2))
          (λ _ e. let d = some_beaten M L ms t e in absurd (b d.0 d.1 d.2))
          (λ _ _ g. absurd (f g.0 g.1 g.2))
          (λ F k. absurd (omega arith))
          (λ F _. refl);
    }

pub step_is_two_level_after : {P : Type 0} → StepIsTwoLevelAfter P
step_is_two_level_after M L reads h t =
    step_is_two_level M L h.rows (state M reads h).members t (holds M L h.rows reads h.events).sound.apart
