-- What the decision over some members tells, and what a look at them tells of it.
use Rattle.std.proofs.Common.{◌≡◌, ℕ, ◌+◌, Bool, true, false, cond, ◌||◌, List, [], ◌∷◌, Some, None, Option, sym, refl, ap, ◌∙◌, arith}
use Rattle.std.specs.List.{list_any, position, position_from}
use Rattle.std.specs.Option.{is_some}
use Rattle.std.proofs.lemmas.Iterator.Adapters.{position_from-zero}
use Rattle.space.specs.Meaning.{Meaning}
use Rattle.space.specs.Looking.{look_of}
use Rattle.space.specs.declared.looking.Look.{Look}
use Rattle.space.specs.declared.tagged.Trial.{Trial}
use Rattle.history.specs.declared.verdicts.Verdict.TheVariants.{PassedOver}
use Rattle.history.specs.Lists.{any}
use Rattle.history.specs.Step.{Outcome, below, beaten, shuts, displacing, replacing, entering, judge}
use Rattle.history.specs.Step.Outcome.{judged}
use Rattle.archive.specs.declared.deciding.Decision.{Decision}
use Rattle.archive.specs.declared.deciding.Decision.TheVariants.{Displace, Replace, PassOver, Enter}
use Rattle.archive.specs.Deciding.{decision, first_step}

-- only the first step of all displaces
displace_from : (a : Bool) (o : Option ℕ) (s : Bool) → first_step a o s ≡ Displace → a ≡ true
displace_from true o s e = refl
displace_from false (Some n) s e = let z : ◌≡◌ {A = ℕ} 0 1 = cc in absurd (omega arith)
displace_from false None true e = let z : ◌≡◌ {A = ℕ} 0 1 = cc in absurd (omega arith)
displace_from false None false e = let z : ◌≡◌ {A = ℕ} 0 1 = cc in absurd (omega arith)

-- and only the second replaces
replace_from : (a : Bool) (o : Option ℕ) (s : Bool) (n : ℕ) → first_step a o s ≡ Replace n → o ≡ Some n
replace_from true o s n e = let z : ◌≡◌ {A = ℕ} 0 1 = cc in absurd (omega arith)
replace_from false (Some m) s n e = cc
replace_from false None true n e = let z : ◌≡◌ {A = ℕ} 0 1 = cc in absurd (omega arith)
replace_from false None false n e = let z : ◌≡◌ {A = ℕ} 0 1 = cc in absurd (omega arith)

module _ {A : Type 0} (f : A → Bool) where
  -- the two tests of whether something passes
  pub any_listed : (xs : List A) → list_any f xs ≡ any f xs
  any_listed [] = refl
  any_listed (x ∷ xs) = ap (λ b. f x || b) (any_listed xs)

  -- something passes where there is a first that does
  any_placed : (k : ℕ) (xs : List A) → is_some (position_from f k xs) ≡ any f xs
  any_placed k [] = refl
  any_placed k (x ∷ xs) = elim (f x) as (λ b. is_some (cond b (Some k) (position_from f (k + 1) xs)) ≡ (b || any f xs)) [ true ↦ refl | false ↦ any_placed (k + 1) xs ]

  pub any_first : (xs : List A) → is_some (position f xs) ≡ any f xs
  any_first xs = ap is_some (position_from-zero f xs) ∙ any_placed 0 xs

module _ {P : Type 0} (M : Meaning P) (t : Trial P) where
  -- a look at the members tells what is decided, with the first that is beaten
  module _ (xs : List (Trial P)) (look : Look) (seen : look ≡ look_of M t.point xs) where
    pub decided_by : (o : Option ℕ) → o ≡ position (beaten M t) xs → first_step look.below o look.shut ≡ decision M xs t
    decided_by o e =
        ap (λ b. first_step b o look.shut) (ap (λ l. l.below) seen ∙ any_listed (below M t) xs)
        ∙ ap (λ b. first_step (any (below M t) xs) o b) (ap (λ l. l.shut) seen ∙ any_listed (shuts M t) xs)
        ∙ ap (λ p. first_step (any (below M t) xs) p (any (shuts M t) xs)) e

  pub some_below_from : (xs : List (Trial P)) → decision M xs t ≡ Displace → any (below M t) xs ≡ true
  some_below_from xs e = displace_from (any (below M t) xs) (position (beaten M t) xs) (any (shuts M t) xs) e

  pub first_beaten_from : (xs : List (Trial P)) (n : ℕ) → decision M xs t ≡ Replace n → position (beaten M t) xs ≡ Some n
  first_beaten_from xs n e = replace_from (any (below M t) xs) (position (beaten M t) xs) (any (shuts M t) xs) n e

  -- what comes of the trial by the decision
  abbrev pub outcome_by : ℕ → List (Trial P) → Decision → Outcome P
  outcome_by rows xs Displace = displacing M xs t
  outcome_by rows xs (Replace n) = replacing M xs t
  outcome_by rows xs PassOver = judged PassedOver [] xs
  outcome_by rows xs Enter = entering rows xs t

  -- where no box is dominated
  judged_placed : (rows : ℕ) (xs : List (Trial P)) (o : Option ℕ) (b : Bool) → is_some o ≡ b
      → cond b (replacing M xs t) (cond (any (shuts M t) xs) (judged PassedOver [] xs) (entering rows xs t)) ≡ outcome_by rows xs (first_step false o (any (shuts M t) xs))
  judged_placed rows xs (Some n) b e = sym (ap (λ b. cond b (replacing M xs t) (cond (any (shuts M t) xs) (judged PassedOver [] xs) (entering rows xs t))) e)
  judged_placed rows xs None b e =
      sym (ap (λ b. cond b (replacing M xs t) (cond (any (shuts M t) xs) (judged PassedOver [] xs) (entering rows xs t))) e)
      ∙ (elim (any (shuts M t) xs) as (λ s. cond s (judged PassedOver [] xs) (entering rows xs t) ≡ outcome_by rows xs (first_step false None s)) [ true ↦ refl | false ↦ refl ])

  pub judge_decided : (rows : ℕ) (xs : List (Trial P)) → judge M rows xs t ≡ outcome_by rows xs (decision M xs t)
  unfolding judge
  judge_decided rows xs =
      let o = position (beaten M t) xs in
      let s = any (shuts M t) xs in
      elim (any (below M t) xs) as (λ a. cond a (displacing M xs t) (cond (any (beaten M t) xs) (replacing M xs t) (cond s (judged PassedOver [] xs) (entering rows xs t))) ≡ outcome_by rows xs (first_step a o s)) [
        | true ↦ refl
        | false ↦ judged_placed rows xs o (any (beaten M t) xs) (any_first (beaten M t) xs)
      ]
