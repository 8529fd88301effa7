-- The step in words of sets: on the level of boxes first, and then within one box. It is said of members whose boxes are apart,
-- as they are after every history; two rows that came from none may share a box, and of them the step itself speaks alone.
use Rattle.std.specs.Prelude.{◌≡◌, ℕ, ◌<◌, ◌≤◌, ◌⊎◌, ◌↔◌, List, length}
use Rattle.space.specs.Meaning.{Meaning}
use Rattle.space.specs.Boxes.{Dominates, SameBox, BoxDominates}
use Rattle.space.specs.declared.tagged.Trial.{Trial}
use Rattle.history.specs.declared.verdicts.Verdict.{Verdict}
use Rattle.history.specs.declared.verdicts.Verdict.TheVariants.{PassedOver, Entered, Displaced, Replaced}
use Rattle.history.specs.Lists.{◌∈◌, SomeIn, NoneIn}
use Rattle.history.specs.Step.{Outcome}
use Rattle.history.specs.Step.Outcome.{judged, full}

-- the trial's box dominates the member's
abbrev pub Below : {P : Type 0} → Meaning P → Trial P → Trial P → Type 0
Below M t r = BoxDominates M t.point r.point

-- the member has the trial's box
abbrev pub InBox : {P : Type 0} → Meaning P → Trial P → Trial P → Type 0
InBox M t r = SameBox M r.point t.point

-- the member has the trial's box, and the trial dominates it
abbrev pub Beaten : {P : Type 0} → Meaning P → Trial P → Trial P → Type 0
Beaten M t r = InBox M t r × Dominates M t.point r.point

-- the member's box equals the trial's or dominates it
abbrev pub Shuts : {P : Type 0} → Meaning P → Trial P → Trial P → Type 0
Shuts M t r = InBox M t r ⊎ BoxDominates M r.point t.point

-- this verdict was given; a row is a member afterwards exactly if it is of the first kind, and went exactly if it is of the second
abbrev pub Becomes : {P : Type 0} → Outcome P → Verdict → (Trial P → Type 0) → (Trial P → Type 0) → Type 0
Becomes full v After Gone = ⊥
Becomes {P} (judged w gone after) v After Gone = (w ≡ v) × ((r : Trial P) → (r ∈ after) ↔ After r) × ((r : Trial P) → (r ∈ gone) ↔ Gone r)

-- what becomes of the members, by the first of five cases that is at hand
pub record TwoLevel {P : Type 0} (M : Meaning P) (rows : ℕ) (members : List (Trial P)) (t : Trial P) (outcome : Outcome P) : Type 0 where
  -- some member's box is below the trial's
  pub displaces : SomeIn members (Below M t) → Becomes outcome Displaced (λ r. ((r ∈ members) × (Below M t r → ⊥)) ⊎ (r ≡ t)) (λ r. (r ∈ members) × Below M t r)
  -- none is, and a member of the trial's box is dominated by the trial
  pub replaces : NoneIn members (Below M t) → SomeIn members (Beaten M t) → Becomes outcome Replaced (λ r. ((r ∈ members) × (InBox M t r → ⊥)) ⊎ (r ≡ t)) (λ r. (r ∈ members) × InBox M t r)
  -- neither, and some member's box equals the trial's or dominates it
  pub passes_over : NoneIn members (Below M t) → NoneIn members (Beaten M t) → SomeIn members (Shuts M t) → Becomes outcome PassedOver (λ r. r ∈ members) (λ r. ⊥)
  -- none of these, and a row is free
  pub enters : NoneIn members (Below M t) → NoneIn members (Beaten M t) → NoneIn members (Shuts M t) → length members < rows → Becomes outcome Entered (λ r. (r ∈ members) ⊎ (r ≡ t)) (λ r. ⊥)
  -- none of these, and no row is free
  pub finds_no_row : NoneIn members (Below M t) → NoneIn members (Beaten M t) → NoneIn members (Shuts M t) → rows ≤ length members → outcome ≡ full
