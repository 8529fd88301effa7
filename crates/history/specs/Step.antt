-- One step: a trial is judged against the members, over so many rows.
use Rattle.std.specs.Prelude.{ℕ, Bool, cond, not, ◌&&◌, List, [], ◌∷◌, ◌++◌, length, filter, nat_lt}
use Rattle.space.specs.Meaning.{Meaning}
use Rattle.space.specs.Boxes.{at_least, box_dominates, same_box}
use Rattle.space.specs.declared.tagged.Trial.{Trial}
use Rattle.history.specs.declared.verdicts.Verdict.{Verdict}
use Rattle.history.specs.declared.verdicts.Verdict.TheVariants.{PassedOver, Entered, Displaced, Replaced}
use Rattle.history.specs.Lists.{any, first_of, without_first}
use Rattle.history.specs.Comparing.{dominates}

-- what comes of a trial: a verdict with the members that go and the members after, or no row is left for it
pub data Outcome (P : Type 0) : Type 0 where
  judged : (verdict : Verdict) (gone after : List (Trial P)) → Outcome P
  full : Outcome P

-- the trial's box dominates the member's
abbrev pub below : {P : Type 0} → Meaning P → Trial P → Trial P → Bool
below M t r = box_dominates M t.point r.point

-- the member has the trial's box, and the trial dominates it
abbrev pub beaten : {P : Type 0} → Meaning P → Trial P → Trial P → Bool
beaten M t r = same_box M t.point r.point && dominates M t.point r.point

-- the member's box equals the trial's or dominates it
abbrev pub shuts : {P : Type 0} → Meaning P → Trial P → Trial P → Bool
shuts M t r = at_least M r.point t.point

-- all members go whose box the trial's box dominates, and the trial enters
abbrev pub displacing : {P : Type 0} → Meaning P → List (Trial P) → Trial P → Outcome P
displacing M members t = judged Displaced (filter (below M t) members) (filter (λ r. not (below M t r)) members ++ (t ∷ []))

-- the first member of the trial's box goes that the trial dominates, and the trial enters
abbrev pub replacing : {P : Type 0} → Meaning P → List (Trial P) → Trial P → Outcome P
replacing M members t = judged Replaced (first_of (beaten M t) members) (without_first (beaten M t) members ++ (t ∷ []))

-- the trial takes the next row, if there is one
abbrev pub entering : {P : Type 0} → ℕ → List (Trial P) → Trial P → Outcome P
entering rows members t = cond (nat_lt (length members) rows) (judged Entered [] (members ++ (t ∷ []))) full

-- the step: the first of these that applies
unfoldable pub judge : {P : Type 0} → Meaning P → ℕ → List (Trial P) → Trial P → Outcome P
judge M rows members t =
    cond (any (below M t) members) (displacing M members t)
    (cond (any (beaten M t) members) (replacing M members t)
    (cond (any (shuts M t) members) (judged PassedOver [] members)
    (entering rows members t)))

-- the members after this outcome
abbrev pub members_then : {P : Type 0} → List (Trial P) → Outcome P → List (Trial P)
members_then members (judged verdict gone after) = after
members_then members full = members
