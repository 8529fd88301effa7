-- What is to be done with a trial.
use Rattle.std.specs.Prelude.{ℕ, Bool, cond, List, Option, Some, None}
use Rattle.std.specs.List.{position}
use Rattle.space.specs.Meaning.{Meaning}
use Rattle.space.specs.declared.tagged.Trial.{Trial}
use Rattle.history.specs.Lists.{any}
use Rattle.history.specs.Step.{below, beaten, shuts}
use Rattle.archive.specs.declared.deciding.Decision.{Decision}
use Rattle.archive.specs.declared.deciding.Decision.TheVariants.{Displace, Replace, PassOver, Enter}

-- the first of the four steps that applies: by whether some box is dominated, which row is the first that is beaten, and whether some box
-- equals or dominates the trial's
abbrev pub first_step : Bool → Option ℕ → Bool → Decision
first_step below beaten shut = cond below Displace (elim beaten [ Some row ↦ Replace row | None ↦ cond shut PassOver Enter ])

-- and by the members
abbrev pub decision : {P : Type 0} → Meaning P → List (Trial P) → Trial P → Decision
decision M members t = first_step (any (below M t) members) (position (beaten M t) members) (any (shuts M t) members)
