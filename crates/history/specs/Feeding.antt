-- What the trials of a block come to, each judged against the members that those before it left.
use Rattle.std.specs.Prelude.{ℕ, ◌+◌, ◌-◌, ◌^◌, min, cond, List, [], ◌∷◌, length, Some, None}
use Rattle.std.specs.Option.{option_or}
use Rattle.space.specs.Meaning.{Meaning}
use Rattle.space.specs.declared.tagged.Trial.{Trial}
use Rattle.history.specs.declared.faults.DeniedTrial.{DeniedTrial}
use Rattle.history.specs.declared.faults.DeniedTrial.TheVariants.{OffGrid, Full}
use Rattle.history.specs.declared.answers.Fed.{Fed}
use Rattle.history.specs.Step.{Outcome, judge, members_then}
use Rattle.history.specs.Step.Outcome.{judged, full}
use Rattle.history.specs.BlockTrials.{TrialAt}
use Rattle.history.specs.State.{entries, on_grid}

-- n trials that all entered, and nothing else
abbrev pub all_entered : ℕ → Fed
all_entered n = record { entered = n; passed = 0; denied = 0; displaced = 0; first = None }

-- some trials and then others: the first that was denied is the first of the earlier ones, if one of them was
abbrev pub sum_fed : Fed → Fed → Fed
sum_fed f g = record {
  entered = f.entered + g.entered;
  passed = f.passed + g.passed;
  denied = f.denied + g.denied;
  displaced = f.displaced + g.displaced;
  first = option_or f.first g.first;
}

-- a number, or the greatest of its type
abbrev pub capped : ℕ → ℕ
capped n = min n (2 ^ 64 - 1)

-- the same of each of the four
abbrev pub capped_fed : Fed → Fed
capped_fed f = record {
  entered = capped f.entered;
  passed = capped f.passed;
  denied = capped f.denied;
  displaced = capped f.displaced;
  first = f.first;
}

-- a denied trial, and then the rest
abbrev pub then_denied : DeniedTrial → Fed → Fed
then_denied d rest = record {
  entered = rest.entered;
  passed = rest.passed;
  denied = 1 + rest.denied;
  displaced = rest.displaced;
  first = Some d;
}

-- a trial on the grid, at this place of the block and with this outcome, and then the rest
abbrev pub then_judged : {P : Type 0} → ℕ → Outcome P → Fed → Fed
then_judged place (judged verdict gone after) rest = record {
  entered = entries verdict + rest.entered;
  passed = 1 - entries verdict + rest.passed;
  denied = rest.denied;
  displaced = length gone + rest.displaced;
  first = rest.first;
}
then_judged place full rest = then_denied (Full place) rest

-- the trials of a block, in order
unfoldable pub tally : {P : Type 0} → Meaning P → ℕ → List (Trial P) → List (TrialAt P) → Fed
tally M rows members [] = all_entered 0
tally M rows members (x ∷ xs) =
    let outcome = judge M rows members x.read in
    cond (on_grid M x.read)
    (then_judged x.place outcome (tally M rows (members_then members outcome) xs))
    (then_denied (OffGrid x.place) (tally M rows members xs))
