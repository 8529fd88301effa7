-- What one trial of a block came to.
use Rattle.std.specs.Prelude.{ℕ, ◌-◌, Some, None, Ok, Err, Result}
use Rattle.history.specs.declared.answers.Fed.{Fed}
use Rattle.history.specs.declared.answers.Offered.{Offered}
use Rattle.history.specs.declared.denials.Denial.{Denial}
use Rattle.history.specs.declared.denials.Denial.TheVariants as denial
use Rattle.history.specs.declared.faults.DeniedTrial.{DeniedTrial}
use Rattle.history.specs.declared.faults.DeniedTrial.TheVariants.{OffGrid, Full}
use Rattle.history.specs.State.{entries}

-- why a trial is denied whose record is at this place: its point is not admitted, or else there is no row for it
abbrev pub denied_at : ℕ → Denial → DeniedTrial
denied_at place denial.OffGrid = OffGrid place
denied_at place _ = Full place

-- what one trial came to, whose record is at this place
abbrev pub one_fed : ℕ → Result Offered Denial → Fed
one_fed place (Ok o) = record { entered = entries o.verdict; passed = 1 - entries o.verdict; denied = 0; displaced = o.displaced; first = None }
one_fed place (Err d) = record { entered = 0; passed = 0; denied = 1; displaced = 0; first = Some (denied_at place d) }
