-- What an audit answers.
use Rattle.std.specs.Prelude.{◌≡◌, ℕ, List, length, None, Ok, Option, Result}
use Rattle.space.specs.Meaning.{Meaning}
use Rattle.history.specs.declared.answers.Answer.TheVariants as answer
use Rattle.history.specs.declared.denials.Denial.{Denial}
use Rattle.history.specs.Answers.{audit_answer, told}
use Rattle.history.specs.Calls.{History}
use Rattle.history.specs.Calls.Call.{audit}
use Rattle.history.specs.Stands.{Stands}
use Rattle.archive.specs.Lent.{Lent, members}
use Rattle.archive.specs.Standing.{Stays, StaysApart}

-- what holds of every audit, which alters nothing
pub record AuditRight {P : Type 0} (M : Meaning P) (a : Lent P) (r : Result (Option (ℕ × ℕ)) Denial) : Type 0 where
  -- the answer is the defined one
  pub value : r ≡ audit_answer M a.rows (members a) (length a.held)
  -- under every history it answers none
  pub none : (reads : List ℕ → P) (h : History P) → Stands M reads h a.rows a.count a.held → r ≡ Ok None
  -- what stood under a history stands under it with this audit and its answer added
  pub stays : Stays M a.rows (audit (length a.held)) (told answer.Audited r) a.count a.held a.count a.held
  pub stays_apart : StaysApart M a.rows (audit (length a.held)) (told answer.Audited r) a.held a.count a.count
