use Rattle.history.proofs.Audit.{audit_clears}
use Rattle.history.proofs.theorems.audit_clears.Goals as goal

pub returns : goal.returns
returns g c = audit_clears
