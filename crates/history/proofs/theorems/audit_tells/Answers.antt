use Rattle.history.proofs.FirstFault.{audit_tells}
use Rattle.history.proofs.theorems.audit_tells.Goals as goal

pub returns : goal.returns
returns g c = audit_tells
