use Rattle.history.proofs.Kept.{call_keeps}
use Rattle.history.proofs.theorems.call_keeps.Goals as goal

pub returns : goal.returns
returns g c = call_keeps
