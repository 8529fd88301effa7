use Rattle.history.proofs.Kept.{idle_call_keeps}
use Rattle.history.proofs.theorems.idle_call_keeps.Goals as goal

pub returns : goal.returns
returns g c = idle_call_keeps
