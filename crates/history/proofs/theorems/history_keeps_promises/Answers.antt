use Rattle.history.proofs.Kept.{history_keeps}
use Rattle.history.proofs.theorems.history_keeps_promises.Goals as goal

pub returns : goal.returns
returns g c = history_keeps
