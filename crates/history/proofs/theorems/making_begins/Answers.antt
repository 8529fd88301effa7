use Rattle.history.proofs.Kept.{making_begins}
use Rattle.history.proofs.theorems.making_begins.Goals as goal

pub returns : goal.returns
returns g c = making_begins
