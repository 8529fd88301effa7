use Rattle.history.proofs.Need.{row_need_is_least}
use Rattle.history.proofs.theorems.row_need_is_least.Goals as goal

pub returns : goal.returns
returns g c = row_need_is_least
