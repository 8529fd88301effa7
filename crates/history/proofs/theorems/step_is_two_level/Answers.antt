use Rattle.history.proofs.Sets.{step_is_two_level}
use Rattle.history.proofs.theorems.step_is_two_level.Goals as goal

pub returns : goal.returns
returns g c = step_is_two_level
