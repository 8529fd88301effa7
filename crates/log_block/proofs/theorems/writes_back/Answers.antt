use Rattle.log_block.proofs.Back.{writes_back}
use Rattle.log_block.proofs.theorems.writes_back.Goals as goal

pub returns : goal.returns
returns c = writes_back
