use Rattle.log_block.proofs.Back.{reads_back}
use Rattle.log_block.proofs.theorems.reads_back.Goals as goal

pub returns : goal.returns
returns c = reads_back
