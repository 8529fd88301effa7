use Rattle.log_block.proofs.Back.{same_bytes}
use Rattle.log_block.proofs.theorems.same_bytes.Goals as goal

pub returns : goal.returns
returns c = same_bytes
