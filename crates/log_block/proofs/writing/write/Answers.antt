use Rattle.std.proofs.Common.{◌≡◌, Ok}
use Rattle.log_block.specs.Block.{checked}
use Rattle.log_block.specs.Theorems.{placed_from}
use Rattle.log_block.proofs.Capacity.{same_answer, same_records}
use Rattle.log_block.proofs.writing.write.Goals as goal

pub returns-clause-value : goal.returns-clause-value
returns-clause-value c = same_answer c.args.objectives c.args.number c.args.trials.now c.args.block.now c.write_block.result c.write_block.ensures.value c.write_block.ensures.typed

pub returns-clause-accepted : goal.returns-clause-accepted
returns-clause-accepted c = same_records c.args.objectives c.args.number c.args.trials.now c.args.block.now c.write_block.result c.write_block.ensures.value c.write_block.ensures.typed (λ items. checked c.args.objectives c.write_block.new.block ≡ Ok (placed_from 8 items)) c.write_block.ensures.accepted
