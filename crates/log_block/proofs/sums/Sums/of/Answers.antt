use Rattle.std.proofs.Common.{ap, arith}
use Rattle.std.proofs.lemmas.List.{take_all}
use Rattle.log_block.specs.Sums.{low_sum}
use Rattle.log_block.proofs.Weighing.{weighed_all}
use Rattle.log_block.proofs.sums.Sums.of.Goals as goal

pub returns : goal.returns
returns c =
    let low = ap low_sum (take_all c.loop-byte.byte-index c.args.bytes.now (omega arith)) in
    let high = weighed_all c.args.bytes.now c.loop-byte.byte-index c.loop-byte.weight (omega arith) (omega arith) in
    cc
