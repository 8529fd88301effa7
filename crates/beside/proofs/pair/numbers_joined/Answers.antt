use Rattle.std.proofs.Common.{arith}
use Rattle.beside.proofs.Joining.{joined_all}
use Rattle.beside.proofs.pair.numbers_joined.Goals as goal

pub returns : goal.returns
returns c = joined_all c.args.front c.args.first.now c.args.second.now c.loop-i.joined c.loop-i.i (omega (arith, c.loop-i-test.false)) c.loop-i.invariant
