use Rattle.std.proofs.Common.{◌<◌, arith}
use Rattle.space.proofs.OneByOne.{lies_more, lies_never}
use Rattle.space.proofs.meaning.Space.lie.Goals as goal

pub loop-i-preserved : goal.loop-i-preserved
loop-i-preserved g c =
    let M = g.Self.Space.meaning c.args.self.now in
    let inside : c.loop-i.i < M.objectives = omega (arith, c.loop-i-test.true, c.objectives-i-end.ensures) in
    lies_more M (g.met.Self.Space.lawful c.args.self.now) c.args.mine.now c.args.p.now c.loop-i.i c.box_number-theirs.result c.loop-i.over c.loop-i.under inside c.box_number-theirs.ensures c.loop-i.invariant

pub returns-then-not-under : goal.returns-then-not-under
returns-then-not-under g c =
    let M = g.Self.Space.meaning c.args.self.now in
    let inside : c.loop-i.i < M.objectives = omega (arith, c.loop-i-test.true, c.objectives-i-end.ensures) in
    lies_never M (g.met.Self.Space.lawful c.args.self.now) c.args.mine.now c.args.p.now c.loop-i.i c.box_number-theirs.result c.loop-i.over c.loop-i.under inside c.box_number-theirs.ensures c.loop-i.invariant c.if-not-over.true c.if-not-under.true
