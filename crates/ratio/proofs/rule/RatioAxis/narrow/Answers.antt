use Rattle.std.proofs.Common.{◌/◌, arith}
use Rattle.ratio.specs.Edges.{box_of}
use Rattle.ratio.specs.Climbing.{box_mono}
use Rattle.ratio.proofs.Finding.{in_quarter}
use Rattle.ratio.proofs.rule.RatioAxis.narrow.Goals as goal

pub loop-count-init : goal.loop-count-init
loop-count-init c =
    let s = c.args.self.now.scale in
    omega (arith, box_mono s.per_cent c.args.v s.ceiling c.requires.0 c.requires.1)

pub loop-count-preserved : goal.loop-count-preserved
loop-count-preserved c =
    let box = box_of c.args.self.now.scale.per_cent c.args.v in
    let left = c.loop-count in
    let next = in_quarter left.first left.count (left.count / 4) box c.begins.result c.begins-in-loop-count.result c.begins-in-loop-count-2.result (omega arith) left.invariant.0 left.invariant.1 c.begins.ensures c.begins-in-loop-count.ensures c.begins-in-loop-count-2.ensures in
    (next.0, next.1, omega arith)
