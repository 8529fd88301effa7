use Rattle.std.proofs.Common.{arith}
use Rattle.space.proofs.Looks.{lies_at_once}
use Rattle.grid.specs.InUse.{lawful_rules}
use Rattle.grid.specs.Whole.{meaning_by}
use Rattle.grid.proofs.whole.questions.GridSpace.lie.Goals as goal

pub returns : goal.returns
returns g c =
    λ q mine.
    let s = c.args.self.now in
    lies_at_once (meaning_by g.A.Figure.Figure.bits g.A.Axis.line s) (lawful_rules g.A.Figure.Figure.bits g.A.Axis.line s.axes s.objectives (omega (arith, s.few)) (g.met.A.Axis.lawful) s.few.0 s.few.1) q c.args.p.now c.args.mine.now c.unwrap_or.result c.boxes.result c.of.result mine c.boxes.ensures c.unwrap_or.ensures c.of.ensures
