use Rattle.grid.proofs.Making.{Made}
use Rattle.grid.proofs.make.rules.Given as goal

abbrev pub invariant-loop-i : goal.invariant-loop-i
invariant-loop-i g l = Made g.A.Axis.sound g.A.Axis.rule g.A.Axis.line l.scales l.axes l.i
