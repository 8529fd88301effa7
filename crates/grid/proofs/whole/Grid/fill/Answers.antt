use Rattle.std.proofs.Common.{arith}
use Rattle.grid.specs.InUse.{writable_rules}
use Rattle.grid.proofs.whole.Grid.fill.Goals as goal

pub returns-clause-writable : goal.returns-clause-writable
returns-clause-writable g c =
    let s = c.args.self.now in
    writable_rules g.A.Figure.Figure.bits g.A.Axis.line s.axes s.objectives (omega (arith, s.few)) g.met.A.Figure.Figure.exact c.zero.ensures.held c.args.p.now c.told-p (λ k l. c.write_figures.ensures.held k (omega (arith, c.requires)))
