use Rattle.std.proofs.Common.{map, ap, ◌∙◌, arith}
use Rattle.grid.specs.Space.{box_at}
use Rattle.grid.proofs.Numbering.{number_here, numbered_all, numbered_more, numbered_none}
use Rattle.grid.proofs.compare.numbers.Goals as goal

pub loop-i-init : goal.loop-i-init
loop-i-init g c = numbered_none _

pub loop-i-preserved : goal.loop-i-preserved
loop-i-preserved g c =
    let B = g.A.Figure.Figure.bits in
    let axes = c.args.axes.now in
    let p = c.args.p.now in
    let i = c.loop-i.i in
    let axis = c.index-axes-i.result in
    numbered_more (box_at B (map g.A.Axis.line axes) p) c.loop-i.numbers i c.box_number.result (omega (arith, c.loop-i-test.true, c.requires))
    (number_here B g.A.Axis.line axes p i axis c.box_number.result c.loop-i-test.true c.index-axes-i.is (c.box_number.ensures ∙ ap (g.A.Axis.line axis).box c.figure_at.ensures))
    c.loop-i.invariant

pub returns : goal.returns
returns g c = numbered_all g.A.Figure.Figure.bits g.A.Axis.line c.args.axes.now c.args.p.now c.loop-i.numbers c.loop-i.i (omega (arith, c.loop-i-test.false)) c.loop-i.invariant
