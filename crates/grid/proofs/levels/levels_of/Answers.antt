use Rattle.std.proofs.Common.{refl, length-set, slice_index, arith, ◌∙◌}
use Rattle.grid.proofs.Levelled.{levels_more}
use Rattle.grid.proofs.levels.levels_of.Goals as goal

pub loop-i-init : goal.loop-i-init
loop-i-init g c = (refl, λ p on numbered i l. absurd (omega (arith, l)))

pub loop-i-preserved : goal.loop-i-preserved
loop-i-preserved g c =
    let i = c.loop-i.i in (
      length-set c.loop-i.levels i c.levels.result ∙ c.loop-i.invariant.0,
      λ p on numbered.
          levels_more g.A.Figure.Figure.bits g.A.Axis.line c.args.axes.now p on i c.index-axes-i.result (slice_index c.args.numbers.now) c.loop-i.levels c.levels.result (omega (arith, c.requires.0, c.loop-i-test.true)) (omega (arith, c.requires.1, c.loop-i-test.true)) c.index-axes-i.is c.loop-i.invariant.0 (numbered i (omega (arith, c.requires.1, c.loop-i-test.true))) c.levels.ensures (c.loop-i.invariant.1 p on numbered),
    )

pub returns : goal.returns
returns g c = λ p on numbered i l. c.loop-i.invariant.1 p on numbered i (omega (arith, l, c.loop-i-test.false))
