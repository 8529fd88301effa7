use Rattle.std.proofs.Common.{sym, ap, ◌∙◌, arith}
use Rattle.history.specs.RowNeed.{first_largest}
use Rattle.archive.proofs.Extents.{largest_more, largest_none}
use Rattle.archive.proofs.needing.first_largest.Goals as goal

pub loop-k-init : goal.loop-k-init
loop-k-init g c = sym (largest_none (g.S.Space.meaning c.args.space.now))

pub loop-k-preserved : goal.loop-k-preserved
loop-k-preserved g c =
    let more = largest_more (g.S.Space.meaning c.args.space.now) c.loop-k.k in
    cc

pub returns : goal.returns
returns g c = c.loop-k.invariant ∙ ap (first_largest (g.S.Space.meaning c.args.space.now)) (omega arith)
