use Rattle.std.proofs.Common.{◌≡◌}
use Rattle.history.specs.RowNeed.{product_but}
use Rattle.archive.proofs.needing.product_but.Given as goal

abbrev pub invariant-loop-k : goal.invariant-loop-k
invariant-loop-k g l = l.product ≡ product_but (g.S.Space.meaning l.space) l.out l.k
