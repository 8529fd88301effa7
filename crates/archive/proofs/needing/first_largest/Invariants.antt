use Rattle.std.proofs.Common.{◌≡◌}
use Rattle.history.specs.RowNeed.{first_largest}
use Rattle.archive.proofs.needing.first_largest.Given as goal

abbrev pub invariant-loop-k : goal.invariant-loop-k
invariant-loop-k g l = l.largest ≡ first_largest (g.S.Space.meaning l.space) l.k
