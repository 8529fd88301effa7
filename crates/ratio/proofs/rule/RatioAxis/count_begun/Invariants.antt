use Rattle.std.proofs.Common.{◌≡◌, ◌+◌, ◌≤◌, min}
use Rattle.ratio.specs.Edges.{box_of}
use Rattle.ratio.proofs.rule.RatioAxis.count_begun.Given as goal

-- of the boxes so far, those up to the figure's own have begun
abbrev pub invariant-loop-k : goal.invariant-loop-k
invariant-loop-k l = (l.first ≤ l.k) × (l.first + l.begun ≡ min l.k (box_of l.self.scale.per_cent l.v + 1))
