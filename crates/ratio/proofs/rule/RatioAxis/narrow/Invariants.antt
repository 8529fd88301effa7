use Rattle.std.proofs.Common.{◌+◌, ◌<◌, ◌≤◌}
use Rattle.ratio.specs.Edges.{box_of}
use Rattle.ratio.proofs.rule.RatioAxis.narrow.Given as goal

-- the figure's box is among those that are left
abbrev pub invariant-loop-count : goal.invariant-loop-count
invariant-loop-count l =
    (l.first ≤ box_of l.self.scale.per_cent l.v)
    × (box_of l.self.scale.per_cent l.v < l.first + l.count)
    × (l.first + l.count ≤ l.self.extent)

abbrev pub decreases-loop-count : goal.decreases-loop-count
decreases-loop-count l = l.count
