use Rattle.std.proofs.Common.{◌≡◌, ℕ, ◌<◌, ◌≤◌, length, get_or}
use Rattle.ratio.specs.Edges.{edge}
use Rattle.ratio.specs.Rule.{extent_of}
use Rattle.ratio.proofs.edges.fill_edges.Given as goal

-- the edges below the count are written and the next is at hand: there are more boxes where that is at most the ceiling, and else no more
abbrev pub invariant-loop-count : goal.invariant-loop-count
invariant-loop-count l =
    (l.edge ≡ edge l.scale.per_cent l.count)
    × ((k : ℕ) → k < l.count → get_or l.edges k 0 ≡ edge l.scale.per_cent k)
    × (l.edge ≤ l.scale.ceiling → l.count < extent_of l.scale)
    × (l.scale.ceiling < l.edge → l.count ≡ extent_of l.scale)
    × (length l.edges ≡ 1024)
