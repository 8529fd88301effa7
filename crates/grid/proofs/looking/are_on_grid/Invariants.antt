use Rattle.std.proofs.Common.{ℕ, ◌<◌}
use Rattle.grid.specs.Levels.{InReach}
use Rattle.grid.proofs.looking.are_on_grid.Given as goal

-- the places so far
abbrev pub invariant-loop-i : goal.invariant-loop-i
invariant-loop-i g l = (k : ℕ) → k < l.i → InReach l.levels l.lowest l.highest k
