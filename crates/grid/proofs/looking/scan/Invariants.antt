use Rattle.std.proofs.Common.{take}
use Rattle.grid.specs.Levels.{each_place, from_on, up_to}
use Rattle.grid.proofs.Counting.{Counted}
use Rattle.grid.proofs.Scanning.{Reaches}
use Rattle.grid.proofs.looking.scan.Given as goal

-- the trials so far
abbrev pub invariant-loop-k : goal.invariant-loop-k
invariant-loop-k g l =
    let B = g.F.Figure.bits in
    Reaches B l.levels g.row.N l.trials l.k l.lowest l.highest
    × Counted (λ t. each_place B up_to l.levels t.point g.row.N) (λ t. each_place B from_on l.levels t.point g.row.N) (take l.k l.trials) l.counts
