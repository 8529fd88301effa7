use Rattle.grid.proofs.Scanning.{Held}
use Rattle.grid.proofs.looking.hold.Given as goal

-- the places so far
abbrev pub invariant-loop-i : goal.invariant-loop-i
invariant-loop-i g l = Held g.F.Figure.bits l.levels l.q l.fn.lowest l.fn.highest l.i l.most l.least l.lowest l.highest
