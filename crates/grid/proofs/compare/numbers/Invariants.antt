use Rattle.std.proofs.Common.{map}
use Rattle.grid.specs.Space.{box_at}
use Rattle.grid.proofs.Numbering.{Numbered}
use Rattle.grid.proofs.compare.numbers.Given as goal

-- the objectives so far
abbrev pub invariant-loop-i : goal.invariant-loop-i
invariant-loop-i g l = Numbered (box_at g.A.Figure.Figure.bits (map g.A.Axis.line l.axes) l.p) l.numbers l.i
