use Rattle.std.proofs.Common.{map}
use Rattle.grid.specs.Ranges.{box_at_least, box_at_most}
use Rattle.grid.proofs.Spanning.{Placed, SpansAt}
use Rattle.grid.proofs.spans.spans.Given as goal

-- both spans are told at the places so far
abbrev pub invariant-loop-i : goal.invariant-loop-i
invariant-loop-i g l =
    let B = g.A.Figure.Figure.bits in
    let lines = map g.A.Axis.line l.axes in
    let old = l.initial.out in
    record {
      most : Placed (SpansAt B lines l.p box_at_most) l.at old.most.from old.most.to l.out.most.from l.out.most.to l.i;
      least : Placed (SpansAt B lines l.p box_at_least) l.at old.least.from old.least.to l.out.least.from l.out.least.to l.i;
    }
