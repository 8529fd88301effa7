use Rattle.std.proofs.Common.{rules, w32, FitsSigned}
use Rattle.std.proofs.lemmas.Int.{to_z-of_z}
use Rattle.grid.proofs.Levelled.{levels_by_ranges, straight_halves, turned_halves}
use Rattle.grid.proofs.levels.Levels.of.Goals as goal

pub returns-then-last-to : goal.returns-then-last-to
returns-then-last-to g c =
    let first : FitsSigned w32 c.rank-first.result = search rules in
    let last : FitsSigned w32 c.rank-last.result = search rules in
    let from : FitsSigned w32 c.rank-from.result = search rules in
    let to : FitsSigned w32 c.rank-to.result = search rules in
    λ line n up down v admitted box.
    levels_by_ranges g.F.Figure.bits line n c.args.most c.args.least _ up down (λ v one two. rw (to_z-of_z w32 c.rank-first.result first, to_z-of_z w32 c.rank-last.result last, to_z-of_z w32 c.rank-from.result from, to_z-of_z w32 c.rank-to.result to, c.rank-first.ensures, c.rank-last.ensures, c.rank-from.ensures, c.rank-to.ensures)
    (straight_halves g.F.Figure.bits g.met.F.Figure.exact c.args.most.0 c.args.most.1 c.args.least.0 c.args.least.1 v one two)) v admitted box

pub returns-else-first-from : goal.returns-else-first-from
returns-else-first-from g c =
    let first : FitsSigned w32 c.rank-first.result = search rules in
    let last : FitsSigned w32 c.rank-last.result = search rules in
    let from : FitsSigned w32 c.rank-from.result = search rules in
    let to : FitsSigned w32 c.rank-to.result = search rules in
    let a : FitsSigned w32 c.turn.result = search rules in
    let b : FitsSigned w32 c.turn-else-first-from.result = search rules in
    let d : FitsSigned w32 c.turn-else-first-from-2.result = search rules in
    let e : FitsSigned w32 c.turn-else-first-from-3.result = search rules in
    λ line n up down v admitted box.
    levels_by_ranges g.F.Figure.bits line n c.args.most c.args.least _ up down (λ v one two. rw (
      to_z-of_z w32 c.turn.result a,
      to_z-of_z w32 c.turn-else-first-from.result b,
      to_z-of_z w32 c.turn-else-first-from-2.result d,
      to_z-of_z w32 c.turn-else-first-from-3.result e,
      c.turn.ensures,
      c.turn-else-first-from.ensures,
      c.turn-else-first-from-2.ensures,
      c.turn-else-first-from-3.ensures,
      to_z-of_z w32 c.rank-first.result first,
      to_z-of_z w32 c.rank-last.result last,
      to_z-of_z w32 c.rank-from.result from,
      to_z-of_z w32 c.rank-to.result to,
      c.rank-first.ensures,
      c.rank-last.ensures,
      c.rank-from.ensures,
      c.rank-to.ensures,
    )
    (turned_halves g.F.Figure.bits g.met.F.Figure.exact c.args.most.0 c.args.most.1 c.args.least.0 c.args.least.1 v one two)) v admitted box
