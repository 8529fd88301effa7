use Rattle.std.proofs.Common.{◌≡◌, ◌+◌, ◌<◌, ◌≤◌, true, length, map, drop, sym, ◌∙◌, arith, rules, w32}
use Rattle.std.proofs.lemmas.Int.{to_z-of_z}
use Rattle.std.proofs.lemmas.List.{length-map}
use mir.Val.{SFits}
use Rattle.grid.specs.Ranges.{between, box_at_least, box_at_most}
use Rattle.grid.specs.Space.{grid_meaning}
use Rattle.grid.proofs.Spanning.{SpansAt, placed_from, placed_more, placed_none, span_here, spans_told}
use Rattle.grid.proofs.spans.spans.Goals as goal

pub loop-i-init : goal.loop-i-init
loop-i-init g c = record { most = placed_none _ _ _ _; least = placed_none _ _ _ _ }

pub loop-i-preserved : goal.loop-i-preserved
loop-i-preserved g c =
    let B = g.A.Figure.Figure.bits in
    let axes = c.args.axes.now in
    let p = c.args.p.now in
    let lines = map g.A.Axis.line axes in
    let i = c.loop-i.i in
    let u = c.loop-i.out in
    let old = c.args.out.now in
    let six : c.args.at + i < 6 = omega (arith, c.loop-i-test.true, c.if-at-axes.false, c.requires) in
    let most_low : SFits w32 c.in-Some.most.0 = search rules in
    let most_high : SFits w32 c.in-Some.most.1 = search rules in
    let least_low : SFits w32 c.in-Some-span.least.0 = search rules in
    let least_high : SFits w32 c.in-Some-span.least.1 = search rules in
    let most_from : length u.most.from ≡ 6 = search rules in
    let most_to : length u.most.to ≡ 6 = search rules in
    let least_from : length u.least.from ≡ 6 = search rules in
    let least_to : length u.least.to ≡ 6 = search rules in
    let here = span_here B g.A.Axis.line axes p i c.index-axes-i.result c.loop-i-test.true c.index-axes-i.is in
    simp to_z-of_z (record {
      most = placed_more (SpansAt B lines p box_at_most) c.args.at old.most.from old.most.to u.most.from u.most.to i c.in-Some.most.0 c.in-Some.most.1 six most_from most_to
          (here box_at_most (between B c.at_most-low.result) c.in-Some.most c.figure_at.result c.box_number-n.result c.in-Some.ensures c.at_most-low.ensures c.box_number-n.ensures c.figure_at.ensures)
          c.loop-i.invariant.most;
      least = placed_more (SpansAt B lines p box_at_least) c.args.at old.least.from old.least.to u.least.from u.least.to i c.in-Some-span.least.0 c.in-Some-span.least.1 six least_from least_to
          (here box_at_least (between B c.at_least-low.result) c.in-Some-span.least c.figure_at.result c.box_number-n.result c.in-Some-span.ensures c.at_least-low.ensures c.box_number-n.ensures c.figure_at.ensures)
          c.loop-i.invariant.least;
    })

pub returns-in_default-clause-before : goal.returns-in_default-clause-before
returns-in_default-clause-before g c = (c.loop-i.invariant.most.before, c.loop-i.invariant.least.before)

pub returns-in_default-span-clause-before : goal.returns-in_default-span-clause-before
returns-in_default-span-clause-before g c = (c.loop-i.invariant.most.before, c.loop-i.invariant.least.before)

pub returns-clause-before : goal.returns-clause-before
returns-clause-before g c = (c.loop-i.invariant.most.before, c.loop-i.invariant.least.before)

pub returns-clause-told : goal.returns-clause-told
returns-clause-told g c =
    let B = g.A.Figure.Figure.bits in
    let axes = c.args.axes.now in
    let lines = map g.A.Axis.line axes in
    let counted : length axes ≡ length lines = sym (length-map axes g.A.Axis.line) in
    let few : length lines ≤ 6 = omega (arith, counted, c.requires) in
    let on : (grid_meaning B lines).admits c.args.p.now ≡ true = sym c.admits.ensures ∙ c.if-not-admits.false in
    let u = c.loop-i.out in
    let I = c.loop-i.invariant in
    λ told.
    spans_told B g.met.A.Figure.Figure.exact lines few c.args.p.now on (length axes) counted (record { from = drop c.args.at u.most.from; to = drop c.args.at u.most.to }) (record { from = drop c.args.at u.least.from; to = drop c.args.at u.least.to }) c.loop-i.i c.loop-i-test.false
    (placed_from _ _ _ _ u.most.from u.most.to c.loop-i.i I.most) (placed_from _ _ _ _ u.least.from u.least.to c.loop-i.i I.least)
