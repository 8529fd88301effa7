use Rattle.std.proofs.Common.{◌≡◌, ◌+◌, length, take, subst, sym, ◌∙◌, refl, arith}
use Rattle.std.proofs.lemmas.List.{take_all}
use Rattle.grid.specs.Levels.{each_place, from_on, up_to}
use Rattle.grid.proofs.Counting.{Counted, counted_all, counted_more}
use Rattle.grid.proofs.Scanning.{Reaches, all_reached, reaches_more}
use Rattle.grid.proofs.looking.scan.Goals as goal

pub loop-k-preserved : goal.loop-k-preserved
loop-k-preserved g c =
    let B = g.F.Figure.bits in
    let N = g.row.N in
    let levels = c.args.levels.now in
    let trials = c.args.trials.now in
    let k = c.loop-k.k in
    let t = c.index-trials-k.result in
    let told = c.hold-missed.ensures in (
      reaches_more B levels N trials k t c.loop-k.lowest c.loop-k.highest c.hold-missed.new.lowest c.hold-missed.new.highest c.loop-k-test.true c.index-trials-k.is c.loop-k.invariant.0 told.reach,
      subst
          (Counted (λ t. each_place B up_to levels t.point N) (λ t. each_place B from_on levels t.point N) (take (k + 1) trials))
          (sym c.with-counts.ensures)
          (counted_more (λ t. each_place B up_to levels t.point N) (λ t. each_place B from_on levels t.point N) trials k t c.loop-k.counts c.hold-missed.result c.loop-k-test.true c.requires.1 c.index-trials-k.is told.most told.least c.loop-k.invariant.1),
    )

pub returns-then-are_on_grid : goal.returns-then-are_on_grid
returns-then-are_on_grid g c =
    let B = g.F.Figure.bits in
    let N = g.row.N in
    let levels = c.args.levels.now in
    let trials = c.args.trials.now in
    let all : c.loop-k.k ≡ length trials = omega (arith, c.loop-k-test.false, c.loop-k.auto.k-end) in (
      all_reached B levels N trials c.loop-k.lowest c.loop-k.highest (subst (λ n. Reaches B levels N trials n c.loop-k.lowest c.loop-k.highest) all c.loop-k.invariant.0) (c.are_on_grid.ensures c.if-are_on_grid.true),
      c.end.ensures ∙ counted_all (λ t. each_place B up_to levels t.point N) (λ t. each_place B from_on levels t.point N) trials c.loop-k.counts (length trials) refl (subst (λ ts. Counted (λ t. each_place B up_to levels t.point N) (λ t. each_place B from_on levels t.point N) ts c.loop-k.counts) (take_all c.loop-k.k trials (omega (arith, all))) c.loop-k.invariant.1),
    )
