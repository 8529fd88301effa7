use Rattle.std.proofs.Common.{◌≡◌, ◌<◌, cond, get_or, not, rules, w32, pos, to_z, of_z, FitsSigned, bit_or, ap, subst, ◌∙◌, arith}
use Rattle.std.specs.Prelude.{int_lt, slice_index_or}
use Rattle.std.specs.Int.{int_max, int_min}
use Rattle.std.proofs.lemmas.Int.{to_z-of_z}
use Rattle.std.proofs.lemmas.List.{get_or_default}
use Rattle.grid.specs.Levels.{Reached, each_place, from_on, level, level_of, levels_at, up_to}
use Rattle.grid.specs.Space.{figure_at}
use Rattle.grid.proofs.Scanning.{held_more, held_none, not_less}
use Rattle.grid.proofs.looking.hold.Goals as goal

pub loop-i-init : goal.loop-i-init
loop-i-init g c = held_none g.F.Figure.bits c.args.levels.now c.args.q.now c.args.lowest.now c.args.highest.now c.told-lowest c.told-highest

pub loop-i-preserved : goal.loop-i-preserved
loop-i-preserved g c =
    let B = g.F.Figure.bits in
    let q = c.args.q.now in
    let levels = c.args.levels.now in
    let i = c.loop-i.i in
    let L = levels_at levels i in
    let six : i < 6 = omega (arith, c.loop-i-test.true, c.requires) in
    let here : get_or q i c.index-q-i.result ≡ figure_at B q i = get_or_default q i c.index-q-i.result B.zero (omega (arith, six, c.told-q)) in
    let this : c.level-level.result ≡ level_of B levels q i = c.level-level.ensures ∙ ap (level B L) here in
    let fits : FitsSigned w32 c.level-level.result = search rules in
    let top : FitsSigned w32 L.top = search rules in
    let bottom : FitsSigned w32 L.bottom = search rules in
    let low : FitsSigned w32 (slice_index_or c.loop-i.lowest i (pos 0)) = search rules in
    let high : FitsSigned w32 (slice_index_or c.loop-i.highest i (pos 0)) = search rules in
    let least : FitsSigned w32 c.min.result = search rules in
    let most : FitsSigned w32 c.max.result = search rules in
    let lv = c.level-level.result in
    let lowest = slice_index_or c.loop-i.lowest i (pos 0) in
    let highest = slice_index_or c.loop-i.highest i (pos 0) in
    let itself = to_z-of_z w32 lv fits in
    held_more B levels q c.args.lowest.now c.args.highest.now i c.loop-i.most c.loop-i.least c.loop-i.lowest c.loop-i.highest _ _ _ _ _ _ six c.loop-i.invariant
    (ap (bit_or c.loop-i.most) c.one_if-most.ensures) (ap (bit_or c.loop-i.least) c.one_if-least.ensures)
    (ap (λ z. not (int_lt z (to_z w32 (of_z w32 lv)))) (to_z-of_z w32 L.top top) ∙ ap (λ z. not (int_lt L.top z)) (itself ∙ this) ∙ not_less L.top (level_of B levels q i))
    (ap (λ z. not (int_lt (to_z w32 (of_z w32 lv)) z)) (to_z-of_z w32 L.bottom bottom) ∙ ap (λ z. not (int_lt z L.bottom)) (itself ∙ this) ∙ not_less (level_of B levels q i) L.bottom)
    (to_z-of_z w32 c.min.result least ∙ c.min.ensures.value ∙ ap (λ z. int_min z (to_z w32 (of_z w32 lv))) (to_z-of_z w32 lowest low) ∙ ap (int_min lowest) (itself ∙ this))
    (to_z-of_z w32 c.max.result most ∙ c.max.ensures.value ∙ ap (λ z. int_max z (to_z w32 (of_z w32 lv))) (to_z-of_z w32 highest high) ∙ ap (int_max highest) (itself ∙ this))

pub returns-clause-most : goal.returns-clause-most
returns-clause-most g c = let all : c.loop-i.i ≡ g.row.N = omega (arith, c.loop-i-test.false, c.loop-i.auto.i-end) in c.loop-i.invariant.most ∙ ap (λ n. cond (each_place g.F.Figure.bits up_to c.args.levels.now c.args.q.now n) 0 1) all

pub returns-clause-least : goal.returns-clause-least
returns-clause-least g c = let all : c.loop-i.i ≡ g.row.N = omega (arith, c.loop-i-test.false, c.loop-i.auto.i-end) in c.loop-i.invariant.least ∙ ap (λ n. cond (each_place g.F.Figure.bits from_on c.args.levels.now c.args.q.now n) 0 1) all

pub returns-clause-reach : goal.returns-clause-reach
returns-clause-reach g c =
    let all : c.loop-i.i ≡ g.row.N = omega (arith, c.loop-i-test.false, c.loop-i.auto.i-end) in
    subst (λ n. Reached n (level_of g.F.Figure.bits c.args.levels.now c.args.q.now) c.args.lowest.now c.args.highest.now c.loop-i.lowest c.loop-i.highest) all c.loop-i.invariant.reach
