use Rattle.std.proofs.Common.{◌≡◌, ◌<◌, ◌≤◌, rules, subst, ⊎_elim, w32, pos, FitsSigned, ◌≤ℤ◌, arith}
use Rattle.std.specs.Prelude.{slice_index_or}
use Rattle.std.proofs.lemmas.Bool.{cases_lt}
use Rattle.std.proofs.lemmas.Int.{ints, to_z-of_z}
use Rattle.grid.specs.Levels.{InReach, levels_at}
use Rattle.grid.proofs.looking.are_on_grid.Goals as goal

pub loop-i-init : goal.loop-i-init
loop-i-init g c = λ k l. absurd (omega (arith, l))

pub loop-i-preserved : goal.loop-i-preserved
loop-i-preserved g c =
    let i = c.loop-i.i in
    let L = levels_at c.args.levels.now i in
    let low = slice_index_or c.args.lowest.now i (pos 0) in
    let high = slice_index_or c.args.highest.now i (pos 0) in
    let first : FitsSigned w32 L.lowest = search rules in
    let last : FitsSigned w32 L.highest = search rules in
    let least : FitsSigned w32 low = search rules in
    let greatest : FitsSigned w32 high = search rules in
    let down : L.lowest ≤ℤ low = omega (arith, ints, c.if-lowest-i.false, to_z-of_z w32 L.lowest first, to_z-of_z w32 low least) in
    let up : high ≤ℤ L.highest = omega (arith, ints, c.if-levels-i.false, to_z-of_z w32 L.highest last, to_z-of_z w32 high greatest) in
    λ k l.
    ⊎_elim
    (λ (before : k < i). c.loop-i.invariant k before)
    (λ (at : i ≤ k). let same : i ≡ k = omega (arith, l, at) in subst (InReach c.args.levels.now c.args.lowest.now c.args.highest.now) same (down, up))
    (cases_lt k i)

pub returns : goal.returns
returns g c = λ e k l. c.loop-i.invariant k (omega (arith, l, c.loop-i-test.false))
