use Rattle.std.proofs.Common.{◌≤◌, true, false, sym, ap, subst, arith, rules, w32, to_z, of_z, FitsSigned}
use Rattle.std.specs.Prelude.{negsuc, ◌-ℤ◌, ◌≤ℤ◌}
use Rattle.std.proofs.lemmas.Int.{ints, to_z-of_z}
use Rattle.std.proofs.lemmas.Bool.Decides.{nat_tests}
use Rattle.grid.specs.Bits.{signed_bits}
use Rattle.grid.specs.Levels.{LevelsOf}
use Rattle.step.specs.Direction.{rise}
use Rattle.step.specs.Rule.{step_line}
use Rattle.step.proofs.Levelled.{levels_by_heights}
use Rattle.step.proofs.scaling.Scale.levels.Goals as goal

pub returns-in-LargerIsBetter : goal.returns-in-LargerIsBetter
returns-in-LargerIsBetter c =
    let s = c.args.self.now in
    let low : FitsSigned w32 s.low = search rules in
    let high : FitsSigned w32 s.high = search rules in
    let some : 1 ≤ s.step = grind (arith, nat_tests) in
    let order : s.low ≤ℤ s.high = grind (arith, ints) in
    let first = to_z-of_z w32 s.low low in
    let last = to_z-of_z w32 s.high high in
    λ x there box.
    subst (LevelsOf signed_bits (step_line s) c.args.n) (sym c.levels_from.ensures)
    (levels_by_heights s c.args.n false (to_z w32 (of_z w32 s.low)) (to_z w32 (of_z w32 s.high)) some order (λ v. let up = ap (λ d. rise d s.low s.high v) c.in-LargerIsBetter.is in omega (arith, ints, first, up)) (omega (arith, ints, first, last, order)) x there box)

pub returns-in-SmallerIsBetter : goal.returns-in-SmallerIsBetter
returns-in-SmallerIsBetter c =
    let s = c.args.self.now in
    let low : FitsSigned w32 s.low = search rules in
    let high : FitsSigned w32 s.high = search rules in
    let turned_low : FitsSigned w32 (negsuc 0 -ℤ to_z w32 (of_z w32 s.low)) = search rules in
    let turned_high : FitsSigned w32 (negsuc 0 -ℤ to_z w32 (of_z w32 s.high)) = search rules in
    let some : 1 ≤ s.step = grind (arith, nat_tests) in
    let order : s.low ≤ℤ s.high = grind (arith, ints) in
    let first = to_z-of_z w32 s.low low in
    let last = to_z-of_z w32 s.high high in
    λ x there box.
    subst (LevelsOf signed_bits (step_line s) c.args.n) (sym c.levels_from-in-SmallerIsBetter.ensures)
    (levels_by_heights s c.args.n true (to_z w32 (of_z w32 (negsuc 0 -ℤ to_z w32 (of_z w32 s.high)))) (to_z w32 (of_z w32 (negsuc 0 -ℤ to_z w32 (of_z w32 s.low)))) some order
    (λ v. let up = ap (λ d. rise d s.low s.high v) c.in-SmallerIsBetter.is in omega (arith, ints, last, to_z-of_z w32 (negsuc 0 -ℤ to_z w32 (of_z w32 s.high)) turned_high, up))
    (omega (arith, ints, first, last, to_z-of_z w32 (negsuc 0 -ℤ to_z w32 (of_z w32 s.high)) turned_high, to_z-of_z w32 (negsuc 0 -ℤ to_z w32 (of_z w32 s.low)) turned_low, order)) x there box)
