use Rattle.std.proofs.Common.{◌≤◌, nat_le, arith}
use Rattle.std.specs.Prelude.{unsigned_abs, ◌-ℤ◌, ◌≤ℤ◌}
use Rattle.std.proofs.lemmas.Int.{ints}
use Rattle.std.proofs.lemmas.Bool.Decides.{nat_tests}
use Rattle.step.specs.Rule.{height, box_of, on_grid}
use Rattle.step.proofs.Heights.{grid_by_heights, heights_up_to, tested}
use Rattle.step.proofs.scaling.Scale.at_most.Goals as goal

pub returns : goal.returns
returns c = λ v.
    let s = c.args.self.now in
    let n = c.args.n in
    let some : 1 ≤ s.step = grind (arith, nat_tests) in
    let order : s.low ≤ℤ s.high = grind (arith, ints) in
    let way = unsigned_abs (s.high -ℤ s.low) in
    let ends = c.figures.ensures v in
    let up_to = heights_up_to (height s v) s.step n way some in
    let grid = grid_by_heights s.direction s.low s.high v order in
    let box = tested (on_grid s v) (box_of s v) (λ b. nat_le b n) in
    cc
