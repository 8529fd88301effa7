use Rattle.std.proofs.Common.{◌+◌, ◌≤◌, arith}
use Rattle.std.proofs.lemmas.Bool.Decides.{nat_tests}
use Rattle.ratio.specs.Edges.{box_of}
use Rattle.ratio.specs.Climbing.{box_mono, box_holds, edge_first, edge_mono}
use Rattle.ratio.proofs.Finding.{begun_by_box}
use Rattle.ratio.proofs.rule.RatioAxis.figures_up_to.Goals as goal

pub overflow_sub-result : goal.overflow_sub-result
overflow_sub-result c =
    let a = c.args.self.now in
    let p = a.scale.per_cent in
    let n = c.args.n in
    omega (arith, a.filled (n + 1) c.if-next-self.true, edge_first p, edge_mono p 0 (n + 1) (omega arith))

pub returns-then-next-self : goal.returns-then-next-self
returns-then-next-self c = λ v.
    let a = c.args.self.now in
    let p = a.scale.per_cent in
    let top = a.scale.ceiling in
    let n = c.args.n in
    let here = a.filled (n + 1) c.if-next-self.true in
    let some-top : 1 ≤ top = grind (arith, nat_tests) in
    let within = (box_holds p top some-top).0 in
    let rising = edge_mono p (n + 1) (box_of p top) (omega arith) in
    let begun = begun_by_box p v (n + 1) in
    grind (arith, nat_tests)

pub returns-else-next-self : goal.returns-else-next-self
returns-else-next-self c = λ v.
    let a = c.args.self.now in
    let last = box_mono a.scale.per_cent v a.scale.ceiling in
    grind (arith, nat_tests)
