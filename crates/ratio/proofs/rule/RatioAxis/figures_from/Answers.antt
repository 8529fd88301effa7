use Rattle.std.proofs.Common.{arith}
use Rattle.std.proofs.lemmas.Bool.Decides.{nat_tests}
use Rattle.ratio.specs.Climbing.{box_mono, edge_first, edge_mono}
use Rattle.ratio.proofs.Finding.{begun_by_box}
use Rattle.ratio.proofs.rule.RatioAxis.figures_from.Goals as goal

pub returns-then-n-self : goal.returns-then-n-self
returns-then-n-self c = λ v.
    let a = c.args.self.now in
    let p = a.scale.per_cent in
    let n = c.args.n in
    let here = a.filled n c.if-n-self.true in
    let first = edge_first p in
    let rising = edge_mono p 0 n (omega arith) in
    let begun = begun_by_box p v n in
    grind (arith, nat_tests)

pub returns-else-n-self : goal.returns-else-n-self
returns-else-n-self c = λ v.
    let a = c.args.self.now in
    let last = box_mono a.scale.per_cent v a.scale.ceiling in
    grind (arith, nat_tests)
