use Rattle.std.proofs.Common.{arith}
use Rattle.std.proofs.lemmas.Bool.Decides.{nat_tests}
use Rattle.ratio.proofs.Finding.{begun_by_box}
use Rattle.ratio.proofs.rule.RatioAxis.begins.Goals as goal

pub returns : goal.returns
returns c =
    let a = c.args.self.now in
    let begun = begun_by_box a.scale.per_cent c.args.v c.args.k c.requires.1 in
    let here = a.filled c.args.k (omega arith) in
    grind (arith, nat_tests)
