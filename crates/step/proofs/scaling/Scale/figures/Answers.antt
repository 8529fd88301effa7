use Rattle.step.proofs.Heights.{between_by_heights}
use Rattle.step.proofs.scaling.Scale.figures.Goals as goal
use Rattle.std.proofs.Common.{arith}
use Rattle.std.proofs.lemmas.Int.{to_z-of_z}

pub returns : goal.returns
returns c =
    let s = c.args.self.now in
    λ v. grind (arith, to_z-of_z, between_by_heights s.direction s.low s.high c.figure_at-worst.result c.figure_at-best.result v c.args.from c.args.to)
