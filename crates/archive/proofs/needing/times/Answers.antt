use Rattle.std.proofs.Common.{◌*◌, ap, ◌∙◌, mul-le-mul, arith}
use Rattle.archive.proofs.needing.times.Goals as goal

pub overflow_mul-result : goal.overflow_mul-result
overflow_mul-result g c =
    let few = ((g.met.S.Space.lawful c.args.space.now).small c.args.k).1 in
    let same = ap (λ e. c.args.product * e) (c.from.ensures ∙ c.extent.ensures) in
    omega (arith, mul-le-mul c.requires few, same)
