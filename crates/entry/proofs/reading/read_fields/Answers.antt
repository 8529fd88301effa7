use Rattle.std.proofs.Common.{inl, arith}
use Rattle.entry.proofs.Spaces.{three_before}
use Rattle.entry.proofs.reading.read_fields.Goals as goal

pub count-requires-clause-fits : goal.count-requires-clause-fits
count-requires-clause-fits c =
    inl (omega (arith, three_before _ _ _ _ _ _ _ c.in-Some.ensures.steps c.in-Some-next.ensures.steps c.in-Some-next-2.ensures.steps))

pub overflow_add-result : goal.overflow_add-result
overflow_add-result c =
    let few = three_before _ _ _ _ _ _ _ c.in-Some.ensures.steps c.in-Some-next.ensures.steps c.in-Some-next-2.ensures.steps in
    grind arith
