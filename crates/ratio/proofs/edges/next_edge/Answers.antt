use Rattle.std.proofs.Common.{◌+◌, arith}
use Rattle.std.proofs.lemmas.Nat.{mul-le}
use Rattle.ratio.proofs.edges.next_edge.Goals as goal

pub overflow_mul-from : goal.overflow_mul-from
overflow_mul-from c = omega (arith, mul-le c.args.from (100 + c.args.per_cent) 1000000 200 (omega arith) (omega arith))
