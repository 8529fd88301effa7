use Rattle.std.proofs.Common.{◌≡◌, ◌-◌}
use Rattle.log_block.specs.Block.{records_check}
use Rattle.log_block.proofs.checking.check_records.Given as goal

abbrev pub invariant-loop : goal.invariant-loop
invariant-loop l = records_check l.records.objectives (l.end - l.counter) l.rest ≡ records_check l.records.objectives l.records.count l.records.rest.now
