use Rattle.std.proofs.Common.{◌≡◌, ◌+◌, ◌-◌, sym, ap, ◌∙◌, arith}
use Rattle.std.proofs.lemmas.Result.{err_from_is_err_and}
use Rattle.log_block.specs.Block.{records_check}
use Rattle.log_block.specs.Reading.{seen}
use Rattle.log_block.proofs.Steps.{check_fault, check_more, check_none}
use Rattle.log_block.proofs.checking.check_records.Goals as goal

pub returns-in_err-rest : goal.returns-in_err-rest
returns-in_err-rest c =
    let p = err_from_is_err_and c.from_residual.result c.from_residual.ensures.1 in
    let fault = check_fault c.args.records.objectives (c.args.records.count - c.loop.counter) c.loop.rest.now c.in_err-rest.field-0.0 (omega arith) (sym c.in_err-rest.ensures) in
    let refused = p.1 in
    let told = p.2 in
    cc

pub loop-preserved : goal.loop-preserved
loop-preserved c =
    let more = check_more c.args.records.objectives (c.args.records.count - c.loop.counter) c.loop.rest.now (seen c.in_ok-rest.field-0-0) c.in_ok-rest.field-0-1.now (omega arith) (sym c.in_ok-rest.ensures) in
    let less : c.args.records.count - (c.loop.counter + 1) ≡ c.args.records.count - c.loop.counter - 1 = omega arith in
    ap (λ n. records_check c.args.records.objectives n c.in_ok-rest.field-0-1.now) less ∙ (sym more ∙ c.loop.invariant)

pub returns : goal.returns
returns c =
    let none = check_none c.args.records.objectives (c.args.records.count - c.loop.counter) c.loop.rest.now (omega arith) in
    cc
