use Rattle.std.proofs.Common.{◌<◌, length, get_or, drop, Ok, Err, sym, ap, arith, rules}
use Rattle.std.proofs.lemmas.List.{take_rest}
use Rattle.std.proofs.lemmas.Result.{err_from_is_err_and}
use Rattle.log_block.specs.Reading.{seen}
use Rattle.log_block.proofs.Firsts.{first_cut, first_short, first_told}
use Rattle.log_block.proofs.reading.first_record.Goals as goal

pub returns-in_default : goal.returns-in_default
returns-in_default c =
    let short = first_short c.args.objectives c.args.rest.now (search rules) in
    cc

pub returns-in_default-split_at_checked : goal.returns-in_default-split_at_checked
returns-in_default-split_at_checked c =
    let rest = take_rest c.args.rest.now 2 in
    let less : length (drop 2 c.args.rest.now) < get_or c.args.rest.now 1 0 = omega (arith, ap length rest, c.in_default-split_at_checked.ensures.cases, c.from.ensures) in
    let cut = first_cut c.args.objectives c.args.rest.now (search rules) less in
    cc

pub returns-in_err-record : goal.returns-in_err-record
returns-in_err-record c =
    let p = err_from_is_err_and c.from_residual.result c.from_residual.ensures.1 in
    let told = first_told c.args.objectives c.args.rest.now c.from.result c.place-place.result c.in-Some.content.now c.in-Some.after.now (Err c.in_err-record.field-0.0) (search rules) c.from.ensures (search rules) c.place-place.ensures (search rules) (search rules) c.in_err-record.ensures in
    rw (p.1, p.2) (sym told)

pub returns : goal.returns
returns c =
    sym (first_told c.args.objectives c.args.rest.now c.from.result c.place-place.result c.in-Some.content.now c.in-Some.after.now (Ok (seen c.in_ok-record.record)) (search rules) c.from.ensures (search rules) c.place-place.ensures (search rules) (search rules) c.in_ok-record.ensures)
