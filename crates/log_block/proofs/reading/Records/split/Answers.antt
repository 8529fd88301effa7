use Rattle.std.proofs.Common.{◌≡◌, ◌-◌, sym, ◌∙◌, rules, arith}
use Rattle.log_block.specs.Reading.{seen}
use Rattle.log_block.proofs.Steps.{in_more, in_none, read_none, read_one}
use Rattle.log_block.proofs.reading.Records.split.Goals as goal

pub returns-in_err-count : goal.returns-in_err-count
returns-in_err-count c =
    let none = in_none c.args.self.now.objectives c.args.self.now.count c.args.self.now.rest.now (omega arith) in
    search rules

pub returns-in_err-record : goal.returns-in_err-record
returns-in_err-record c =
    let none = read_none c.args.self.now.objectives c.args.self.now.count c.args.self.now.rest.now c.first_record.result c.first_record.ensures (sym c.ok.ensures.value ∙ c.in_err-record.was) in
    search rules

pub returns : goal.returns
returns c =
    let told = read_one c.args.self.now.objectives c.args.self.now.rest.now c.first_record.result (c.in_ok-record.record, c.in_ok-record.rest) c.first_record.ensures (sym c.ok.ensures.value ∙ c.in_ok-record.was) in
    let more = in_more c.args.self.now.objectives c.args.self.now.count c.args.self.now.rest.now (seen c.in_ok-record.record) c.in_ok-record.rest.now (omega arith) told in
    let one : c.in_ok-count.count ≡ c.args.self.now.count - 1 = search rules in
    let here = c.place-place.ensures in
    cc
