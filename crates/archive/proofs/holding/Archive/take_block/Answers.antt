use Rattle.std.proofs.Common.{[], arith, sym, refl, ap, ◌∙◌, rules}
use Rattle.std.proofs.lemmas.Result.{err_from_is_err_and}
use Rattle.history.specs.declared.faults.FeedFault.TheVariants.{StrangeRows}
use Rattle.space.specs.Recording.{read_point}
use Rattle.log_block.specs.Reading.{left_to_read}
use Rattle.history.specs.BlockTrials.{trials_of}
use Rattle.history.specs.Reports.{from_log}
use Rattle.log_block.specs.Block.{checked}
use Rattle.archive.specs.Lent.{lending}
use Rattle.archive.proofs.Fed.{checked_few, fault_fed, records_fed, refused_right, strange_fed, taken_right}
use Rattle.archive.proofs.holding.Archive.take_block.Goals as goal

pub returns-then-rows-self-clause-right : goal.returns-then-rows-self-clause-right
returns-then-rows-self-clause-right g c =
    let self = c.args.self.now in
    let M = g.S.Space.meaning self.space in
    let reads = read_point (g.S.Recorded.recording self.space) in
    let a = lending self c.args.rows.now [] in
    refused_right M reads c.args.block.now a (g.met.S.Space.lawful self.space) StrangeRows (strange_fed M reads c.args.block.now a c.if-rows-self.true)

pub returns-in_err-records-clause-right : goal.returns-in_err-records-clause-right
returns-in_err-records-clause-right g c =
    let self = c.args.self.now in
    let M = g.S.Space.meaning self.space in
    let reads = read_point (g.S.Recorded.recording self.space) in
    let a = lending self c.args.rows.now [] in
    let asked = ap (λ m. checked m c.args.block.now) (sym c.objectives.ensures) ∙ c.in_err-records.ensures in
    let fault = fault_fed M reads c.args.block.now a c.if-rows-self.false c.in_err-records.field-0.0 asked in
    let back = err_from_is_err_and c.from_residual.result c.from_residual.ensures.1 in
    rw (back.1, back.2) (refused_right M reads c.args.block.now a (g.met.S.Space.lawful self.space) (from_log c.in_err-records.field-0.0) fault)

pub take_records-fed-requires-clause-few : goal.take_records-fed-requires-clause-few
take_records-fed-requires-clause-few g c =
    omega (arith, checked_few c.objectives.result c.args.block.now (left_to_read c.in_ok-records.records) c.in_ok-records.ensures, c.type_inv.block 1)

pub returns-clause-right : goal.returns-clause-right
returns-clause-right g c =
    let self = c.args.self.now in
    let M = g.S.Space.meaning self.space in
    let reads = read_point (g.S.Recorded.recording self.space) in
    let a = lending self c.args.rows.now [] in
    taken_right M reads c.args.block.now a (g.met.S.Space.lawful self.space) (trials_of reads (left_to_read c.in_ok-records.records)) c.take_records-fed.result _ c.take_records-fed.new.members _ (search rules) refl refl c.if-rows-self.false
    (records_fed M reads c.args.block.now a c.if-rows-self.false (left_to_read c.in_ok-records.records) (ap (λ m. checked m c.args.block.now) (sym c.objectives.ensures) ∙ c.in_ok-records.ensures)) c.take_records-fed.ensures
