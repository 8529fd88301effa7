use Rattle.std.proofs.Common.{◌≡◌, eqb, map, length, sym, ap, ◌∙◌, arith, rules}
use Rattle.std.proofs.lemmas.Bool.{cond-true, eq-eqb}
use Rattle.log_block.specs.Block.{block_of, checked}
use Rattle.log_block.specs.Writing.{fitting_items}
use Rattle.log_block.proofs.Back.{reads_back}
use Rattle.log_block.proofs.Fitting.{count_small, counted_long, counted_sealed}
use Rattle.log_block.proofs.writing.write_block.Goals as goal

pub overflow_cast-block : goal.overflow_cast-block
overflow_cast-block g c =
    let items = fitting_items c.args.objectives (map (g.T.AsRecord.item c.args.objectives) c.args.given.now) in
    omega (arith, c.draft-count.ensures.value, count_small c.args.objectives c.args.number items c.draft-count.ensures.within)

pub returns-clause-after : goal.returns-clause-after
returns-clause-after g c =
    let m = c.args.objectives in
    let number = c.args.number in
    let items = fitting_items m (map (g.T.AsRecord.item m) c.args.given.now) in
    let drafted = c.draft-count.ensures in
    let sealed = counted_sealed m number items c.draft-count.new.block c.draft-count.result (counted_long m number items drafted.within) drafted.after drafted.value in
    let long : length c.args.block.now ≡ 512 = search rules in
    c.seal_block.ensures ∙ (sealed ∙ sym (cond-true (eqb (length c.args.block.now) 512) (block_of m number items) c.args.block.now (eq-eqb (length c.args.block.now) 512 long)))

pub returns-clause-accepted : goal.returns-clause-accepted
returns-clause-accepted g c =
    let m = c.args.objectives in
    let number = c.args.number in
    let items = fitting_items m (map (g.T.AsRecord.item m) c.args.given.now) in
    let drafted = c.draft-count.ensures in
    let room = counted_long m number items drafted.within in
    let sealed = counted_sealed m number items c.draft-count.new.block c.draft-count.result room drafted.after drafted.value in
    ap (checked m) (c.seal_block.ensures ∙ sealed) ∙ reads_back m number items drafted.holds room
