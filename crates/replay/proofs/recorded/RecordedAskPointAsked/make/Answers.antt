use Rattle.std.proofs.Common.{◌≤◌, [], length, sym, refl, ap, ◌∙◌, rules}
use Rattle.history.specs.declared.answers.Answer.TheVariants as answer
use Rattle.history.specs.Calls.Call.{feed}
use Rattle.archive.specs.Lent.{lending}
use Rattle.replay.specs.Asking.{lent_of, recorded_call_of, recorded_rows_of}
use Rattle.replay.proofs.Blocks.{made_feed, made_plain, made_save}
use Rattle.replay.proofs.Made.{made_as, same_save, told_by}
use Rattle.replay.proofs.recorded.RecordedAskPointAsked.make.Goals as goal

pub returns-in-Plain-clause-made : goal.returns-in-Plain-clause-made
returns-in-Plain-clause-made g c own other long =
    let M = g.S.Space.meaning c.args.archive.now.space in
    let R = g.S.Recorded.recording c.args.archive.now.space in
    let list = length c.args.list.now in
    let block = length c.args.block.now in
    let call = ap (recorded_call_of own other list block) (sym c.in-Plain.is) in
    made_as M _ _ _ _ _ _ _ _ _ _ call refl
    (made_plain M R own other list block c.in-Plain.ask _ _ _ _ _ (c.make.ensures.made own other (long ∙ ap (λ x. lent_of own other (recorded_rows_of x)) c.in-Plain.is)))

pub returns-in-Feed-clause-made : goal.returns-in-Feed-clause-made
returns-in-Feed-clause-made g c own other long =
    let M = g.S.Space.meaning c.args.archive.now.space in
    let R = g.S.Recorded.recording c.args.archive.now.space in
    let block = c.in-Feed.written.now in
    let lent = long ∙ ap (λ x. lent_of own other (recorded_rows_of x)) c.in-Feed.is in
    let call = ap (λ n. feed n block) lent ∙ ap (recorded_call_of own other (length c.args.list.now) (length c.args.block.now)) (sym c.in-Feed.is) in
    made_as M _ _ _ _ _ _ _ _ _ _ call c.fed.ensures
    (made_feed M R block (lending c.args.archive.now c.args.rows.now []) (lending c.feed.new.self c.feed.new.rows []) c.feed.result _ c.feed.ensures.right)

pub returns-in-Save-clause-made : goal.returns-in-Save-clause-made
returns-in-Save-clause-made g c own other long =
    let M = g.S.Space.meaning c.args.archive.now.space in
    let R = g.S.Recorded.recording c.args.archive.now.space in
    let whole = c.args.block.now in
    let size = c.min-size.result in
    let within : size ≤ length whole = search rules in
    let lent = long ∙ ap (λ x. lent_of own other (recorded_rows_of x)) c.in-Save.is in
    let call = same_save _ _ c.in-Save.number _ _ lent c.min-size.ensures ∙ ap (recorded_call_of own other (length c.args.list.now) (length whole)) (sym c.in-Save.is) in
    made_as M _ _ _ _ _ _ _ _ _ _ call (told_by answer.Saved c.save.result c.told.result c.told.ensures)
    (made_save M R c.in-Save.number (lending c.args.archive.now c.args.rows.now []) c.save.result c.save.new.block whole size within c.save.ensures c.args.list.now)
