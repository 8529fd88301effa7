use Rattle.std.proofs.Common.{◌≡◌, ◌≤◌, [], length, take, sym, refl, ap, ◌∙◌, rules}
use Rattle.history.specs.declared.answers.Answer.TheVariants as answer
use Rattle.history.specs.Calls.Call.{audit}
use Rattle.archive.specs.Lent.{lending}
use Rattle.replay.specs.Asking.{call_of, lent_of, rows_of}
use Rattle.replay.proofs.Leavings.{made_list, made_offer}
use Rattle.replay.proofs.Made.{made_as, made_audit, same_list, same_offer, told_by}
use Rattle.replay.proofs.running.AskPointAsked.make.Goals as goal

pub returns-in-Offer-clause-made : goal.returns-in-Offer-clause-made
returns-in-Offer-clause-made g c own other long =
    let M = g.S.Space.meaning c.args.archive.now.space in
    let whole = c.args.list.now in
    let room = c.min-room.result in
    let part = c.offer.new.displaced in
    let within : room ≤ length whole = search rules in
    let size : length part ≡ room = search rules in
    let lent = long ∙ ap (λ x. lent_of own other (rows_of x)) c.in-Offer.is in
    let call = same_offer _ _ _ _ c.in-Offer.trial lent c.min-room.ensures ∙ ap (call_of own other (length whole)) (sym c.in-Offer.is) in
    made_as M _ _ _ _ _ _ _ _ _ _ call (told_by answer.Offered c.offer.result c.told.result c.told.ensures)
    (made_offer M c.in-Offer.trial (lending c.args.archive.now c.args.rows.now (take room whole)) (lending c.offer.new.self c.offer.new.rows part) c.offer.result c.offer.ensures.right whole room within refl size c.args._block.now)

pub returns-in-Audit-clause-made : goal.returns-in-Audit-clause-made
returns-in-Audit-clause-made g c own other long =
    let M = g.S.Space.meaning c.args.archive.now.space in
    let lent = long ∙ ap (λ x. lent_of own other (rows_of x)) c.in-Audit.is in
    let call = ap audit lent ∙ ap (call_of own other (length c.args.list.now)) (sym c.in-Audit.is) in
    made_as M _ _ _ _ _ _ _ _ _ _ call (told_by answer.Audited c.audit.result c.told-in-Audit.result c.told-in-Audit.ensures)
    (made_audit M (lending c.args.archive.now c.args.rows.now []) c.audit.result _ c.audit.ensures)

pub returns-in-List-clause-made : goal.returns-in-List-clause-made
returns-in-List-clause-made g c own other long =
    let M = g.S.Space.meaning c.args.archive.now.space in
    let whole = c.args.list.now in
    let room = c.min-room-in-List.result in
    let within : room ≤ length whole = search rules in
    let lent = long ∙ ap (λ x. lent_of own other (rows_of x)) c.in-List.is in
    let call = same_list _ _ _ _ lent c.min-room-in-List.ensures ∙ ap (call_of own other (length whole)) (sym c.in-List.is) in
    made_as M _ _ _ _ _ _ _ _ _ _ call (told_by answer.Listed c.list.result c.told-in-List.result c.told-in-List.ensures)
    (made_list M (lending c.args.archive.now c.args.rows.now (take room whole)) c.list.result c.list.new.tags c.list.ensures whole room within refl c.args._block.now)
