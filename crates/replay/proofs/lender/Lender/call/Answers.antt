use Rattle.std.proofs.Common.{◌≡◌, ◌≤◌, length, take, sym, ap, ◌∙◌, rules}
use Rattle.std.proofs.lemmas.List.{length-take-le}
use Rattle.replay.specs.Asking.{lent_of}
use Rattle.replay.proofs.lender.Lender.call.Goals as goal

pub returns-else-lent-self-clause-ran : goal.returns-else-lent-self-clause-ran
returns-else-lent-self-clause-ran g c =
    let self = c.args.self.now in
    let strange = self.strange.now in
    let lent = c.lent-lent.result in
    let few : lent ≤ length strange = search rules in
    let long : length (take lent strange) ≡ lent = length-take-le lent strange few in
    let wanted = c.lent-lent.ensures ∙ ap (lent_of (length self.own.now) (length strange)) c.rows.ensures in
    let made = c.make-else-lent-self.ensures.made (length self.own.now) (length strange) (long ∙ wanted) in
    made.apart (λ e. c.if-lent-self.false (sym long ∙ (e ∙ sym c.requires))) self.own.now
