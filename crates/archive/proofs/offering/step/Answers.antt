use Rattle.std.proofs.Common.{[], Ok, sym, subst}
use Rattle.history.specs.declared.verdicts.Verdict.TheVariants.{PassedOver}
use Rattle.history.specs.Step.Outcome.{judged}
use Rattle.archive.specs.declared.deciding.Decision.TheVariants.{Displace, PassOver, Enter}
use Rattle.archive.specs.Held.{held_by}
use Rattle.archive.specs.Offering.{StepRight}
use Rattle.archive.proofs.Stepped.{decided_right, reached, row_decided_right, row_inside, passed_right}
use Rattle.archive.proofs.offering.step.Goals as goal

pub replace-requires : goal.replace-requires
replace-requires g c =
    let M = g.S.Space.meaning c.args.space.now in
    row_inside M c.args.trial c.args.members.now c.in-Replace.row (reached M c.args.trial c.as_slice.ensures c.decide.ensures c.in-Replace.is)

pub returns-in-Displace : goal.returns-in-Displace
returns-in-Displace g c =
    let M = g.S.Space.meaning c.args.space.now in
    decided_right M c.args.trial c.args.members.now c.args.displaced.now _ c.displace.new.members c.displace.new.displaced
    Displace
    (reached M c.args.trial c.as_slice.ensures c.decide.ensures c.in-Displace.is)
    (rw (c.of.ensures.0, c.of.ensures.1) at c.displace.ensures)

pub returns-in-Replace : goal.returns-in-Replace
returns-in-Replace g c =
    let M = g.S.Space.meaning c.args.space.now in
    row_decided_right M c.args.trial c.args.members.now c.args.displaced.now _ c.replace.new.self c.replace.new.displaced
    c.in-Replace.row
    (reached M c.args.trial c.as_slice.ensures c.decide.ensures c.in-Replace.is)
    c.replace.ensures

pub returns-in-PassOver : goal.returns-in-PassOver
returns-in-PassOver g c =
    let M = g.S.Space.meaning c.args.space.now in
    decided_right M c.args.trial c.args.members.now c.args.displaced.now _ c.args.members.now c.args.displaced.now
    PassOver
    (reached M c.args.trial c.as_slice.ensures c.decide.ensures c.in-PassOver.is)
    (subst (λ r. StepRight (judged PassedOver [] (held_by c.args.members.now)) c.args.members.now c.args.displaced.now (Ok r) c.args.members.now c.args.displaced.now) (sym c.passed_over.ensures) (passed_right c.args.trial c.args.members.now c.args.displaced.now))

pub returns-in-Enter : goal.returns-in-Enter
returns-in-Enter g c =
    let M = g.S.Space.meaning c.args.space.now in
    decided_right M c.args.trial c.args.members.now c.args.displaced.now c.enter.result c.enter.new.self c.args.displaced.now
    Enter
    (reached M c.args.trial c.as_slice.ensures c.decide.ensures c.in-Enter.is)
    (c.enter.ensures c.args.displaced.now)
