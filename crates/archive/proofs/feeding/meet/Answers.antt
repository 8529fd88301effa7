use Rattle.std.proofs.Common.{◌≡◌, [], Ok, get_or, sym, subst, ap, ◌∙◌}
use Rattle.history.specs.declared.verdicts.Verdict.TheVariants.{PassedOver}
use Rattle.history.specs.Step.Outcome.{judged}
use Rattle.archive.specs.declared.deciding.Decision.TheVariants.{PassOver}
use Rattle.archive.specs.Held.{held_by}
use Rattle.archive.specs.Offering.{StepRight}
use Rattle.archive.proofs.Glanced.{rival_goes, rival_stays, tried_by}
use Rattle.archive.proofs.Stepped.{decided_right, passed_right, row_decided_right}
use Rattle.archive.proofs.feeding.meet.Goals as goal

pub returns-then-dominates : goal.returns-then-dominates
returns-then-dominates g c =
    let M = g.S.Space.meaning c.args.space.now in
    let t = c.args.trial in
    let a = c.args.members.now in
    let is : c.index-as_slice-row.result ≡ get_or (held_by a) c.args.row c.index-as_slice-row.result = c.index-as_slice-row.is ∙ ap (λ ms. get_or ms c.args.row c.index-as_slice-row.result) c.as_slice.ensures in
    tried_by M t (held_by a) a c.replace.new.self [] c.replace.new.displaced (Ok c.replace.result) c.requires.0
    (row_decided_right M t a [] (Ok c.replace.result) c.replace.new.self c.replace.new.displaced c.args.row (rival_goes M t (held_by a) c.args.row c.index-as_slice-row.result is c.requires (sym c.dominates.ensures ∙ c.if-dominates.true)) c.replace.ensures)

pub returns-else-dominates : goal.returns-else-dominates
returns-else-dominates g c =
    let M = g.S.Space.meaning c.args.space.now in
    let t = c.args.trial in
    let a = c.args.members.now in
    let is : c.index-as_slice-row.result ≡ get_or (held_by a) c.args.row c.index-as_slice-row.result = c.index-as_slice-row.is ∙ ap (λ ms. get_or ms c.args.row c.index-as_slice-row.result) c.as_slice.ensures in
    tried_by M t (held_by a) a a [] [] (Ok c.passed_over.result) c.requires.0
    (decided_right M t a [] (Ok c.passed_over.result) a [] PassOver (rival_stays M t (held_by a) c.args.row c.index-as_slice-row.result is c.requires (sym c.dominates.ensures ∙ c.if-dominates.false))
    (subst (λ r. StepRight (judged PassedOver [] (held_by a)) a [] (Ok r) a []) (sym c.passed_over.ensures) (passed_right t a [])))
