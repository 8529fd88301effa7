use Rattle.std.proofs.Common.{sym, ◌∙◌, arith}
use Rattle.space.specs.Boxes.{same_box}
use Rattle.archive.proofs.Beaten.{holder_beaten, holder_stays, nobody_beaten, told_nobody, told_one}
use Rattle.archive.proofs.deciding.first_beaten.Goals as goal

pub offset_bounds-members-row : goal.offset_bounds-members-row
offset_bounds-members-row g c =
    let M = g.S.Space.meaning c.args.space.now in
    let alone = told_one (λ m. same_box M c.args.trial.point m.point) c.args.members.now c.in-One.row (sym c.in-One.is ∙ c.requires) in
    omega (arith, alone.0)

pub bounds-members-row : goal.bounds-members-row
bounds-members-row g c =
    let M = g.S.Space.meaning c.args.space.now in
    (told_one (λ m. same_box M c.args.trial.point m.point) c.args.members.now c.in-One.row (sym c.in-One.is ∙ c.requires)).0

pub returns-in-Nobody : goal.returns-in-Nobody
returns-in-Nobody g c =
    let M = g.S.Space.meaning c.args.space.now in
    sym (nobody_beaten M c.args.trial c.args.members.now (told_nobody (λ m. same_box M c.args.trial.point m.point) c.args.members.now (sym c.in-Nobody.is ∙ c.requires)))

pub returns-then-dominates : goal.returns-then-dominates
returns-then-dominates g c =
    let M = g.S.Space.meaning c.args.space.now in
    let alone = told_one (λ m. same_box M c.args.trial.point m.point) c.args.members.now c.in-One.row (sym c.in-One.is ∙ c.requires) in
    sym (holder_beaten M c.args.trial c.args.members.now c.in-One.row alone c.index-members-row.result c.index-members-row.is (sym c.dominates.ensures ∙ c.if-dominates.true))

pub returns-else-dominates : goal.returns-else-dominates
returns-else-dominates g c =
    let M = g.S.Space.meaning c.args.space.now in
    let alone = told_one (λ m. same_box M c.args.trial.point m.point) c.args.members.now c.in-One.row (sym c.in-One.is ∙ c.requires) in
    sym (holder_stays M c.args.trial c.args.members.now c.in-One.row alone c.index-members-row.result c.index-members-row.is (sym c.dominates.ensures ∙ c.if-dominates.false))
