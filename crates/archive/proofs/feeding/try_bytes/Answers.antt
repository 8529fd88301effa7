use Rattle.std.proofs.Common.{◌<◌, [], Ok, sym, subst, arith, refl}
use Rattle.std.proofs.ByRecursion.{All-from_get_or}
use Rattle.word.specs.Word.{Bytes}
use Rattle.space.specs.Recording.{read_point}
use Rattle.space.specs.declared.tagged.Trial.{Trial}
use Rattle.history.specs.declared.verdicts.Verdict.TheVariants.{PassedOver}
use Rattle.history.specs.Step.Outcome.{judged}
use Rattle.archive.specs.declared.deciding.Decision.TheVariants.{PassOver}
use Rattle.archive.specs.Held.{held_by}
use Rattle.archive.specs.Knowing.{Tells}
use Rattle.archive.specs.Offering.{StepRight}
use Rattle.archive.proofs.Glanced.{told_rival, told_shut, tried_by}
use Rattle.archive.proofs.Stepped.{decided_right, passed_right}
use Rattle.archive.proofs.feeding.try_bytes.Goals as goal

pub glance-glance-requires : goal.glance-glance-requires
glance-glance-requires g c =
    λ told.
    let K = c.requires told in
    let few = (g.met.S.Space.lawful c.args.space.now).few in
    (K.room, omega (arith, K.objectives, few.0), omega (arith, K.objectives, few.1))

pub returns-in-Shut : goal.returns-in-Shut
returns-in-Shut g c =
    let M = g.S.Space.meaning c.args.space.now in
    let R = g.S.Recorded.recording c.args.space.now in
    let a = c.args.members.now in
    let bs = c.args.bytes.now in
    let small : Bytes bs = All-from_get_or (λ b. b < 256) bs 0 (λ i l. omega (arith, c.type_inv.bytes i)) in
    let tells = subst (Tells c.args.known.now bs) c.in-Shut.is c.glance-glance.ensures in
    let t : Trial g.row.S-Point.Denot = record { point = read_point R bs; tag = c.args.tag } in
    let seen = told_shut M t (held_by a) R c.args.known.now bs (c.requires tells.0) small refl tells in
    tried_by M t (held_by a) a a [] [] (Ok c.passed_over.result) seen.0
    (decided_right M t a [] (Ok c.passed_over.result) a [] PassOver seen.1
    (subst (λ r. StepRight (judged PassedOver [] (held_by a)) a [] (Ok r) a []) (sym c.passed_over.ensures) (passed_right t a [])))

pub meet-requires : goal.meet-requires
meet-requires g c =
    let M = g.S.Space.meaning c.args.space.now in
    let R = g.S.Recorded.recording c.args.space.now in
    let a = c.args.members.now in
    let bs = c.args.bytes.now in
    let small : Bytes bs = All-from_get_or (λ b. b < 256) bs 0 (λ i l. omega (arith, c.type_inv.bytes i)) in
    let tells = subst (Tells c.args.known.now bs) c.in-Rival.is c.glance-glance.ensures in
    told_rival M (record { point = c.read_or_blank.result; tag = c.args.tag }) (held_by a) R c.args.known.now bs (c.requires tells.0) small c.read_or_blank.ensures.value c.in-Rival.row tells
