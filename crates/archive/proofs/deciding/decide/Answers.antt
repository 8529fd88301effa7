use Rattle.std.proofs.Common.{ap, ◌∙◌}
use Rattle.archive.proofs.Decided.{decided_by}
use Rattle.archive.proofs.deciding.decide.Goals as goal

pub first_beaten-requires : goal.first_beaten-requires
first_beaten-requires g c = ap (λ l. l.holders) c.requires

pub returns : goal.returns
returns g c = c.first_step.ensures ∙ decided_by (g.S.Space.meaning c.args.space.now) c.args.trial c.args.members.now c.args.look c.requires c.first_beaten.result c.first_beaten.ensures
