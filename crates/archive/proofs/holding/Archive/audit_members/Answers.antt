use Rattle.std.proofs.Common.{◌≡◌, length, Ok, Err, sym, ap, ◌∙◌, rules}
use Rattle.history.specs.declared.denials.Denial.TheVariants.{StrangeRows}
use Rattle.history.specs.Auditing.{first_pair}
use Rattle.archive.proofs.Idle.{audit_right, own, strange_is}
use Rattle.archive.proofs.holding.Archive.audit_members.Goals as goal

pub returns-in_err-members : goal.returns-in_err-members
returns-in_err-members g c =
    let told : c.from_residual.result ≡ Err StrangeRows = search rules in
    audit_right _ (g.met.S.Space.lawful c.args.self.now.space) _ _ (told ∙ strange_is _ _ _ c.in_err-members.ensures.1)

pub returns : goal.returns
returns g c =
    let a = c.args.self.now in
    let M = g.S.Space.meaning a.space in
    let found = c.in_ok-members.ensures in
    audit_right _ (g.met.S.Space.lawful a.space) _ _ (ap (λ p. Ok p) (c.first_fault.ensures ∙ ap (first_pair M) found.1) ∙ sym (own a.rows (length c.args.rows.now) _ found.0))
