use Rattle.std.proofs.Common.{◌≡◌, ◌++◌, length, take, drop, Err, sym, refl, ap, ◌∙◌, subst, arith, rules}
use Rattle.history.specs.declared.denials.Denial.TheVariants.{StrangeRows}
use Rattle.archive.specs.Lent.{lending}
use Rattle.archive.specs.Listing.{ListRight}
use Rattle.archive.proofs.Idle.{list_granted, list_right, list_short, strange_is}
use Rattle.archive.proofs.Tags.{tags_of}
use Rattle.archive.proofs.holding.Archive.list_members.Goals as goal

pub returns-in_err-members : goal.returns-in_err-members
returns-in_err-members g c =
    let M = g.S.Space.meaning c.args.self.now.space in
    let told : c.from_residual.result ≡ Err StrangeRows = search rules in
    let a = lending c.args.self.now c.args.rows.now c.args.tags.now in
    subst (λ r. ListRight M a r c.args.tags.now) (sym told) (list_right M (g.met.S.Space.lawful c.args.self.now.space) a _ _ (strange_is _ _ _ c.in_err-members.ensures.1) refl)

pub returns-then-tags-members : goal.returns-then-tags-members
returns-then-tags-members g c =
    let a = c.args.self.now in
    let rows = c.args.rows.now in
    let found = c.in_ok-members.ensures in
    list_right _ (g.met.S.Space.lawful a.space) _ _ _ (list_short a.rows (length rows) (length c.args.tags.now) (take a.count rows) found.0 (omega (arith, ap length found.1, c.if-tags-members.true))) refl

pub returns : goal.returns
returns g c =
    let a = c.args.self.now in
    let rows = c.args.rows.now in
    let tags = c.args.tags.now in
    let found = c.in_ok-members.ensures in
    list_right _ (g.met.S.Space.lawful a.space) _ _ _
    (list_granted a.rows (length rows) (length tags) (length c.in_ok-members.members.now) (take a.count rows) found.0 (ap length found.1) c.if-tags-members.false)
    (c.write_tags.ensures ∙ ap (λ ms. tags_of ms ++ drop (length c.in_ok-members.members.now) tags) found.1)
