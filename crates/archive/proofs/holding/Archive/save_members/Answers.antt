use Rattle.std.proofs.Common.{Err, sym, ◌≡◌, ◌*◌, ◌≤◌, [], length, take, refl, ap, ◌∙◌, subst, arith, rules}
use Rattle.space.specs.Recording.{WritableIfAdmitted}
use Rattle.history.specs.Lists.{EachIn}
use Rattle.history.specs.Saving.{block_count, part, per_block}
use Rattle.history.specs.declared.denials.Denial.TheVariants.{StrangeRows}
use Rattle.archive.specs.Lent.{lending}
use Rattle.archive.specs.Saving.{SaveRight}
use Rattle.archive.proofs.Idle.{strange_is}
use Rattle.archive.proofs.Saved.{block_begins, block_saved, blocks_few, nothing_written, part_long, save_granted, save_past, save_right, save_wrong, some_per_block}
use Rattle.archive.proofs.holding.Archive.save_members.Goals as goal

pub returns-in_err-members : goal.returns-in_err-members
returns-in_err-members g c =
    let M = g.S.Space.meaning c.args.self.now.space in
    let R = g.S.Recorded.recording c.args.self.now.space in
    let told : c.from_residual.result ≡ Err StrangeRows = search rules in
    let a = lending c.args.self.now c.args.rows.now [] in
    subst (λ r. SaveRight M R c.args.number a c.args.block.now r c.args.block.now) (sym told) (save_right M R (g.met.S.Space.lawful c.args.self.now.space) _ a _ _ _ (strange_is _ _ _ c.in_err-members.ensures.1) refl nothing_written)

pub returns-then-block-ne512 : goal.returns-then-block-ne512
returns-then-block-ne512 g c =
    let a = c.args.self.now in
    let rows = c.args.rows.now in
    save_right _ _ (g.met.S.Space.lawful a.space) _ _ _ _ _ (save_wrong a.rows (length rows) c.args.number (length c.args.block.now) (g.S.Space.meaning a.space) (take a.count rows) c.in_ok-members.ensures.0 c.if-block-ne512.true) refl nothing_written

pub returns-then-block_count-number : goal.returns-then-block_count-number
returns-then-block_count-number g c =
    let a = c.args.self.now in
    let M = g.S.Space.meaning a.space in
    let rows = c.args.rows.now in
    save_right _ _ (g.met.S.Space.lawful a.space) _ _ _ _ _
    (save_past a.rows (length rows) c.args.number (length c.args.block.now) M (take a.count rows) c.in_ok-members.ensures.0 c.if-block-ne512.false
    (omega (arith, rw c.new-layout.ensures at c.block_count.ensures, ap (λ ms. block_count (per_block M) (length ms)) c.in_ok-members.ensures.1, c.if-block_count-number.true)))
    refl nothing_written

pub part-part-requires : goal.part-part-requires
part-part-requires g c =
    let a = c.args.self.now in
    let M = g.S.Space.meaning a.space in
    let some = some_per_block M (g.met.S.Space.lawful a.space) in
    let begins = block_begins (per_block M) (length c.in_ok-members.members.now) c.args.number some.0 (omega (arith, rw c.new-layout.ensures at c.block_count.ensures, c.if-block_count-number.false)) in
    let room : c.new-layout.result.room ≡ per_block M = rw c.new-layout.ensures at c.new-layout.result.fits in
    let same = ap (λ q. c.args.number * q) room in
    omega (arith, same, begins, c.in_ok-members.ensures.2)

pub write_part-requires-clause-fits : goal.write_part-requires-clause-fits
write_part-requires-clause-fits g c =
    let a = c.args.self.now in
    let M = g.S.Space.meaning a.space in
    let few : a.count ≤ 4096 = search rules in
    let count = c.in_ok-members.ensures.2 in
    let some = some_per_block M (g.met.S.Space.lawful a.space) in
    let blocks = blocks_few (per_block M) (length c.in_ok-members.members.now) some.1 in
    (omega (arith, rw c.new-layout.ensures at c.block_count.ensures, c.if-block_count-number.false), c.if-block-ne512.false)

pub returns : goal.returns
returns g c =
    let a = c.args.self.now in
    let M = g.S.Space.meaning a.space in
    let rows = c.args.rows.now in
    let members = take a.count rows in
    let k = c.args.number in
    let written : c.part-part.result.now ≡ part (per_block M) members k = (rw c.new-layout.ensures at c.part-part.ensures) ∙ ap (λ ms. part (per_block M) ms k) c.in_ok-members.ensures.1 in
    save_right _ _ (g.met.S.Space.lawful a.space) _ _ _ _ _
    (save_granted a.rows (length rows) k (length c.args.block.now) M members c.in_ok-members.ensures.0 c.if-block-ne512.false (length c.part-part.result.now)
    (omega (arith, rw c.new-layout.ensures at c.block_count.ensures, ap (λ ms. block_count (per_block M) (length ms)) c.in_ok-members.ensures.1, c.if-block_count-number.false))
    (ap length written ∙ part_long (per_block M) members k))
    (block_saved M (g.S.Recorded.recording a.space) (g.met.S.Space.lawful a.space) k (lending a rows []) c.args.block.now (length c.part-part.result.now) c.write_part.new.block c.part-part.result.now written (rw c.new-layout.ensures at c.write_part.ensures.after))
    (λ _. subst (λ ms. EachIn ms (λ r. WritableIfAdmitted M (g.S.Recorded.recording a.space) r.point)) written (rw c.new-layout.ensures at c.write_part.ensures.writable))
