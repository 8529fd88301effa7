use Rattle.std.proofs.Common.{max, ap, ◌∙◌, arith}
use Rattle.history.specs.Saving.{block_count}
use Rattle.archive.proofs.Saved.{rounded_up, some_per_block}
use Rattle.archive.proofs.saving.Layout.block_count.Goals as goal

pub returns : goal.returns
returns g c =
    let layout = c.args.self.now in
    let some = some_per_block (g.S.Space.meaning layout.space.now) (g.met.S.Space.lawful layout.space.now) in
    c.max.ensures ∙ ap (λ n. max n 1) c.div_ceil.ensures ∙ rounded_up layout.room c.args.count (omega (arith, some.0, layout.fits)) ∙ ap (λ q. block_count q c.args.count) layout.fits
