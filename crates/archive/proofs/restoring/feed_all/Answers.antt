use Rattle.std.proofs.Common.{refl, rules}
use Rattle.std.proofs.lemmas.List.{map_more}
use Rattle.archive.proofs.Returned.{fed_none}
use Rattle.archive.proofs.restoring.feed_all.Goals as goal

pub loop-block-init : goal.loop-block-init
loop-block-init g c = (refl, fed_none _ _ _ _ (search rules) c.requires)

pub loop-block-preserved : goal.loop-block-preserved
loop-block-preserved g c =
    let more = map_more (λ b. b.now) c.args.blocks.now c.loop-block.block-index _ c.loop-block-test.true in
    rw more (c.feed_more-total.ensures _ _ c.loop-block.invariant.0 c.loop-block.invariant.1)
