use Rattle.space.proofs.Looks.{more_by_numbers, or_zeros}
use Rattle.space.proofs.looking.look_one_by_one.Goals as goal

pub loop-k-preserved : goal.loop-k-preserved
loop-k-preserved g c =
    λ M p L mine told.
    let t = c.index-trials-k.result in
    let theirs = or_zeros M t.point (L.off_grid t.point) c.boxes.result c.unwrap_or-theirs.result (told _ c.boxes.result c.boxes.ensures) c.unwrap_or-theirs.ensures in
    more_by_numbers M L p c.args.trials.now c.loop-k.k t c.loop-k.look c.with-look.result c.of.result c.args.mine.now c.unwrap_or-theirs.result c.loop-k-test.true c.index-trials-k.is (c.loop-k.invariant M p L mine told) mine theirs c.of.ensures c.with-look.ensures
