use Rattle.space.proofs.Looks.{more_by_lie}
use Rattle.space.proofs.looking.look_by_lies.Goals as goal

pub loop-k-preserved : goal.loop-k-preserved
loop-k-preserved g c =
    λ M p told.
    let t = c.index-trials-k.result in
    more_by_lie M p c.args.trials.now c.loop-k.k t c.loop-k.seen c.with-seen.result c.lie.result c.loop-k-test.true c.index-trials-k.is (c.loop-k.invariant M p told) (told _ c.lie.result c.lie.ensures) c.with-seen.ensures
