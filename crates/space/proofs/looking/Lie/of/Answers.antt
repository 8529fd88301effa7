use Rattle.std.proofs.Common.{◌≡◌, ap, ◌∙◌, arith}
use Rattle.std.specs.Prelude.{slice_index}
use Rattle.space.specs.Boxes.{each_at_least}
use Rattle.space.proofs.looking.Lie.of.Goals as goal

pub returns : goal.returns
returns c =
    let six : c.loop-i.i ≡ 6 = omega arith in
    let over = c.loop-i.invariant.0 ∙ ap (λ k. each_at_least k (slice_index c.args.mine.now) (slice_index c.args.theirs.now)) six in
    let under = c.loop-i.invariant.1 ∙ ap (λ k. each_at_least k (slice_index c.args.theirs.now) (slice_index c.args.mine.now)) six in
    cc
