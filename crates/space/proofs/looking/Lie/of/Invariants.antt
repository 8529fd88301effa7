use Rattle.std.proofs.Common.{◌≡◌}
use Rattle.std.specs.Prelude.{slice_index}
use Rattle.space.specs.Boxes.{each_at_least}
use Rattle.space.proofs.looking.Lie.of.Given as goal

-- the objectives so far
abbrev pub invariant-loop-i : goal.invariant-loop-i
invariant-loop-i l =
    (l.over ≡ each_at_least l.i (slice_index l.mine) (slice_index l.theirs))
    × (l.under ≡ each_at_least l.i (slice_index l.theirs) (slice_index l.mine))
