use Rattle.std.proofs.Common.{◌≡◌, map, length, take}
use Rattle.log_block.specs.Writing.{trial_item}
use Rattle.space.specs.Recording.{WritableIfAdmitted}
use Rattle.history.specs.Lists.{EachIn}
use Rattle.history.specs.Saving.{item_for}
use Rattle.archive.proofs.saving.Layout.part_bytes.Given as goal

abbrev pub invariant-loop-i : goal.invariant-loop-i
invariant-loop-i g l =
    let M = g.S.Space.meaning l.self.space.now in
    let R = g.S.Recorded.recording l.self.space.now in
    (length l.bytes ≡ 50)
    × (map (trial_item M.objectives) (take l.i l.bytes) ≡ map (item_for R) (take l.i l.part))
    × EachIn (take l.i l.part) (λ r. WritableIfAdmitted M R r.point)
