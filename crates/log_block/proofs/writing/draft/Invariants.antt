use Rattle.std.proofs.Common.{◌≡◌, take}
use Rattle.std.specs.List.{AllByRecursion}
use Rattle.log_block.proofs.Fitting.{Packed}
use Rattle.log_block.proofs.writing.draft.Given as goal

abbrev pub invariant-loop-i : goal.invariant-loop-i
invariant-loop-i g l =
    (l.draft.block.ghost_name ≡ l.initial.draft.block.ghost_name)
    × Packed (g.T.AsRecord.item l.objectives) l.objectives l.number l.given l.i l.draft
    × AllByRecursion g.T.AsRecord.typed (take l.i l.given)
