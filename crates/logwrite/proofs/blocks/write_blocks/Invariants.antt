use Rattle.std.proofs.Common.{◌-◌, length, vec_items}
use Rattle.logwrite.proofs.Sharing.{Shared}
use Rattle.logwrite.proofs.blocks.write_blocks.Given as goal

abbrev pub invariant-loop-place : goal.invariant-loop-place
invariant-loop-place l = Shared l.records l.place (vec_items l.blocks)

abbrev pub decreases-loop-place : goal.decreases-loop-place
decreases-loop-place l = length l.records - l.place
