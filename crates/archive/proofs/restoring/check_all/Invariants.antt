use Rattle.std.proofs.Common.{◌≡◌, drop}
use Rattle.archive.specs.Restoring.{first_at_fault}
use Rattle.archive.proofs.Returned.{bytes_of}
use Rattle.archive.proofs.restoring.check_all.Given as goal

-- the blocks so far are not at fault
abbrev pub invariant-loop-index : goal.invariant-loop-index
invariant-loop-index l = first_at_fault l.objectives 0 (bytes_of l.blocks) ≡ first_at_fault l.objectives l.index (bytes_of (drop l.index l.blocks))
