use Rattle.archive.proofs.Known.{Glancing}
use Rattle.archive.proofs.knowing.Known.glance_at.Given as goal

-- the members so far
abbrev pub invariant-loop-k : goal.invariant-loop-k
invariant-loop-k g l = Glancing l.self l.bytes l.k l.shut l.many l.row
