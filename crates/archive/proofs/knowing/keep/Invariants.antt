use Rattle.archive.proofs.Known.{Keeping}
use Rattle.archive.proofs.knowing.keep.Given as goal

-- the places so far
abbrev pub invariant-loop-i : goal.invariant-loop-i
invariant-loop-i l = Keeping l.initial.rows l.rows l.k l.numbers l.i
