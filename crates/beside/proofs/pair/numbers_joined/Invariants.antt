use Rattle.beside.proofs.Joining.{Joined}
use Rattle.beside.proofs.pair.numbers_joined.Given as goal

-- the places so far are joined
abbrev pub invariant-loop-i : goal.invariant-loop-i
invariant-loop-i l = Joined l.front l.first l.second l.joined l.i
