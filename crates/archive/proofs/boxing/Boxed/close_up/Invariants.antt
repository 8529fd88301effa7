use Rattle.history.specs.Step.{below}
use Rattle.archive.proofs.Closed.{ClosingUp}
use Rattle.archive.proofs.boxing.Boxed.close_up.Given as goal

abbrev pub invariant-loop-i : goal.invariant-loop-i
invariant-loop-i g l = ClosingUp (below (g.S.Space.meaning l.self.space.now) l.self.trial) l.initial.members l.members l.initial.gone l.gone l.stay l.went l.i
