use Rattle.space.proofs.OneByOne.{LiesIn}
use Rattle.space.proofs.meaning.Space.lie.Given as goal

abbrev pub invariant-loop-i : goal.invariant-loop-i
invariant-loop-i g l = LiesIn (g.Self.Space.meaning l.self) l.i l.mine l.p l.over l.under
