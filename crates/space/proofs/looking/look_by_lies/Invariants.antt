use Rattle.std.proofs.Common.{◌≡◌, take}
use Rattle.space.specs.Looking.{lie_between, look_of}
use Rattle.space.specs.Meaning.{Meaning}
use Rattle.space.proofs.looking.look_by_lies.Given as goal

-- the trials so far
abbrev pub invariant-loop-k : goal.invariant-loop-k
invariant-loop-k g l =
    (M : Meaning _) (p : _) → ((q : _) (told : _) → goal.F-post g l.lie q told → told ≡ lie_between M p q.now) → l.seen ≡ look_of M p (take l.k l.trials)
