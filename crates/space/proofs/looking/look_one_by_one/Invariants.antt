use Rattle.std.proofs.Common.{◌≡◌, ℕ, List, Option, take}
use Rattle.space.specs.Boxes.{boxes_on, six_boxes}
use Rattle.space.specs.Looking.{look_of}
use Rattle.space.specs.Meaning.{Meaning, Lawful}
use Rattle.space.proofs.looking.look_one_by_one.Given as goal

-- the trials so far
abbrev pub invariant-loop-k : goal.invariant-loop-k
invariant-loop-k g l =
    (M : Meaning _) (p : _) → Lawful M → l.mine ≡ six_boxes M p → ((q : _) (asked : Option (List ℕ)) → goal.F-post g l.boxes q asked → asked ≡ boxes_on M q.now)
    → l.look ≡ look_of M p (take l.k l.trials)
