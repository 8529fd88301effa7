use Rattle.std.proofs.Common.{◌≡◌, ◌++◌, map, take, drop}
use Rattle.archive.proofs.listing.write_tags.Given as goal

abbrev pub invariant-loop-i : goal.invariant-loop-i
invariant-loop-i g l = l.tags ≡ map (λ r. r.tag) (take l.i l.members) ++ drop l.i l.initial.tags
