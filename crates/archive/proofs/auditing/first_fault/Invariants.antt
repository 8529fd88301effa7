use Rattle.std.proofs.Common.{◌≡◌, ◌+◌, drop, None}
use Rattle.history.specs.Auditing.{clash_from, first_pair, pair_from}
use Rattle.archive.proofs.auditing.first_fault.Given as goal

abbrev pub invariant-loop-k : goal.invariant-loop-k
invariant-loop-k g l =
    let M = g.S.Space.meaning l.space in
    let row = l.boxed.trial in
    let others = drop (l.i + 1) l.members in
    (l.found ≡ None) × (clash_from M l.i row (l.i + 1) others ≡ clash_from M l.i row ((l.i + 1) + l.k) (drop l.k others))

abbrev pub invariant-rows : goal.invariant-rows
invariant-rows g l = (l.found ≡ None) × (first_pair (g.S.Space.meaning l.space) l.members ≡ pair_from (g.S.Space.meaning l.space) l.i (drop l.i l.members))
