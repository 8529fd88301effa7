use Rattle.std.proofs.Common.{◌≡◌, [], length, map, take}
use Rattle.archive.specs.Lent.{lending}
use Rattle.replay.specs.Asking.{answers_in, asks_in}
use Rattle.replay.specs.Lending.{SameLoans, call_by, lendings}
use Rattle.replay.specs.Replaying.{ReplayedAs}
use Rattle.replay.proofs.lender.Lender.call_all.Given as goal

abbrev pub invariant-loop-turn : goal.invariant-loop-turn
invariant-loop-turn g l =
    let first = l.initial.self in
    let space = l.initial.archive.space in
    (l.archive.space ≡ space)
    × SameLoans first l.self
    × (length l.self.own.now ≡ l.archive.rows)
    × (asks_in l.turn-items ≡ asks_in l.initial.turn-items)
    × ReplayedAs (g.S.Space.meaning space) (g.A.Asked.reading space) (g.A.Asked.leaves space) (map (call_by g.A.Asked.call first) (asks_in (take l.turn-index l.turn-items))) (answers_in (take l.turn-index l.turn-items)) (lendings first) (lending l.archive l.self.own.now []) (lendings l.self)
