use Rattle.std.proofs.Common.{◌≡◌, ◌<◌, drop}
use Rattle.entry.proofs.Counting.{number_after}
use Rattle.entry.proofs.numbers.read_below.Given as goal

-- the digits that are left make of the number what all make of 0
abbrev pub invariant-loop-b : goal.invariant-loop-b
invariant-loop-b l =
    (number_after l.limit l.number (drop l.b-index l.digits) ≡ number_after l.limit 0 l.digits)
    × (l.number < l.limit)
