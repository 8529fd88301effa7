use Rattle.std.proofs.Common.{◌≡◌, ℕ, ◌<◌, length, get_or, pos}
use Rattle.space.specs.Spans.{signed_at}
use Rattle.archive.proofs.knowing.numbers.Given as goal

-- the places so far
abbrev pub invariant-loop-i : goal.invariant-loop-i
invariant-loop-i g l = (length l.numbers ≡ g.row.N) × ((j : ℕ) → j < l.i → get_or l.numbers j (pos 0) ≡ signed_at l.bytes j)
