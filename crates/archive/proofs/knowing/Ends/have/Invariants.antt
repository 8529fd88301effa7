use Rattle.std.proofs.Common.{◌≡◌, List, ℕ, map}
use Rattle.std.specs.List.{range_with_len}
use Rattle.space.specs.Spans.{each_in, signed_at}
use Rattle.archive.specs.Knowing.{span_at}
use Rattle.archive.proofs.knowing.Ends.have.Given as goal

-- the places so far
abbrev pub invariant-loop-i : goal.invariant-loop-i
invariant-loop-i g l = (bytes : List ℕ) → l.numbers ≡ map (signed_at bytes) (range_with_len 0 g.row.N) → l.all ≡ each_in l.i (span_at l.self l.k) bytes
