use Rattle.std.proofs.Common.{◌≡◌, ℕ, ◌<◌, false, length}
use Rattle.std.specs.Prelude.{slice_index_or}
use Rattle.space.specs.Spans.{SpansOf}
use Rattle.archive.specs.Knowing.{Roomy, spans_at}
use Rattle.archive.proofs.knowing.Known.learn.Given as goal

-- the members so far
abbrev pub invariant-loop-k : goal.invariant-loop-k
invariant-loop-k g l =
    Roomy l.self.most × Roomy l.self.least × (l.self.told ≡ false)
    × (l.self.count ≡ length l.members) × (l.self.objectives ≡ (g.S.Space.meaning l.space).objectives)
    × ((i : ℕ) (t : _) → i < l.k → t ≡ slice_index_or l.members i t → SpansOf (g.S.Space.meaning l.space) (g.S.Recorded.recording l.space) t.point (spans_at l.self i))
