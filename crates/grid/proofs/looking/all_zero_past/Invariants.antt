use Rattle.std.proofs.Common.{◌≡◌, ℕ, ◌+◌, ◌-◌, ◌<◌, ◌≤◌, true, length, take, slice_index}
use Rattle.std.specs.List.{list_all}
use Rattle.grid.specs.Bytes.{zero_from}
use Rattle.grid.proofs.looking.all_zero_past.Given as goal

-- the trials so far, if no bit is seen
abbrev pub invariant-loop-k : goal.invariant-loop-k
invariant-loop-k g l = (l.k ≤ length l.trials) × (((i : ℕ) → i < 6 → slice_index l.bits i ≡ 0) → list_all (λ t. zero_from g.F.Figure.bits g.row.N t.point) (take l.k l.trials) ≡ true)

abbrev pub decreases-loop-k : goal.decreases-loop-k
decreases-loop-k g l = length l.trials - l.k

abbrev pub invariant-loop-trial : goal.invariant-loop-trial
invariant-loop-trial g l = ((i : ℕ) → i < 6 → slice_index l.bits i ≡ 0) → list_all (λ t. zero_from g.F.Figure.bits g.row.N t.point) (take (l.k + l.trial-index) l.trials) ≡ true
