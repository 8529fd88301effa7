use Rattle.std.proofs.Common.{◌≡◌, ℕ, ◌<◌, ◌≤◌, true, slice_index}
use Rattle.grid.specs.Space.{figure_at}
use Rattle.grid.proofs.looking.add_past.Given as goal

-- at each place so far where no bit is seen
abbrev pub invariant-loop-i : goal.invariant-loop-i
invariant-loop-i g l =
    let B = g.F.Figure.bits in
    (k : ℕ) → k < 6 → slice_index l.bits k ≡ 0 → (slice_index l.fn.bits k ≡ 0) × (g.row.N ≤ k → k < l.i → B.is_zero (figure_at B l.q k) ≡ true)
