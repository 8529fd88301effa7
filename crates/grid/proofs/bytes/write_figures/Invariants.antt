use Rattle.std.proofs.Common.{◌≡◌, ℕ, ◌/◌, ◌<◌, true, get_or}
use Rattle.grid.specs.Bytes.{byte_at}
use Rattle.grid.specs.Space.{figure_at}
use Rattle.grid.proofs.bytes.write_figures.Given as goal

abbrev pub invariant-loop-k : goal.invariant-loop-k
invariant-loop-k g l =
    ((j : ℕ) → j < l.k → get_or l.out j 0 ≡ byte_at g.F.Figure.bits l.p j)
    × ((j : ℕ) → j < l.k → g.F.Figure.bits.holds (figure_at g.F.Figure.bits l.p (j / 4)) ≡ true)
