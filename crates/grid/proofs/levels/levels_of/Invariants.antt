use Rattle.std.proofs.Common.{◌≡◌, ℕ, ◌<◌, true, List, map, length, slice_index}
use Rattle.grid.specs.Levels.{LevelsOf, levels_at}
use Rattle.grid.specs.Space.{box_at, grid_meaning, line_at}
use Rattle.grid.proofs.levels.levels_of.Given as goal

-- the objectives so far
abbrev pub invariant-loop-i : goal.invariant-loop-i
invariant-loop-i g l =
    let B = g.A.Figure.Figure.bits in
    let lines = map g.A.Axis.line l.axes in
    (length l.levels ≡ 6)
    × ((p : List _) → (grid_meaning B lines).admits p ≡ true → ((i : ℕ) → i < 6 → slice_index l.numbers i ≡ box_at B lines p i) → (i : ℕ) → i < l.i → LevelsOf B (line_at B lines i) (slice_index l.numbers i) (levels_at l.levels i))
