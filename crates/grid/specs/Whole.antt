-- What a grid means that holds its rules, and how its points are bytes.
use Rattle.std.specs.Prelude.{List, map, take}
use Rattle.space.specs.Meaning.{Meaning}
use Rattle.space.specs.Recording.{Recording}
use Rattle.grid.specs.Bits.{Bits}
use Rattle.grid.specs.Bytes.{grid_recording}
use Rattle.grid.specs.Line.{Line}
use Rattle.grid.specs.Space.{grid_meaning}
use Rattle.grid.specs.declared.whole.Grid.{Grid}

-- the grid of the rules in use, where each rule has this line
abbrev pub meaning_by : {A F : Type 0} → Bits F → (A → Line F) → Grid A → Meaning (List F)
meaning_by B line s = grid_meaning B (map line (take s.objectives s.axes))

-- four bytes an objective
abbrev pub recording_by : {A F : Type 0} → Bits F → Grid A → Recording (List F)
recording_by B s = grid_recording B s.objectives
