-- What a space of ratios means, and how its points are bytes.
use Rattle.std.specs.Prelude.{List, ℕ}
use Rattle.space.specs.Meaning.{Meaning}
use Rattle.space.specs.Recording.{Recording}
use Rattle.grid.specs.Bits.{unsigned_bits}
use Rattle.grid.specs.Line.{Line}
use Rattle.grid.specs.Whole.{meaning_by, recording_by}
use Rattle.grid.specs.declared.whole.Grid.{Grid}
use Rattle.ratio.specs.declared.rule.RatioAxis.{RatioAxis}
use Rattle.ratio.specs.Rule.{ratio_line}

-- a grid whose rules are ratio rules
abbrev pub RatioSpace : Type 0
RatioSpace = Grid RatioAxis

-- the line of a rule is that of its scale
abbrev pub axis_line : RatioAxis → Line ℕ
axis_line a = ratio_line a.scale

-- the grid of the rules in use
abbrev pub ratio_meaning : RatioSpace → Meaning (List ℕ)
ratio_meaning = meaning_by unsigned_bits axis_line

-- four bytes an objective
abbrev pub ratio_recording : RatioSpace → Recording (List ℕ)
ratio_recording = recording_by unsigned_bits
