-- What a space of steps means, and how its points are bytes.
use Rattle.std.specs.Prelude.{List, ℤ}
use Rattle.space.specs.Meaning.{Meaning}
use Rattle.space.specs.Recording.{Recording}
use Rattle.grid.specs.Bits.{signed_bits}
use Rattle.grid.specs.Line.{Line}
use Rattle.grid.specs.Whole.{meaning_by, recording_by}
use Rattle.grid.specs.declared.whole.Grid.{Grid}
use Rattle.step.specs.declared.rule.StepAxis.{StepAxis}
use Rattle.step.specs.Rule.{step_line}

-- a grid whose rules are step rules
abbrev pub StepSpace : Type 0
StepSpace = Grid StepAxis

-- the line of a rule is that of its scale
abbrev pub axis_line : StepAxis → Line ℤ
axis_line a = step_line a.scale

-- the grid of the rules in use
abbrev pub step_meaning : StepSpace → Meaning (List ℤ)
step_meaning = meaning_by signed_bits axis_line

-- four bytes an objective
abbrev pub step_recording : StepSpace → Recording (List ℤ)
step_recording = recording_by signed_bits
