-- The reader of a text's lines.
use Rattle.std.specs.Prelude.{ℕ, List}
use Rattle.entry.specs.declared.text.TextLines.{TextLines}
use Rattle.entry.specs.Text.{lines}

-- the lines that a reader has still to hand out
abbrev pub lines_left : TextLines → List (List ℕ)
lines_left l = lines l.rest.now
