-- What is printed of one block.
use Rattle.std.specs.Prelude.{Ok, Err, Result}
use Rattle.history.specs.declared.answers.Fed.{Fed}
use Rattle.history.specs.declared.faults.FeedFault.{FeedFault}
use Rattle.history.specs.Reports.{feed_report}
use Rattle.front.specs.declared.lines.BlockLine.{BlockLine}
use Rattle.front.specs.declared.lines.BlockLine.TheVariants as line

-- how many trials entered, were passed over and were denied, or the number of the fault that the block is refused for
abbrev pub line_of : Result Fed FeedFault → BlockLine
line_of (Ok f) = line.Fed f.entered f.passed f.denied
line_of (Err f) = line.Refused (feed_report f).number
