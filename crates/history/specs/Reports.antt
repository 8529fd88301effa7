-- What a feed tells of denials, each by its number, its layer and its place. The archive is layer 3.
use Rattle.std.specs.Prelude.{Some, None, Option}
use Rattle.log_block.specs.declared.faults.Fault as log
use Rattle.log_block.specs.declared.faults.Fault.TheVariants as in-log
use Rattle.log_block.specs.declared.faults.Report.{Report}
use Rattle.log_block.specs.Faults.{block_report, record_report}
use Rattle.history.specs.declared.faults.FeedFault.{FeedFault}
use Rattle.history.specs.declared.faults.FeedFault.TheVariants.{StrangeRows, Block, Record}
use Rattle.history.specs.declared.faults.DeniedTrial.{DeniedTrial}
use Rattle.history.specs.declared.faults.DeniedTrial.TheVariants.{OffGrid, Full}

-- a fault of a block, as what a feed is refused for
abbrev pub from_log : log.Fault → FeedFault
from_log (in-log.Block f) = Block f
from_log (in-log.Record f) = Record f

-- what a feed is refused for; faults of the block and of its records are told as they are
abbrev pub feed_report : FeedFault → Report
feed_report StrangeRows = record { number = 3; layer = 3; place = 0 }
feed_report (Block f) = block_report f
feed_report (Record f) = record_report f

-- a denied trial, at the first byte of its record
abbrev pub denied_report : DeniedTrial → Report
denied_report (OffGrid at) = record { number = 5; layer = 3; place = at }
denied_report (Full at) = record { number = 6; layer = 3; place = at }

-- the first denied trial of a block, all zeros if none was denied
abbrev pub first_report : Option DeniedTrial → Report
first_report None = record { number = 0; layer = 0; place = 0 }
first_report (Some t) = denied_report t
