-- The faults of a block, each by its number, its layer and its place.
use Rattle.log_block.specs.declared.faults.BlockFault.{BlockFault}
use Rattle.log_block.specs.declared.faults.BlockFault.TheVariants.{WrongLength, Torn, StrangeFirst, StrangeFourth, OtherGrid}
use Rattle.log_block.specs.declared.faults.RecordFault.{RecordFault}
use Rattle.log_block.specs.declared.faults.RecordFault.TheVariants.{Overlong, OtherKind, OtherLength, Tail}
use Rattle.log_block.specs.declared.faults.Fault.{Fault}
use Rattle.log_block.specs.declared.faults.Fault.TheVariants.{Block, Record}
use Rattle.log_block.specs.declared.faults.Report.{Report}

-- the block as a whole is layer 1
abbrev pub block_report : BlockFault → Report
block_report WrongLength = record { number = 9; layer = 1; place = 0 }
block_report Torn = record { number = 10; layer = 1; place = 508 }
block_report StrangeFirst = record { number = 11; layer = 1; place = 0 }
block_report StrangeFourth = record { number = 11; layer = 1; place = 3 }
block_report OtherGrid = record { number = 12; layer = 1; place = 2 }

-- its records, and what follows them, are layer 2
abbrev pub record_report : RecordFault → Report
record_report (Overlong at) = record { number = 13; layer = 2; place = at }
record_report (OtherKind at) = record { number = 13; layer = 2; place = at }
record_report (OtherLength at) = record { number = 13; layer = 2; place = at }
record_report (Tail at) = record { number = 13; layer = 2; place = at }

abbrev pub fault_report : Fault → Report
fault_report (Block f) = block_report f
fault_report (Record f) = record_report f
