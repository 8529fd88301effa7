-- The reader of a block's records: what it has still to hand out, and what it hands out.
use Rattle.std.specs.Prelude.{ℕ, List, Result}
use Rattle.std.specs.Borrow.{Bor}
use Rattle.std.specs.Result.{result_map_both}
use Rattle.log_block.specs.declared.faults.RecordFault.{RecordFault}
use Rattle.log_block.specs.declared.reading.Records.{Records}
use Rattle.log_block.specs.declared.parts.Record.{Record}
use Rattle.log_block.specs.declared.parts.Record.TheVariants.{Trial, Note}
use Rattle.log_block.specs.declared.parts.Placed.{Placed}
use Rattle.log_block.specs.Items.{Item, ItemAt, trial, note}
use Rattle.log_block.specs.Block.{records_in}

-- the records that a reader has still to hand out
abbrev pub left_to_read : Records → List ItemAt
left_to_read r = records_in r.objectives r.count r.rest.now

-- a record that is handed out as parts of the block
abbrev pub seen : Record → Item
seen (Trial tag point) = trial tag point.now
seen (Note text) = note text.now

abbrev pub seen_at : Placed → ItemAt
seen_at p = record { place = p.place; item = seen p.record }

-- a record, or its fault
abbrev pub seen_record : Result Record RecordFault → Result Item RecordFault
seen_record r = result_map_both seen (λ f. f) r

-- a record and the bytes after it, as parts of the block, or its fault
abbrev pub seen_both : Result (Record × Bor (List ℕ)) RecordFault → Result (Item × List ℕ) RecordFault
seen_both r = result_map_both (λ p. (seen p.0, p.1.now)) (λ f. f) r
