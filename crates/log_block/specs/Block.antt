-- A block: a header, records, zeros and two sums; what is wrong with other bytes; and the records that a block holds.
use Rattle.std.specs.Prelude.{ℕ, zero, suc, ◌-◌, cond, not, List, [], ◌∷◌, ◌++◌, length, take, drop, replicate, Ok, Err, Result, ◌==◌, slice_index}
use Rattle.std.specs.List.{flat_map}
use Rattle.word.specs.Word.{four_bytes, number_at}
use Rattle.log_block.specs.declared.faults.BlockFault.{BlockFault}
use Rattle.log_block.specs.declared.faults.BlockFault.TheVariants.{WrongLength, Torn, StrangeFirst, StrangeFourth, OtherGrid}
use Rattle.log_block.specs.declared.faults.RecordFault.{RecordFault}
use Rattle.log_block.specs.declared.faults.RecordFault.TheVariants.{Tail}
use Rattle.log_block.specs.declared.faults.Fault.{Fault}
use Rattle.log_block.specs.declared.faults.Fault.TheVariants.{Block, Record}
use Rattle.log_block.specs.Items.{Item, ItemAt, first_item, item_bytes, place_of}
use Rattle.log_block.specs.Sums.{sealed, with_sums}

-- the bytes of a block up to the end of its last record
abbrev pub front : ℕ → ℕ → List Item → List ℕ
front m number items = 1 ∷ (length items ∷ (m ∷ (0 ∷ (four_bytes number ++ flat_map item_bytes items))))

-- these bytes and zeros after them, n in all
unfoldable pub filled : ℕ → List ℕ → List ℕ
filled n bs = bs ++ replicate (n - length bs) 0

-- the block of these records
unfoldable pub block_of : ℕ → ℕ → List Item → List ℕ
block_of m number items = with_sums (filled 508 (front m number items))

-- the number that a block says
abbrev pub block_number : List ℕ → ℕ
block_number bs = number_at bs 1

-- the first thing wrong with the block as a whole: its length, its sums, bytes 0, 3 and 2
abbrev pub header_check : ℕ → List ℕ → Result (Unit {0}) BlockFault
header_check m bs =
    cond (not (length bs == 512)) (Err WrongLength)
    (cond (not (sealed bs)) (Err Torn)
    (cond (not (slice_index bs 0 == 1)) (Err StrangeFirst)
    (cond (not (slice_index bs 3 == 0)) (Err StrangeFourth)
    (cond (not (slice_index bs 2 == m)) (Err OtherGrid)
    (Ok tt)))))

-- the first of these bytes, which end at byte 507, that is not zero
abbrev pub tail_check : List ℕ → Result (Unit {0}) RecordFault
tail_check [] = Ok tt
tail_check (x ∷ xs) = cond (x == 0) (tail_check xs) (Err (Tail (place_of (x ∷ xs))))

-- the first thing wrong with n records in these bytes, which end at byte 507, or with what follows the records
unfoldable pub records_check : ℕ → ℕ → List ℕ → Result (Unit {0}) RecordFault
records_check m zero bs = tail_check bs
records_check m (suc n) bs = elim (first_item m bs) [ Ok p ↦ records_check m n p.1 | Err f ↦ Err f ]

-- those of the n records that stand before the first thing wrong, in order, each with its place
unfoldable pub records_in : ℕ → ℕ → List ℕ → List ItemAt
records_in m zero bs = []
records_in m (suc n) bs = elim (first_item m bs) [ Ok p ↦ record { place = place_of bs; item = p.0 } ∷ records_in m n p.1 | Err f ↦ [] ]

-- the bytes that are for records: 8 to 507
abbrev pub room : List ℕ → List ℕ
room bs = take 500 (drop 8 bs)

-- the records of bytes that are to be a block of m objectives
abbrev pub records_of : ℕ → List ℕ → List ItemAt
records_of m bs = records_in m (slice_index bs 1) (room bs)

-- a fault of the records, or the records
abbrev pub checked_records : Result (Unit {0}) RecordFault → List ItemAt → Result (List ItemAt) Fault
checked_records (Ok granted) found = Ok found
checked_records (Err f) found = Err (Record f)

-- a fault of the block as a whole, or what its records tell
abbrev pub checked_block : Result (Unit {0}) BlockFault → Result (List ItemAt) Fault → Result (List ItemAt) Fault
checked_block (Ok granted) told = told
checked_block (Err f) told = Err (Block f)

-- what the check tells of bytes that are to be a block of m objectives: the records, or the first fault
abbrev pub checked : ℕ → List ℕ → Result (List ItemAt) Fault
checked m bs = checked_block (header_check m bs) (checked_records (records_check m (slice_index bs 1) (room bs)) (records_of m bs))
