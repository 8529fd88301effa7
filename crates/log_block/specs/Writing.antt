-- Writing a block: of trials alone, or of records of both kinds.
use Rattle.std.specs.Prelude.{ℕ, ◌+◌, ◌-◌, ◌*◌, ◌/◌, min, Bool, cond, ◌&&◌, List, [], ◌∷◌, ◌++◌, map, length, take, Ok, Err, Result, ◌==◌, nat_le}
use Rattle.std.specs.List.{flat_map}
use Rattle.word.specs.Word.{four_bytes}
use Rattle.log_block.specs.declared.faults.BlockFault.{BlockFault}
use Rattle.log_block.specs.declared.faults.BlockFault.TheVariants.{WrongLength}
use Rattle.log_block.specs.declared.writing.TrialBytes.{TrialBytes}
use Rattle.log_block.specs.Items.{Item, item_bytes, item_size, note, trial}
use Rattle.log_block.specs.Block.{block_of}

-- how many trials a block has room for; none of more than six objectives, which no space has
abbrev pub capacity : ℕ → ℕ
capacity m = cond (nat_le m 6) (500 / (6 + 4 * m)) 0

-- how many of these trials are written: as many as there is room for
abbrev pub written_count : ℕ → List TrialBytes → ℕ
written_count m ts = min (length ts) (capacity m)

-- the record of a trial: of its point, the bytes of m objectives
abbrev pub trial_item : ℕ → TrialBytes → Item
trial_item m t = trial t.tag (take (4 * m) t.point)

-- the records of the trials that are written
abbrev pub written_items : ℕ → List TrialBytes → List Item
written_items m ts = map (trial_item m) (take (written_count m ts) ts)

-- a block up to the end of these records, of which there are to be so many
unfoldable pub so_far : ℕ → ℕ → ℕ → List Item → List ℕ
so_far m number count items = 1 ∷ (count ∷ (m ∷ (0 ∷ (four_bytes number ++ flat_map item_bytes items))))

-- what the writer answers over bytes that it is lent, and what these then are
abbrev pub write_answer : ℕ → List TrialBytes → List ℕ → Result ℕ BlockFault
write_answer m ts bs = cond (length bs == 512) (Ok (written_count m ts)) (Err WrongLength)

abbrev pub written_over : ℕ → ℕ → List TrialBytes → List ℕ → List ℕ
written_over m number ts bs = cond (length bs == 512) (block_of m number (written_items m ts)) bs

-- a block of m objectives may hold this record: a trial's point has four bytes an objective, a note at most 255 bytes
abbrev pub may_hold : ℕ → Item → Bool
may_hold m (trial tag point) = length point == 4 * m
may_hold m (note text) = nat_le (length text) 255

-- a block of m objectives may hold this record in so many bytes; none of more than six objectives, which no space has
abbrev pub fits : ℕ → ℕ → Item → Bool
fits m left x = nat_le m 6 && (may_hold m x && nat_le (item_size x) left)

-- the longest run of leading records that a block of m objectives may hold in so many bytes
abbrev pub run_in : ℕ → ℕ → List Item → List Item
run_in m left [] = []
run_in m left (x ∷ xs) = cond (fits m left x) (x ∷ run_in m (left - item_size x) xs) []

-- the records that are written of these
abbrev pub fitting_items : ℕ → List Item → List Item
fitting_items m items = run_in m 500 items

-- what the writer of records answers over bytes that it is lent, and what these then are
abbrev pub records_answer : ℕ → List Item → List ℕ → Result ℕ BlockFault
records_answer m items bs = cond (length bs == 512) (Ok (length (fitting_items m items))) (Err WrongLength)

abbrev pub records_over : ℕ → ℕ → List Item → List ℕ → List ℕ
records_over m number items bs = cond (length bs == 512) (block_of m number (fitting_items m items)) bs
