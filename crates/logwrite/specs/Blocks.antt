-- The blocks of a log: records shared out to blocks, and what the blocks are read as.
use Rattle.std.specs.Prelude.{◌≡◌, ℕ, ◌+◌, ◌-◌, ◌%◌, ◌^◌, ◌<◌, true, cond, List, [], ◌∷◌, map, length, Ok, Err, Result, slice_index_or}
use Rattle.std.specs.List.{flat_map}
use Rattle.std.specs.Result.{is_ok}
use Rattle.log_block.specs.declared.faults.Fault.{Fault}
use Rattle.log_block.specs.Items.{Item, ItemAt, item_size}
use Rattle.log_block.specs.Block.{block_number, block_of, checked}
use Rattle.log_block.specs.Writing.{fits}

-- a record in front of those of the block at hand
abbrev pub in_front : Item → List (List Item) → List (List Item)
in_front x [] = (x ∷ []) ∷ []
in_front x (xs ∷ later) = (x ∷ xs) ∷ later

-- the records of the block at hand, which has so many bytes left, and of those after it: a record goes into the block at hand
-- where it fits, and else begins the next one
abbrev pub shares_from : ℕ → List Item → List (List Item)
shares_from left [] = [] ∷ []
shares_from left (x ∷ xs) = cond (fits 2 left x) (in_front x (shares_from (left - item_size x) xs)) ([] ∷ in_front x (shares_from (500 - item_size x) xs))

-- the records of each block of a log; a log of no records has no block
abbrev pub shares : List Item → List (List Item)
shares [] = []
shares (x ∷ xs) = in_front x (shares_from (500 - item_size x) xs)

-- the blocks of these shares, the first of which is block k; a block number has 32 bits
abbrev pub blocks_from : ℕ → List (List Item) → List (List ℕ)
blocks_from k [] = []
blocks_from k (xs ∷ later) = block_of 2 (k % 2 ^ 32) xs ∷ blocks_from (k + 1) later

-- the blocks of the log of these records
abbrev pub blocks_of : List Item → List (List ℕ)
blocks_of items = blocks_from 0 (shares items)

-- the records that bytes are read as, if they are accepted as a block
abbrev pub found : Result (List ItemAt) Fault → List Item
found (Ok xs) = map (λ x. x.item) xs
found (Err f) = []

abbrev pub records_read : List ℕ → List Item
records_read bs = found (checked 2 bs)

-- each block is accepted and says its place in the log, and the records of all of them, in order, are these
pub record ReadAs (items : List Item) (blocks : List (List ℕ)) : Type 0 where
  pub accepted : (k : ℕ) → k < length blocks → is_ok (checked 2 (slice_index_or blocks k [])) ≡ true
  pub numbered : (k : ℕ) → k < length blocks → block_number (slice_index_or blocks k []) ≡ k % 2 ^ 32
  pub records : flat_map records_read blocks ≡ items
