-- The theorems of blocks: what is written reads back, and what is read is what was written.
use Rattle.std.specs.Prelude.{◌≡◌, ℕ, ◌+◌, ◌*◌, ◌^◌, ◌<◌, ◌≤◌, List, [], ◌∷◌, map, length, Ok}
use Rattle.std.specs.List.{AllByRecursion}
use Rattle.word.specs.Word.{Bytes}
use Rattle.log_block.specs.Items.{Item, ItemAt, trial, note, item_size}
use Rattle.log_block.specs.Block.{block_number, block_of, checked, front}

-- a record that a block of m objectives may hold: a trial's tag has 32 bits, and its point four bytes an objective
abbrev pub Holds : ℕ → Item → Type 0
Holds m (trial tag point) = (tag < 2 ^ 32) × (length point ≡ 4 * m)
Holds m (note text) = Unit {0}

-- the records one after the other, from this place on
abbrev pub placed_from : ℕ → List Item → List ItemAt
placed_from at [] = []
placed_from at (x ∷ xs) = record { place = at; item = x } ∷ placed_from (at + item_size x) xs

-- what is written is accepted, and reads back record by record, each at its place
abbrev pub ReadsBack : Type 0
ReadsBack = (m number : ℕ) (items : List Item) → AllByRecursion (Holds m) items → length (front m number items) ≤ 508 → checked m (block_of m number items) ≡ Ok (placed_from 8 items)

-- an accepted block is the block of its records and its number
abbrev pub WritesBack : Type 0
WritesBack = (m : ℕ) (bs : List ℕ) (found : List ItemAt) → Bytes bs → checked m bs ≡ Ok found → bs ≡ block_of m (block_number bs) (map (λ x. x.item) found)

-- two accepted blocks with the same records, block number and objectives are the same bytes
abbrev pub SameBytes : Type 0
SameBytes = (m : ℕ) (bs cs : List ℕ) (found met : List ItemAt) → Bytes bs → Bytes cs → checked m bs ≡ Ok found → checked m cs ≡ Ok met → map (λ x. x.item) found ≡ map (λ x. x.item) met → block_number bs ≡ block_number cs → bs ≡ cs
