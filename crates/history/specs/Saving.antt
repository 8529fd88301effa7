-- The members as blocks.
use Rattle.std.specs.Prelude.{ℕ, ◌+◌, ◌-◌, ◌*◌, ◌/◌, min, cond, List, map, length, take, drop, ◌==◌}
use Rattle.std.specs.List.{range_with_len}
use Rattle.log_block.specs.Items.{Item, trial}
use Rattle.log_block.specs.Block.{block_of}
use Rattle.space.specs.Meaning.{Meaning}
use Rattle.space.specs.Recording.{Recording}
use Rattle.space.specs.declared.tagged.Trial.{Trial}

-- how many trials a block has room for
abbrev pub per_block : {P : Type 0} → Meaning P → ℕ
per_block M = 500 / (6 + 4 * M.objectives)

-- how many blocks n members fill, q to a block: the least number with room for all, and one if there is no member
abbrev pub block_count : ℕ → ℕ → ℕ
block_count q n = cond (n == 0) 1 ((n + (q - 1)) / q)

-- how many of n members are in block k, q to a block
abbrev pub in_block : ℕ → ℕ → ℕ → ℕ
in_block q n k = min q (n - k * q)

-- the members in rows k * q to (k + 1) * q - 1
abbrev pub part : {P : Type 0} → ℕ → List (Trial P) → ℕ → List (Trial P)
part q members k = take q (drop (k * q) members)

-- a member as a record
abbrev pub item_for : {P : Type 0} → Recording P → Trial P → Item
item_for R r = trial r.tag (R.writes r.point)

-- block k of the members
unfoldable pub saved_block : {P : Type 0} → Meaning P → Recording P → List (Trial P) → ℕ → List ℕ
saved_block M R members k = block_of M.objectives k (map (item_for R) (part (per_block M) members k))

-- all blocks of the members, in order
abbrev pub saved_blocks : {P : Type 0} → Meaning P → Recording P → List (Trial P) → List (List ℕ)
saved_blocks M R members = map (saved_block M R members) (range_with_len 0 (block_count (per_block M) (length members)))
