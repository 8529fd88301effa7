-- A record: a kind, a length, and as many bytes. It is a trial or a note.
use Rattle.std.specs.Prelude.{ℕ, ◌+◌, ◌-◌, ◌*◌, cond, List, [], ◌∷◌, ◌++◌, length, take, drop, Ok, Err, Result, ◌==◌, nat_lt}
use Rattle.word.specs.Word.{four_bytes, number_at}
use Rattle.log_block.specs.declared.faults.RecordFault.{RecordFault}
use Rattle.log_block.specs.declared.faults.RecordFault.TheVariants.{Overlong, OtherKind, OtherLength}

-- what a record holds: a trial's tag and its point's bytes, or a note's bytes
pub data Item : Type 0 where
  trial : ℕ → List ℕ → Item
  note : List ℕ → Item

-- a record and the place of its first byte
pub record ItemAt : Type 0 where
  pub place : ℕ
  pub item : Item

-- the kind's byte
abbrev pub kind_of : Item → ℕ
kind_of (trial tag point) = 1
kind_of (note text) = 2

-- the bytes after the length
abbrev pub content_of : Item → List ℕ
content_of (trial tag point) = four_bytes tag ++ point
content_of (note text) = text

-- all bytes of a record, and how many they are
abbrev pub item_bytes : Item → List ℕ
item_bytes x = kind_of x ∷ (length (content_of x) ∷ content_of x)

abbrev pub item_size : Item → ℕ
item_size x = 2 + length (content_of x)

-- the place of the first of these bytes, whose last is byte 507 of the block
unfoldable pub place_of : List ℕ → ℕ
place_of bs = 508 - length bs

-- the record of this kind and content, where there are m objectives, or the fault of the record at this place
abbrev pub item_of : ℕ → ℕ → ℕ → List ℕ → Result Item RecordFault
item_of m at kind content =
    cond (kind == 2) (Ok (note content))
    (cond (kind == 1)
    (cond (length content == 4 + 4 * m) (Ok (trial (number_at content 0) (drop 4 content))) (Err (OtherLength at)))
    (Err (OtherKind at)))

-- a record, and the bytes after it
abbrev pub with_rest : Result Item RecordFault → List ℕ → Result (Item × List ℕ) RecordFault
with_rest (Ok x) rest = Ok (x, rest)
with_rest (Err f) rest = Err f

-- the record that these bytes begin with, at this place of the block, and what follows it; the last of the bytes is byte 507
abbrev pub split_item : ℕ → ℕ → List ℕ → Result (Item × List ℕ) RecordFault
split_item m at [] = Err (Overlong at)
split_item m at (kind ∷ []) = Err (Overlong at)
split_item m at (kind ∷ (size ∷ rest)) = cond (nat_lt (length rest) size) (Err (Overlong at)) (with_rest (item_of m at kind (take size rest)) (drop size rest))

-- the same, at the place where these bytes are
unfoldable pub first_item : ℕ → List ℕ → Result (Item × List ℕ) RecordFault
first_item m bs = split_item m (place_of bs) bs
