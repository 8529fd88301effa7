-- The five calls of an archive with all their arguments, and a history: what an archive was asked and what it answered.
use Rattle.std.specs.Prelude.{ℕ, List, [], ◌∷◌, map, reverse}
use Rattle.space.specs.declared.tagged.Trial.{Trial}
use Rattle.history.specs.declared.answers.Answer.{Answer}

-- each with the number of rows that are lent
pub data Call (P : Type 0) : Type 0 where
  -- a trial, with a list of this length for the tags of those that go
  offer : (lent room : ℕ) → Trial P → Call P
  -- the bytes of a block
  feed : (lent : ℕ) (block : List ℕ) → Call P
  audit : (lent : ℕ) → Call P
  -- a list of this length for the members' tags
  list : (lent room : ℕ) → Call P
  -- the number of a block of the members, and the length of the bytes that it is to be written to
  save : (lent number size : ℕ) → Call P

-- a call with the answer that it gave
pub record Event (P : Type 0) : Type 0 where
  pub call : Call P
  pub answer : Answer

-- the number of rows of a granted making, and then the calls, the newest first
pub record History (P : Type 0) : Type 0 where
  pub rows : ℕ
  pub events : List (Event P)

-- a history that has just begun
abbrev pub begun : {P : Type 0} → ℕ → History P
begun n = record { rows = n; events = [] }

infixl 20 ◌▸◌
-- one call more
abbrev pub ◌▸◌ : {P : Type 0} → History P → Event P → History P
h ▸ e = record { rows = h.rows; events = e ∷ h.events }

-- its calls, the oldest first
abbrev pub calls : {P : Type 0} → History P → List (Call P)
calls h = reverse (map (λ e. e.call) h.events)

-- its answers, the oldest first
abbrev pub answers : {P : Type 0} → History P → List Answer
answers h = reverse (map (λ e. e.answer) h.events)
