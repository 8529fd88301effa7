-- What holds of every replay.
use Rattle.std.specs.Prelude.{◌≡◌, ℕ, List, map, length, Some, Option, ◌≢◌}
use Rattle.space.specs.Meaning.{Meaning}
use Rattle.space.specs.Recording.{Recording, read_point}
use Rattle.space.specs.declared.tagged.Trial.{Trial}
use Rattle.history.specs.declared.answers.Answer.{Answer}
use Rattle.history.specs.Calls.{Call, History, calls, answers}
use Rattle.history.specs.Stands.{Stands}
use Rattle.archive.specs.Lent.{Lent, members}
use Rattle.archive.specs.Standing.{StaysAs}
use Rattle.replay.specs.Leaving.{Leaves, LeavesBoth, Left, Lendings}

-- a replay over any space speaks of every way in which bytes become points, one over a recorded space of the space's own
abbrev pub AnyReading : {P : Type 0} → (List ℕ → P) → Type 0
AnyReading reads = Unit {0}

abbrev pub OwnReading : {P : Type 0} → Recording P → (List ℕ → P) → Type 0
OwnReading R reads = reads ≡ read_point R

module _ {P X : Type 0} (M : Meaning P) (Reading : (List ℕ → P) → Type 0) (One : ℕ → List (Trial P) → Call P → X → X → Type 0) where
  -- one call with its answer, over the archive's own rows: a is the archive with these before, and b after; x is all that is lent
  -- to calls before, and y after
  pub record RanAs (call : Call P) (a : Lent P) (x : X) (r : Answer) (b : Lent P) (y : X) : Type 0 where
    pub same_rows : b.rows ≡ a.rows
    pub stays : (reads : List ℕ → P) → Reading reads → StaysAs M reads a.rows call r a.count a.held b.count b.held
    pub leaves : One a.rows (members a) call x y

  -- one call over the rows that it is lent: over the archive's own it is as above, and strange ones it leaves as they are, while
  -- it is as above over the archive's own, whatever these hold
  pub record MadeAs (call : Call P) (a : Lent P) (x : X) (r : Answer) (b : Lent P) (y : X) : Type 0 where
    pub own : length a.held ≡ a.rows → RanAs call a x r b y
    pub strange : length a.held ≢ a.rows → b.held ≡ a.held
    pub apart : length a.held ≢ a.rows → (held : List (Trial P)) → RanAs call (record a { held = held }) x r (record b { held = held }) y

  -- all calls: there is a history of the calls that were made and the answers that are handed back; the archive and its rows
  -- stand under it; and what was lent holds what these calls leave in it
  pub record ReplayedAs (made : List (Call P)) (told : List (Option Answer)) (x : X) (b : Lent P) (y : X) : Type 0 where
    pub history : History P
    pub called : calls history ≡ made
    pub answered : map Some (answers history) ≡ told
    pub stands : (reads : List ℕ → P) → Reading reads → Stands M reads history b.rows b.count b.held
    pub left : (reads : List ℕ → P) → Reading reads → Left One M reads b.rows history.events x y

-- offers, audits and lists, which are lent a list
abbrev pub ReplayRight : {P : Type 0} → Meaning P → List (Call P) → List (Option Answer) → List ℕ → Lent P → Type 0
ReplayRight M made told before b = ReplayedAs M AnyReading (Leaves M) made told before b b.list

-- calls of all five kinds, which are lent a list and a block
abbrev pub RecordedRan : {P : Type 0} → Meaning P → Recording P → Call P → Lent P → Lendings → Answer → Lent P → Lendings → Type 0
RecordedRan M R call a x r b y = RanAs M (OwnReading R) (LeavesBoth M R) call a x r b y

abbrev pub RecordedReplayRight : {P : Type 0} → Meaning P → Recording P → List (Call P) → List (Option Answer) → Lendings → Lent P → Lendings → Type 0
RecordedReplayRight M R made told before b after = ReplayedAs M (OwnReading R) (LeavesBoth M R) made told before b after
