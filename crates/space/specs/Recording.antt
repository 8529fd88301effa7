-- How the points of a recorded space are bytes, and the laws that this keeps.
use Rattle.std.specs.Prelude.{◌≡◌, ℕ, ◌*◌, Bool, true, cond, List, length, replicate, Ok, Err, Result, ◌==◌}
use Rattle.word.specs.Word.{Bytes}
use Rattle.space.specs.Meaning.{Meaning}
use Rattle.space.specs.declared.recording.Unread.{Unread}
use Rattle.space.specs.declared.recording.Unwritten.{Unwritten}

-- how many bytes a point takes, which points can be written so that they read back, what bytes read as, and what a point writes as
pub record Recording (P : Type 0) : Type 0 where
  pub width : ℕ
  pub writable : P → Bool
  pub reads : List ℕ → P
  pub writes : P → List ℕ

-- the laws: a writable point reads back, bytes of the right length write back, and every point takes the same number of bytes
pub record Faithful {P : Type 0} (R : Recording P) : Type 0 where
  pub reads_back : (p : P) → R.writable p ≡ true → R.reads (R.writes p) ≡ p
  pub writes_back : (bs : List ℕ) → Bytes bs → length bs ≡ R.width → R.writes (R.reads bs) ≡ bs
  pub long : (p : P) → length (R.writes p) ≡ R.width

-- what ties the bytes to the space's meaning: a point takes four bytes an objective, and is writable if it is admitted
abbrev pub FourEach : {P : Type 0} → Meaning P → Recording P → Type 0
FourEach M R = R.width ≡ 4 * M.objectives

abbrev pub WritableIfAdmitted : {P : Type 0} → Meaning P → Recording P → P → Type 0
WritableIfAdmitted M R p = M.admits p ≡ true → R.writable p ≡ true

-- the point that zero bytes give
abbrev pub blank_point : {P : Type 0} → Recording P → P
blank_point R = R.reads (replicate R.width 0)

-- these bytes are as many as a point takes
abbrev pub as_wide : {P : Type 0} → Recording P → List ℕ → Bool
as_wide R bs = length bs == R.width

-- what reading answers: the point, or no, with the point that zero bytes give
abbrev pub read_answer : {P : Type 0} → Recording P → List ℕ → Result P (Unread P)
read_answer R bs = cond (as_wide R bs) (Ok (R.reads bs)) (Err (record { blank = blank_point R }))

-- the point that these bytes say, or the one that zero bytes give where they are not as many as a point takes
abbrev pub read_point : {P : Type 0} → Recording P → List ℕ → P
read_point R bs = cond (as_wide R bs) (R.reads bs) (blank_point R)

-- what writing answers over a part of these bytes
abbrev pub write_answer : {P : Type 0} → Recording P → List ℕ → Result (Unit {0}) Unwritten
write_answer R bs = cond (as_wide R bs) (Ok tt) (Err (record {}))

-- what that part then holds: the point, or what it held
abbrev pub written_over : {P : Type 0} → Recording P → P → List ℕ → List ℕ
written_over R p bs = cond (as_wide R bs) (R.writes p) bs
