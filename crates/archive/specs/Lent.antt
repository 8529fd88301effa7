-- An archive with what a call is lent.
use Rattle.std.specs.Prelude.{ℕ, List, take}
use Rattle.space.specs.declared.tagged.Trial.{Trial}
use Rattle.archive.specs.declared.holding.Archive.{Archive}

-- how many rows the archive remembers and how many of them hold members; what the lent rows hold, and what the lent list holds
pub record Lent (P : Type 0) : Type 0 where
  pub rows : ℕ
  pub count : ℕ
  pub held : List (Trial P)
  pub list : List ℕ

-- this archive, lent these rows and this list
abbrev pub lending : {S P : Type 0} → Archive S → List (Trial P) → List ℕ → Lent P
lending a held list = record { rows = a.rows; count = a.count; held = held; list = list }

-- whatever the rows below the count hold are the members
abbrev pub members : {P : Type 0} → Lent P → List (Trial P)
members a = take a.count a.held
