-- How an archive stands under histories, before a call and after it.
use Rattle.std.specs.Prelude.{ℕ, List, length, ◌≢◌}
use Rattle.space.specs.Meaning.{Meaning}
use Rattle.space.specs.declared.tagged.Trial.{Trial}
use Rattle.history.specs.declared.answers.Answer.{Answer}
use Rattle.history.specs.Calls.{Call, History, begun, ◌▸◌}
use Rattle.history.specs.Stands.{Stands}

-- an archive that remembers this number of rows and this count begins a history over rows that hold this
abbrev pub Begins : {P : Type 0} → Meaning P → ℕ → ℕ → List (Trial P) → Type 0
Begins {P} M rows count held = (reads : List ℕ → P) → Stands M reads (begun rows) rows count held

-- under whatever history the archive and its rows stood before this call, they stand after it under that history with the
-- call and its answer added; bytes become points in this way
abbrev pub StaysAs : {P : Type 0} → Meaning P → (List ℕ → P) → ℕ → Call P → Answer → ℕ → List (Trial P) → ℕ → List (Trial P) → Type 0
StaysAs {P} M reads rows call answer count held count' held' = (h : History P) → Stands M reads h rows count held → Stands M reads (h ▸ record { call = call; answer = answer }) rows count' held'

-- a call that was lent strange rows leaves the archive standing over its own, whatever they hold
abbrev pub StaysApartAs : {P : Type 0} → Meaning P → (List ℕ → P) → ℕ → Call P → Answer → List (Trial P) → ℕ → ℕ → Type 0
StaysApartAs {P} M reads rows call answer lent count count' = (length lent ≢ rows) → (held : List (Trial P)) → StaysAs M reads rows call answer count held count' held

-- the same however bytes become points
abbrev pub Stays : {P : Type 0} → Meaning P → ℕ → Call P → Answer → ℕ → List (Trial P) → ℕ → List (Trial P) → Type 0
Stays {P} M rows call answer count held count' held' = (reads : List ℕ → P) → StaysAs M reads rows call answer count held count' held'

abbrev pub StaysApart : {P : Type 0} → Meaning P → ℕ → Call P → Answer → List (Trial P) → ℕ → ℕ → Type 0
StaysApart {P} M rows call answer lent count count' = (length lent ≢ rows) → (held : List (Trial P)) → Stays M rows call answer count held count' held
