-- An archive as it stands under a history.
use Rattle.std.specs.Prelude.{◌≡◌, ℕ, List, length, take, None}
use Rattle.space.specs.Meaning.{Meaning}
use Rattle.space.specs.declared.tagged.Trial.{Trial}
use Rattle.history.specs.Calls.{History}
use Rattle.history.specs.Checks.{making_denial}
use Rattle.history.specs.State.{state}
use Rattle.history.specs.Truthful.{Truthful}
use Rattle.history.specs.Promises.{Promises}

-- an archive that remembers this number of rows and this count, and the trials that its rows hold, are as a granted and
-- truthful history says: the rows below the count hold the members in order, and every promise holds
pub record Stands {P : Type 0} (M : Meaning P) (reads : List ℕ → P) (h : History P) (rows count : ℕ) (held : List (Trial P)) : Type 0 where
  pub granted : making_denial h.rows ≡ None
  pub truthful : Truthful M reads h
  pub made : rows ≡ h.rows
  pub long : length held ≡ rows
  pub counted : count ≡ length (state M reads h).members
  pub in_order : take count held ≡ (state M reads h).members
  pub promises : Promises M reads h
