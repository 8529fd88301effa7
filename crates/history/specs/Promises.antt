-- What holds after every truthful history.
use Rattle.std.specs.Prelude.{◌≡◌, ℕ, ◌+◌, ◌<◌, ◌≤◌, true, not, ◌↔◌, List, [], map, length, None, filter, ◌≢◌}
use Rattle.std.specs.Result.{result_unwrap_or}
use Rattle.space.specs.Meaning.{Meaning}
use Rattle.space.specs.Boxes.{Dominates, SameBox, BoxDominates}
use Rattle.space.specs.declared.tagged.Trial.{Trial}
use Rattle.history.specs.Lists.{◌∈◌, SomeIn, NoneIn, EachIn, Pairwise}
use Rattle.history.specs.Calls.{Call, History}
use Rattle.history.specs.Calls.Call.{offer, feed, audit, list, save}
use Rattle.history.specs.Checks.{feed_check}
use Rattle.history.specs.State.{state, on_grid}
use Rattle.history.specs.Auditing.{first_pair}
use Rattle.history.specs.RowNeed.{all_but, row_need}
use Rattle.history.specs.Told.{tells_entered, tells_displaced, tells_denied, tells_number, summed}

-- how many trials of a feed's block are off the grid
abbrev pub off_in : {P : Type 0} → Meaning P → (List ℕ → P) → ℕ → Call P → ℕ
off_in M reads rows (offer lent room t) = 0
off_in M reads rows (feed lent block) = length (filter (λ t. not (on_grid M t)) (map (λ x. x.read) (result_unwrap_or (feed_check M reads rows lent block) [])))
off_in M reads rows (audit lent) = 0
off_in M reads rows (list lent room) = 0
off_in M reads rows (save lent number size) = 0

-- nothing was denied for want of a row: no answer tells of number 6, a feed denies only what is off the grid, and no trial found no row
pub record Roomy {P : Type 0} (M : Meaning P) (reads : List ℕ → P) (h : History P) : Type 0 where
  pub never_full : EachIn h.events (λ e. tells_number e.answer ≢ 6)
  pub only_off : EachIn h.events (λ e. tells_denied e.answer ≡ off_in M reads h.rows e.call)
  pub none_rowless : (state M reads h).rowless ≡ 0

-- the answers told what the steps came to, and they add up to the members; the members are few; and with row need rows there is always room
pub record Counting {P : Type 0} (M : Meaning P) (reads : List ℕ → P) (h : History P) : Type 0 where
  pub entered : summed tells_entered h.events ≡ (state M reads h).entered
  pub displaced : summed tells_displaced h.events ≡ (state M reads h).displaced
  pub balance : length (state M reads h).members + summed tells_displaced h.events ≡ summed tells_entered h.events
  pub fits : length (state M reads h).members ≤ h.rows
  pub bounded : (i : ℕ) → i < M.objectives → length (state M reads h).members ≤ all_but M i
  pub roomy : row_need M ≤ h.rows → Roomy M reads h

-- each member is a judged trial, its tag and all; no judged trial dominates a member; and a member covers every judged trial
pub record Members {P : Type 0} (M : Meaning P) (members trials : List (Trial P)) : Type 0 where
  pub own : EachIn members (λ r. r ∈ trials)
  pub undominated : EachIn members (λ r. NoneIn trials (λ t. Dominates M t.point r.point))
  pub covered : EachIn trials (λ t. SomeIn members (λ r. M.covers r.point t.point ≡ true))

-- the point's box is held by a member
abbrev pub Held : {P : Type 0} → Meaning P → List (Trial P) → P → Type 0
Held M members p = SomeIn members (λ r. SameBox M r.point p)

-- of the judged trials' boxes exactly those are held that no judged trial's box dominates, each by one member
pub record Boxes {P : Type 0} (M : Meaning P) (members trials : List (Trial P)) : Type 0 where
  pub exactly : EachIn trials (λ t. Held M members t.point ↔ NoneIn trials (λ s. BoxDominates M s.point t.point))
  pub once : Pairwise (λ r s. SameBox M r.point s.point → ⊥) members

-- the same trials, in whatever order and however often
abbrev pub SameTrials : {P : Type 0} → List (Trial P) → List (Trial P) → Type 0
SameTrials {P} ts us = (t : Trial P) → (t ∈ ts) ↔ (t ∈ us)

-- the same boxes are held
abbrev pub SameBoxes : {P : Type 0} → Meaning P → List (Trial P) → List (Trial P) → Type 0
SameBoxes {P} M ms ns = (p : P) → Held M ms p ↔ Held M ns p

-- all of it; any other history with the same judged trials holds the same boxes, and an audit finds nothing
pub record Promises {P : Type 0} (M : Meaning P) (reads : List ℕ → P) (h : History P) : Type 0 where
  pub counting : Counting M reads h
  pub members : Members M (state M reads h).members (state M reads h).trials
  pub boxes : Boxes M (state M reads h).members (state M reads h).trials
  pub any_order : (other : List ℕ → P) (k : History P) → SameTrials (state M reads h).trials (state M other k).trials → SameBoxes M (state M reads h).members (state M other k).members
  pub audit_none : first_pair M (state M reads h).members ≡ None
