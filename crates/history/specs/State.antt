-- The reference state: what the number of rows and the arguments of a history's calls alone decide. How bytes become a point is given.
use Rattle.std.specs.Prelude.{ℕ, ◌+◌, Bool, List, [], ◌∷◌, ◌++◌, map, length, Ok, Err, filter}
use Rattle.std.specs.Result.{result_unwrap_or}
use Rattle.space.specs.Meaning.{Meaning}
use Rattle.space.specs.declared.tagged.Trial.{Trial}
use Rattle.history.specs.declared.verdicts.Verdict.{Verdict}
use Rattle.history.specs.declared.verdicts.Verdict.TheVariants.{PassedOver, Entered, Displaced, Replaced}
use Rattle.history.specs.Step.{Outcome, judge, members_then}
use Rattle.history.specs.Step.Outcome.{judged, full}
use Rattle.history.specs.Calls.{Call, Event, History}
use Rattle.history.specs.Calls.Call.{offer, feed, audit, list, save}
use Rattle.history.specs.Checks.{offer_check, feed_check}

-- the members in order and all judged trials; and of the steps that led here, how many trials entered, how many members went,
-- and how many trials found no row
pub record State (P : Type 0) : Type 0 where
  pub members : List (Trial P)
  pub trials : List (Trial P)
  pub entered : ℕ
  pub displaced : ℕ
  pub rowless : ℕ

-- at first there is nothing
abbrev pub fresh : {P : Type 0} → State P
fresh = record { members = []; trials = []; entered = 0; displaced = 0; rowless = 0 }

-- a trial enters with every verdict but passed over: how many entered by this one
abbrev pub entries : Verdict → ℕ
entries PassedOver = 0
entries Entered = 1
entries Displaced = 1
entries Replaced = 1

-- the state after a trial with this outcome: a trial that found no row is not judged
abbrev pub after : {P : Type 0} → State P → Trial P → Outcome P → State P
after s t (judged verdict gone members) = record {
  members = members;
  trials = s.trials ++ (t ∷ []);
  entered = s.entered + entries verdict;
  displaced = s.displaced + length gone;
  rowless = s.rowless;
}
after s t full = record {
  members = s.members;
  trials = s.trials;
  entered = s.entered;
  displaced = s.displaced;
  rowless = s.rowless + 1;
}

-- the state after these trials, one after the other
abbrev pub after_all : {P : Type 0} → Meaning P → ℕ → State P → List (Trial P) → State P
after_all M rows s [] = s
after_all M rows s (t ∷ ts) = after_all M rows (after s t (judge M rows s.members t)) ts

-- the trial's point is on the grid
abbrev pub on_grid : {P : Type 0} → Meaning P → Trial P → Bool
on_grid M t = M.admits t.point

-- the trials that a call brings to be judged, in order: none if it is denied for anything but want of a row
abbrev pub brought : {P : Type 0} → Meaning P → (List ℕ → P) → ℕ → Call P → List (Trial P)
brought M reads rows (offer lent room t) = elim (offer_check M rows lent room t) [ Ok r ↦ r ∷ [] | Err d ↦ [] ]
brought M reads rows (feed lent block) = filter (on_grid M) (map (λ x. x.read) (result_unwrap_or (feed_check M reads rows lent block) []))
brought M reads rows (audit lent) = []
brought M reads rows (list lent room) = []
brought M reads rows (save lent number size) = []

-- the state after these calls, the newest first
unfoldable pub state_of : {P : Type 0} → Meaning P → (List ℕ → P) → ℕ → List (Event P) → State P
state_of M reads rows [] = fresh
state_of M reads rows (e ∷ es) = after_all M rows (state_of M reads rows es) (brought M reads rows e.call)

-- the state after a history
abbrev pub state : {P : Type 0} → Meaning P → (List ℕ → P) → History P → State P
state M reads h = state_of M reads h.rows h.events

-- the members after these trials, by the members before
unfoldable pub members_after : {P : Type 0} → Meaning P → ℕ → List (Trial P) → List (Trial P) → List (Trial P)
members_after M rows members [] = members
members_after M rows members (t ∷ ts) = members_after M rows (members_then members (judge M rows members t)) ts

-- the members after a call, by the members before
abbrev pub members_called : {P : Type 0} → Meaning P → (List ℕ → P) → ℕ → List (Trial P) → Call P → List (Trial P)
members_called M reads rows members c = members_after M rows members (brought M reads rows c)
