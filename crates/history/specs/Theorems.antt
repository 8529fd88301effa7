-- The theorems on histories, over points of any type. Each is what a function promises that does nothing else.
use Rattle.std.specs.Prelude.{◌≡◌, ℕ, ◌<◌, ◌≤◌, true, ◌↔◌, List, [], length, take, None}
use Rattle.space.specs.Meaning.{Meaning, Lawful}
use Rattle.space.specs.Recording.{Recording}
use Rattle.space.specs.declared.tagged.Trial.{Trial}
use Rattle.history.specs.Lists.{EachIn, Pairwise}
use Rattle.history.specs.Comparing.{Apart}
use Rattle.history.specs.Step.{judge}
use Rattle.history.specs.TwoLevel.{TwoLevel}
use Rattle.history.specs.Calls.{Event, History, begun, ◌▸◌}
use Rattle.history.specs.Checks.{making_denial}
use Rattle.history.specs.State.{brought, state, members_called, on_grid}
use Rattle.history.specs.Auditing.{first_pair, FirstAtFault}
use Rattle.history.specs.Answers.{answer_of}
use Rattle.history.specs.Truthful.{Truthful}
use Rattle.history.specs.RowNeed.{all_but, largest, row_need}
use Rattle.history.specs.Promises.{Promises}
use Rattle.history.specs.Stands.{Stands}
use Rattle.history.specs.RoundTrip.{RecordedLaws, FedBack, BroughtBack, Savable}

-- every truthful history keeps the promises
abbrev pub HistoryKeeps : Type 0 → Type 0
HistoryKeeps P = (M : Meaning P) → Lawful M → (reads : List ℕ → P) (h : History P) → Truthful M reads h → Promises M reads h

-- a granted making begins one, whatever the rows hold
abbrev pub MakingBegins : Type 0 → Type 0
MakingBegins P = (M : Meaning P) → Lawful M → (reads : List ℕ → P) (n : ℕ) → making_denial n ≡ None → (held : List (Trial P)) → length held ≡ n → Stands M reads (begun n) n 0 held

-- what stood before a call stands after it, if the call gave its defined answer and left the rows with the members that it makes
abbrev pub CallKeeps : Type 0 → Type 0
CallKeeps P =
    (M : Meaning P) → Lawful M → (reads : List ℕ → P) (h : History P) (rows count : ℕ) (held : List (Trial P)) → Stands M reads h rows count held →
    (e : Event P) → e.answer ≡ answer_of M reads rows (take count held) e.call →
    (count' : ℕ) (held' : List (Trial P)) → length held' ≡ rows →
    count' ≡ length (members_called M reads rows (take count held) e.call) → take count' held' ≡ members_called M reads rows (take count held) e.call →
    Stands M reads (h ▸ e) rows count' held'

-- a call that brings no trial leaves the state as it was, and rows that are left as they were stand
abbrev pub IdleCallKeeps : Type 0 → Type 0
IdleCallKeeps P =
    (M : Meaning P) → Lawful M → (reads : List ℕ → P) (h : History P) (rows count : ℕ) (held : List (Trial P)) → Stands M reads h rows count held →
    (e : Event P) → e.answer ≡ answer_of M reads rows (take count held) e.call → brought M reads rows e.call ≡ [] →
    (state M reads (h ▸ e) ≡ state M reads h) × Stands M reads (h ▸ e) rows count held

-- an audit tells the first pair at fault
abbrev pub AuditTells : Type 0 → Type 0
AuditTells P = (M : Meaning P) → Lawful M → (members : List (Trial P)) → FirstAtFault M members (first_pair M members)

-- and it tells of none exactly where all members are on the grid and their boxes are apart
abbrev pub AuditClears : Type 0 → Type 0
AuditClears P = (M : Meaning P) → Lawful M → (members : List (Trial P)) → (first_pair M members ≡ None) ↔ (EachIn members (λ r. on_grid M r ≡ true) × Pairwise (Apart M) members)

-- the step is the two-level update, where the members' boxes are apart
abbrev pub StepIsTwoLevel : Type 0 → Type 0
StepIsTwoLevel P = (M : Meaning P) → Lawful M → (rows : ℕ) (members : List (Trial P)) (t : Trial P) → Pairwise (Apart M) members → TwoLevel M rows members t (judge M rows members t)

-- and so it is after every history
abbrev pub StepIsTwoLevelAfter : Type 0 → Type 0
StepIsTwoLevelAfter P = (M : Meaning P) → Lawful M → (reads : List ℕ → P) (h : History P) (t : Trial P) → TwoLevel M h.rows (state M reads h).members t (judge M h.rows (state M reads h).members t)

-- row need leaves out an objective with a largest extent, and leaving out another gives no less
abbrev pub RowNeedIsLeast : Type 0 → Type 0
RowNeedIsLeast P =
    (M : Meaning P) → Lawful M →
    (largest M < M.objectives) × ((i : ℕ) → i < M.objectives → M.extent i ≤ M.extent (largest M)) × ((i : ℕ) → i < M.objectives → row_need M ≤ all_but M i)

-- what one archive's members are saved as, another archive has once it was fed these blocks
abbrev pub RoundTrip : Type 0 → Type 0
RoundTrip P =
    (M : Meaning P) (R : Recording P) → RecordedLaws M R → (reads : List ℕ → P) (h : History P) → Savable M R (state M reads h).members →
    (k : History P) → FedBack M R (state M reads h).members k → BroughtBack M R (state M reads h).members k
