-- What an offer answers, and what it leaves in the rows and in the list.
use Rattle.std.specs.Prelude.{◌≡◌, ℕ, ◌-◌, ◌≤◌, Bool, true, not, List, [], ◌∷◌, ◌++◌, map, length, take, drop, is_err, Ok, Err, filter, Result}
use Rattle.std.specs.List.{remove}
use Rattle.std.specs.List.Sorted.{IsPermutation}
use Rattle.space.specs.Meaning.{Meaning}
use Rattle.space.specs.declared.tagged.Trial.{Trial}
use Rattle.history.specs.declared.answers.Answer.TheVariants as answer
use Rattle.history.specs.declared.answers.Offered.{Offered}
use Rattle.history.specs.declared.denials.Denial.{Denial}
use Rattle.history.specs.declared.verdicts.Verdict.TheVariants.{Replaced}
use Rattle.history.specs.Answers.{offer_answer, verdict_of, told}
use Rattle.history.specs.Calls.{Call}
use Rattle.history.specs.Calls.Call.{offer}
use Rattle.history.specs.Checks.{offer_check}
use Rattle.history.specs.Step.{Outcome, judge, members_then}
use Rattle.history.specs.Step.Outcome.{judged, full}
use Rattle.archive.specs.declared.members.Members.{Members}
use Rattle.archive.specs.Held.{held_by}
use Rattle.archive.specs.Lent.{Lent, members}
use Rattle.archive.specs.Standing.{Stays, StaysApart}

-- the call: how many rows and how long a list were lent, and the trial
abbrev pub offer_of : {P : Type 0} → Lent P → Trial P → Call P
offer_of a t = offer (length a.held) (length a.list) t

-- the trial, if it is to be judged
abbrev pub to_judge : {P : Type 0} → Meaning P → Lent P → Trial P → Result (Trial P) Denial
to_judge M a t = offer_check M a.rows (length a.held) (length a.list) t

-- the members after the offer, and how many they are
abbrev pub members_offered : {P : Type 0} → Meaning P → Lent P → Trial P → List (Trial P)
members_offered M a t = elim (to_judge M a t) [ Ok r ↦ members_then (members a) (judge M a.rows (members a) r) | Err d ↦ members a ]

abbrev pub count_offered : {P : Type 0} → Meaning P → Lent P → Trial P → ℕ
count_offered M a t = elim (to_judge M a t) [ Ok r ↦ length (members_then (members a) (judge M a.rows (members a) r)) | Err d ↦ a.count ]

-- the members that go
abbrev pub gone_of : {P : Type 0} → Outcome P → List (Trial P)
gone_of (judged verdict gone after) = gone
gone_of full = []

abbrev pub gone_offered : {P : Type 0} → Meaning P → Lent P → Trial P → List (Trial P)
gone_offered M a t = elim (to_judge M a t) [ Ok r ↦ gone_of (judge M a.rows (members a) r) | Err d ↦ [] ]

-- the tags of these trials stand in front of the list, each once for each trial and in any order, and the rest is as it was
pub record TagsInFront {P : Type 0} (gone : List (Trial P)) (before after : List ℕ) : Type 0 where
  pub tags : IsPermutation (map (λ r. r.tag) gone) (take (length gone) after)
  pub rest : drop (length gone) after ≡ drop (length gone) before

-- of these rows, n stay and stand in front, in their order; the tags of those that go are in front of the list, in row order, if
-- it has room for them, and the rest of the list is as it was
pub record Closed {P : Type 0} (goes : Trial P → Bool) (held : List (Trial P)) (list : List ℕ) (n : ℕ) (held' : List (Trial P)) (list' : List ℕ) : Type 0 where
  pub fewer : n ≤ length held
  pub stay : take n held' ≡ filter (λ r. not (goes r)) held
  pub tags : length held - n ≤ length list → take (length held - n) list' ≡ map (λ r. r.tag) (filter goes held)
  pub rest : drop (length held - n) list' ≡ drop (length held - n) list

-- the member in one row goes, and the trial enters after the others
abbrev pub replacing_row : {P : Type 0} → List (Trial P) → ℕ → Trial P → Outcome P
replacing_row members row t = judged Replaced (take 1 (drop row members)) (remove members row ++ (t ∷ []))

-- the rows and the list once a trial had this outcome: the answer and the new count are told, the members are in front, and the
-- tags of those that went are in front of the list, if it has room for them
pub record StepRight {P : Type 0} (outcome : Outcome P) (a : Members P) (list : List ℕ) (r : Result Offered Denial) (b : Members P) (list' : List ℕ) : Type 0 where
  pub value : r ≡ verdict_of outcome
  pub counted : b.count ≡ length (members_then (held_by a) outcome)
  pub in_order : held_by b ≡ members_then (held_by a) outcome
  pub tags : length (gone_of outcome) ≤ length list → TagsInFront (gone_of outcome) list list'
  -- a trial that finds no row alters nothing
  pub untouched : is_err r ≡ true → (b.count ≡ a.count) × (b.rows.now ≡ a.rows.now) × (list' ≡ list)
  -- these are the same rows, and as many
  pub long : length b.rows.now ≡ length a.rows.now
  pub same_rows : b.rows.ghost_name ≡ a.rows.ghost_name

-- what holds of every offer: a is the archive with what it is lent before, r its answer, and b the same after
pub record OfferRight {P : Type 0} (M : Meaning P) (t : Trial P) (a : Lent P) (r : Result Offered Denial) (b : Lent P) : Type 0 where
  -- the answer is the defined one
  pub value : r ≡ offer_answer M a.rows (members a) (length a.held) (length a.list) t
  -- the archive remembers its rows and counts the members, and the first rows hold them, in order
  pub same_rows : b.rows ≡ a.rows
  pub counted : b.count ≡ count_offered M a t
  pub in_order : members b ≡ members_offered M a t
  -- the tags of those that went are in front of the list
  pub tags : TagsInFront (gone_offered M a t) a.list b.list
  -- a denied offer alters nothing
  pub untouched : is_err r ≡ true → (b.count ≡ a.count) × (b.held ≡ a.held) × (b.list ≡ a.list)
  -- what stood under a history stands under it with this offer and its answer added
  pub stays : Stays M a.rows (offer_of a t) (told answer.Offered r) a.count a.held b.count b.held
  pub stays_apart : StaysApart M a.rows (offer_of a t) (told answer.Offered r) a.held a.count b.count
