-- What a feed answers, and what it leaves in the rows.
use Rattle.std.specs.Prelude.{◌≡◌, ℕ, true, cond, List, map, length, is_err, Ok, Err, filter, Result}
use Rattle.space.specs.Meaning.{Meaning}
use Rattle.space.specs.declared.tagged.Trial.{Trial}
use Rattle.history.specs.declared.answers.Fed.{Fed}
use Rattle.history.specs.declared.answers.Offered.{Offered}
use Rattle.history.specs.declared.denials.Denial.{Denial}
use Rattle.history.specs.declared.denials.Denial.TheVariants.{OffGrid}
use Rattle.history.specs.declared.faults.FeedFault.{FeedFault}
use Rattle.history.specs.Answers.{feed_answer, told_feed, verdict_of}
use Rattle.history.specs.BlockTrials.{TrialAt}
use Rattle.history.specs.Calls.Call.{feed}
use Rattle.history.specs.Checks.{feed_check}
use Rattle.history.specs.Feeding.{tally}
use Rattle.history.specs.State.{members_after, members_called, on_grid}
use Rattle.history.specs.Step.{judge, members_then}
use Rattle.archive.specs.declared.members.Members.{Members}
use Rattle.archive.specs.Held.{held_by}
use Rattle.archive.specs.Lent.{Lent, members}
use Rattle.archive.specs.Standing.{StaysAs, StaysApartAs}

-- the answer to a trial of a block: off the grid it is denied, and else the step decides
abbrev pub trial_answer : {P : Type 0} → Meaning P → ℕ → List (Trial P) → Trial P → Result Offered Denial
trial_answer M rows members t = cond (on_grid M t) (verdict_of (judge M rows members t)) (Err OffGrid)

-- the members after it
abbrev pub members_tried : {P : Type 0} → Meaning P → ℕ → List (Trial P) → Trial P → List (Trial P)
members_tried M rows members t = cond (on_grid M t) (members_then members (judge M rows members t)) members

-- the rows once a trial of a block was tried: the answer is told, and the members are in front of the same rows
pub record TriedRight {P : Type 0} (M : Meaning P) (t : Trial P) (a : Members P) (r : Result Offered Denial) (b : Members P) : Type 0 where
  pub value : r ≡ trial_answer M (length a.rows.now) (held_by a) t
  pub in_order : held_by b ≡ members_tried M (length a.rows.now) (held_by a) t
  pub long : length b.rows.now ≡ length a.rows.now
  pub same_rows : b.rows.ghost_name ≡ a.rows.ghost_name

-- the members after these trials of a block, which are judged where they are on the grid
abbrev pub members_taken : {P : Type 0} → Meaning P → ℕ → List (Trial P) → List (TrialAt P) → List (Trial P)
members_taken M rows members xs = members_after M rows members (filter (on_grid M) (map (λ x. x.read) xs))

-- the rows once some trials of a block were tried, one after the other: what they came to is told, and the members are in front
pub record TakenRight {P : Type 0} (M : Meaning P) (xs : List (TrialAt P)) (a : Members P) (r : Fed) (b : Members P) : Type 0 where
  pub told : r ≡ tally M (length a.rows.now) (held_by a) xs
  pub in_order : held_by b ≡ members_taken M (length a.rows.now) (held_by a) xs
  pub long : length b.rows.now ≡ length a.rows.now
  pub same_rows : b.rows.ghost_name ≡ a.rows.ghost_name

-- how many members there are after the feed of a block
abbrev pub count_fed : {P : Type 0} → Meaning P → (List ℕ → P) → Lent P → List ℕ → ℕ
count_fed M reads a block = elim (feed_check M reads a.rows (length a.held) block) [ Ok xs ↦ length (members_called M reads a.rows (members a) (feed (length a.held) block)) | Err f ↦ a.count ]

-- what holds of every feed: a is the archive with what it is lent before, r its answer, and b the same after
pub record FeedRight {P : Type 0} (M : Meaning P) (reads : List ℕ → P) (block : List ℕ) (a : Lent P) (r : Result Fed FeedFault) (b : Lent P) : Type 0 where
  -- the answer is the defined one
  pub value : r ≡ feed_answer M reads a.rows (members a) (length a.held) block
  -- the archive remembers its rows and counts the members, and the first rows hold them, in order
  pub same_rows : b.rows ≡ a.rows
  pub counted : b.count ≡ count_fed M reads a block
  pub in_order : members b ≡ members_called M reads a.rows (members a) (feed (length a.held) block)
  -- a refused feed alters nothing
  pub untouched : is_err r ≡ true → (b.count ≡ a.count) × (b.held ≡ a.held)
  -- what stood under a history stands under it with this feed and its answer added
  pub stays : StaysAs M reads a.rows (feed (length a.held) block) (told_feed r) a.count a.held b.count b.held
  pub stays_apart : StaysApartAs M reads a.rows (feed (length a.held) block) (told_feed r) a.held a.count b.count
