-- The answer that each call is to have, from its arguments, the number of rows and the members before it.
use Rattle.std.specs.Prelude.{ℕ, cond, not, List, length, Ok, Err, Option, Result, ◌==◌, nat_le, nat_lt}
use Rattle.std.specs.Result.{result_map_both}
use Rattle.space.specs.Meaning.{Meaning}
use Rattle.space.specs.declared.tagged.Trial.{Trial}
use Rattle.history.specs.declared.denials.Denial.{Denial}
use Rattle.history.specs.declared.denials.Denial.TheVariants.{ShortList, Full, WrongLength, NoSuchBlock}
use Rattle.history.specs.declared.faults.FeedFault.{FeedFault}
use Rattle.history.specs.declared.answers.Offered.{Offered}
use Rattle.history.specs.declared.answers.Fed.{Fed}
use Rattle.history.specs.declared.answers.Answer.{Answer}
use Rattle.history.specs.declared.answers.Answer.TheVariants as answer
use Rattle.history.specs.Step.{Outcome, judge}
use Rattle.history.specs.Step.Outcome.{judged, full}
use Rattle.history.specs.Calls.{Call}
use Rattle.history.specs.Calls.Call.{offer, feed, audit, list, save}
use Rattle.history.specs.Saving.{per_block, block_count, in_block}
use Rattle.history.specs.Checks.{own_rows, offer_check, feed_check}
use Rattle.history.specs.Feeding.{tally}
use Rattle.history.specs.Auditing.{first_pair}

-- the answer to a trial on the grid
abbrev pub verdict_of : {P : Type 0} → Outcome P → Result Offered Denial
verdict_of (judged verdict gone after) = Ok (record { verdict = verdict; displaced = length gone })
verdict_of full = Err Full

-- an offer: the verdict and how many members go, or a denial
abbrev pub offer_answer : {P : Type 0} → Meaning P → ℕ → List (Trial P) → ℕ → ℕ → Trial P → Result Offered Denial
offer_answer M rows members lent room t = elim (offer_check M rows lent room t) [ Ok r ↦ verdict_of (judge M rows members r) | Err d ↦ Err d ]

-- a feed: what the trials of the block come to, or what it is refused for
abbrev pub feed_answer : {P : Type 0} → Meaning P → (List ℕ → P) → ℕ → List (Trial P) → ℕ → List ℕ → Result Fed FeedFault
feed_answer M reads rows members lent block = result_map_both (tally M rows members) (λ f. f) (feed_check M reads rows lent block)

-- an audit: the first pair of rows that may not be members together, if there is one, or a denial
abbrev pub audit_answer : {P : Type 0} → Meaning P → ℕ → List (Trial P) → ℕ → Result (Option (ℕ × ℕ)) Denial
audit_answer M rows members lent = own_rows rows lent (Ok (first_pair M members))

-- a list: how many tags are written, or a denial
abbrev pub list_answer : {P : Type 0} → ℕ → List (Trial P) → ℕ → ℕ → Result ℕ Denial
list_answer rows members lent room =
    own_rows rows lent
    (cond (nat_lt room (length members)) (Err ShortList)
    (Ok (length members)))

-- a save: how many trials are written, or a denial
abbrev pub save_answer : {P : Type 0} → Meaning P → ℕ → List (Trial P) → ℕ → ℕ → ℕ → Result ℕ Denial
save_answer M rows members lent number size =
    own_rows rows lent
    (cond (not (size == 512)) (Err WrongLength)
    (cond (nat_le (block_count (per_block M) (length members)) number) (Err NoSuchBlock)
    (Ok (in_block (per_block M) (length members) number))))

-- an answer or a denial, as what any call may answer
abbrev pub told : {A : Type 0} → (A → Answer) → Result A Denial → Answer
told granted (Ok a) = granted a
told granted (Err d) = answer.Denied d

-- what a feed answers, or what it is refused for, likewise
abbrev pub told_feed : Result Fed FeedFault → Answer
told_feed (Ok f) = answer.Fed f
told_feed (Err f) = answer.Refused f

-- the defined answer of a call
abbrev pub answer_of : {P : Type 0} → Meaning P → (List ℕ → P) → ℕ → List (Trial P) → Call P → Answer
answer_of M reads rows members (offer lent room t) = told answer.Offered (offer_answer M rows members lent room t)
answer_of M reads rows members (feed lent block) = told_feed (feed_answer M reads rows members lent block)
answer_of M reads rows members (audit lent) = told answer.Audited (audit_answer M rows members lent)
answer_of M reads rows members (list lent room) = told answer.Listed (list_answer rows members lent room)
answer_of M reads rows members (save lent number size) = told answer.Saved (save_answer M rows members lent number size)
