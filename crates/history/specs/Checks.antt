-- What calls are checked for before a trial is judged. The first check that fails is answered.
use Rattle.std.specs.Prelude.{ℕ, cond, not, List, Some, None, Ok, Err, Option, Result, ◌==◌, nat_lt}
use Rattle.space.specs.Meaning.{Meaning}
use Rattle.space.specs.declared.tagged.Trial.{Trial}
use Rattle.history.specs.declared.denials.Denial.{Denial}
use Rattle.history.specs.declared.denials.Denial.TheVariants as denial
use Rattle.history.specs.declared.faults.FeedFault.{FeedFault}
use Rattle.history.specs.declared.faults.FeedFault.TheVariants as fault
use Rattle.history.specs.BlockTrials.{TrialAt, block_trials}

-- why a making over n rows is denied, if it is
abbrev pub making_denial : ℕ → Option Denial
making_denial n = cond (n == 0) (Some denial.NoRows) (cond (nat_lt 4096 n) (Some denial.Overlong) None)

-- this answer where as many rows are lent as at the making, and else strange rows
abbrev pub own_rows : {A : Type 0} → ℕ → ℕ → Result A Denial → Result A Denial
own_rows rows lent answer = cond (lent == rows) answer (Err denial.StrangeRows)

-- an offer: the trial that is to be judged, if the rows are the archive's, the list is as long as they, and the point is admitted
abbrev pub offer_check : {P : Type 0} → Meaning P → ℕ → ℕ → ℕ → Trial P → Result (Trial P) Denial
offer_check M rows lent room t =
    own_rows rows lent
    (cond (nat_lt room rows) (Err denial.ShortList)
    (cond (not (M.admits t.point)) (Err denial.OffGrid)
    (Ok t)))

-- a feed: the trials of the block, if the rows are the archive's and nothing is wrong with the block
abbrev pub feed_check : {P : Type 0} → Meaning P → (List ℕ → P) → ℕ → ℕ → List ℕ → Result (List (TrialAt P)) FeedFault
feed_check M reads rows lent block = cond (lent == rows) (block_trials M reads block) (Err fault.StrangeRows)
