-- The trials of a block.
use Rattle.std.specs.Prelude.{ℕ, List, [], ◌∷◌, Result}
use Rattle.std.specs.Result.{result_map_both}
use Rattle.log_block.specs.Items.{ItemAt, trial, note}
use Rattle.log_block.specs.Block.{checked}
use Rattle.space.specs.Meaning.{Meaning}
use Rattle.space.specs.declared.tagged.Trial.{Trial}
use Rattle.history.specs.declared.faults.FeedFault.{FeedFault}
use Rattle.history.specs.Reports.{from_log}

-- a trial of a block, and the place of its record's first byte
pub record TrialAt (P : Type 0) : Type 0 where
  pub place : ℕ
  pub read : Trial P

-- the trials among these records, in order, without the notes; how bytes become a point is given
abbrev pub trials_of : {P : Type 0} → (List ℕ → P) → List ItemAt → List (TrialAt P)
trials_of reads [] = []
trials_of reads (x ∷ xs) = elim x.item [
  | trial tag bytes ↦ record { place = x.place; read = record { point = reads bytes; tag = tag } } ∷ trials_of reads xs
  | note text ↦ trials_of reads xs
]

-- the trials of bytes that are to be a block, or the first fault of the block
abbrev pub block_trials : {P : Type 0} → Meaning P → (List ℕ → P) → List ℕ → Result (List (TrialAt P)) FeedFault
block_trials M reads block = result_map_both (trials_of reads) from_log (checked M.objectives block)
