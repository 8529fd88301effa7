-- What a logger's trials are compared in, how their points are bytes, and which trials the lines of a text tell of.
use Rattle.std.specs.Prelude.{ℕ, List, [], ◌∷◌, ℤ, pos, Ok, Err, Some, None, Option, Result}
use Rattle.space.specs.declared.tagged.Trial.{Trial}
use Rattle.space.specs.Meaning.{Meaning}
use Rattle.space.specs.Recording.{Recording}
use Rattle.grid.specs.Bits.{signed_bits, unsigned_bits}
use Rattle.grid.specs.Bytes.{grid_recording}
use Rattle.grid.specs.Space.{grid_meaning}
use Rattle.step.specs.declared.scaling.Direction.TheVariants.{SmallerIsBetter}
use Rattle.step.specs.declared.scaling.Scale as steps
use Rattle.step.specs.Rule.{step_line}
use Rattle.ratio.specs.declared.scaling.Scale as ratios
use Rattle.ratio.specs.Rule.{ratio_line}
use Rattle.beside.specs.Pair.{joined, joined_bytes}
use Rattle.entry.specs.declared.outcome.Entry.{Entry}
use Rattle.entry.specs.declared.outcome.Malformed.{Malformed}

-- delays from 0 to 9,999 in steps of 500, the shorter the better
abbrev pub delay : steps.Scale
delay = record { direction = SmallerIsBetter; low = pos 0; high = pos 9999; step = 500 }

-- lives from 1 to 1,000, in boxes half as great again
abbrev pub life : ratios.Scale
life = record { per_cent = 50; ceiling = 1000 }

-- delays alone and lives alone, and their bytes
abbrev pub delay_meaning : Meaning (List ℤ)
delay_meaning = grid_meaning signed_bits (step_line delay ∷ [])

abbrev pub delay_bytes : Recording (List ℤ)
delay_bytes = grid_recording signed_bits 1

abbrev pub life_meaning : Meaning (List ℕ)
life_meaning = grid_meaning unsigned_bits (ratio_line life ∷ [])

abbrev pub life_bytes : Recording (List ℕ)
life_bytes = grid_recording unsigned_bits 1

-- the delay beside the life
abbrev pub logger : Meaning (List ℤ × List ℕ)
logger = joined delay_meaning life_meaning

-- a point is eight bytes: the delay, and then the life
abbrev pub logger_bytes : Recording (List ℤ × List ℕ)
logger_bytes = joined_bytes delay_bytes life_bytes

-- the trial that an entry tells of
abbrev pub trial_of : Entry → Trial (List ℤ × List ℕ)
trial_of e = record { point = (e.delay ∷ pos 0 ∷ pos 0 ∷ pos 0 ∷ pos 0 ∷ pos 0 ∷ [], e.life ∷ 0 ∷ 0 ∷ 0 ∷ 0 ∷ 0 ∷ []); tag = e.tag }

-- the trial of a line, if it tells of one
abbrev pub trial_of_line : Result Entry Malformed → Option (Trial (List ℤ × List ℕ))
trial_of_line (Ok e) = Some (trial_of e)
trial_of_line (Err m) = None

-- the trials of the lines that tell of one, in their order
abbrev pub trials_of : List (Result Entry Malformed) → List (Trial (List ℤ × List ℕ))
trials_of [] = []
trials_of (Ok e ∷ ls) = trial_of e ∷ trials_of ls
trials_of (Err m ∷ ls) = trials_of ls
