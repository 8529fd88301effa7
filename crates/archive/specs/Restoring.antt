-- What a restore answers, and what it leaves in the rows.
use Rattle.std.specs.Prelude.{◌≡◌, ℕ, ◌+◌, ◌≤◌, List, [], ◌∷◌, map, length, Some, None, Ok, Err, Option}
use Rattle.space.specs.Meaning.{Meaning}
use Rattle.space.specs.Recording.{Recording, read_point}
use Rattle.log_block.specs.Block.{checked}
use Rattle.history.specs.declared.answers.Answer.{Answer}
use Rattle.history.specs.declared.answers.Answer.TheVariants.{Offered, Fed, Audited, Listed, Saved, Denied, Refused}
use Rattle.history.specs.declared.answers.Fed as told
use Rattle.history.specs.Calls.{History, calls, answers}
use Rattle.history.specs.Calls.Call.{feed}
use Rattle.history.specs.Checks.{making_denial}
use Rattle.history.specs.Feeding.{all_entered, capped_fed, sum_fed}
use Rattle.history.specs.RoundTrip.{Savable}
use Rattle.history.specs.Saving.{saved_blocks}
use Rattle.history.specs.Stands.{Stands}
use Rattle.history.specs.State.{state}
use Rattle.archive.specs.declared.restoring.RestoreFault.{RestoreFault}
use Rattle.archive.specs.declared.restoring.RestoreFault.TheVariants as fault
use Rattle.archive.specs.Lent.{Lent, members}

-- of these blocks, which are counted from i on, the first that is at fault, with its fault
abbrev pub first_at_fault : ℕ → ℕ → List (List ℕ) → Option RestoreFault
first_at_fault m i [] = None
first_at_fault m i (block ∷ blocks) = elim (checked m block) [ Ok found ↦ first_at_fault m (i + 1) blocks | Err f ↦ Some (fault.Block i f) ]

-- why nothing is restored over so many rows: the making is denied, or else the first block that is at fault
abbrev pub restore_fault : {P : Type 0} → Meaning P → ℕ → List (List ℕ) → Option RestoreFault
restore_fault M rows blocks = elim (making_denial rows) [ Some d ↦ Some (fault.Denied d) | None ↦ first_at_fault M.objectives 0 blocks ]

-- what a feed told of the trials of its block; a refused one tells of none, nor does another call
abbrev pub fed_of : Answer → told.Fed
fed_of (Offered o) = all_entered 0
fed_of (Fed f) = f
fed_of (Audited pair) = all_entered 0
fed_of (Listed count) = all_entered 0
fed_of (Saved count) = all_entered 0
fed_of (Denied d) = all_entered 0
fed_of (Refused f) = all_entered 0

-- what feeds told, the oldest first, added up
abbrev pub all_fed : List Answer → told.Fed
all_fed [] = all_entered 0
all_fed (x ∷ xs) = sum_fed (fed_of x) (all_fed xs)

-- all blocks are fed: there is a history of their feeds alone, in order, each with the archive's own rows lent; the archive and
-- its rows stand under it; and what these feeds told is added up
pub record FedAll {P : Type 0} (M : Meaning P) (reads : List ℕ → P) (blocks : List (List ℕ)) (fed : told.Fed) (b : Lent P) : Type 0 where
  pub history : History P
  pub called : calls history ≡ map (feed b.rows) blocks
  pub stands : Stands M reads history b.rows b.count b.held
  pub told : fed ≡ capped_fed (all_fed (answers history))

-- where these are the blocks of what a history made of its trials, which can be saved, and there are rows enough, the archive has
-- the same members in the same order, they are the same blocks, and what was told is that all of them entered
abbrev pub BringsBack : {P : Type 0} → Meaning P → Recording P → List (List ℕ) → told.Fed → Lent P → Type 0
BringsBack {P} M R blocks fed b =
    (reads : List ℕ → P) (h : History P) → Savable M R (state M reads h).members → length (state M reads h).members ≤ b.rows → blocks ≡ saved_blocks M R (state M reads h).members →
    (members b ≡ (state M reads h).members) × (saved_blocks M R (members b) ≡ blocks) × (fed ≡ all_entered (length (state M reads h).members))

-- what holds of every restore that is not refused: b is the archive with its rows
pub record RestoreRight {P : Type 0} (M : Meaning P) (R : Recording P) (blocks : List (List ℕ)) (fed : told.Fed) (b : Lent P) : Type 0 where
  pub fed_all : FedAll M (read_point R) blocks fed b
  pub brings_back : BringsBack M R blocks fed b
