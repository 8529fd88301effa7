-- Feeding the blocks of one archive's members to another archive.
use Rattle.std.specs.Prelude.{◌≡◌, ◌^◌, ◌<◌, ◌≤◌, List, map, length}
use Rattle.std.specs.List.{range_with_len}
use Rattle.space.specs.Meaning.{Meaning, Lawful}
use Rattle.space.specs.Recording.{Recording, Faithful, FourEach, WritableIfAdmitted, read_point}
use Rattle.space.specs.declared.tagged.Trial.{Trial}
use Rattle.history.specs.declared.answers.Answer.TheVariants.{Fed}
use Rattle.history.specs.Lists.{EachIn}
use Rattle.history.specs.Calls.{History, calls, answers}
use Rattle.history.specs.Calls.Call.{feed}
use Rattle.history.specs.Saving.{per_block, block_count, in_block, saved_blocks}
use Rattle.history.specs.State.{state}
use Rattle.history.specs.Feeding.{all_entered}
use Rattle.history.specs.Truthful.{Truthful}

-- a recorded space: its meaning keeps the laws, its bytes are faithful, and a point takes four bytes an objective
pub record RecordedLaws {P : Type 0} (M : Meaning P) (R : Recording P) : Type 0 where
  pub lawful : Lawful M
  pub faithful : Faithful R
  pub four_each : FourEach M R

-- the members can be saved: their tags have 32 bits each, and their points, which are admitted, are writable; the functions of a
-- recorded space promise this of every point that they write
pub record Savable {P : Type 0} (M : Meaning P) (R : Recording P) (members : List (Trial P)) : Type 0 where
  pub tags : EachIn members (λ r. r.tag < 2 ^ 32)
  pub writable : EachIn members (λ r. WritableIfAdmitted M R r.point)

-- the history is truthful, has rows enough, and consists of feeds alone, with its own rows lent, of the blocks of these members in order
pub record FedBack {P : Type 0} (M : Meaning P) (R : Recording P) (members : List (Trial P)) (k : History P) : Type 0 where
  pub truthful : Truthful M (read_point R) k
  pub enough : length members ≤ k.rows
  pub feeds : calls k ≡ map (feed k.rows) (saved_blocks M R members)

-- then it has the same members in the same order, which are the same blocks; and each feed told that all trials of its block
-- entered, and that none was passed over, denied or displaced
pub record BroughtBack {P : Type 0} (M : Meaning P) (R : Recording P) (members : List (Trial P)) (k : History P) : Type 0 where
  pub same_members : (state M (read_point R) k).members ≡ members
  pub same_blocks : saved_blocks M R (state M (read_point R) k).members ≡ saved_blocks M R members
  pub entered : answers k ≡ map (λ i. Fed (all_entered (in_block (per_block M) (length members) i))) (range_with_len 0 (block_count (per_block M) (length members)))
