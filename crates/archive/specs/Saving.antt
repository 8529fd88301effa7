-- What a save answers, and what it leaves in the block that it is lent.
use Rattle.std.specs.Prelude.{◌≡◌, ℕ, true, List, length, is_ok, Ok, Err, Result}
use Rattle.space.specs.Meaning.{Meaning}
use Rattle.space.specs.Recording.{Recording, WritableIfAdmitted}
use Rattle.space.specs.declared.tagged.Trial.{Trial}
use Rattle.history.specs.declared.answers.Answer.TheVariants as answer
use Rattle.history.specs.declared.denials.Denial.{Denial}
use Rattle.history.specs.Answers.{save_answer, told}
use Rattle.history.specs.Calls.Call.{save}
use Rattle.history.specs.Saving.{block_count, part, per_block, saved_block}
use Rattle.history.specs.Lists.{EachIn}
use Rattle.archive.specs.Lent.{Lent, members}
use Rattle.archive.specs.Standing.{Stays, StaysApart}

-- how many blocks the members are saved as
abbrev pub blocks_of : {P : Type 0} → Meaning P → Lent P → ℕ
blocks_of M a = block_count (per_block M) a.count

-- this block of the members, or what the lent block held
abbrev pub saved_over : {P : Type 0} → Meaning P → Recording P → List (Trial P) → ℕ → List ℕ → Result ℕ Denial → List ℕ
saved_over M R members number before (Ok n) = saved_block M R members number
saved_over M R members number before (Err d) = before

-- what holds of every save, which alters no row; before is what the lent block held, and after what it then holds
pub record SaveRight {P : Type 0} (M : Meaning P) (R : Recording P) (number : ℕ) (a : Lent P) (before : List ℕ) (r : Result ℕ Denial) (after : List ℕ) : Type 0 where
  -- the answer is the defined one
  pub value : r ≡ save_answer M a.rows (members a) (length a.held) number (length before)
  -- the lent block is this block of the members; a denied call leaves it
  pub block : after ≡ saved_over M R (members a) number before r
  -- the points of the members that it wrote are writable, if they are admitted
  pub writable : is_ok r ≡ true → EachIn (part (per_block M) (members a) number) (λ r. WritableIfAdmitted M R r.point)
  -- what stood under a history stands under it with this save and its answer added
  pub stays : Stays M a.rows (save (length a.held) number (length before)) (told answer.Saved r) a.count a.held a.count a.held
  pub stays_apart : StaysApart M a.rows (save (length a.held) number (length before)) (told answer.Saved r) a.held a.count a.count
