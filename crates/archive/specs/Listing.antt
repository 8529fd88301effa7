-- What a list answers, and what it leaves in the list.
use Rattle.std.specs.Prelude.{◌≡◌, ℕ, List, ◌++◌, map, length, drop, Ok, Err, Result}
use Rattle.space.specs.Meaning.{Meaning}
use Rattle.history.specs.declared.answers.Answer.TheVariants as answer
use Rattle.history.specs.declared.denials.Denial.{Denial}
use Rattle.history.specs.Answers.{list_answer, told}
use Rattle.history.specs.Calls.Call.{list}
use Rattle.archive.specs.Lent.{Lent, members}
use Rattle.archive.specs.Standing.{Stays, StaysApart}

-- the members' tags in row order and then what the list held, or what it held
abbrev pub listed_over : {P : Type 0} → Lent P → Result ℕ Denial → List ℕ
listed_over a (Ok n) = map (λ r. r.tag) (members a) ++ drop n a.list
listed_over a (Err d) = a.list

-- what holds of every list, which alters no row; after is what the lent list then holds
pub record ListRight {P : Type 0} (M : Meaning P) (a : Lent P) (r : Result ℕ Denial) (after : List ℕ) : Type 0 where
  -- the answer is the defined one
  pub value : r ≡ list_answer a.rows (members a) (length a.held) (length a.list)
  -- the tags are in front of the list, and the rest is as it was; a denied call leaves it
  pub tags : after ≡ listed_over a r
  -- what stood under a history stands under it with this list and its answer added
  pub stays : Stays M a.rows (list (length a.held) (length a.list)) (told answer.Listed r) a.count a.held a.count a.held
  pub stays_apart : StaysApart M a.rows (list (length a.held) (length a.list)) (told answer.Listed r) a.held a.count a.count
