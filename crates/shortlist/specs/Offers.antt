-- What comes of offering trials of a logger, one after the other, to an archive with as many rows as their space needs.
use Rattle.std.specs.Prelude.{◌≡◌, ℕ, List, map, ℤ, Some}
use Rattle.space.specs.declared.tagged.Trial.{Trial}
use Rattle.history.specs.Calls.{History, calls, answers}
use Rattle.history.specs.Calls.Call.{offer}
use Rattle.history.specs.Promises.{Promises}
use Rattle.history.specs.RowNeed.{row_need}
use Rattle.history.specs.State.{state}
use Rattle.replay.specs.declared.asking.Ask.{Ask}
use Rattle.replay.specs.declared.asking.Turn.{Turn}
use Rattle.replay.specs.Asking.{answers_in}
use Rattle.logger.specs.Logger.{logger}

-- a point of a logger: its delay and its life
abbrev pub Point : Type 0
Point = List ℤ × List ℕ

-- there is a history of offers of these trials, with the answers that stand beside the calls; it keeps every promise, and the
-- members are those that it says
pub record OfferedAll (trials : List (Trial Point)) (turns : List (Turn (Ask Point))) (members : List (Trial Point)) : Type 0 where
  pub history : History Point
  pub called : calls history ≡ map (offer (row_need logger) (row_need logger)) trials
  pub answered : map Some (answers history) ≡ answers_in turns
  pub promises : (reads : List ℕ → Point) → Promises logger reads history
  pub held : (reads : List ℕ → Point) → members ≡ (state logger reads history).members
