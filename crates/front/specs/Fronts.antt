-- The archive of a log: how it stands under a history of feeds, over 32 rows and in the logger's space.
use Rattle.std.specs.Prelude.{◌≡◌, ℕ, List, Result, ℤ}
use Rattle.space.specs.Recording.{read_point}
use Rattle.space.specs.declared.tagged.Trial.{Trial}
use Rattle.step.specs.Space.{StepSpace, step_meaning, step_recording}
use Rattle.ratio.specs.Space.{RatioSpace, ratio_meaning, ratio_recording}
use Rattle.beside.specs.declared.pair.Beside.{Beside}
use Rattle.beside.specs.Pair.{meaning_of, recording_of}
use Rattle.history.specs.declared.answers.Fed.{Fed}
use Rattle.history.specs.declared.faults.FeedFault.{FeedFault}
use Rattle.history.specs.Answers.{feed_answer, told_feed}
use Rattle.history.specs.Calls.{History, ◌▸◌}
use Rattle.history.specs.Calls.Call.{feed}
use Rattle.history.specs.Stands.{Stands}
use Rattle.history.specs.State.{state}
use Rattle.archive.specs.declared.holding.Archive.{Archive}
use Rattle.logger.specs.Logger.{logger, logger_bytes}

-- a point of a logger: its delay and its life
abbrev pub Point : Type 0
Point = List ℤ × List ℕ

-- bytes become points as the logger's space reads them
abbrev pub reads : List ℕ → Point
reads = read_point logger_bytes

-- the archive has the logger's space and 32 rows, and stands with what its rows hold under this history
pub record StandsUnder (h : History Point) (a : Archive (Beside StepSpace RatioSpace)) (held : List (Trial Point)) : Type 0 where
  pub meaning : meaning_of step_meaning ratio_meaning a.space ≡ logger
  pub bytes : recording_of step_meaning ratio_meaning step_recording ratio_recording a.space ≡ logger_bytes
  pub rows : a.rows ≡ 32
  pub stands : Stands logger reads h a.rows a.count held

-- the archive and its rows under whatever history they stood before a block was fed, they stand after it under that history with
-- the feed and its answer added; and the answer is the defined one, by the members that this history says
abbrev pub FedUnder : List ℕ → Archive (Beside StepSpace RatioSpace) → List (Trial Point) → Result Fed FeedFault → Archive (Beside StepSpace RatioSpace) → List (Trial Point) → Type 0
FedUnder block a held r b held' =
    (h : History Point) → StandsUnder h a held →
    (r ≡ feed_answer logger reads 32 (state logger reads h).members 32 block) × StandsUnder (h ▸ record { call = feed 32 block; answer = told_feed r }) b held'
