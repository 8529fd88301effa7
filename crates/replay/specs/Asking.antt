-- What a call is really lent where so much is wanted, and the answers beside the calls.
use Rattle.std.specs.Prelude.{ℕ, min, cond, List, map, Option, ◌==◌}
use Rattle.history.specs.declared.answers.Answer.{Answer}
use Rattle.history.specs.Calls.{Call}
use Rattle.history.specs.Calls.Call.{offer, feed, audit, list, save}
use Rattle.replay.specs.declared.asking.Ask.{Ask}
use Rattle.replay.specs.declared.asking.Ask.TheVariants as ask
use Rattle.replay.specs.declared.asking.RecordedAsk.{RecordedAsk}
use Rattle.replay.specs.declared.asking.RecordedAsk.TheVariants as recorded
use Rattle.replay.specs.declared.asking.Turn.{Turn}

-- how many rows: as many as the archive's own, or else as many as are wanted, of which no more are lent than there are strange ones
abbrev pub lent_of : ℕ → ℕ → ℕ → ℕ
lent_of own other want = cond (want == own) own (min want other)

-- how many rows a call wants
abbrev pub rows_of : {P : Type 0} → Ask P → ℕ
rows_of (ask.Offer rows room t) = rows
rows_of (ask.Audit rows) = rows
rows_of (ask.List rows room) = rows

abbrev pub recorded_rows_of : {P : Type 0} → RecordedAsk P → ℕ
recorded_rows_of (recorded.Plain x) = rows_of x
recorded_rows_of (recorded.Feed rows block) = rows
recorded_rows_of (recorded.Save rows number size) = rows

-- the call that is made, with so many rows of its own, so many strange rows and so long a list at hand
abbrev pub call_of : {P : Type 0} → ℕ → ℕ → ℕ → Ask P → Call P
call_of own other long (ask.Offer rows room t) = offer (lent_of own other rows) (min room long) t
call_of own other long (ask.Audit rows) = audit (lent_of own other rows)
call_of own other long (ask.List rows room) = list (lent_of own other rows) (min room long)

-- the same for all five kinds, with so long a block at hand too
abbrev pub recorded_call_of : {P : Type 0} → ℕ → ℕ → ℕ → ℕ → RecordedAsk P → Call P
recorded_call_of own other long wide (recorded.Plain x) = call_of own other long x
recorded_call_of own other long wide (recorded.Feed rows block) = feed (lent_of own other rows) block.now
recorded_call_of own other long wide (recorded.Save rows number size) = save (lent_of own other rows) number (min size wide)

-- the calls that are asked for, in order, and the answers beside them
abbrev pub asks_in : {A : Type 0} → List (Turn A) → List A
asks_in turns = map (λ t. t.ask) turns

abbrev pub answers_in : {A : Type 0} → List (Turn A) → List (Option Answer)
answers_in turns = map (λ t. t.answer) turns
