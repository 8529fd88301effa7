-- Truthful histories.
use Rattle.std.specs.Prelude.{◌≡◌, ℕ, List, [], ◌∷◌}
use Rattle.space.specs.Meaning.{Meaning}
use Rattle.history.specs.Calls.{Event, History}
use Rattle.history.specs.State.{state_of}
use Rattle.history.specs.Answers.{answer_of}

-- each of these calls, the newest first, was answered as it is defined, by the members before it
abbrev pub TruthfulOf : {P : Type 0} → Meaning P → (List ℕ → P) → ℕ → List (Event P) → Type 0
TruthfulOf M reads rows [] = Unit {0}
TruthfulOf M reads rows (e ∷ es) = TruthfulOf M reads rows es × (e.answer ≡ answer_of M reads rows (state_of M reads rows es).members e.call)

-- every answer of the history is the defined one
abbrev pub Truthful : {P : Type 0} → Meaning P → (List ℕ → P) → History P → Type 0
Truthful M reads h = TruthfulOf M reads h.rows h.events
