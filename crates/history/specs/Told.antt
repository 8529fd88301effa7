-- What answers tell, summed up over a history.
use Rattle.std.specs.Prelude.{ℕ, ◌+◌, List, [], ◌∷◌}
use Rattle.history.specs.declared.answers.Answer.{Answer}
use Rattle.history.specs.declared.answers.Answer.TheVariants.{Offered, Fed, Audited, Listed, Saved, Denied, Refused}
use Rattle.history.specs.Numbers.{denial_number}
use Rattle.history.specs.Reports.{feed_report, first_report}
use Rattle.history.specs.Calls.{Event}
use Rattle.history.specs.State.{entries}

-- how many trials entered
abbrev pub tells_entered : Answer → ℕ
tells_entered (Offered o) = entries o.verdict
tells_entered (Fed f) = f.entered
tells_entered (Audited pair) = 0
tells_entered (Listed count) = 0
tells_entered (Saved count) = 0
tells_entered (Denied d) = 0
tells_entered (Refused f) = 0

-- how many members were displaced
abbrev pub tells_displaced : Answer → ℕ
tells_displaced (Offered o) = o.displaced
tells_displaced (Fed f) = f.displaced
tells_displaced (Audited pair) = 0
tells_displaced (Listed count) = 0
tells_displaced (Saved count) = 0
tells_displaced (Denied d) = 0
tells_displaced (Refused f) = 0

-- how many trials of a block were denied
abbrev pub tells_denied : Answer → ℕ
tells_denied (Offered o) = 0
tells_denied (Fed f) = f.denied
tells_denied (Audited pair) = 0
tells_denied (Listed count) = 0
tells_denied (Saved count) = 0
tells_denied (Denied d) = 0
tells_denied (Refused f) = 0

-- the number of the denial or the first fault, 0 if there is none
abbrev pub tells_number : Answer → ℕ
tells_number (Offered o) = 0
tells_number (Fed f) = (first_report f.first).number
tells_number (Audited pair) = 0
tells_number (Listed count) = 0
tells_number (Saved count) = 0
tells_number (Denied d) = denial_number d
tells_number (Refused f) = (feed_report f).number

-- what the answers of these calls tell, added up
unfoldable pub summed : {P : Type 0} → (Answer → ℕ) → List (Event P) → ℕ
summed tells [] = 0
summed tells (e ∷ es) = summed tells es + tells e.answer
