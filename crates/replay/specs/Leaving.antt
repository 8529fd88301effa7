-- What calls leave in the list and in the block that they are lent.
use Rattle.std.specs.Prelude.{◌≡◌, ℕ, List, [], ◌∷◌, ◌++◌, map, drop, Ok, Err, Result}
use Rattle.space.specs.Meaning.{Meaning}
use Rattle.space.specs.Recording.{Recording}
use Rattle.space.specs.declared.tagged.Trial.{Trial}
use Rattle.history.specs.declared.denials.Denial.{Denial}
use Rattle.history.specs.Answers.{list_answer, save_answer}
use Rattle.history.specs.Calls.{Call, Event}
use Rattle.history.specs.Calls.Call.{offer, feed, audit, list, save}
use Rattle.history.specs.Checks.{offer_check}
use Rattle.history.specs.Saving.{saved_block}
use Rattle.history.specs.State.{state_of}
use Rattle.history.specs.Step.{judge}
use Rattle.archive.specs.Offering.{TagsInFront, gone_of}

-- an offer: a trial that is judged leaves the tags of those that went in front, and one that is denied leaves the list
abbrev pub OfferLeaves : {P : Type 0} → Meaning P → ℕ → List (Trial P) → List ℕ → List ℕ → Result (Trial P) Denial → Type 0
OfferLeaves M rows ms before after (Ok t) = TagsInFront (gone_of (judge M rows ms t)) before after
OfferLeaves M rows ms before after (Err d) = after ≡ before

-- a list: the members' tags are in front, or it is denied
abbrev pub ListLeaves : {P : Type 0} → List (Trial P) → List ℕ → List ℕ → Result ℕ Denial → Type 0
ListLeaves ms before after (Ok n) = after ≡ map (λ r. r.tag) ms ++ drop n before
ListLeaves ms before after (Err d) = after ≡ before

-- what one call leaves in the list, by the members before it
abbrev pub Leaves : {P : Type 0} → Meaning P → ℕ → List (Trial P) → Call P → List ℕ → List ℕ → Type 0
Leaves M rows ms (offer lent room t) before after = OfferLeaves M rows ms before after (offer_check M rows lent room t)
Leaves M rows ms (feed lent block) before after = after ≡ before
Leaves M rows ms (audit lent) before after = after ≡ before
Leaves M rows ms (list lent room) before after = ListLeaves ms before after (list_answer rows ms lent room)
Leaves M rows ms (save lent number size) before after = after ≡ before

-- a save: its block of the members is in front, or it is denied
abbrev pub SaveLeaves : {P : Type 0} → Meaning P → Recording P → List (Trial P) → ℕ → List ℕ → List ℕ → Result ℕ Denial → Type 0
SaveLeaves M R ms number before after (Ok n) = after ≡ saved_block M R ms number ++ drop 512 before
SaveLeaves M R ms number before after (Err d) = after ≡ before

-- what one call leaves in the block
abbrev pub LeavesBlock : {P : Type 0} → Meaning P → Recording P → ℕ → List (Trial P) → Call P → List ℕ → List ℕ → Type 0
LeavesBlock M R rows ms (offer lent room t) before after = after ≡ before
LeavesBlock M R rows ms (feed lent block) before after = after ≡ before
LeavesBlock M R rows ms (audit lent) before after = after ≡ before
LeavesBlock M R rows ms (list lent room) before after = after ≡ before
LeavesBlock M R rows ms (save lent number size) before after = SaveLeaves M R ms number before after (save_answer M rows ms lent number size)

-- the list and the block
pub record Lendings : Type 0 where
  pub list : List ℕ
  pub block : List ℕ

-- what one call leaves in both
abbrev pub LeavesBoth : {P : Type 0} → Meaning P → Recording P → ℕ → List (Trial P) → Call P → Lendings → Lendings → Type 0
LeavesBoth M R rows ms call before after = Leaves M rows ms call before.list after.list × LeavesBlock M R rows ms call before.block after.block

-- what one call leaves in both, where no call is lent the block
abbrev pub LeavesList : {P : Type 0} → Meaning P → ℕ → List (Trial P) → Call P → Lendings → Lendings → Type 0
LeavesList M rows ms call before after = Leaves M rows ms call before.list after.list × (after.block ≡ before.block)

-- all calls, one after the other; the newest is first, and One says what one call leaves of what it was lent
abbrev pub Left : {P X : Type 0} → (ℕ → List (Trial P) → Call P → X → X → Type 0) → Meaning P → (List ℕ → P) → ℕ → List (Event P) → X → X → Type 0
Left One M reads rows [] before after = after ≡ before
Left {X = X} One M reads rows (e ∷ es) before after = (between : X) × Left One M reads rows es before between × One rows (state_of M reads rows es).members e.call between after
