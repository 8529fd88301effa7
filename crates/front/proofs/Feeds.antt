-- A feed of the log's archive.
use Rattle.std.proofs.Common.{◌≡◌, ℕ, List, [], length, take, Result, sym, ap, ◌∙◌, subst}
use Rattle.space.specs.Recording.{read_point}
use Rattle.space.specs.declared.tagged.Trial.{Trial}
use Rattle.beside.specs.declared.pair.Beside.{Beside}
use Rattle.step.specs.Space.{StepSpace, step_meaning, step_recording}
use Rattle.ratio.specs.Space.{RatioSpace, ratio_meaning, ratio_recording}
use Rattle.beside.specs.Pair.{meaning_of, recording_of}
use Rattle.history.specs.declared.answers.Fed.{Fed}
use Rattle.history.specs.declared.faults.FeedFault.{FeedFault}
use Rattle.history.specs.Answers.{feed_answer, told_feed}
use Rattle.history.specs.Calls.{◌▸◌}
use Rattle.history.specs.Calls.Call.{feed}
use Rattle.history.specs.Stands.{Stands}
use Rattle.history.specs.State.{state}
use Rattle.archive.specs.declared.holding.Archive.{Archive}
use Rattle.archive.specs.Feeding.{FeedRight}
use Rattle.archive.specs.Lent.{lending}
use Rattle.logger.specs.Logger.{logger}
use Rattle.front.specs.Fronts.{FedUnder, Point, reads}

abbrev pub LoggerSpace : Type 0
LoggerSpace = Beside StepSpace RatioSpace

-- what holds of a feed, said of the history that the archive stands under
pub fed_under : (block : List ℕ) (a b : Archive LoggerSpace) (held held' : List (Trial Point)) (r : Result Fed FeedFault) → b.space ≡ a.space → FeedRight (meaning_of step_meaning ratio_meaning a.space) (read_point (recording_of step_meaning ratio_meaning step_recording ratio_recording a.space)) block (lending a held []) r (lending b held' []) → FedUnder block a held r b held'
fed_under block a b held held' r same right₀ h s =
    let right₁ = subst (λ M. FeedRight M (read_point (recording_of step_meaning ratio_meaning step_recording ratio_recording a.space)) block (lending a held []) r (lending b held' [])) s.meaning right₀ in
    let right : FeedRight logger reads block (lending a held []) r (lending b held' []) = subst (λ R. FeedRight logger (read_point R) block (lending a held []) r (lending b held' [])) s.bytes right₁ in
    let members = (state logger reads h).members in
    let long : length held ≡ 32 = s.stands.long ∙ s.rows in
    let value =
    right.value
    ∙ (ap (λ n. feed_answer logger reads n (take a.count held) (length held) block) s.rows
    ∙ (ap (λ ms. feed_answer logger reads 32 ms (length held) block) s.stands.in_order
    ∙ ap (λ n. feed_answer logger reads 32 members n block) long)) in
    let called = subst (λ n. Stands logger reads (h ▸ record { call = feed n block; answer = told_feed r }) a.rows b.count held') long (right.stays h s.stands) in (
      value,
      record {
        meaning = ap (meaning_of step_meaning ratio_meaning) same ∙ s.meaning;
        bytes = ap (recording_of step_meaning ratio_meaning step_recording ratio_recording) same ∙ s.bytes;
        rows = right.same_rows ∙ s.rows;
        stands = subst (λ n. Stands logger reads (h ▸ record { call = feed 32 block; answer = told_feed r }) n b.count held') (sym right.same_rows) called;
      },
    )
