use Rattle.std.proofs.Common.{◌≡◌, ap, ◌∙◌, subst}
use Rattle.std.proofs.lemmas.Result.{MatchResult-at_ok}
use Rattle.step.specs.Space.{step_meaning, step_recording}
use Rattle.ratio.specs.Space.{ratio_meaning, ratio_recording}
use Rattle.beside.specs.Pair.{meaning_of, recording_of}
use Rattle.history.specs.Calls.{begun}
use Rattle.history.specs.Stands.{Stands}
use Rattle.logger.specs.Logger.{logger}
use Rattle.front.specs.Fronts.{reads}
use Rattle.front.proofs.fronts.begin.Goals as goal

pub returns : goal.returns
returns c =
    let archive = c.unwrap.result in
    let made = MatchResult-at_ok _ _ archive c.unwrap.ensures c.new.ensures.value in
    let space : archive.space ≡ c.logger_space.result = made.1 in
    let rows : archive.rows ≡ 32 = made.2 ∙ c.requires in
    let stands = subst (λ M. Stands M reads (begun archive.rows) archive.rows archive.count c.args.rows.now) c.logger_space.ensures.meaning (MatchResult-at_ok _ _ archive c.unwrap.ensures c.new.ensures.begins reads) in
    record {
      meaning = ap (meaning_of step_meaning ratio_meaning) space ∙ c.logger_space.ensures.meaning;
      bytes = ap (recording_of step_meaning ratio_meaning step_recording ratio_recording) space ∙ c.logger_space.ensures.bytes;
      rows = rows;
      stands = subst (λ n. Stands logger reads (begun n) archive.rows archive.count c.args.rows.now) rows stands;
    }
