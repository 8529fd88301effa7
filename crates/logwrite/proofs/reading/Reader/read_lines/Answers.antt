use Rattle.std.proofs.Common.{◌≡◌, [], ◌∷◌, map, rules, ap, ◌∙◌}
use Rattle.std.specs.List.{flat_map}
use Rattle.std.proofs.lemmas.Result.{IfOk-weaker}
use Rattle.std.proofs.lemmas.Iterator.{YieldsList-from_map_by}
use Rattle.std.proofs.lemmas.Iterator.Consumers.{YieldsList-from_first, map_from_collect}
use Rattle.entry.specs.Line.{entry_of}
use Rattle.entry.specs.Lines.{lines_left}
use Rattle.entry.specs.Text.{lines}
use Rattle.logger.specs.Logger.{trials_of}
use Rattle.logwrite.specs.Lines.{given, item_of_line, told, trials_read}
use Rattle.logwrite.proofs.Telling.{same_trials}
use Rattle.logwrite.proofs.reading.Reader.read_lines.Goals as goal

pub returns-clause-items : goal.returns-clause-items
returns-clause-items c =
    map_from_collect c.collect.result c.collect.ensures.ran
    (YieldsList-from_map_by _ told item_of_line (YieldsList-from_first (λ l. l.now) lines_left (lines c.args.text.now) (ap lines_left c.map.ensures.source ∙ c.lines.ensures)) c.map.ensures.closure (λ l r q k. search rules))

pub returns-clause-back : goal.returns-clause-back
returns-clause-back c =
    IfOk-weaker c.collect.result (λ v. map (λ r. trials_read (given (told r))) v.items ≡ map (λ l. trials_of (entry_of l ∷ [])) (lines c.args.text.now)) (λ v. trials_read (flat_map given (map told v.items)) ≡ trials_of (map entry_of (lines c.args.text.now))) (λ v e. same_trials v.items (lines c.args.text.now) e)
    (map_from_collect c.collect.result c.collect.ensures.ran
    (YieldsList-from_map_by _ (λ r. trials_read (given (told r))) (λ l. trials_of (entry_of l ∷ [])) (YieldsList-from_first (λ l. l.now) lines_left (lines c.args.text.now) (ap lines_left c.map.ensures.source ∙ c.lines.ensures)) c.map.ensures.closure (λ l r q k. search rules)))
