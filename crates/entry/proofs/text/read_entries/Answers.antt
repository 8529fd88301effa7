use Rattle.std.proofs.Common.{rules, ap, ◌∙◌}
use Rattle.std.proofs.lemmas.Iterator.{YieldsList-from_map, items_from_collect}
use Rattle.std.proofs.lemmas.Iterator.Consumers.{YieldsList-from_first}
use Rattle.entry.specs.Line.{entry_of}
use Rattle.entry.specs.Lines.{lines_left}
use Rattle.entry.specs.Text.{lines}
use Rattle.entry.proofs.text.read_entries.Goals as goal

pub returns : goal.returns
returns c =
    items_from_collect c.collect.result c.collect.ensures.ran
    (YieldsList-from_map _ entry_of (YieldsList-from_first (λ l. l.now) lines_left (lines c.args.text.now) (ap lines_left c.map.ensures.source ∙ c.lines.ensures)) c.map.ensures.closure (λ l r q k. search rules))
