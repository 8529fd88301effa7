use Rattle.std.proofs.Common.{sym, ap, ◌∙◌}
use Rattle.logwrite.specs.Lines.{note_of}
use Rattle.logwrite.proofs.Telling.{note_tells_none}
use Rattle.logwrite.proofs.reading.Reader.read_line.Goals as goal

pub returns-in-Some-2-clause-back : goal.returns-in-Some-2-clause-back
returns-in-Some-2-clause-back c = sym (note_tells_none c.args.line.now c.in-Some-2.text.now (ap note_of (sym c.without_return.ensures) ∙ sym c.in-Some-2.ensures))

pub returns-in-Some-clause-back : goal.returns-in-Some-clause-back
returns-in-Some-clause-back c = sym (note_tells_none c.args.line.now c.in-Some.text.now (ap note_of (sym c.without_return.ensures) ∙ sym c.in-Some.ensures))
