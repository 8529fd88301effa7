use Rattle.std.proofs.Common.{◌<◌, length, ap, arith}
use Rattle.std.proofs.lemmas.Bool.Decides.{nat_tests}
use Rattle.std.proofs.lemmas.List.{nil_from_length}
use Rattle.entry.specs.Text.{lines, lines_after}
use Rattle.entry.proofs.Newlines.{lines_more}
use Rattle.entry.proofs.text.TextLines.split.Goals as goal

pub returns-then-is_empty : goal.returns-then-is_empty
unfolding lines_after
returns-then-is_empty c = ap lines (nil_from_length c.args.self.now.rest.now (grind (arith, nat_tests)))

pub returns : goal.returns
returns c =
    let some : 0 < length c.args.self.now.rest.now = grind (arith, nat_tests) in
    let more = lines_more c.args.self.now.rest.now some in
    let line = c.next_line.ensures.line in
    let rest = c.next_line.ensures.rest in
    cc
