use Rattle.std.proofs.Common.{◌≡◌, ◌<◌, true, false, length, get_or, arith}
use Rattle.std.proofs.lemmas.Bool.Decides.{nat_tests}
use Rattle.entry.specs.Line.{digit}
use Rattle.entry.proofs.Counting.{fails_here, over_here, made_more, made_all}
use Rattle.entry.proofs.numbers.read_below.Goals as goal

pub returns-then-not-is_ascii_digit : goal.returns-then-not-is_ascii_digit
returns-then-not-is_ascii_digit c =
    let here : digit (get_or c.args.digits.now c.loop-b.b-index 0) ≡ false = grind (arith, nat_tests) in
    fails_here c.args.limit c.args.digits.now c.loop-b.b-index c.loop-b.number c.loop-b.invariant.0 c.loop-b-test.true here

pub returns-then-number-limit : goal.returns-then-number-limit
returns-then-number-limit c =
    let here : digit (get_or c.args.digits.now c.loop-b.b-index 0) ≡ true = grind (arith, nat_tests) in
    over_here c.args.limit c.args.digits.now c.loop-b.b-index c.loop-b.number c.loop-b.invariant.0 c.loop-b-test.true here (omega arith)

pub loop-b-preserved : goal.loop-b-preserved
loop-b-preserved c =
    let here : digit (get_or c.args.digits.now c.loop-b.b-index 0) ≡ true = grind (arith, nat_tests) in
    let more = made_more c.args.limit c.args.digits.now c.loop-b.b-index c.loop-b.number c.loop-b.invariant.0 c.loop-b-test.true here in
    (rw c.from.ensures more, c.if-number-limit.false)

pub returns : goal.returns
returns c =
    let some : 0 < length c.args.digits.now = grind (arith, nat_tests) in
    made_all c.args.limit c.args.digits.now c.loop-b.b-index c.loop-b.number c.loop-b.invariant.0 some (omega arith) c.loop-b.invariant.1
