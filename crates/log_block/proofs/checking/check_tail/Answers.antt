use Rattle.std.proofs.Common.{◌<◌, ◌≤◌, length, Err, sym, ap, ◌∙◌, arith}
use Rattle.std.proofs.lemmas.Bool.Decides.{nat_tests}
use Rattle.log_block.specs.declared.faults.RecordFault.TheVariants.{Tail}
use Rattle.log_block.specs.Items.{place_of}
use Rattle.log_block.proofs.Tails.{tail_at, tail_none}
use Rattle.log_block.proofs.checking.check_tail.Goals as goal

pub returns-then-not-is_empty : goal.returns-then-not-is_empty
returns-then-not-is_empty c =
    let split = c.split_at.ensures in
    let inside : c.zeros.result < length c.args.rest.now = grind (arith, nat_tests) in
    ap (λ at. Err (Tail at)) (c.place.ensures ∙ ap place_of split.back) ∙ sym (tail_at c.args.rest.now c.zeros.result inside c.zeros.ensures.before (c.zeros.ensures.found inside))

pub returns : goal.returns
returns c =
    let split = c.split_at.ensures in
    let past : length c.args.rest.now ≤ c.zeros.result = grind (arith, nat_tests) in
    sym (tail_none c.args.rest.now (λ k l. c.zeros.ensures.before k (omega arith)))
