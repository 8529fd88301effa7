use Rattle.std.proofs.Common.{◌≡◌, [], ap, ◌∙◌, arith, rules, w32, pos, FitsSigned}
use Rattle.std.specs.Prelude.{slice_index_or}
use Rattle.std.proofs.lemmas.Int.{to_z-of_z}
use Rattle.space.specs.Spans.{each_in}
use Rattle.archive.specs.Knowing.{span_at}
use Rattle.archive.proofs.Known.{one_more_in}
use Rattle.archive.proofs.knowing.Ends.have.Goals as goal

pub loop-i-preserved : goal.loop-i-preserved
loop-i-preserved g c =
    let i = c.loop-i.i in
    let k = c.args.k in
    let from : FitsSigned w32 (slice_index_or (slice_index_or c.args.self.now.from i []) k (pos 0)) = search rules in
    let to : FitsSigned w32 (slice_index_or (slice_index_or c.args.self.now.to i []) k (pos 0)) = search rules in
    let number : FitsSigned w32 (slice_index_or c.args.numbers.now i (pos 0)) = search rules in
    λ bytes e.
    one_more_in c.args.self.now k i g.row.N bytes c.args.numbers.now c.loop-i.all _ _ _ c.loop-i-test.true c.requires.1 e
    (to_z-of_z w32 _ from) (to_z-of_z w32 _ number) (to_z-of_z w32 _ to) (c.loop-i.invariant bytes e)

pub returns : goal.returns
returns g c =
    let all : c.loop-i.i ≡ g.row.N = omega (arith, c.loop-i-test.false, c.loop-i.auto.i-end) in
    λ bytes e. c.loop-i.invariant bytes e ∙ ap (λ n. each_in n (span_at c.args.self.now c.args.k) bytes) all
