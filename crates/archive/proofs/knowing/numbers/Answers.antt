use Rattle.std.proofs.Common.{◌≡◌, ℕ, ◌+◌, ◌<◌, length-set, get_or, set, pos, subst, sym, w32, FitsSigned, rules, ◌∙◌, arith}
use Rattle.std.proofs.lemmas.Int.{to_z-of_z}
use Rattle.std.proofs.lemmas.List.Edits.{fill_by_more}
use Rattle.std.proofs.lemmas.List.FromFn.{fill_by_all}
use Rattle.space.specs.Spans.{signed_at}
use Rattle.archive.proofs.knowing.numbers.Goals as goal

pub loop-i-preserved : goal.loop-i-preserved
loop-i-preserved g c =
    let I = c.loop-i.invariant in
    let fits : FitsSigned w32 c.signed_at.result = search rules in
    let same = to_z-of_z w32 c.signed_at.result fits ∙ c.signed_at.ensures in (
      length-set c.loop-i.numbers c.loop-i.i _ ∙ I.0,
      subst
          (λ v. (j : ℕ) → j < c.loop-i.i + 1 → get_or (set c.loop-i.numbers c.loop-i.i v) j (pos 0) ≡ signed_at c.args.bytes.now j)
          (sym same)
          (fill_by_more (signed_at c.args.bytes.now) c.loop-i.numbers c.loop-i.i (pos 0) (omega (arith, I.0, c.loop-i-test.true)) I.1),
    )

pub returns : goal.returns
returns g c = fill_by_all (signed_at c.args.bytes.now) c.loop-i.numbers g.row.N (pos 0) c.loop-i.invariant.0 (λ k l. c.loop-i.invariant.1 k (omega (arith, l, c.loop-i-test.false)))
