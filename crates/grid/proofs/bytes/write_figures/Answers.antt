use Rattle.std.proofs.Common.{◌≡◌, ℕ, ◌+◌, ◌<◌, length, get_or, set, sym, subst, arith, below_more}
use Rattle.std.proofs.lemmas.List.Edits.{fill_by_more}
use Rattle.std.proofs.lemmas.List.FromFn.{fill_by_all}
use Rattle.grid.specs.Bytes.{byte_at}
use Rattle.grid.proofs.bytes.write_figures.Goals as goal

pub loop-k-preserved : goal.loop-k-preserved
loop-k-preserved g c =
    let B = g.F.Figure.bits in
    let p = c.args.p.now in
    let out = c.loop-k.out in (
      subst
          (λ v. (j : ℕ) → j < c.loop-k.k + 1 → get_or (set out c.loop-k.k v) j 0 ≡ byte_at B p j)
          (sym c.byte_of.ensures.value)
          (fill_by_more (byte_at B p) out c.loop-k.k 0 (omega (arith, c.loop-k.auto.out, c.loop-k-test.true)) c.loop-k.invariant.0),
      below_more _ _ c.loop-k.invariant.1 c.byte_of.ensures.held,
    )

pub returns : goal.returns
returns g c =
    record {
      after = fill_by_all (byte_at g.F.Figure.bits c.args.p.now) c.loop-k.out (length c.args.out.now) 0 c.loop-k.auto.out (λ k l. c.loop-k.invariant.0 k (omega arith));
      held = λ k l. c.loop-k.invariant.1 k (omega arith);
    }
