use Rattle.std.proofs.Common.{sym, ap, ◌∙◌, arith}
use native.Mathlib.Nat.{pow-le-pow_right}
use Rattle.history.specs.RowNeed.{product_but}
use Rattle.archive.proofs.Extents.{product_more, product_none, product_small}
use Rattle.archive.proofs.needing.product_but.Goals as goal

pub times-product-requires : goal.times-product-requires
times-product-requires g c =
    let M = g.S.Space.meaning c.args.space.now in
    let small = product_small M (g.met.S.Space.lawful c.args.space.now) c.args.out c.loop-k.k in
    let most = pow-le-pow_right {n = 1024} (omega arith) {i = c.loop-k.k} {j = 5} (omega arith) in
    omega (arith, c.loop-k.invariant, small, most)

pub loop-k-init : goal.loop-k-init
loop-k-init g c = sym (product_none (g.S.Space.meaning c.args.space.now) c.args.out)

pub loop-k-preserved : goal.loop-k-preserved
loop-k-preserved g c =
    let more = product_more (g.S.Space.meaning c.args.space.now) c.args.out c.loop-k.k in
    cc

pub returns : goal.returns
returns g c = c.loop-k.invariant ∙ ap (product_but (g.S.Space.meaning c.args.space.now) c.args.out) (omega arith)
