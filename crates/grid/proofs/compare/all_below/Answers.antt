use Rattle.std.proofs.Common.{refl, ◌∙◌, arith, rules}
use Rattle.std.proofs.lemmas.Iterator.{YieldsList-from_range}
use Rattle.std.proofs.lemmas.Iterator.Search.{all_from_yields_List}
use Rattle.grid.specs.Tests.{all_below_range}
use Rattle.grid.proofs.compare.all_below.Goals as goal

pub returns : goal.returns
returns g c =
    λ f told. all_from_yields_List f _ _ _ c.all.ensures.ran (YieldsList-from_range 0 c.args.n c.args.n refl (omega arith)) (λ x b q k. search rules) ∙ all_below_range f c.args.n
