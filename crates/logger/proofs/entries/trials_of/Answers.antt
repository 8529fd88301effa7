use Rattle.std.proofs.Common.{◌≡◌, rules, subst}
use Rattle.std.proofs.lemmas.Iterator.{YieldsList-from_slice, items_from_collect}
use Rattle.std.proofs.lemmas.Iterator.Consumers.{YieldsList-from_filter_map}
use Rattle.std.specs.Result.{IfOk}
use Rattle.logger.specs.Logger.{trial_of_line}
use Rattle.logger.proofs.Lines.{trials_told}
use Rattle.logger.proofs.entries.trials_of.Goals as goal

pub returns : goal.returns
returns c =
    subst (λ ts. IfOk c.collect.result (λ v. v.items ≡ ts)) (trials_told c.args.lines.now)
    (items_from_collect c.collect.result c.collect.ensures.ran (YieldsList-from_filter_map _ trial_of_line (YieldsList-from_slice c.args.lines.now cc) c.filter_map.ensures.closure (λ l r q k. search rules)))
