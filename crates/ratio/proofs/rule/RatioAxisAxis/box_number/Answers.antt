use Rattle.std.proofs.Common.{sym, ◌∙◌}
use Rattle.std.proofs.lemmas.Bool.{cond-true}
use Rattle.ratio.specs.Climbing.{box_holds}
use Rattle.ratio.proofs.rule.RatioAxisAxis.box_number.Goals as goal

pub returns-then-admits : goal.returns-then-admits
returns-then-admits c =
    let a = c.args.self.now in
    let v = c.args.v in
    record {
      value = c.find_box.ensures ∙ sym (cond-true _ _ _ (sym c.if-admits.ensures));
      enclosed = λ low high. rw c.find_box.ensures (box_holds a.scale.per_cent v low);
    }
