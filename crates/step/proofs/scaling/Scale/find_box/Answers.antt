use Rattle.std.proofs.Common.{sym, ap, ◌∙◌, rules, w32, w64, FitsSigned}
use Rattle.std.specs.Prelude.{unsigned_abs}
use Rattle.std.proofs.lemmas.Int.{to_z-of_z}
use Rattle.step.specs.Rule.{height}
use Rattle.step.proofs.Heights.{whole_steps}
use Rattle.step.proofs.scaling.Scale.find_box.Goals as goal

pub returns-then-is_whole : goal.returns-then-is_whole
returns-then-is_whole c =
    let s = c.args.self.now in
    let wide : FitsSigned w64 c.height-height.result = search rules in
    let same = ap unsigned_abs (to_z-of_z w64 c.height-height.result wide ∙ c.height-height.ensures.value ∙ ap (height s) (to_z-of_z w32 c.args.v c.ranges.v)) in
    whole_steps _ _ s.step (unsigned_abs (height s c.args.v)) same (sym c.is_whole.ensures ∙ c.if-is_whole.true)
