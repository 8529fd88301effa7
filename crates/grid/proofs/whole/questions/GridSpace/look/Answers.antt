use Rattle.std.proofs.Common.{◌≡◌, map, cond, Some, None, subst, sym, ap, ◌∙◌, true, arith}
use Rattle.space.specs.Boxes.{six_boxes}
use Rattle.space.specs.Looking.{look_of}
use Rattle.space.proofs.Looks.{on_grid_by}
use Rattle.grid.specs.InUse.{lawful_rules}
use Rattle.grid.specs.Space.{grid_meaning}
use Rattle.grid.specs.Whole.{meaning_by}
use Rattle.grid.proofs.whole.questions.GridSpace.look.Goals as goal

pub returns-in-Some : goal.returns-in-Some
returns-in-Some g c =
    let B = g.A.Figure.Figure.bits in
    let M = meaning_by B g.A.Axis.line c.args.self.now in
    let p = c.args.p.now in
    let trials = c.args.trials.now in
    let on = on_grid_by M p c.in_ok-numbers.numbers (sym c.boxes.ensures ∙ c.in_ok-numbers.was) in
    let told : c.in-Some.look ≡ look_of M p trials = subst (λ rules. c.in_ok-numbers.numbers ≡ six_boxes (grid_meaning B (map g.A.Axis.line rules)) p → (grid_meaning B (map g.A.Axis.line rules)).admits p ≡ true → c.in-Some.look ≡ look_of (grid_meaning B (map g.A.Axis.line rules)) p trials) c.rules.ensures (c.in-Some.ensures p) on.1 on.0 in
    ap Some told ∙ sym (ap (λ b. cond b (Some (look_of M p trials)) None) on.0)

pub returns-in-None : goal.returns-in-None
returns-in-None g c =
    let s = c.args.self.now in
    let M = meaning_by g.A.Figure.Figure.bits g.A.Axis.line s in
    let p = c.args.p.now in
    let trials = c.args.trials.now in
    let on = on_grid_by M p c.in_ok-numbers.numbers (sym c.boxes.ensures ∙ c.in_ok-numbers.was) in
    let lawful = lawful_rules g.A.Figure.Figure.bits g.A.Axis.line s.axes s.objectives (omega (arith, s.few)) g.met.A.Axis.lawful s.few.0 s.few.1 in
    let told : c.look_one_by_one.result ≡ look_of M p trials = c.look_one_by_one.ensures M p lawful on.1 (λ q asked post. post) in
    ap Some told ∙ sym (ap (λ b. cond b (Some (look_of M p trials)) None) on.0)
