use Rattle.std.proofs.Common.{◌≡◌, ◌≤◌, List, length, map, true, Some, None, sym, ap, ◌∙◌, arith}
use Rattle.std.specs.Prelude.{⊤, MatchOption, slice_index}
use Rattle.std.proofs.lemmas.List.{length-map}
use Rattle.space.specs.Boxes.{six_boxes}
use Rattle.std.specs.List.{list_all}
use Rattle.space.specs.Looking.{look_by, look_of}
use Rattle.grid.specs.Levels.{each_place, from_on, on_grid, up_to}
use Rattle.space.proofs.Looks.{number_of}
use Rattle.grid.specs.Space.{grid_meaning}
use Rattle.grid.proofs.Boxing.{boxed}
use Rattle.grid.proofs.Scanning.{scanned}
use Rattle.grid.proofs.looking.look_on.Goals as goal

pub returns : goal.returns
returns g c =
    let B = g.A.Figure.Figure.bits in
    let axes = c.args.axes.now in
    let lines = map g.A.Axis.line axes in
    let M = grid_meaning B lines in
    let numbers = c.args.numbers.now in
    let trials = c.args.trials.now in
    let N = g.row.N in
    let long : length lines ≡ length axes = length-map axes g.A.Axis.line in
    let few : length lines ≤ 6 = omega (arith, long, c.requires.0, c.requires.1) in
    (elim c.scan.result as (λ r. MatchOption r ⊤ (λ look. (list_all (λ t. each_place B on_grid c.levels_of.result t.point N) trials ≡ true) × (look ≡ look_by (λ t. each_place B up_to c.levels_of.result t.point N) (λ t. each_place B from_on c.levels_of.result t.point N) trials)) → MatchOption r ⊤ (λ look. (p : List _) → numbers ≡ six_boxes M p → M.admits p ≡ true → look ≡ look_of M p trials)) [
      | None ↦ λ x. x
      | Some look ↦ λ told p numbered on.
          told.1
          ∙ scanned B lines few p on c.levels_of.result numbers N (omega (arith, long, c.requires.0)) numbered
          (c.levels_of.ensures p on (λ i six. ap (λ n. slice_index n i) numbered ∙ number_of M p i six ∙ sym (boxed B lines few p p on i)))
          trials (c.all_zero_past.ensures c.if-not-all_zero_past.false) told.0
    ])
    c.scan.ensures
