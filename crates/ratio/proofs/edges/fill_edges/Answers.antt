use Rattle.std.proofs.Common.{◌+◌, ◌≤◌, sym, ap, ◌∙◌, arith, length-set, rules}
use Rattle.std.proofs.lemmas.List.Edits.{fill_by_more}
use Rattle.std.proofs.lemmas.Bool.Decides.{nat_tests}
use Rattle.ratio.specs.Edges.{after, edge}
use Rattle.ratio.specs.Climbing.{edge_first, edge_more, box_from, box_before}
use Rattle.ratio.proofs.edges.fill_edges.Goals as goal

pub loop-count-init : goal.loop-count-init
loop-count-init c =
    let some : 1 ≤ c.args.scale.ceiling = grind (arith, nat_tests) in
    (sym (edge_first _), λ k h. absurd (omega arith), λ h. omega arith, λ h. absurd (omega arith), search rules)

pub loop-count-preserved : goal.loop-count-preserved
loop-count-preserved c =
    let p = c.args.scale.per_cent in
    let top = c.args.scale.ceiling in
    let n = c.loop-count.count in
    let inv = c.loop-count.invariant in
    let some : 1 ≤ c.args.scale.ceiling = grind (arith, nat_tests) in
    let within = inv.2 (omega arith) in
    let step = c.next_edge-edge.ensures ∙ ap (after p) inv.0 ∙ sym (edge_more p n) in (
      step,
      rw inv.0 (fill_by_more (edge p) c.loop-count.edges n 0 (omega arith) inv.1),
      λ h. omega (arith, box_from p top (n + 1) some (omega arith)),
      λ h. omega (arith, box_before p top (n + 1) some (omega arith)),
      length-set _ _ _ ∙ inv.4,
    )
