use Rattle.std.proofs.Common.{[], ◌∷◌, ◌++◌, map, take, sym, ap, ◌∙◌, subst, rules}
use Rattle.std.proofs.lemmas.List.{length-set, map_more, map_push, take_more, take_more_set}
use Rattle.space.specs.Recording.{WritableIfAdmitted}
use Rattle.log_block.specs.Writing.{trial_item}
use Rattle.history.specs.Lists.{EachIn}
use Rattle.history.specs.Saving.{item_for}
use Rattle.history.proofs.Membership.{each_push}
use Rattle.archive.proofs.saving.Layout.part_bytes.Goals as goal

pub loop-i-preserved : goal.loop-i-preserved
loop-i-preserved g c =
    let M = g.S.Space.meaning c.args.self.now.space.now in
    let R = g.S.Recorded.recording c.args.self.now.space.now in
    let part = c.args.part.now in
    let bytes = c.loop-i.bytes in
    let i = c.loop-i.i in
    let d = c.index-part-i.result in
    let r = c.trial_bytes.result in
    let items = map (item_for R) (take i part) in (
      length-set bytes i r ∙ c.loop-i.invariant.0,
      ap (map (trial_item M.objectives)) (take_more_set bytes i r (search rules))
          ∙ map_push (trial_item M.objectives) (take i bytes) r
          ∙ ap (λ xs. xs ++ trial_item M.objectives r ∷ []) c.loop-i.invariant.1
          ∙ ap (λ x. items ++ x ∷ []) c.trial_bytes.ensures.value
          ∙ ap (λ x. items ++ item_for R x ∷ []) c.index-part-i.is
          ∙ sym (map_more (item_for R) part i d c.loop-i-test.true),
      subst (λ xs. EachIn xs (λ r. WritableIfAdmitted M R r.point)) (sym (take_more part i d c.loop-i-test.true)) (each_push (λ r. WritableIfAdmitted M R r.point) (take i part) c.loop-i.invariant.2 (subst (λ x. WritableIfAdmitted M R x.point) c.index-part-i.is c.trial_bytes.ensures.writable)),
    )
