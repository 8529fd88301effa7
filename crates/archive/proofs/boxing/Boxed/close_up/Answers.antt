use Rattle.std.proofs.Common.{◌<◌, length, get_or, set, sym, ap, ◌∙◌, arith}
use Rattle.std.proofs.lemmas.List.{get_or_default}
use Rattle.archive.proofs.Closed.{closing_up_none, closing_up_goes, closing_up_stays, closing_up_all}
use Rattle.archive.proofs.boxing.Boxed.close_up.Goals as goal
use Rattle.archive.proofs.boxing.Boxed.close_up.Goals.{then-tops, else-tops}

pub loop-i-init : goal.loop-i-init
loop-i-init g c = closing_up_none _ _ _

pub loop-i-preserved : goal.loop-i-preserved
loop-i-preserved g c =
    let i = c.loop-i.i in
    let rows = c.loop-i.members in
    let d = c.index-members-i.result in
    let x = get_or rows i d in
    let inside : i < length rows = omega (arith, c.loop-i.auto.members, c.loop-i-test.true) in
    let read = get_or_default rows i d x inside in
    elim c.if-tops.branch [
      | then-tops w ↦
          closing_up_goes c.loop-i.invariant x c.if-tops.members c.if-tops.gone c.if-tops.stay c.if-tops.went inside read
          (sym c.tops.ensures ∙ w.if-tops.true)
          w.members-is
          (w.gone-is ∙ w.note.ensures ∙ ap (λ y. set c.loop-i.gone c.loop-i.went y.tag) (get_or_default rows i w.index-members-i-then-tops.result d inside))
          w.stay-is
          w.went-is
      | else-tops w ↦
          closing_up_stays c.loop-i.invariant x c.if-tops.members c.if-tops.gone c.if-tops.stay c.if-tops.went inside read
          (sym c.tops.ensures ∙ w.if-tops.false)
          (w.members-is ∙ w.copy_row.ensures d)
          w.gone-is
          w.stay-is
          w.went-is
    ]

pub returns : goal.returns
returns g c = closing_up_all c.loop-i.invariant (omega (arith, c.loop-i.auto.members))
