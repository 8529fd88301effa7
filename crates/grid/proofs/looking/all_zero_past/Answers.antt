use Rattle.std.proofs.Common.{◌≡◌, ◌+◌, ◌-◌, ◌<◌, ◌≤◌, Bool, take, drop, length, ap, sym, ◌∙◌, arith}
use Rattle.std.specs.Prelude.{slice_index}
use Rattle.std.specs.Cmp.Lexicographic.{same_text}
use Rattle.std.specs.List.{list_all}
use Rattle.std.proofs.lemmas.List.{get_or-drop, get_or-take, length-drop, take_all}
use Rattle.space.specs.declared.tagged.Trial.{Trial}
use Rattle.grid.specs.Bytes.{zero_from}
use Rattle.grid.proofs.Numbering.{zeros}
use Rattle.grid.proofs.Scanning.{all_more, take_next}
use Rattle.grid.proofs.looking.all_zero_past.Goals as goal

pub loop-k-preserved : goal.loop-k-preserved
loop-k-preserved g c =
    let zero : Trial _ → Bool = λ t. zero_from g.F.Figure.bits g.row.N t.point in
    let ts = c.args.trials.now in
    let k = c.loop-k.k in
    let enough : k + 4 ≤ length ts = omega (arith, c.loop-k-test.true, c.loop-k.invariant.0) in (
      enough,
      λ none.
          let fourth = c.add_past-in-loop-k-3.ensures none in
          let third = c.add_past-in-loop-k-2.ensures fourth.0 in
          let second = c.add_past-in-loop-k.ensures third.0 in
          let first = c.add_past.ensures second.0 in
          let one = all_more zero ts k c.index-trials-k.result (omega (arith, enough)) (c.loop-k.invariant.1 first.0) first.1 in
          let two = all_more zero ts (k + 1) c.index-trials-k-in-loop-k.result (omega (arith, enough)) one second.1 in
          let three = all_more zero ts (k + 2) c.index-trials-k-in-loop-k-2.result (omega (arith, enough)) (take_next zero ts k 1 two) third.1 in
          take_next zero ts k 3 (all_more zero ts (k + 3) c.index-trials-k-in-loop-k-3.result (omega (arith, enough)) (take_next zero ts k 2 three) fourth.1),
    )

pub loop-trial-preserved : goal.loop-trial-preserved
loop-trial-preserved g c =
    let zero : Trial _ → Bool = λ t. zero_from g.F.Figure.bits g.row.N t.point in
    let ts = c.args.trials.now in
    let k = c.loop-k.k in
    let i = c.loop-trial.trial-index in
    λ none.
    let told = c.add_past-in-loop-trial.ensures none in
    let inside : i < length ts - k = omega (arith, c.loop-trial-test.true, length-drop k ts) in
    let read = c.trial-item.is ∙ get_or-take (length ts - k) (drop k ts) i c.trial-item.result inside ∙ get_or-drop k ts i c.trial-item.result in
    take_next zero ts k i (all_more zero ts (k + i) c.trial-item.result (omega (arith, inside)) (c.loop-trial.invariant told.0) (ap zero (sym read) ∙ told.1))

pub returns : goal.returns
returns g c =
    let zero : Trial _ → Bool = λ t. zero_from g.F.Figure.bits g.row.N t.point in
    let ts = c.args.trials.now in
    let all : take (c.loop-k.k + c.loop-trial.trial-index) ts ≡ ts = take_all (c.loop-k.k + c.loop-trial.trial-index) ts (omega (arith, c.loop-trial-test.false, length-drop c.loop-k.k ts)) in
    λ same.
    let none : c.loop-trial.bits ≡ _ = same_text c.loop-trial.bits _ (sym same ∙ c.eq.ensures) in
    sym (ap (list_all zero) all) ∙ c.loop-trial.invariant (λ i six. ap (λ bits. slice_index bits i) none ∙ zeros i)
