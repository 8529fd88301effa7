use Rattle.std.proofs.Common.{◌≡◌, ◌+◌, ◌<◌, ◌≤◌, true, false, get_or, length, drop, None, sym, ap, ◌∙◌, subst, arith}
use Rattle.std.specs.Option.{option_or}
use Rattle.std.proofs.lemmas.List.{take_rest}
use Rattle.history.specs.Auditing.{clash, clash_from, pair_from}
use Rattle.history.specs.State.{on_grid}
use Rattle.archive.proofs.Pairing.{clash_end, clash_found, clash_more, pair_end, pair_off, pair_on}
use Rattle.archive.proofs.auditing.first_fault.Goals as goal

pub loop-k-init : goal.loop-k-init
loop-k-init g c =
    let M = g.S.Space.meaning c.args.space.now in
    let i = c.rows.i in
    let first : i + 1 ≡ (i + 1) + 0 = omega arith in
    (c.rows.invariant.0, ap (λ n. clash_from M i c.in-Some.boxed.trial n (drop (i + 1) c.args.members.now)) first)

pub loop-k-preserved : goal.loop-k-preserved
loop-k-preserved g c =
    let M = g.S.Space.meaning c.args.space.now in
    let ms = c.args.members.now in
    let i = c.rows.i in
    let k = c.loop-k.k in
    let x = c.in-Some.boxed.trial in
    let y = c.other-item.result in
    let others = drop (i + 1) ms in
    let all = take_rest ms (i + 1) in
    let inside : k < length others = subst (λ xs. k < length xs) all c.loop-k-test.true in
    let is : y ≡ get_or others k y = subst (λ xs. y ≡ get_or xs k y) all c.other-item.is in
    let apart : clash M x y ≡ false = ap (λ s. clash (g.S.Space.meaning s) x y) (sym c.in-Some.ensures.1) ∙ (sym c.clashes.ensures ∙ c.if-clashes.false) in
    (c.loop-k.invariant.0, c.loop-k.invariant.1 ∙ clash_more M i (i + 1) x others k y inside is apart)

pub rows-preserved : goal.rows-preserved
rows-preserved g c =
    let M = g.S.Space.meaning c.args.space.now in
    let ms = c.args.members.now in
    let i = c.rows.i in
    let x = c.index-members-i.result in
    let others = drop (i + 1) ms in
    let on : on_grid M x ≡ true = c.in-Some.ensures.0 in
    let past : length others ≤ c.loop-k.k = subst (λ xs. length xs ≤ c.loop-k.k) (take_rest ms (i + 1)) c.loop-k-test.false in
    let none : clash_from M i x (i + 1) others ≡ None = ap (λ y. clash_from M i y (i + 1) others) (sym c.in-Some.ensures.2) ∙ (c.loop-k.invariant.1 ∙ clash_end M i (i + 1) c.in-Some.boxed.trial others c.loop-k.k past) in
    (c.loop-k.invariant.0, c.rows.invariant.1 ∙ (pair_on M ms i x c.rows-test.true c.index-members-i.is on ∙ ap (λ o. option_or o (pair_from M (i + 1) others)) none))

pub returns-after-rows : goal.returns-after-rows
returns-after-rows g c =
    c.rows.invariant.0 ∙ sym (c.rows.invariant.1 ∙ pair_end (g.S.Space.meaning c.args.space.now) c.args.members.now c.rows.i c.rows-test.false)

pub returns-in_default : goal.returns-in_default
returns-in_default g c =
    let M = g.S.Space.meaning c.args.space.now in
    let x = c.index-members-i.result in
    let off : on_grid M x ≡ false = c.in_default.ensures in
    sym (c.rows.invariant.1 ∙ pair_off M c.args.members.now c.rows.i x c.rows-test.true c.index-members-i.is off)

pub returns-then-clashes : goal.returns-then-clashes
returns-then-clashes g c =
    let M = g.S.Space.meaning c.args.space.now in
    let ms = c.args.members.now in
    let i = c.rows.i in
    let k = c.loop-k.k in
    let x = c.index-members-i.result in
    let y = c.other-item.result in
    let z = c.in-Some.boxed.trial in
    let others = drop (i + 1) ms in
    let all = take_rest ms (i + 1) in
    let on : on_grid M x ≡ true = c.in-Some.ensures.0 in
    let inside : k < length others = subst (λ xs. k < length xs) all c.loop-k-test.true in
    let is : y ≡ get_or others k y = subst (λ xs. y ≡ get_or xs k y) all c.other-item.is in
    let both : clash M z y ≡ true = ap (λ s. clash (g.S.Space.meaning s) z y) (sym c.in-Some.ensures.1) ∙ (sym c.clashes.ensures ∙ c.if-clashes.true) in
    let found = c.loop-k.invariant.1 ∙ clash_found M i (i + 1) z others k y inside is both in
    let here = ap (λ r. clash_from M i r (i + 1) others) (sym c.in-Some.ensures.2) ∙ found in
    sym (c.rows.invariant.1 ∙ (pair_on M ms i x c.rows-test.true c.index-members-i.is on ∙ ap (λ o. option_or o (pair_from M (i + 1) others)) here))
