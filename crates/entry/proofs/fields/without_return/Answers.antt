use Rattle.std.proofs.Common.{◌≡◌, ◌-◌, ◌≤◌, length, get_or, sym, ⊎_elim, arith}
use Rattle.std.proofs.lemmas.List.{get_or_past}
use Rattle.std.proofs.lemmas.Bool.{cases_lt, cond-false, ne_eqb}
use Rattle.entry.proofs.fields.without_return.Goals as goal

-- an empty line ends in nothing
pub returns-in_default : goal.returns-in_default
returns-in_default c =
    let bs = c.args.line.now in
    let past : length bs ≤ 0 → get_or bs (length bs - 1) 0 ≡ 0 = λ l. get_or_past bs (length bs - 1) 0 (omega arith) in
    let other : get_or bs (length bs - 1) 0 ≡ 13 → ⊥ = λ e. ⊎_elim (λ l. grind arith) (λ l. omega (arith, past l)) (cases_lt 0 (length bs)) in
    sym (cond-false _ _ _ (ne_eqb (get_or bs (length bs - 1) 0) 13 other))
