use Rattle.std.proofs.Common.{rules, ◌≡◌, ◌≢◌, ◌<◌, ◌≤◌, ◌||◌, length, get_or, get_or-set_other, bit_or, ltb, sym, ap, ◌∙◌, ⊎_elim, arith}
use Rattle.std.specs.Prelude.{slice_index}
use Rattle.std.proofs.lemmas.Bool.{cases_eq, cases_lt, lt-ltb, or_left, or_right}
use Rattle.std.proofs.lemmas.Grind.{get_or-set_at}
use Rattle.std.proofs.lemmas.Nat.{le_or_l, le_or_r}
use Rattle.std.proofs.lemmas.List.{get_or_default}
use Rattle.grid.specs.Space.{figure_at}
use Rattle.grid.specs.Tests.{all_below_from}
use Rattle.grid.proofs.Numbering.{no_bits}
use Rattle.grid.proofs.looking.add_past.Goals as goal

pub loop-i-init : goal.loop-i-init
loop-i-init g c = λ k six none. (none, λ from to. absurd (omega (arith, from, to)))

pub loop-i-preserved : goal.loop-i-preserved
loop-i-preserved g c =
    let B = g.F.Figure.bits in
    let q = c.args.q.now in
    let i = c.loop-i.i in
    let bits = c.loop-i.bits in
    let long : length bits ≡ 6 = search rules in
    let sum = bit_or (slice_index bits i) c.to_bits.result in
    let here : get_or q i c.index-q-i.result ≡ figure_at B q i = get_or_default q i c.index-q-i.result B.zero (omega (arith, c.loop-i-test.true, c.told-q)) in
    λ k six none.
    ⊎_elim
    (λ (same : k ≡ i).
    let both : sum ≡ 0 = sym (get_or-set_at bits i k sum 0 same (omega (arith, c.loop-i-test.true, long))) ∙ none in
    let before : slice_index bits i ≡ 0 = omega (arith, both, le_or_l (slice_index bits i) c.to_bits.result) in
    let added : c.to_bits.result ≡ 0 = omega (arith, both, le_or_r (slice_index bits i) c.to_bits.result) in
    let zero = no_bits B (get_or q i c.index-q-i.result) g.met.F.Figure.exact c.to_bits.ensures.holds (sym c.to_bits.ensures.value ∙ added) in
    ((c.loop-i.invariant k six (ap (slice_index bits) same ∙ before)).0, λ from to. ap (λ j. B.is_zero (figure_at B q j)) same ∙ sym (ap B.is_zero here) ∙ zero))
    (λ (apart : k ≢ i).
    let before = c.loop-i.invariant k six (sym (get_or-set_other bits i k sum 0 apart) ∙ none) in
    (before.0, λ from to. before.1 from (omega (arith, apart, to))))
    (cases_eq k i)

pub returns : goal.returns
returns g c =
    let B = g.F.Figure.bits in
    let N = g.row.N in
    let q = c.args.q.now in
    λ none. (
      λ k six. (c.loop-i.invariant k six (none k six)).0,
      all_below_from (λ i. ltb i N || B.is_zero (figure_at B q i)) 6 (λ i six.
          ⊎_elim (λ (before : i < N). or_left (ltb i N) (B.is_zero (figure_at B q i)) (lt-ltb i N before))
          (λ (from : N ≤ i). or_right (ltb i N) (B.is_zero (figure_at B q i)) ((c.loop-i.invariant i six (none i six)).1 from (omega (arith, six, c.loop-i-test.false))))
          (cases_lt i N)),
    )
