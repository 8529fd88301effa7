-- The box numbers of a point, objective by objective.
use Rattle.std.proofs.Common.{◌≡◌, ℕ, zero, suc, ◌+◌, ◌<◌, ◌≤◌, true, List, [], ◌∷◌, map, length, set, length-set, get_or, get_or-set_same, get_or-set_other, sym, refl, ap, ◌∙◌, ⊎_elim, arith}
use Rattle.std.specs.Prelude.{slice_index}
use Rattle.std.specs.List.{range_with_len}
use Rattle.std.proofs.lemmas.Bool.{cases_lt}
use Rattle.std.proofs.lemmas.Grind.{same_number_lists}
use Rattle.std.proofs.lemmas.List.{get_or-map, length-map}
use Rattle.std.proofs.lemmas.List.FromFn.{get_or-map-range_with_len, length-map-range_with_len}
use Rattle.grid.specs.Bits.{Bits, Exact}
use Rattle.grid.specs.Line.{Line}
use Rattle.grid.specs.Laws.{past_the_last}
use Rattle.grid.specs.Space.{box_at, figure_at, line_at, unused}

-- a figure of no bits is zero
pub no_bits : {F : Type 0} (B : Bits F) (v : F) → Exact B → B.holds v ≡ true → B.to v ≡ 0 → B.is_zero v ≡ true
no_bits B v E held none = ap B.is_zero (sym (E.figure_back v held) ∙ ap B.from none ∙ E.zero_bits) ∙ E.zero_tested

-- six zeros
pub zeros : (i : ℕ) → slice_index (0 ∷ 0 ∷ 0 ∷ 0 ∷ 0 ∷ 0 ∷ []) i ≡ 0
zeros zero = refl
zeros (suc zero) = refl
zeros (suc (suc zero)) = refl
zeros (suc (suc (suc zero))) = refl
zeros (suc (suc (suc (suc zero)))) = refl
zeros (suc (suc (suc (suc (suc zero))))) = refl
zeros (suc (suc (suc (suc (suc (suc i)))))) = refl

-- the first n numbers are those of the rules, and the others are zero
pub record Numbered (f : ℕ → ℕ) (ns : List ℕ) (n : ℕ) : Type 0 where
  pub long : length ns ≡ 6
  pub done : (k : ℕ) → k < n → slice_index ns k ≡ f k
  pub rest : (k : ℕ) → n ≤ k → slice_index ns k ≡ 0

-- at first all are zero
pub numbered_none : (f : ℕ → ℕ) → Numbered f (0 ∷ 0 ∷ 0 ∷ 0 ∷ 0 ∷ 0 ∷ []) 0
numbered_none f = record { long = refl; done = λ k l. absurd (omega (arith, l)); rest = λ k l. zeros k }

-- one number more
pub numbered_more : (f : ℕ → ℕ) (ns : List ℕ) (n x : ℕ) → n < 6 → x ≡ f n → Numbered f ns n → Numbered f (set ns n x) (n + 1)
numbered_more f ns n x six here N = record {
  long = length-set ns n x ∙ N.long;
  done = λ k l.
      ⊎_elim
      (λ (before : k < n). get_or-set_other ns n k x 0 (λ e. omega (arith, e)) ∙ N.done k before)
      (λ (at : n ≤ k). let e : n ≡ k = omega (arith, l) in ap (slice_index (set ns n x)) (sym e) ∙ get_or-set_same ns n x 0 (omega (arith, N.long)) ∙ here ∙ ap f e)
      (cases_lt k n);
  rest = λ k l. get_or-set_other ns n k x 0 (λ e. omega (arith, e, l)) ∙ N.rest k (omega (arith, l));
}

module _ {A F : Type 0} (B : Bits F) (line : A → Line F) (axes : List A) (p : List F) where
  -- the number that the rule at place i says
  pub number_here : (i : ℕ) (axis : A) (x : ℕ) → i < length axes → axis ≡ get_or axes i axis → x ≡ (line axis).box (figure_at B p i) → x ≡ box_at B (map line axes) p i
  number_here i axis x inside is told =
      let this : line_at B (map line axes) i ≡ line axis = get_or-map line axes i axis (unused B) inside ∙ ap line (sym is) in
      told ∙ ap (λ l. l.box (figure_at B p i)) (sym this)

  -- all numbers
  pub numbered_all : (ns : List ℕ) (n : ℕ) → length axes ≤ n → Numbered (box_at B (map line axes) p) ns n → ns ≡ map (box_at B (map line axes) p) (range_with_len 0 6)
  numbered_all ns n all N =
      let f = box_at B (map line axes) p in
      same_number_lists ns (map f (range_with_len 0 6)) (N.long ∙ sym (length-map-range_with_len f 0 6))
      (λ k l.
      let six : k < 6 = omega (arith, l, N.long) in
      ⊎_elim
      (λ (in' : k < n). N.done k in')
      (λ (past : n ≤ k). N.rest k past ∙ sym (ap (λ l. l.box (figure_at B p k)) (past_the_last B (map line axes) k (omega (arith, length-map axes line)))))
      (cases_lt k n)
      ∙ sym (get_or-map-range_with_len f 0 6 k k 0 six (omega arith)))
