-- The first pair at fault, one row at a time.
use Rattle.std.proofs.Common.{◌≡◌, ℕ, ◌+◌, ◌<◌, ◌≤◌, true, false, cond, not, List, ◌∷◌, length, get_or, drop, Some, None, Option, sym, ap, ◌∙◌, arith}
use Rattle.std.specs.Option.{option_or}
use Rattle.std.proofs.lemmas.List.{at_drop_all, at_drop_more}
use Rattle.std.proofs.lemmas.Bool.{cond-false, cond-true, not_from_false, not_from_true}
use Rattle.space.specs.Meaning.{Meaning}
use Rattle.space.specs.declared.tagged.Trial.{Trial}
use Rattle.history.specs.Auditing.{clash, clash_from, pair_from}
use Rattle.history.specs.State.{on_grid}

module _ {P : Type 0} (M : Meaning P) (ms : List (Trial P)) where
  -- row i, which holds x
  module _ (i : ℕ) (x : Trial P) (l : i < length ms) (e : x ≡ get_or ms i x) where
    rest : Option (ℕ × ℕ)
    rest = option_or (clash_from M i x (i + 1) (drop (i + 1) ms)) (pair_from M (i + 1) (drop (i + 1) ms))

    here : pair_from M i (drop i ms) ≡ cond (not (on_grid M x)) (Some (i, i)) rest
    unfolding pair_from rest
    here = at_drop_more (pair_from M i) ms i x l ∙ ap (λ y. pair_from M i (y ∷ drop (i + 1) ms)) (sym e)

    pub pair_off : on_grid M x ≡ false → pair_from M i (drop i ms) ≡ Some (i, i)
    pair_off f = here ∙ cond-true (not (on_grid M x)) (Some (i, i)) rest (not_from_false (on_grid M x) f)

    pub pair_on : on_grid M x ≡ true → pair_from M i (drop i ms) ≡ option_or (clash_from M i x (i + 1) (drop (i + 1) ms)) (pair_from M (i + 1) (drop (i + 1) ms))
    unfolding rest
    pair_on t = here ∙ cond-false (not (on_grid M x)) (Some (i, i)) rest (not_from_true (on_grid M x) t)

  -- past the last row
  pub pair_end : (i : ℕ) → length ms ≤ i → pair_from M i (drop i ms) ≡ None
  unfolding pair_from
  pair_end i l = at_drop_all (pair_from M i) ms i l

-- row i, which holds x, against these rows, the first of which is row j
module _ {P : Type 0} (M : Meaning P) (i j : ℕ) (x : Trial P) (ss : List (Trial P)) where
  -- the one at place k of them, which holds y
  module _ (k : ℕ) (y : Trial P) (l : k < length ss) (e : y ≡ get_or ss k y) where
    there : clash_from M i x (j + k) (drop k ss) ≡ cond (clash M x y) (Some (i, j + k)) (clash_from M i x (j + (k + 1)) (drop (k + 1) ss))
    unfolding clash_from
    there =
        let next : (j + k) + 1 ≡ j + (k + 1) = omega arith in
        at_drop_more (clash_from M i x (j + k)) ss k y l
        ∙ ap (λ z. clash_from M i x (j + k) (z ∷ drop (k + 1) ss)) (sym e)
        ∙ ap (λ n. cond (clash M x y) (Some (i, j + k)) (clash_from M i x n (drop (k + 1) ss))) next

    pub clash_found : clash M x y ≡ true → clash_from M i x (j + k) (drop k ss) ≡ Some (i, j + k)
    clash_found t = there ∙ cond-true (clash M x y) (Some (i, j + k)) (clash_from M i x (j + (k + 1)) (drop (k + 1) ss)) t

    pub clash_more : clash M x y ≡ false → clash_from M i x (j + k) (drop k ss) ≡ clash_from M i x (j + (k + 1)) (drop (k + 1) ss)
    clash_more f = there ∙ cond-false (clash M x y) (Some (i, j + k)) (clash_from M i x (j + (k + 1)) (drop (k + 1) ss)) f

  -- past the last of them
  pub clash_end : (k : ℕ) → length ss ≤ k → clash_from M i x (j + k) (drop k ss) ≡ None
  unfolding clash_from
  clash_end k l = at_drop_all (clash_from M i x (j + k)) ss k l
