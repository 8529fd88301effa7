-- A test at each number below a bound.
use Rattle.std.proofs.Common.{◌≡◌, ℕ, zero, suc, ◌+◌, ◌<◌, Bool, true, ◌&&◌, sym, refl, ap, ◌∙◌, add-zero, arith}
use Rattle.std.proofs.Math.Bool.{and_assoc, and_comm}
use Rattle.std.specs.List.{list_all, range_with_len}
use Rattle.std.proofs.lemmas.Bool.Decides.{Decides-below_and}
use Rattle.grid.specs.Space.{all_below}

module _ (f : ℕ → Bool) where
  -- it holds at each
  pub all_below_each : (n : ℕ) → all_below f n ≡ true → (k : ℕ) → k < n → f k ≡ true
  unfolding all_below
  all_below_each n h = (Decides-below_and f (λ k. f k ≡ true) (all_below f) (λ k. ((λ e. e), (λ e. e))) refl (λ _. refl) n).0 h

  -- it holds at all
  pub all_below_from : (n : ℕ) → ((k : ℕ) → k < n → f k ≡ true) → all_below f n ≡ true
  unfolding all_below
  all_below_from n h = (Decides-below_and f (λ k. f k ≡ true) (all_below f) (λ k. ((λ e. e), (λ e. e))) refl (λ _. refl) n).1 h

-- one number more of a range, at its end
one_more : (f : ℕ → Bool) (a n : ℕ) → list_all f (range_with_len a (suc n)) ≡ (f (a + n) && list_all f (range_with_len a n))
one_more f a zero = ap (λ k. f k && true) (sym (add-zero a))
one_more f a (suc n) =
    let rest = list_all f (range_with_len (a + 1) n) in
    let here : (a + 1) + n ≡ a + suc n = omega arith in
    ap (λ b. f a && b) (one_more f (a + 1) n ∙ ap (λ k. f k && rest) here) ∙ sym (and_assoc (f a) (f (a + suc n)) rest) ∙ ap (λ b. b && rest) (and_comm (f a) (f (a + suc n))) ∙ and_assoc (f (a + suc n)) (f a) rest

-- it holds at all of a range from 0 on
pub all_below_range : (f : ℕ → Bool) (n : ℕ) → list_all f (range_with_len 0 n) ≡ all_below f n
unfolding all_below
all_below_range f zero = refl
all_below_range f (suc n) =
    let here : 0 + n ≡ n = omega arith in
    one_more f 0 n ∙ ap (λ k. f k && list_all f (range_with_len 0 n)) here ∙ ap (λ b. f n && b) (all_below_range f n)
