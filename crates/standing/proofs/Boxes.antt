-- Boxes compare by the objectives that there are, so that two can always be told apart.
use Rattle.std.proofs.Common.{◌≡◌, ℕ, zero, suc, ◌<◌, ◌≤◌, ◌⊎◌, subst, inl, inr, ⊎_elim, arith}
use Rattle.std.proofs.lemmas.Bool.{cases_lt}
use Rattle.space.specs.Meaning.{Meaning, Lawful}
use Rattle.space.specs.Boxes.{AtLeast, SameBox, BoxDominates}

-- what holds below n and at n holds below the next
pub upto : (Q : ℕ → Type 0) (n : ℕ) → ((k : ℕ) → k < n → Q k) → Q n → (k : ℕ) → k < suc n → Q k
upto Q n below here k l =
    ⊎_elim (λ h. below k h) (λ (h : n ≤ k). let e : n ≡ k = omega arith in subst Q e here) (cases_lt k n)

-- f is at most g below n, or above it somewhere
decided_below : (f g : ℕ → ℕ) (n : ℕ) → ((i : ℕ) → i < n → f i ≤ g i) ⊎ ((i : ℕ) × (g i < f i))
decided_below f g zero = inl (λ i l. absurd (omega arith))
decided_below f g (suc n) =
    ⊎_elim
    (λ all. ⊎_elim (λ l. inr (n, l)) (λ l. inl (upto (λ i. f i ≤ g i) n all l)) (cases_lt (g n) (f n)))
    (λ some. inr some)
    (decided_below f g n)

module _ {P : Type 0} (M : Meaning P) (law : Lawful M) where
  -- past the last objective both boxes are 0
  pub at_least_from : (p q : P) → ((i : ℕ) → i < M.objectives → M.box i q ≤ M.box i p) → AtLeast M p q
  at_least_from p q below i =
      ⊎_elim (λ l. below i l) (λ l. omega (arith, law.outside_box q i l)) (cases_lt i M.objectives)

  at_least_decided : (p q : P) → AtLeast M p q ⊎ ((i : ℕ) × (M.box i p < M.box i q))
  at_least_decided p q =
      ⊎_elim
      (λ all. inl (at_least_from p q all))
      (λ some. inr some)
      (decided_below (λ i. M.box i q) (λ i. M.box i p) M.objectives)

  pub box_dominates_decided : (p q : P) → BoxDominates M p q ⊎ (BoxDominates M p q → ⊥)
  box_dominates_decided p q =
      ⊎_elim
      (λ (least : AtLeast M p q).
      ⊎_elim
      (λ (other : AtLeast M q p). inr (λ h. omega (arith, h.1.1, other h.1.0)))
      (λ (more : (i : ℕ) × (M.box i q < M.box i p)). inl (least, more))
      (at_least_decided q p))
      (λ (less : (i : ℕ) × (M.box i p < M.box i q)). inr (λ h. omega (arith, less.1, h.0 less.0)))
      (at_least_decided p q)

  pub box_dominates_onward : (p q r : P) → BoxDominates M p q → BoxDominates M q r → BoxDominates M p r
  box_dominates_onward p q r h k =
      (λ i. omega (arith, h.0 i, k.0 i), (h.1.0, omega (arith, h.1.1, k.0 h.1.0)))

  pub box_dominates_never : (p : P) → BoxDominates M p p → ⊥
  box_dominates_never p h = omega (arith, h.1.1)

  -- a box that dominates another dominates it under any trial in it
  pub box_dominates_same : (p q r : P) → BoxDominates M p q → SameBox M q r → BoxDominates M p r
  box_dominates_same p q r h e =
      (λ i. omega (arith, h.0 i, e i), (h.1.0, omega (arith, h.1.1, e h.1.0)))
