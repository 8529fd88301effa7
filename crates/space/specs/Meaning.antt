-- What a space of trial points means, and the laws that it keeps.
use Rattle.std.specs.Prelude.{◌≡◌, ℕ, ◌<◌, ◌≤◌, Bool, true, false}

-- how many objectives there are, which points the grid admits, which point is no worse than which,
-- how many boxes each objective has and which of them holds a point, and which point covers which
pub record Meaning (P : Type 0) : Type 0 where
  pub objectives : ℕ
  pub admits : P → Bool
  pub no_worse : P → P → Bool
  pub extent : ℕ → ℕ
  pub box : ℕ → P → ℕ
  pub covers : P → P → Bool

-- the laws: one to six objectives; among admitted points no worse is a preorder that the box numbers follow,
-- each below an extent of 1 to 1,024, and boxes at least as great cover; nothing past the last objective, and no box off the grid
pub record Lawful {P : Type 0} (M : Meaning P) : Type 0 where
  pub few : (1 ≤ M.objectives) × (M.objectives ≤ 6)
  pub reflexive : (p : P) → M.admits p ≡ true → M.no_worse p p ≡ true
  pub transitive : (p q r : P) → M.admits p ≡ true → M.admits q ≡ true → M.admits r ≡ true → M.no_worse p q ≡ true → M.no_worse q r ≡ true → M.no_worse p r ≡ true
  pub monotone : (p q : P) → M.admits p ≡ true → M.admits q ≡ true → M.no_worse p q ≡ true → (i : ℕ) → M.box i q ≤ M.box i p
  pub bounded : (p : P) → M.admits p ≡ true → (i : ℕ) → M.box i p < M.extent i
  pub small : (i : ℕ) → (1 ≤ M.extent i) × (M.extent i ≤ 1024)
  pub covering : (p q : P) → M.admits p ≡ true → M.admits q ≡ true → ((i : ℕ) → M.box i q ≤ M.box i p) → M.covers p q ≡ true
  pub outside_box : (p : P) (i : ℕ) → M.objectives ≤ i → M.box i p ≡ 0
  pub outside_extent : (i : ℕ) → M.objectives ≤ i → M.extent i ≡ 1
  pub off_grid : (p : P) → M.admits p ≡ false → (i : ℕ) → M.box i p ≡ 0
