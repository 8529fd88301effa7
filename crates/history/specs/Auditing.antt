-- The first two rows that may not be members together.
use Rattle.std.specs.Prelude.{◌≡◌, ℕ, ◌+◌, ◌<◌, ◌≤◌, Bool, false, cond, not, ◌||◌, ◌⊎◌, List, [], ◌∷◌, Some, None, Option}
use Rattle.std.specs.List.{slice_get}
use Rattle.std.specs.Option.{option_or}
use Rattle.space.specs.Meaning.{Meaning}
use Rattle.space.specs.Boxes.{at_least}
use Rattle.space.specs.declared.tagged.Trial.{Trial}
use Rattle.history.specs.Comparing.{Apart}
use Rattle.history.specs.State.{on_grid}

-- one of the two boxes equals or dominates the other
abbrev pub clash : {P : Type 0} → Meaning P → Trial P → Trial P → Bool
clash M r s = at_least M r.point s.point || at_least M s.point r.point

-- row i, which holds r, with the first row of these, from row j on, that clashes with it
unfoldable pub clash_from : {P : Type 0} → Meaning P → ℕ → Trial P → ℕ → List (Trial P) → Option (ℕ × ℕ)
clash_from M i r j [] = None
clash_from M i r j (s ∷ ss) = cond (clash M r s) (Some (i, j)) (clash_from M i r (j + 1) ss)

-- the first pair at fault of these rows, from row i on: a row off the grid is at fault with itself
unfoldable pub pair_from : {P : Type 0} → Meaning P → ℕ → List (Trial P) → Option (ℕ × ℕ)
pair_from M i [] = None
pair_from M i (r ∷ rs) = cond (not (on_grid M r)) (Some (i, i)) (option_or (clash_from M i r (i + 1) rs) (pair_from M (i + 1) rs))

-- the first pair i ≤ j at fault: with the lowest i, and then with the lowest j
abbrev pub first_pair : {P : Type 0} → Meaning P → List (Trial P) → Option (ℕ × ℕ)
first_pair M members = pair_from M 0 members

-- row i is off the grid
pub record OffGridAt {P : Type 0} (M : Meaning P) (members : List (Trial P)) (i : ℕ) : Type 0 where
  pub trial : Trial P
  pub row : slice_get members i ≡ Some trial
  pub off : on_grid M trial ≡ false

-- row i is before row j, and their boxes are not apart
pub record ClashAt {P : Type 0} (M : Meaning P) (members : List (Trial P)) (i j : ℕ) : Type 0 where
  pub first : Trial P
  pub second : Trial P
  pub ordered : i < j
  pub first_row : slice_get members i ≡ Some first
  pub second_row : slice_get members j ≡ Some second
  pub not_apart : Apart M first second → ⊥

-- rows i and j may not be members together
abbrev pub AtFault : {P : Type 0} → Meaning P → List (Trial P) → ℕ → ℕ → Type 0
AtFault M members i j = ((i ≡ j) × OffGridAt M members i) ⊎ ClashAt M members i j

-- the pair (i, j) is not after (k, l): it has the lower first row, or the same and no higher second
abbrev pub NotAfter : ℕ → ℕ → ℕ → ℕ → Type 0
NotAfter i j k l = (i < k) ⊎ ((i ≡ k) × (j ≤ l))

-- this is the first pair at fault, or there is none
abbrev pub FirstAtFault : {P : Type 0} → Meaning P → List (Trial P) → Option (ℕ × ℕ) → Type 0
FirstAtFault M members None = (i j : ℕ) → AtFault M members i j → ⊥
FirstAtFault M members (Some p) = AtFault M members p.0 p.1 × ((i j : ℕ) → AtFault M members i j → NotAfter p.0 p.1 i j)
