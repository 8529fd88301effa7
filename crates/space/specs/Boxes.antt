-- How points and their boxes compare: as relations, which every statement on what stands or is held speaks of, and as the tests of them
-- that a step is made of.
use Rattle.std.specs.Prelude.{◌≡◌, ℕ, zero, suc, ◌<◌, ◌≤◌, Bool, true, false, cond, not, ◌&&◌, List, map, Option, Some, None, nat_le}
use Rattle.std.specs.List.{range_with_len}
use Rattle.space.specs.Meaning.{Meaning}

-- p dominates q: no worse, and not the other way round
abbrev pub Dominates : {P : Type 0} → Meaning P → P → P → Type 0
Dominates M p q = (M.no_worse p q ≡ true) × (M.no_worse q p ≡ false)

-- p's box number is at least q's in every objective (both are 0 past the last)
abbrev pub AtLeast : {P : Type 0} → Meaning P → P → P → Type 0
AtLeast M p q = (i : ℕ) → M.box i q ≤ M.box i p

-- the same box number in every objective
abbrev pub SameBox : {P : Type 0} → Meaning P → P → P → Type 0
SameBox M p q = (i : ℕ) → M.box i p ≡ M.box i q

-- p's box dominates q's: at least as great in every objective, and greater in one
abbrev pub BoxDominates : {P : Type 0} → Meaning P → P → P → Type 0
BoxDominates M p q = AtLeast M p q × ((i : ℕ) × (M.box i q < M.box i p))

-- the first k of these numbers are each at least those of the others
abbrev pub each_at_least : ℕ → (ℕ → ℕ) → (ℕ → ℕ) → Bool
each_at_least zero a b = true
each_at_least (suc k) a b = nat_le (b k) (a k) && each_at_least k a b

-- p's box number is at least q's in each of the first k objectives
abbrev pub at_least_in : {P : Type 0} → Meaning P → ℕ → P → P → Bool
at_least_in M k p q = each_at_least k (λ i. M.box i p) (λ i. M.box i q)

-- p's box number is at least q's in every objective
abbrev pub at_least : {P : Type 0} → Meaning P → P → P → Bool
at_least M p q = at_least_in M M.objectives p q

-- p's box dominates q's
abbrev pub box_dominates : {P : Type 0} → Meaning P → P → P → Bool
box_dominates M p q = at_least M p q && not (at_least M q p)

-- p and q have the same box
abbrev pub same_box : {P : Type 0} → Meaning P → P → P → Bool
same_box M p q = at_least M p q && at_least M q p

-- the box numbers of a point in six objectives, 0 past the last
abbrev pub six_boxes : {P : Type 0} → Meaning P → P → List ℕ
six_boxes M p = map (λ i. M.box i p) (range_with_len 0 6)

-- those of a point on the grid, and none of another
abbrev pub boxes_on : {P : Type 0} → Meaning P → P → Option (List ℕ)
boxes_on M p = cond (M.admits p) (Some (six_boxes M p)) None
