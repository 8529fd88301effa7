-- Which trials and which boxes of a list stand. Trials go by their place in the list, counted from 0.
use Rattle.std.specs.Prelude.{◌≡◌, ℕ, ◌<◌, true, List, length, slice_index_or}
use Rattle.space.specs.declared.tagged.Trial.{Trial}
use Rattle.space.specs.Meaning.{Meaning}
use Rattle.space.specs.Boxes.{Dominates, AtLeast, SameBox, BoxDominates}
use Rattle.standing.specs.declared.compare.Relation.{Relation}
use Rattle.standing.specs.declared.compare.Relation.TheVariants.{Point, Box, Same}

-- trial i is there, and on the grid; a default is never read of a trial that is there
abbrev pub OnGrid : {P : Type 0} → Meaning P → List (Trial P) → ℕ → Type 0
OnGrid {P} M ts i = (i < length ts) × ((d : Trial P) → M.admits (slice_index_or ts i d).point ≡ true)

-- the points of trials k and i are so related
abbrev pub Pair : {P : Type 0} → (P → P → Type 0) → List (Trial P) → ℕ → ℕ → Type 0
Pair {P} R ts k i = (d : Trial P) → R (slice_index_or ts k d).point (slice_index_or ts i d).point

-- none of the first n trials is on the grid and so related to trial i
abbrev pub NoneOf : {P : Type 0} → Meaning P → (P → P → Type 0) → List (Trial P) → ℕ → ℕ → Type 0
NoneOf M R ts n i = (k : ℕ) → k < n → OnGrid M ts k → Pair R ts k i → ⊥

-- trial i is on the grid, and none on the grid is so related to it
abbrev pub Stands : {P : Type 0} → Meaning P → (P → P → Type 0) → List (Trial P) → ℕ → Type 0
Stands M R ts i = OnGrid M ts i × NoneOf M R ts (length ts) i

-- trial i is on the grid, and no trial on the grid dominates it
abbrev pub TrialStands : {P : Type 0} → Meaning P → List (Trial P) → ℕ → Type 0
TrialStands M ts i = Stands M (Dominates M) ts i

-- trial i is on the grid, and no trial on the grid has a box that dominates its box
abbrev pub BoxStands : {P : Type 0} → Meaning P → List (Trial P) → ℕ → Type 0
BoxStands M ts i = Stands M (BoxDominates M) ts i

-- trial i's box stands, and no earlier trial on the grid is in the same box
abbrev pub OpensBox : {P : Type 0} → Meaning P → List (Trial P) → ℕ → Type 0
OpensBox M ts i = BoxStands M ts i × NoneOf M (SameBox M) ts i i

-- for each trial on the grid a box stands that is at least its own in every objective, and the trial there covers it
abbrev pub BoxAbove : {P : Type 0} → Meaning P → Type 0
BoxAbove {P} M = (ts : List (Trial P)) (i : ℕ) → OnGrid M ts i → (j : ℕ) × (BoxStands M ts j × Pair (AtLeast M) ts j i × Pair (λ p q. M.covers p q ≡ true) ts j i)

-- in each box that stands a trial stands
abbrev pub TrialWithin : {P : Type 0} → Meaning P → Type 0
TrialWithin {P} M = (ts : List (Trial P)) (j : ℕ) → BoxStands M ts j → (k : ℕ) × (TrialStands M ts k × BoxStands M ts k × Pair (SameBox M) ts k j)

-- what each relation says of two points
abbrev pub Related : {P : Type 0} → Relation → Meaning P → P → P → Type 0
Related Point M p q = Dominates M p q
Related Box M p q = BoxDominates M p q
Related Same M p q = SameBox M p q
