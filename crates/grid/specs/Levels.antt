-- Levels: one objective of a point's box.
use Rattle.std.specs.Prelude.{◌≡◌, ℕ, ◌<◌, Bool, true, false, ◌&&◌, if◌then◌else◌, List, ℤ, pos, negsuc, ◌-ℤ◌, ◌≤ℤ◌, int_le, nat_le, slice_index_or}
use Rattle.grid.specs.Bits.{Bits}
use Rattle.grid.specs.Line.{Line}
use Rattle.grid.specs.Space.{all_below, figure_at}
use Rattle.grid.specs.declared.levels.Levels.{Levels}

-- a rank turned round
abbrev pub turned : ℤ → ℤ
turned rank = negsuc 0 -ℤ rank

-- the level of a figure
abbrev pub level : {F : Type 0} → Bits F → Levels → F → ℤ
level B L v = if L.turned then turned (B.rank v) else B.rank v

-- the figure's level is one of the grid
abbrev pub on_grid : {F : Type 0} → Bits F → Levels → F → Bool
on_grid B L v = int_le L.lowest (level B L v) && int_le (level B L v) L.highest

-- the figure's level is at most the highest of the boxes up to this one, or at least the lowest of those from it on
abbrev pub up_to : {F : Type 0} → Bits F → Levels → F → Bool
up_to B L v = int_le (level B L v) L.top

abbrev pub from_on : {F : Type 0} → Bits F → Levels → F → Bool
from_on B L v = int_le L.bottom (level B L v)

-- these are the levels of box n on the line: a figure on the grid is admitted, and its level tells how its box lies to this one
pub record LevelsOf {F : Type 0} (B : Bits F) (line : Line F) (n : ℕ) (L : Levels) : Type 0 where
  pub admitted : (v : F) → on_grid B L v ≡ true → line.admits v ≡ true
  pub most : (v : F) → on_grid B L v ≡ true → up_to B L v ≡ nat_le (line.box v) n
  pub least : (v : F) → on_grid B L v ≡ true → from_on B L v ≡ nat_le n (line.box v)

-- the levels of objective i
abbrev pub levels_at : List Levels → ℕ → Levels
levels_at levels i = slice_index_or levels i (record { turned = false; lowest = pos 0; highest = pos 0; bottom = pos 0; top = pos 0 })

-- whether q's figures pass a test of the levels at each of the first n places
abbrev pub each_place : {F : Type 0} → Bits F → (Bits F → Levels → F → Bool) → List Levels → List F → ℕ → Bool
each_place B test levels q = all_below (λ i. test B (levels_at levels i) (figure_at B q i))

-- the level of q's figure at each place
abbrev pub level_of : {F : Type 0} → Bits F → List Levels → List F → ℕ → ℤ
level_of B levels q i = level B (levels_at levels i) (figure_at B q i)

-- from these levels to those, at each of the first n places, lie all that did before, and this one too
pub record Reached (n : ℕ) (this : ℕ → ℤ) (lowest₀ highest₀ lowest highest : List ℤ) : Type 0 where
  pub low : (i : ℕ) → i < n → (slice_index_or lowest i (pos 0) ≤ℤ slice_index_or lowest₀ i (pos 0)) × (slice_index_or lowest i (pos 0) ≤ℤ this i)
  pub high : (i : ℕ) → i < n → (slice_index_or highest₀ i (pos 0) ≤ℤ slice_index_or highest i (pos 0)) × (this i ≤ℤ slice_index_or highest i (pos 0))

-- all of them are levels of the grid at place i
abbrev pub InReach : List Levels → List ℤ → List ℤ → ℕ → Type 0
InReach levels lowest highest i = ((levels_at levels i).lowest ≤ℤ slice_index_or lowest i (pos 0)) × (slice_index_or highest i (pos 0) ≤ℤ (levels_at levels i).highest)
