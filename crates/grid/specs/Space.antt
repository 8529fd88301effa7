-- What a grid means: a line for each objective, and past the last one lines on which there is only zero.
use Rattle.std.specs.Prelude.{ℕ, zero, suc, Bool, true, cond, ◌&&◌, List, length, slice_index_or}
use Rattle.space.specs.Meaning.{Meaning}
use Rattle.grid.specs.Bits.{Bits}
use Rattle.grid.specs.Line.{Line}

-- an objective that is not there: its figure is zero, and it has one box
abbrev pub unused : {F : Type 0} → Bits F → Line F
unused B = record { admits = B.is_zero; no_worse = λ v w. true; extent = 1; box = λ v. 0; covers = λ v w. true }

-- the line of objective i, and the figure that a point has there
abbrev pub line_at : {F : Type 0} → Bits F → List (Line F) → ℕ → Line F
line_at B lines i = slice_index_or lines i (unused B)

abbrev pub figure_at : {F : Type 0} → Bits F → List F → ℕ → F
figure_at B p i = slice_index_or p i B.zero

-- the test holds at each number below n
unfoldable pub all_below : (ℕ → Bool) → ℕ → Bool
all_below f zero = true
all_below f (suc n) = f n && all_below f n

-- line i admits p's figure; on it p's figure is no worse than q's, or covers it
abbrev pub admits_at : {F : Type 0} → Bits F → List (Line F) → List F → ℕ → Bool
admits_at B lines p i = (line_at B lines i).admits (figure_at B p i)

abbrev pub no_worse_at : {F : Type 0} → Bits F → List (Line F) → List F → List F → ℕ → Bool
no_worse_at B lines p q i = (line_at B lines i).no_worse (figure_at B p i) (figure_at B q i)

abbrev pub covers_at : {F : Type 0} → Bits F → List (Line F) → List F → List F → ℕ → Bool
covers_at B lines p q i = (line_at B lines i).covers (figure_at B p i) (figure_at B q i)

-- the box of p on line i, if p is on the grid
abbrev pub box_at : {F : Type 0} → Bits F → List (Line F) → List F → ℕ → ℕ
box_at B lines p i = (line_at B lines i).box (figure_at B p i)

-- the meaning of the grid with these lines
abbrev pub grid_meaning : {F : Type 0} → Bits F → List (Line F) → Meaning (List F)
grid_meaning B lines = record {
  objectives = length lines;
  admits = λ p. all_below (admits_at B lines p) 6;
  no_worse = λ p q. all_below (no_worse_at B lines p q) 6;
  extent = λ i. (line_at B lines i).extent;
  box = λ i p. cond (all_below (admits_at B lines p) 6) (box_at B lines p i) 0;
  covers = λ p q. all_below (covers_at B lines p q) 6;
}
