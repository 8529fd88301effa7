-- A grid's points as bytes: four for each objective, the highest first.
use Rattle.std.specs.Prelude.{ℕ, ◌*◌, ◌/◌, ◌%◌, Bool, ◌&&◌, ◌||◌, List, map, length, ◌==◌, nat_lt, slice_index}
use Rattle.std.specs.List.{range_with_len}
use Rattle.word.specs.Word.{four_bytes, number_at}
use Rattle.space.specs.Recording.{Recording}
use Rattle.grid.specs.Bits.{Bits}
use Rattle.grid.specs.Space.{figure_at, all_below}

-- the six figures that the bytes say, zero past their end
abbrev pub figures_read : {F : Type 0} → Bits F → List ℕ → List F
figures_read B bs = map (λ i. B.from (number_at bs i)) (range_with_len 0 6)

-- byte k of the figures
abbrev pub byte_at : {F : Type 0} → Bits F → List F → ℕ → ℕ
byte_at B p k = slice_index (four_bytes (B.to (figure_at B p (k / 4)))) (k % 4)

-- 32 bits hold each of the six figures
abbrev pub all_held : {F : Type 0} → Bits F → List F → Bool
all_held B p = all_below (λ i. B.holds (figure_at B p i)) 6

-- the figures past the last of m objectives are zero
abbrev pub zero_from : {F : Type 0} → Bits F → ℕ → List F → Bool
zero_from B m p = all_below (λ i. nat_lt i m || B.is_zero (figure_at B p i)) 6

-- six figures of 32 bits, zero past the last of m objectives
abbrev pub sextuple : {F : Type 0} → Bits F → ℕ → List F → Bool
sextuple B m p = length p == 6 && (all_held B p && zero_from B m p)

-- the bytes of a grid with m objectives
abbrev pub grid_recording : {F : Type 0} → Bits F → ℕ → Recording (List F)
grid_recording B m = record {
  width = 4 * m;
  writable = sextuple B m;
  reads = figures_read B;
  writes = λ p. map (byte_at B p) (range_with_len 0 (4 * m));
}
