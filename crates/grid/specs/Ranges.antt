-- Ranges of figures, and the figures of a line by their boxes.
use Rattle.std.specs.Prelude.{◌≡◌, ℕ, ◌^◌, ◌<◌, Bool, ◌&&◌, ℤ, int_le, nat_le}
use Rattle.std.specs.Int.{w32, cast_signed}
use Rattle.grid.specs.Bits.{Bits}
use Rattle.grid.specs.Line.{Line}

-- the figure lies between these two, or is one of them
abbrev pub between : {F : Type 0} → Bits F → F × F → F → Bool
between B ends v = B.at_most ends.0 v && B.at_most v ends.1

-- read as signed, the numbers of 32 bits from one to another are those that say a figure which passes the test
abbrev pub NumbersPass : {F : Type 0} → Bits F → (F → Bool) → ℤ × ℤ → Type 0
NumbersPass B test ends = (n : ℕ) → n < 2 ^ 32 → (int_le ends.0 (cast_signed w32 n) && int_le (cast_signed w32 n) ends.1) ≡ test (B.from n)

-- the line admits the figure, and its box number is at most n, or at least n
abbrev pub box_at_most : {F : Type 0} → Line F → ℕ → F → Bool
box_at_most L n v = L.admits v && nat_le (L.box v) n

abbrev pub box_at_least : {F : Type 0} → Line F → ℕ → F → Bool
box_at_least L n v = L.admits v && nat_le n (L.box v)
