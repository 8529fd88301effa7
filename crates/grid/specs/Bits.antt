-- A figure as 32 bits.
use Rattle.std.specs.Prelude.{◌≡◌, ℕ, ◌^◌, ◌<◌, Bool, true, ◌&&◌, ℤ, pos, negsuc, ◌-ℤ◌, ◌==◌, int_le, nat_le, nat_lt}
use Rattle.std.specs.Int.{w32}
use Rattle.std.proofs.Common.{to_z, of_z}

-- the number that a figure's bits say, the figure that a number's bits are, which figures 32 bits hold, the figure zero and the test for it,
-- which figure is at most which, and the rank of a figure among all
pub record Bits (F : Type 0) : Type 0 where
  pub to : F → ℕ
  pub from : ℕ → F
  pub holds : F → Bool
  pub zero : F
  pub is_zero : F → Bool
  pub at_most : F → F → Bool
  pub rank : F → ℤ

-- the laws: a figure that 32 bits hold comes back from its bits, and a number of 32 bits from its figure; zero is the figure of no bits;
-- and of two figures the one of the greater rank is the greater
pub record Exact {F : Type 0} (B : Bits F) : Type 0 where
  pub figure_back : (v : F) → B.holds v ≡ true → B.from (B.to v) ≡ v
  pub number_back : (n : ℕ) → n < 2 ^ 32 → B.to (B.from n) ≡ n
  pub small : (v : F) → B.holds v ≡ true → B.to v < 2 ^ 32
  pub zero_bits : B.from 0 ≡ B.zero
  pub zero_tested : B.is_zero B.zero ≡ true
  pub zero_alone : (v : F) → B.is_zero v ≡ true → v ≡ B.zero
  pub ranked : (v w : F) → B.at_most v w ≡ int_le (B.rank v) (B.rank w)

-- signed figures are in two's complement
abbrev pub signed_bits : Bits ℤ
signed_bits = record { to = of_z w32; from = to_z w32; holds = λ v. int_le (negsuc 2147483647) v && int_le v (pos 2147483647); zero = pos 0; is_zero = λ v. int_le (pos 0) v && int_le v (pos 0); at_most = int_le; rank = λ v. v }

-- unsigned figures are their own bits
abbrev pub unsigned_bits : Bits ℕ
unsigned_bits = record { to = λ v. v; from = λ v. v; holds = λ v. nat_lt v (2 ^ 32); zero = 0; is_zero = λ v. (v == 0); at_most = nat_le; rank = λ v. pos v -ℤ pos 2147483648 }
