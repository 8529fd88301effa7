-- The triangle keeps the laws of a space.
use Rattle.std.proofs.Common.{arith}
use Rattle.std.proofs.lemmas.Bool.Decides.{nat_tests}
use Rattle.space.specs.Meaning.{Lawful}
use Rattle.outside.specs.Triangle.{triangle}

pub lawful_triangle : Lawful triangle
lawful_triangle = record {
  few = (omega arith, omega arith);
  reflexive = λ p a. grind (arith, nat_tests);
  transitive = λ p q r a b c d e. grind (arith, nat_tests);
  monotone = λ p q a b d i. grind (arith, nat_tests);
  bounded = λ p a i. grind (arith, nat_tests);
  small = λ i. (grind (arith, nat_tests), grind (arith, nat_tests));
  covering = λ p q a b h. let x = h 0 in let y = h 1 in let z = h 2 in grind (arith, nat_tests);
  outside_box = λ p i l. grind (arith, nat_tests);
  outside_extent = λ i l. grind (arith, nat_tests);
  off_grid = λ p a i. grind (arith, nat_tests);
}
