-- A block is sound as a whole exactly where each of its five tests comes out.
use Rattle.std.proofs.Common.{◌≡◌, ℕ, Bool, true, false, cond, not, eqb, List, length, get_or, Ok, Err, Result, refl, ap, ◌∙◌}
use Rattle.std.proofs.lemmas.Bool.{eq-eqb, eqb-true}
use Rattle.log_block.specs.declared.faults.BlockFault.{BlockFault}
use Rattle.log_block.specs.declared.faults.BlockFault.TheVariants.{WrongLength, Torn, StrangeFirst, StrangeFourth, OtherGrid}
use Rattle.log_block.specs.Sums.{sealed}
use Rattle.log_block.specs.Block.{header_check}
use Rattle.log_block.proofs.Never.{never}

-- the five tests of a block as a whole
pub record Header (m : ℕ) (bs : List ℕ) : Type 0 where
  pub long : length bs ≡ 512
  pub shut : sealed bs ≡ true
  pub first : get_or bs 0 0 ≡ 1
  pub fourth : get_or bs 3 0 ≡ 0
  pub grid : get_or bs 2 0 ≡ m

-- the first of five tests that fails
abbrev told : Bool → Bool → Bool → Bool → Bool → Result (Unit {0}) BlockFault
told a b c d e = cond (not a) (Err WrongLength) (cond (not b) (Err Torn) (cond (not c) (Err StrangeFirst) (cond (not d) (Err StrangeFourth) (cond (not e) (Err OtherGrid) (Ok tt)))))

all_told : (a b c d e : Bool) → told a b c d e ≡ Ok tt → (a ≡ true) × (b ≡ true) × (c ≡ true) × (d ≡ true) × (e ≡ true)
all_told true true true true true h = (refl, refl, refl, refl, refl)
all_told true true true true false h = absurd (never OtherGrid tt h)
all_told true true true false e h = absurd (never StrangeFourth tt h)
all_told true true false d e h = absurd (never StrangeFirst tt h)
all_told true false c d e h = absurd (never Torn tt h)
all_told false b c d e h = absurd (never WrongLength tt h)

pub header_parts : (m : ℕ) (bs : List ℕ) → header_check m bs ≡ Ok tt → Header m bs
header_parts m bs h =
    let all = all_told (eqb (length bs) 512) (sealed bs) (eqb (get_or bs 0 0) 1) (eqb (get_or bs 3 0) 0) (eqb (get_or bs 2 0) m) h in
    record {
      long = eqb-true (length bs) 512 all.0;
      shut = all.1;
      first = eqb-true (get_or bs 0 0) 1 all.2;
      fourth = eqb-true (get_or bs 3 0) 0 all.3;
      grid = eqb-true (get_or bs 2 0) m all.4;
    }

pub header_from : (m : ℕ) (bs : List ℕ) → Header m bs → header_check m bs ≡ Ok tt
header_from m bs h =
    let long = eq-eqb (length bs) 512 h.long in
    let shut = h.shut in
    let first = eq-eqb (get_or bs 0 0) 1 h.first in
    let fourth = eq-eqb (get_or bs 3 0) 0 h.fourth in
    let grid = eq-eqb (get_or bs 2 0) m h.grid in
    ap (λ a. told a (sealed bs) (eqb (get_or bs 0 0) 1) (eqb (get_or bs 3 0) 0) (eqb (get_or bs 2 0) m)) long
    ∙ (ap (λ b. told true b (eqb (get_or bs 0 0) 1) (eqb (get_or bs 3 0) 0) (eqb (get_or bs 2 0) m)) shut
    ∙ (ap (λ c. told true true c (eqb (get_or bs 3 0) 0) (eqb (get_or bs 2 0) m)) first
    ∙ (ap (λ d. told true true true d (eqb (get_or bs 2 0) m)) fourth
    ∙ ap (λ e. told true true true true e) grid)))
