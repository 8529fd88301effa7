-- The records of a block, one at a time.
use Rattle.std.proofs.Common.{◌≡◌, ℕ, zero, suc, ◌-◌, ◌<◌, List, [], ◌∷◌, Ok, Err, Some, None, Result, sym, refl, ap, ◌∙◌, arith}
use Rattle.std.specs.Borrow.{Bor}
use Rattle.std.specs.Result.{result_ok}
use Rattle.log_block.specs.declared.faults.RecordFault.{RecordFault}
use Rattle.log_block.specs.declared.parts.Record.{Record}
use Rattle.log_block.specs.Items.{Item, first_item, place_of}
use Rattle.log_block.specs.Block.{records_check, records_in, tail_check}
use Rattle.log_block.specs.Reading.{seen, seen_both}

-- after the last record
pub in_none : (m n : ℕ) (bs : List ℕ) → n ≡ 0 → records_in m n bs ≡ []
unfolding records_in
in_none m zero bs e = refl
in_none m (suc n) bs e = absurd (omega arith)

pub check_none : (m n : ℕ) (bs : List ℕ) → n ≡ 0 → records_check m n bs ≡ tail_check bs
unfolding records_check
check_none m zero bs e = refl
check_none m (suc n) bs e = absurd (omega arith)

-- at a record
pub in_suc : (m n : ℕ) (bs : List ℕ) (x : Item) (rest : List ℕ) → first_item m bs ≡ Ok (x, rest) → records_in m (suc n) bs ≡ record { place = place_of bs; item = x } ∷ records_in m n rest
unfolding records_in
in_suc m n bs x rest e = rw (e, records_in) refl

pub check_suc : (m n : ℕ) (bs : List ℕ) (x : Item) (rest : List ℕ) → first_item m bs ≡ Ok (x, rest) → records_check m (suc n) bs ≡ records_check m n rest
unfolding records_check
check_suc m n bs x rest e = rw (e, records_check) refl

-- the same, as code counts down
pub in_more : (m n : ℕ) (bs : List ℕ) (x : Item) (rest : List ℕ) → 0 < n → first_item m bs ≡ Ok (x, rest) → records_in m n bs ≡ record { place = place_of bs; item = x } ∷ records_in m (n - 1) rest
in_more m zero bs x rest l e = absurd (omega arith)
in_more m (suc n) bs x rest l e = let one : suc n - 1 ≡ n = omega arith in rw one (in_suc m n bs x rest e)

pub check_more : (m n : ℕ) (bs : List ℕ) (x : Item) (rest : List ℕ) → 0 < n → first_item m bs ≡ Ok (x, rest) → records_check m n bs ≡ records_check m (n - 1) rest
check_more m zero bs x rest l e = absurd (omega arith)
check_more m (suc n) bs x rest l e = let one : suc n - 1 ≡ n = omega arith in rw one (check_suc m n bs x rest e)

-- at a fault
pub in_fault : (m n : ℕ) (bs : List ℕ) (f : RecordFault) → first_item m bs ≡ Err f → records_in m n bs ≡ []
unfolding records_in
in_fault m zero bs f e = refl
in_fault m (suc n) bs f e = rw (e, records_in) refl

pub check_fault : (m n : ℕ) (bs : List ℕ) (f : RecordFault) → 0 < n → first_item m bs ≡ Err f → records_check m n bs ≡ Err f
unfolding records_check
check_fault m zero bs f l e = absurd (omega arith)
check_fault m (suc n) bs f l e = rw (e, records_check) refl

-- what code reads as the first record, or that it reads none
pub read_one : (m : ℕ) (bs : List ℕ) (r : Result (Record × Bor (List ℕ)) RecordFault) (p : Record × Bor (List ℕ)) → seen_both r ≡ first_item m bs → result_ok r ≡ Some p → first_item m bs ≡ Ok (seen p.0, p.1.now)
read_one m bs (Ok q) p e o = let same : q ≡ p = cc in sym e ∙ ap (λ q. Ok (seen q.0, q.1.now)) same
read_one m bs (Err f) p e o = cc

pub read_none : (m n : ℕ) (bs : List ℕ) (r : Result (Record × Bor (List ℕ)) RecordFault) → seen_both r ≡ first_item m bs → result_ok r ≡ None → records_in m n bs ≡ []
read_none m n bs (Ok q) e o = cc
read_none m n bs (Err f) e o = in_fault m n bs f (sym e)
