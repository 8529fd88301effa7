-- The bytes of a grid's points keep the laws of a recording.
use Rattle.std.proofs.Common.{◌≡◌, ℕ, zero, suc, ◌+◌, ◌*◌, ◌/◌, ◌%◌, ◌^◌, ◌<◌, ◌≤◌, true, ◌&&◌, ◌||◌, eqb, ltb, List, [], ◌∷◌, length, get_or, sym, refl, ap, ◌∙◌, ⊎_elim, add-zero, arith}
use Rattle.std.proofs.lemmas.List.FromFn.{length-map-range_with_len, get_or-map-range_with_len, fill_by_all}
use Rattle.std.proofs.lemmas.List.{get_or_past}
use Rattle.std.proofs.ByRecursion.{All-get_or}
use Rattle.std.proofs.lemmas.Bool.{and_parts, or_cases, eqb-true, cases_lt, both_ways, le-ltb}
use Rattle.word.specs.Word.{Bytes, four_bytes, number_at}
use Rattle.word.proofs.Back.{four_again, four_back}
use Rattle.space.specs.Recording.{Faithful}
use Rattle.grid.specs.Bits.{Bits, Exact}
use Rattle.grid.specs.Space.{figure_at}
use Rattle.grid.specs.Bytes.{figures_read, byte_at, all_held, zero_from, sextuple, grid_recording}
use Rattle.grid.specs.Tests.{all_below_each}

-- the four bytes of a place, by their number
quarter : (bs : List ℕ) (i j : ℕ) → j < 4 → get_or (get_or bs (4 * i) 0 ∷ get_or bs (4 * i + 1) 0 ∷ get_or bs (4 * i + 2) 0 ∷ get_or bs (4 * i + 3) 0 ∷ []) j 0 ≡ get_or bs (4 * i + j) 0
quarter bs i zero l = ap (λ k. get_or bs k 0) (sym (add-zero (4 * i)))
quarter bs i (suc zero) l = refl
quarter bs i (suc (suc zero)) l = refl
quarter bs i (suc (suc (suc zero))) l = refl
quarter bs i (suc (suc (suc (suc j)))) l = absurd (omega arith)

-- four bytes say a number of 32 bits
pub number_small : (bs : List ℕ) → Bytes bs → (i : ℕ) → 4 * i + 4 ≤ length bs → number_at bs i < 2 ^ 32
number_small bs small i long =
    let byte : (k : ℕ) → k < 4 → get_or bs (4 * i + k) 0 < 256 = λ k h. All-get_or (λ b. b < 256) bs (4 * i + k) 0 (omega arith) small in
    let first : get_or bs (4 * i) 0 < 256 = All-get_or (λ b. b < 256) bs (4 * i) 0 (omega arith) small in
    omega (arith, first, byte 1 (omega arith), byte 2 (omega arith), byte 3 (omega arith))

-- no bytes say zero
pub number_none : (bs : List ℕ) (i : ℕ) → length bs ≤ 4 * i → number_at bs i ≡ 0
number_none bs i past = omega (arith, get_or_past bs (4 * i) 0 past, get_or_past bs (4 * i + 1) 0 (omega arith), get_or_past bs (4 * i + 2) 0 (omega arith), get_or_past bs (4 * i + 3) 0 (omega arith))

-- the figure that is read at a place
pub figure_read : {F : Type 0} (B : Bits F) (bs : List ℕ) (i : ℕ) → i < 6 → figure_at B (figures_read B bs) i ≡ B.from (number_at bs i)
figure_read B bs i l = get_or-map-range_with_len (λ k. B.from (number_at bs k)) 0 6 i i B.zero l (omega arith)

module _ {F : Type 0} (B : Bits F) (exact : Exact B) (m : ℕ) (few : m ≤ 6) where
  -- byte j of place i, as it is written
  written_at : (p : List F) (i j : ℕ) → i < m → j < 4 → get_or ((grid_recording B m).writes p) (4 * i + j) 0 ≡ get_or (four_bytes (B.to (figure_at B p i))) j 0
  written_at p i j l s =
      let place : (4 * i + j) / 4 ≡ i = omega arith in
      let digit : (4 * i + j) % 4 ≡ j = omega arith in
      get_or-map-range_with_len (byte_at B p) 0 (4 * m) (4 * i + j) (4 * i + j) 0 (omega arith) (omega arith) ∙ ap (λ x. get_or (four_bytes (B.to (figure_at B p x))) ((4 * i + j) % 4) 0) place ∙ ap (λ x. get_or (four_bytes (B.to (figure_at B p i))) x 0) digit

  -- the number that is read back at a place
  number_written : (p : List F) (i : ℕ) → i < m → B.holds (figure_at B p i) ≡ true → number_at ((grid_recording B m).writes p) i ≡ B.to (figure_at B p i)
  number_written p i l h =
      let b0 : get_or ((grid_recording B m).writes p) (4 * i) 0 ≡ get_or (four_bytes (B.to (figure_at B p i))) 0 0 = rw (add-zero (4 * i)) at (written_at p i 0 l (omega arith)) in
      let b1 = written_at p i 1 l (omega arith) in
      let b2 = written_at p i 2 l (omega arith) in
      let b3 = written_at p i 3 l (omega arith) in
      let back = four_back (B.to (figure_at B p i)) (exact.small (figure_at B p i) h) in
      omega (arith, b0, b1, b2, b3, back)

  -- past the last objective there are no bytes
  number_past : (p : List F) (i : ℕ) → m ≤ i → number_at ((grid_recording B m).writes p) i ≡ 0
  number_past p i l = number_none ((grid_recording B m).writes p) i (omega (arith, length-map-range_with_len (byte_at B p) 0 (4 * m)))

  -- the figure that is read back at a place
  figure_written : (p : List F) → sextuple B m p ≡ true → (i : ℕ) → i < 6 → B.from (number_at ((grid_recording B m).writes p) i) ≡ figure_at B p i
  figure_written p w i l =
      let both = and_parts (all_held B p) (zero_from B m p) (and_parts (eqb (length p) 6) (all_held B p && zero_from B m p) w).1 in
      let held = all_below_each (λ k. B.holds (figure_at B p k)) 6 both.0 i l in
      let blank = all_below_each (λ k. ltb k m || B.is_zero (figure_at B p k)) 6 both.1 i l in
      ⊎_elim
      (λ in'. ap B.from (number_written p i in' held) ∙ exact.figure_back (figure_at B p i) held)
      (λ past. ap B.from (number_past p i past) ∙ exact.zero_bits ∙ sym (exact.zero_alone (figure_at B p i) (⊎_elim (λ t. absurd (both_ways (ltb i m) (le-ltb i m past) t)) (λ z. z) (or_cases (ltb i m) (B.is_zero (figure_at B p i)) blank))))
      (cases_lt i m)

  -- byte j of place i, as it is read and written again
  read_at : (bs : List ℕ) → Bytes bs → (i j : ℕ) → i < 6 → 4 * i + 4 ≤ length bs → j < 4 → get_or (four_bytes (B.to (figure_at B (figures_read B bs) i))) j 0 ≡ get_or bs (4 * i + j) 0
  read_at bs small i j l long s =
      let byte : (k : ℕ) → k < 4 → get_or bs (4 * i + k) 0 < 256 = λ k h. All-get_or (λ b. b < 256) bs (4 * i + k) 0 (omega arith) small in
      let first : get_or bs (4 * i) 0 < 256 = All-get_or (λ b. b < 256) bs (4 * i) 0 (omega arith) small in
      let number = ap B.to (figure_read B bs i l) ∙ exact.number_back (number_at bs i) (number_small bs small i long) in
      let four = ap four_bytes number ∙ four_again (get_or bs (4 * i) 0) (get_or bs (4 * i + 1) 0) (get_or bs (4 * i + 2) 0) (get_or bs (4 * i + 3) 0) first (byte 1 (omega arith)) (byte 2 (omega arith)) (byte 3 (omega arith)) in
      ap (λ xs. get_or xs j 0) four ∙ quarter bs i j s

  pub faithful_grid : Faithful (grid_recording B m)
  faithful_grid = record {
    reads_back = λ p w. sym (fill_by_all (λ i. B.from (number_at ((grid_recording B m).writes p) i)) p 6 B.zero (eqb-true (length p) 6 (and_parts (eqb (length p) 6) (all_held B p && zero_from B m p) w).0) (λ i l. sym (figure_written p w i l)));
    writes_back = λ bs small long. sym (fill_by_all (byte_at B (figures_read B bs)) bs (4 * m) 0 long (λ k l.
        let whole : 4 * (k / 4) + k % 4 ≡ k = omega arith in
        sym (read_at bs small (k / 4) (k % 4) (omega arith) (omega arith) (omega arith) ∙ ap (λ x. get_or bs x 0) whole)));
    long = λ p. length-map-range_with_len (byte_at B p) 0 (4 * m);
  }
