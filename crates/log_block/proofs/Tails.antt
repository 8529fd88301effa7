-- The bytes after the last record: the first of them that is not zero is at fault.
use Rattle.std.proofs.Common.{◌≡◌, ◌≢◌, ℕ, zero, suc, ◌+◌, ◌<◌, ◌≤◌, eqb, List, [], ◌∷◌, length, get_or, drop, Ok, Err, sym, refl, ap, ◌∙◌, arith}
use Rattle.std.proofs.lemmas.List.{at_drop_all, at_drop_more, drop_more}
use Rattle.std.proofs.lemmas.Bool.{cond-false, cond-true, eq-eqb, ne_eqb}
use Rattle.log_block.specs.declared.faults.RecordFault.TheVariants.{Tail}
use Rattle.log_block.specs.Items.{place_of}
use Rattle.log_block.specs.Block.{tail_check}

-- zeros in front are passed over
past : (bs : List ℕ) (i : ℕ) → i ≤ length bs → ((k : ℕ) → k < i → get_or bs k 0 ≡ 0) → tail_check bs ≡ tail_check (drop i bs)
past bs zero l z = refl
past [] (suc i) l z = absurd (omega arith)
past (x ∷ xs) (suc i) l z = cond-true (eqb x 0) (tail_check xs) (Err (Tail (place_of (x ∷ xs)))) (eq-eqb x 0 (z 0 (omega arith))) ∙ past xs i (omega arith) (λ k h. z (suc k) (omega arith))

-- byte i is the first that is not zero
pub tail_at : (bs : List ℕ) (i : ℕ) → i < length bs → ((k : ℕ) → k < i → get_or bs k 0 ≡ 0) → get_or bs i 0 ≢ 0 → tail_check bs ≡ Err (Tail (place_of (drop i bs)))
tail_at bs i l z n =
    past bs i (omega arith) z
    ∙ (at_drop_more tail_check bs i 0 l
    ∙ (cond-false (eqb (get_or bs i 0) 0) (tail_check (drop (i + 1) bs)) (Err (Tail (place_of (get_or bs i 0 ∷ drop (i + 1) bs)))) (ne_eqb (get_or bs i 0) 0 n)
    ∙ ap (λ xs. Err (Tail (place_of xs))) (sym (drop_more bs i 0 l))))

-- each is zero
pub tail_none : (bs : List ℕ) → ((k : ℕ) → k < length bs → get_or bs k 0 ≡ 0) → tail_check bs ≡ Ok tt
tail_none bs z = past bs (length bs) (omega arith) z ∙ at_drop_all tail_check bs (length bs) (omega arith)
