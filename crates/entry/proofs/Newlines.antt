-- How the lines of a text are found one after the other.
use Rattle.std.proofs.Common.{◌≡◌, ℕ, zero, suc, ◌+◌, ◌-◌, ◌<◌, ◌≤◌, eqb, ltb, List, [], ◌∷◌, ◌++◌, length, get_or, take, drop, sym, refl, ap, ◌∙◌, ⊎_elim, arith}
use Rattle.std.proofs.lemmas.List.{append-nil, append_assoc, length-append, take_rest}
use Rattle.std.proofs.lemmas.Bool.{cases_eq, cond-true, cond-false, eq-eqb, ne_eqb, lt-ltb}
use Rattle.entry.specs.Text.{lines_after, lines, first_line, after_line}

-- a text before and after its first newline, which is at place n; or all of it, where it has none and n is its end
pub parted : (bs : List ℕ) (n : ℕ) → n ≤ length bs → ((k : ℕ) → k < n → get_or bs k 0 ≡ 10 → ⊥) → (n < length bs → get_or bs n 0 ≡ 10) → (take n bs ≡ first_line bs) × (drop 1 (drop n bs) ≡ after_line bs)
unfolding first_line after_line
parted [] zero l before found = (refl, refl)
parted [] (suc n) l before found = absurd (omega arith)
parted (b ∷ bs) zero l before found =
    let is = eq-eqb b 10 (found (omega arith)) in
    (sym (cond-true (eqb b 10) _ _ is), sym (cond-true (eqb b 10) _ _ is))
parted (b ∷ bs) (suc n) l before found =
    let is = ne_eqb b 10 (before 0 (omega arith)) in
    let next = parted bs n (omega arith) (λ k m. before (suc k) (omega arith)) (λ m. found (omega arith)) in
    (ap (λ r. b ∷ r) next.0 ∙ sym (cond-false (eqb b 10) _ _ is), next.1 ∙ sym (cond-false (eqb b 10) _ _ is))

-- what follows the newline, in what is left from it on
pub past_newline : (bs rest : List ℕ) (n : ℕ) → rest ≡ drop n bs → n ≤ length bs → ((k : ℕ) → k < n → get_or bs k 0 ≡ 10 → ⊥) → (n < length bs → get_or bs n 0 ≡ 10) → take (length rest - 1) (drop 1 rest) ≡ after_line bs
past_newline bs rest n is l before found = take_rest rest 1 ∙ ap (drop 1) is ∙ (parted bs n l before found).1

-- the part of a line that is read already goes on with the first line of what is left
goes_on : (l bs : List ℕ) → 0 < length l + length bs → lines_after l bs ≡ (l ++ first_line bs) ∷ lines (after_line bs)
unfolding lines_after first_line after_line
goes_on l [] some = cond-true (ltb 0 (length l)) _ _ (lt-ltb 0 (length l) (omega arith)) ∙ ap (λ r. r ∷ []) (sym (append-nil l))
goes_on l (b ∷ bs) some =
    ⊎_elim
    (λ (e : b ≡ 10).
    let is = eq-eqb b 10 e in
    let ends : lines_after l (b ∷ bs) ≡ l ∷ lines bs = cond-true (eqb b 10) _ _ is in
    let nothing : first_line (b ∷ bs) ≡ [] = cond-true (eqb b 10) _ _ is in
    let rest : after_line (b ∷ bs) ≡ bs = cond-true (eqb b 10) _ _ is in
    let whole = append-nil l in
    cc)
    (λ (differs : b ≡ 10 → ⊥).
    let is = ne_eqb b 10 differs in
    let more : lines_after l (b ∷ bs) ≡ lines_after (l ++ (b ∷ [])) bs = cond-false (eqb b 10) _ _ is in
    let first : first_line (b ∷ bs) ≡ b ∷ first_line bs = cond-false (eqb b 10) _ _ is in
    let rest : after_line (b ∷ bs) ≡ after_line bs = cond-false (eqb b 10) _ _ is in
    let next = goes_on (l ++ (b ∷ [])) bs (simp length-append (omega arith)) in
    let whole = append_assoc l (b ∷ []) (first_line bs) in
    cc)
    (cases_eq b 10)

-- a text that is not empty has its first line, and then the lines after it
pub lines_more : (bs : List ℕ) → 0 < length bs → lines bs ≡ first_line bs ∷ lines (after_line bs)
lines_more bs some = goes_on [] bs (omega arith)
