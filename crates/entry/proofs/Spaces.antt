-- How the fields of a line are found one after the other.
use Rattle.std.proofs.Common.{◌≡◌, ℕ, zero, suc, ◌+◌, ◌-◌, ◌<◌, ◌≤◌, eqb, ltb, List, [], ◌∷◌, ◌++◌, length, get_or, take, drop, sym, refl, ap, ◌∙◌, ⊎_elim, add-zero, arith, length-drop}
use Rattle.std.proofs.lemmas.List.{append-nil, append_assoc, get_or-drop, drop_all, length-append, length-take-le}
use Rattle.std.proofs.lemmas.Bool.{cases_lt, cond-true, cond-false, cond_both, eq-eqb, lt-ltb, ltb-true, ne_eqb}
use Rattle.entry.specs.Line.{closed, fields_after, fields}

-- a space ends a field
at_space : (f : List ℕ) (b : ℕ) (bs : List ℕ) → b ≡ 32 → fields_after f (b ∷ bs) ≡ closed f (fields bs)
unfolding fields_after
at_space f b bs e = cond-true (eqb b 32) _ _ (eq-eqb b 32 e)

-- any other byte goes on with it
at_other : (f : List ℕ) (b : ℕ) (bs : List ℕ) → (b ≡ 32 → ⊥) → fields_after f (b ∷ bs) ≡ fields_after (f ++ (b ∷ [])) bs
unfolding fields_after
at_other f b bs differs = cond-false (eqb b 32) _ _ (ne_eqb b 32 differs)

-- spaces in front tell nothing
spaces_skipped : (bs : List ℕ) (n : ℕ) → n ≤ length bs → ((k : ℕ) → k < n → get_or bs k 0 ≡ 32) → fields bs ≡ fields (drop n bs)
spaces_skipped bs zero l h = refl
spaces_skipped [] (suc n) l h = absurd (omega arith)
spaces_skipped (b ∷ bs) (suc n) l h =
    at_space [] b bs (h 0 (omega arith)) ∙ spaces_skipped bs n (omega arith) (λ k m. h (suc k) (omega arith))

-- bytes that are no spaces are of one field
word_read : (f bs : List ℕ) (n : ℕ) → n ≤ length bs → ((k : ℕ) → k < n → get_or bs k 0 ≡ 32 → ⊥) → fields_after f bs ≡ fields_after (f ++ take n bs) (drop n bs)
word_read f bs zero l h = ap (λ g. fields_after g bs) (sym (append-nil f))
word_read f [] (suc n) l h = absurd (omega arith)
word_read f (b ∷ bs) (suc n) l h =
    at_other f b bs (h 0 (omega arith))
    ∙ word_read (f ++ (b ∷ [])) bs n (omega arith) (λ k m. h (suc k) (omega arith))
    ∙ ap (λ g. fields_after g (drop n bs)) (append_assoc f (b ∷ []) (take n bs))

-- which ends at a space or at the line's end
word_closed : (f bs : List ℕ) → (0 < length bs → get_or bs 0 0 ≡ 32) → fields_after f bs ≡ closed f (fields bs)
unfolding fields_after
word_closed f [] h = refl
word_closed f (b ∷ bs) h =
    let e = h (omega arith) in
    at_space f b bs e ∙ ap (closed f) (sym (at_space [] b bs e))

-- a line is its first field, which is not empty, and the fields of what follows
pub first_and_rest : (bs line : List ℕ) (start n : ℕ) → start < length bs → ((k : ℕ) → k < start → get_or bs k 0 ≡ 32) → (get_or bs start 0 ≡ 32 → ⊥) → line ≡ drop start bs → n ≤ length line → ((k : ℕ) → k < n → get_or line k 0 ≡ 32 → ⊥) → (n < length line → get_or line n 0 ≡ 32) → fields bs ≡ take n line ∷ fields (drop n line)
first_and_rest bs line start n inside spaces begun is within word ended =
    let at : (k : ℕ) → get_or line k 0 ≡ get_or bs (start + k) 0 = λ k. ap (λ l. get_or l k 0) is ∙ get_or-drop start bs k 0 in
    let left : length line ≡ length bs - start = ap length is ∙ length-drop start bs in
    let first : get_or line 0 0 ≡ 32 → ⊥ = λ e. begun (sym (at 0 ∙ ap (λ k. get_or bs k 0) (add-zero start)) ∙ e) in
    let some : 0 < n = ⊎_elim (λ l. l) (λ l. let none : n ≡ 0 = omega arith in absurd (first (ap (λ k. get_or line k 0) (sym none) ∙ ended (omega arith)))) (cases_lt 0 n) in
    let long = length-take-le n line within in
    spaces_skipped bs start (omega arith) spaces
    ∙ (ap fields (sym is)
    ∙ (word_read [] line n within word
    ∙ (word_closed (take n line) (drop n line) (λ l. get_or-drop n line 0 0 ∙ (ap (λ k. get_or line k 0) (add-zero n) ∙ ended (omega (arith, length-drop n line))))
    ∙ cond-true (ltb 0 (length (take n line))) (take n line ∷ fields (drop n line)) (fields (drop n line)) (lt-ltb 0 (length (take n line)) (omega arith)))))

-- a line of spaces has none
pub none_left : (bs : List ℕ) → ((k : ℕ) → k < length bs → get_or bs k 0 ≡ 32) → fields bs ≡ []
unfolding fields_after
none_left bs spaces = spaces_skipped bs (length bs) (omega arith) spaces ∙ ap fields (drop_all (length bs) bs (omega arith))

-- there are no more fields than bytes
few_after : (f bs : List ℕ) → length (fields_after f bs) ≤ length f + length bs
unfolding fields_after
few_after f [] = cond_both (ltb 0 (length f)) (f ∷ []) [] (λ fs. length fs ≤ length f + 0) (λ e. omega (arith, ltb-true 0 (length f) e)) (λ e. omega arith)
few_after f (b ∷ bs) =
    cond_both (eqb b 32) (closed f (fields_after [] bs)) (fields_after (f ++ (b ∷ [])) bs) (λ fs. length fs ≤ length f + suc (length bs))
    (λ e. cond_both (ltb 0 (length f)) (f ∷ fields_after [] bs) (fields_after [] bs) (λ fs. length fs ≤ length f + suc (length bs)) (λ t. omega (arith, few_after [] bs, ltb-true 0 (length f) t)) (λ t. omega (arith, few_after [] bs)))
    (λ e. omega (arith, few_after (f ++ (b ∷ [])) bs, length-append f (b ∷ [])))

pub fields_few : (bs : List ℕ) → length (fields bs) ≤ length bs
fields_few bs = omega (arith, few_after [] bs)

-- nor are there more fields, with three before them, than bytes
pub three_before : (bs one two three a b c : List ℕ) → fields bs ≡ a ∷ fields one → fields one ≡ b ∷ fields two → fields two ≡ c ∷ fields three → 3 + length (fields three) ≤ length bs
three_before bs one two three a b c ea eb ec = omega (arith, fields_few bs, ap length ea, ap length eb, ap length ec)
