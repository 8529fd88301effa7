-- Bytes with zeros after them: how many they are, and what writing over the zeros makes of them.
use Rattle.std.proofs.Common.{◌≡◌, ℕ, ◌+◌, ◌-◌, ◌≤◌, List, ◌++◌, length, take, drop, replicate, sym, ap, ◌∙◌, arith}
use Rattle.std.proofs.lemmas.List.{append_assoc, drop_at, drop-replicate, length-append, length-replicate, replicate-append-replicate, take_at}
use Rattle.log_block.specs.Block.{filled}

-- zeros after bytes that are not too many
pub filled_long : (n : ℕ) (bs : List ℕ) → length bs ≤ n → length (filled n bs) ≡ n
unfolding filled
filled_long n bs l = omega (arith, length-append bs (replicate (n - length bs) 0), length-replicate {A = ℕ} (n - length bs) 0)

-- zeros after some bytes are zeros after the last of them
pub filled_after : (xs ys zs : List ℕ) → filled (length (xs ++ ys)) (xs ++ zs) ≡ xs ++ filled (length ys) zs
unfolding filled
filled_after xs ys zs =
    let same : length (xs ++ ys) - length (xs ++ zs) ≡ length ys - length zs = omega (arith, length-append xs ys, length-append xs zs) in
    append_assoc xs zs (replicate (length (xs ++ ys) - length (xs ++ zs)) 0) ∙ ap (λ k. xs ++ (zs ++ replicate k 0)) same

-- bytes that are written right after those that are there
pub filled_put : (n : ℕ) (xs ys : List ℕ) (at : ℕ) → at ≡ length xs → take at (filled n xs) ++ (ys ++ drop (length ys) (drop at (filled n xs))) ≡ filled n (xs ++ ys)
unfolding filled
filled_put n xs ys at e =
    let zeros : List ℕ = replicate (n - length xs) 0 in
    let front : take at (xs ++ zeros) ≡ xs = take_at xs zeros at (sym e) in
    let back : drop (length ys) (drop at (xs ++ zeros)) ≡ replicate (n - length xs - length ys) 0 = ap (drop (length ys)) (drop_at xs zeros at (sym e)) ∙ drop-replicate (length ys) (n - length xs) 0 in
    let count : n - length xs - length ys ≡ n - length (xs ++ ys) = omega (arith, length-append xs ys) in
    ap (λ zs. zs ++ (ys ++ drop (length ys) (drop at (xs ++ zeros)))) front
    ∙ (ap (λ zs. xs ++ (ys ++ zs)) back
    ∙ (ap (λ k. xs ++ (ys ++ replicate k 0)) count ∙ sym (append_assoc xs ys (replicate (n - length (xs ++ ys)) 0))))

-- the first of bytes with zeros after them
pub filled_front : (m n : ℕ) (xs : List ℕ) → length xs ≤ m → m ≤ n → take m (filled n xs) ≡ filled m xs
unfolding filled
filled_front m n xs l h =
    let count : n - length xs ≡ m - length xs + (n - m) = omega arith in
    let whole : filled n xs ≡ filled m xs ++ replicate (n - m) 0 = ap (λ k. xs ++ replicate k 0) count ∙ (ap (λ zs. xs ++ zs) (sym (replicate-append-replicate (m - length xs) (n - m) 0)) ∙ sym (append_assoc xs (replicate (m - length xs) 0) (replicate (n - m) 0))) in
    ap (take m) whole ∙ take_at (filled m xs) (replicate (n - m) 0) m (filled_long m xs l)
