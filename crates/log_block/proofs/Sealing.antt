-- A block's last four bytes are those of the sums exactly where the block is sealed.
use Rattle.std.proofs.Common.{◌≡◌, ℕ, ◌+◌, ◌<◌, true, eqb, List, [], ◌∷◌, ◌++◌, length, get_or, take, drop, sym, ap, ◌∙◌, arith}
use Rattle.std.proofs.ByRecursion.{All-get_or}
use Rattle.std.proofs.lemmas.List.{drop_all, drop_more, get_or-append-add, take-append-drop, take_at}
use Rattle.std.proofs.lemmas.Bool.{and_from, and_parts, eq-eqb, eqb-true}
use Rattle.word.specs.Word.{Bytes, pair_at, two_bytes}
use Rattle.word.proofs.Back.{two_again, two_back}
use Rattle.log_block.specs.Sums.{check_bytes, high_sum, low_sum, sealed, with_sums}
use Rattle.log_block.proofs.Adding.{high_small, low_small}

-- 508 bytes with their sums are sealed
pub sums_seal : (bs : List ℕ) → length bs ≡ 508 → sealed (with_sums bs) ≡ true
sums_seal bs long =
    let all = with_sums bs in
    let front : take 508 all ≡ bs = take_at bs (check_bytes bs) 508 long in
    let at : (n : ℕ) → get_or all (508 + n) 0 ≡ get_or (check_bytes bs) n 0 = λ n. ap (λ k. get_or all (k + n) 0) (sym long) ∙ get_or-append-add bs (check_bytes bs) n 0 in
    let low : pair_at all 508 ≡ low_sum (take 508 all) = omega (arith, at 0, at 1, two_back (low_sum bs) (low_small bs), ap low_sum front) in
    let high : pair_at all 510 ≡ high_sum (take 508 all) = omega (arith, at 2, at 3, two_back (high_sum bs) (high_small bs), ap high_sum front) in
    and_from (eqb (pair_at all 508) (low_sum (take 508 all))) (eqb (pair_at all 510) (high_sum (take 508 all))) (eq-eqb (pair_at all 508) (low_sum (take 508 all)) low) (eq-eqb (pair_at all 510) (high_sum (take 508 all)) high)

-- a sealed block is its first 508 bytes with their sums
pub seal_sums : (bs : List ℕ) → length bs ≡ 512 → Bytes bs → sealed bs ≡ true → with_sums (take 508 bs) ≡ bs
seal_sums bs long small shut =
    let byte : (k : ℕ) → k < 512 → get_or bs k 0 < 256 = λ k h. All-get_or (λ b. b < 256) bs k 0 (omega arith) small in
    let both = and_parts (eqb (pair_at bs 508) (low_sum (take 508 bs))) (eqb (pair_at bs 510) (high_sum (take 508 bs))) shut in
    let low : two_bytes (low_sum (take 508 bs)) ≡ get_or bs 508 0 ∷ get_or bs 509 0 ∷ [] = ap two_bytes (sym (eqb-true (pair_at bs 508) (low_sum (take 508 bs)) both.0)) ∙ two_again (get_or bs 508 0) (get_or bs 509 0) (byte 508 (omega arith)) (byte 509 (omega arith)) in
    let high : two_bytes (high_sum (take 508 bs)) ≡ get_or bs 510 0 ∷ get_or bs 511 0 ∷ [] = ap two_bytes (sym (eqb-true (pair_at bs 510) (high_sum (take 508 bs)) both.1)) ∙ two_again (get_or bs 510 0) (get_or bs 511 0) (byte 510 (omega arith)) (byte 511 (omega arith)) in
    let a = drop_more bs 508 0 (omega arith) in
    let b = drop_more bs 509 0 (omega arith) in
    let c = drop_more bs 510 0 (omega arith) in
    let d = drop_more bs 511 0 (omega arith) in
    let none = drop_all 512 bs (omega arith) in
    let last : check_bytes (take 508 bs) ≡ get_or bs 508 0 ∷ get_or bs 509 0 ∷ get_or bs 510 0 ∷ get_or bs 511 0 ∷ [] = ap (λ xs. xs ++ two_bytes (high_sum (take 508 bs))) low ∙ ap (λ xs. (get_or bs 508 0 ∷ get_or bs 509 0 ∷ []) ++ xs) high in
    let rest : drop 508 bs ≡ get_or bs 508 0 ∷ get_or bs 509 0 ∷ get_or bs 510 0 ∷ get_or bs 511 0 ∷ [] = cc in
    ap (λ xs. take 508 bs ++ xs) (last ∙ sym rest) ∙ take-append-drop 508 bs
