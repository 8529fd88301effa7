-- The second sum of a block, with each byte added once, as often as the first sum holds it on its way.
use Rattle.std.proofs.Common.{◌≡◌, ℕ, ◌+◌, ◌-◌, ◌*◌, ◌%◌, ◌<◌, ◌≤◌, List, map, length, get_or, take, sum, ap, ◌∙◌, arith}
use Rattle.std.specs.List.{range_with_len}
use Rattle.std.proofs.lemmas.List.FromFn.{sum_by-map-range_with_len_more}
use Rattle.std.proofs.lemmas.List.Sums.{sum_by_more}
use Rattle.log_block.specs.Sums.{low_sum, running, high_sum}
use Rattle.log_block.proofs.Adding.{low_none, low_more}
use Rattle.log_block.proofs.Remainders.{sum_of_remainders}

-- what n bytes have given: the sums after each of them, and their own sum once more for each of the w bytes that come after
unfoldable pub weighed : List ℕ → ℕ → ℕ → ℕ
weighed bs n w = sum (map (λ k. sum (take (k + 1) bs)) (range_with_len 0 n)) + w * sum (take n bs)

-- no bytes
pub weighed_none : (bs : List ℕ) (w : ℕ) → weighed bs 0 w ≡ 0
unfolding weighed
weighed_none bs w = omega arith

-- byte n gives itself once at its own place, and once for each byte after it
weighed_byte : (bs : List ℕ) (n w : ℕ) → n < length bs → weighed bs (n + 1) w ≡ weighed bs n (w + 1) + (w + 1) * get_or bs n 0
unfolding weighed
weighed_byte bs n w l =
    let way = sum_by-map-range_with_len_more (λ x. x) (λ k. sum (take (k + 1) bs)) 0 n n (omega arith) in
    let more = sum_by_more (λ x. x) bs n 0 l in
    rw (way, more) (omega arith)

-- the same modulo 65,536, for a byte with w - 1 bytes after it
pub weighed_more : (bs : List ℕ) (n w : ℕ) → w + n ≡ length bs → n < length bs → (weighed bs n w % 65536 + w * get_or bs n 0 % 65536) % 65536 ≡ weighed bs (n + 1) (w - 1) % 65536
weighed_more bs n w e l =
    let one : w - 1 + 1 ≡ w = omega arith in
    let step = weighed_byte bs n (w - 1) l ∙ ap (λ v. weighed bs n v + v * get_or bs n 0) one in
    omega (arith, step)

-- all bytes have given the second sum
pub weighed_all : (bs : List ℕ) (n w : ℕ) → w + n ≡ length bs → length bs ≤ n → weighed bs n w % 65536 ≡ high_sum bs
unfolding weighed high_sum running low_sum
weighed_all bs n w e l =
    let none : w ≡ 0 = omega arith in
    let all : n ≡ length bs = omega arith in
    rw (none, all) (omega (arith, sum_of_remainders (λ k. sum (take (k + 1) bs)) (range_with_len 0 (length bs))))

-- both sums of no bytes, and after a byte more
pub ruleset byte_by_byte = (low_none, low_more, weighed_none, weighed_more)
