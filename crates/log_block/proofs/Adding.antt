-- The first sum of a block, one byte at a time, and how large both are.
use Rattle.std.proofs.Common.{◌≡◌, ℕ, ◌+◌, ◌%◌, ◌<◌, List, [], length, get_or, take, refl, arith}
use Rattle.std.proofs.lemmas.List.Sums.{sum_by_more}
use Rattle.log_block.specs.Sums.{low_sum, high_sum}

-- of no bytes
pub low_none : low_sum [] ≡ 0
unfolding low_sum
low_none = refl

-- and after byte n
pub low_more : (bs : List ℕ) (n : ℕ) → n < length bs → (low_sum (take n bs) + get_or bs n 0) % 65536 ≡ low_sum (take (n + 1) bs)
unfolding low_sum
low_more bs n l = omega (arith, sum_by_more (λ x. x) bs n 0 l)

-- both are of 16 bits
pub low_small : (bs : List ℕ) → low_sum bs < 65536
unfolding low_sum
low_small bs = omega arith

pub high_small : (bs : List ℕ) → high_sum bs < 65536
unfolding high_sum
high_small bs = omega arith
