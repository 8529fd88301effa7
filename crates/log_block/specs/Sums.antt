-- The two sums that seal a block.
use Rattle.std.specs.Prelude.{ℕ, ◌+◌, ◌%◌, Bool, cond, ◌&&◌, List, ◌++◌, map, length, take, Ok, Err, sum, Result, ◌==◌}
use Rattle.std.specs.List.{range_with_len}
use Rattle.word.specs.Word.{pair_at, two_bytes}
use Rattle.log_block.specs.declared.faults.BlockFault.{BlockFault}
use Rattle.log_block.specs.declared.faults.BlockFault.TheVariants.{WrongLength}
use Rattle.log_block.specs.declared.sums.Sums.{Sums}

-- the first sum: of the bytes, modulo 65,536
unfoldable pub low_sum : List ℕ → ℕ
low_sum bs = sum bs % 65536

-- the values that the first sum has on its way, one after each byte
unfoldable pub running : List ℕ → List ℕ
running bs = map (λ k. low_sum (take (k + 1) bs)) (range_with_len 0 (length bs))

-- the second sum: of these values, modulo 65,536
unfoldable pub high_sum : List ℕ → ℕ
high_sum bs = sum (running bs) % 65536

-- both sums of some bytes
abbrev pub sums_of : List ℕ → Sums
sums_of bs = record { low = low_sum bs; high = high_sum bs }

-- the bytes that seal what comes before them
abbrev pub check_bytes : List ℕ → List ℕ
check_bytes bs = two_bytes (low_sum bs) ++ two_bytes (high_sum bs)

-- the last four of 512 bytes say the sums of the others
abbrev pub sealed : List ℕ → Bool
sealed bs = pair_at bs 508 == low_sum (take 508 bs) && pair_at bs 510 == high_sum (take 508 bs)

-- 508 bytes with their sums
abbrev pub with_sums : List ℕ → List ℕ
with_sums bs = bs ++ check_bytes bs

-- what sealing bytes answers, and what they then are: sealed anew, or of another length and as they were
abbrev pub seal_answer : List ℕ → Result (Unit {0}) BlockFault
seal_answer bs = cond (length bs == 512) (Ok tt) (Err WrongLength)

abbrev pub sealed_anew : List ℕ → List ℕ
sealed_anew bs = cond (length bs == 512) (with_sums (take 508 bs)) bs
