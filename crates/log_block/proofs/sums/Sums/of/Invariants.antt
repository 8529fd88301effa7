use Rattle.std.proofs.Common.{◌≡◌, ◌+◌, ◌%◌, length, take}
use Rattle.log_block.specs.Sums.{low_sum}
use Rattle.log_block.proofs.Weighing.{weighed}
use Rattle.log_block.proofs.sums.Sums.of.Given as goal

abbrev pub invariant-loop-byte : goal.invariant-loop-byte
invariant-loop-byte l = record {
  weight : l.weight + l.byte-index ≡ length l.bytes;
  low : l.low ≡ low_sum (take l.byte-index l.bytes);
  high : l.high ≡ weighed l.bytes l.byte-index l.weight % 65536;
}
