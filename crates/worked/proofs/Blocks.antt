-- Each figure of blocks computes.
use Rattle.std.proofs.Common.{refl}
use Rattle.log_block.specs.Block.{block_of, filled, records_check, records_in}
use Rattle.log_block.specs.Sums.{high_sum, low_sum, running}
use Rattle.worked.specs.Blocks.{BlockFigures}

pub block_figures : BlockFigures
unfolding block_of filled high_sum low_sum records_check records_in running
block_figures = record {
  check_bytes = refl;
  accepted = refl;
  zeros = refl;
}
