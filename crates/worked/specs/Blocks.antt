-- The worked figures of log blocks, as statements about the definitions.
use Rattle.std.specs.Prelude.{◌≡◌, [], ◌∷◌, drop, replicate, Ok, Err}
use Rattle.log_block.specs.declared.faults.BlockFault.TheVariants.{StrangeFirst}
use Rattle.log_block.specs.declared.faults.Fault.TheVariants.{Block}
use Rattle.log_block.specs.Block.{block_of, checked}

-- two objectives, no records, block number 0: the check bytes, and that it is accepted; 512 zero bytes are a strange block
pub record BlockFigures : Type 0 where
  pub check_bytes : drop 508 (block_of 2 0 []) ≡ 0 ∷ 3 ∷ 5 ∷ 240 ∷ []
  pub accepted : checked 2 (block_of 2 0 []) ≡ Ok []
  pub zeros : checked 2 (replicate 512 0) ≡ Err (Block StrangeFirst)
