-- A block that is being written.
use Rattle.std.specs.Prelude.{◌≡◌, ℕ, List, length}
use Rattle.log_block.specs.declared.drafting.Draft.{Draft}
use Rattle.log_block.specs.Block.{filled}

-- these bytes are written, and zeros stand after them
pub record Drafted (xs : List ℕ) (d : Draft) : Type 0 where
  pub block : d.block.now ≡ filled 512 xs
  pub place : d.place ≡ length xs

-- the draft of the same block, of as many objectives
pub record SameDraft (before after : Draft) : Type 0 where
  pub block : after.block.ghost_name ≡ before.block.ghost_name
  pub objectives : after.objectives ≡ before.objectives
