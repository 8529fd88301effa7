use Rattle.log_block.specs.Items.{place_of}
use Rattle.log_block.proofs.reading.place.Goals as goal

pub returns : goal.returns
unfolding place_of
returns c = c.saturating_sub.ensures
