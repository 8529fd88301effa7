use Rattle.logger.proofs.Extents.{lives_sound, not_refused}
use Rattle.logger.proofs.scales.lives.Goals as goal

pub unwrap-requires : goal.unwrap-requires
unwrap-requires c = not_refused c.new.result _ _ lives_sound c.new.ensures
