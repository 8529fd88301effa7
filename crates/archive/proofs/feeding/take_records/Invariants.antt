use Rattle.space.specs.Recording.{read_point}
use Rattle.log_block.specs.Reading.{left_to_read}
use Rattle.history.specs.BlockTrials.{trials_of}
use Rattle.archive.specs.Held.{held_by}
use Rattle.archive.specs.Knowing.{KnowsIfTold, Roomy}
use Rattle.archive.proofs.Taking.{Going}
use Rattle.archive.proofs.feeding.take_records.Given as goal

-- the records so far are taken, and what is known of the members is so
abbrev pub invariant-loop-placed : goal.invariant-loop-placed
invariant-loop-placed g l =
    let reads = read_point (g.S.Recorded.recording l.space) in
    Going (g.S.Space.meaning l.space) (trials_of reads (left_to_read l.fn.records)) l.initial.members (trials_of reads (left_to_read l.placed-iterator)) l.fed l.members
    × Roomy l.known.most × Roomy l.known.least
    × KnowsIfTold (g.S.Space.meaning l.space) (g.S.Recorded.recording l.space) (held_by l.members) l.known
