use Rattle.std.proofs.Common.{◌≡◌, [], take}
use Rattle.space.specs.Recording.{read_point}
use Rattle.archive.specs.Lent.{lending}
use Rattle.archive.specs.Restoring.{FedAll}
use Rattle.archive.proofs.Returned.{bytes_of}
use Rattle.archive.proofs.restoring.feed_all.Given as goal

abbrev pub invariant-loop-block : goal.invariant-loop-block
invariant-loop-block g l =
    (l.archive.space ≡ l.initial.archive.space)
    × FedAll (g.S.Space.meaning l.initial.archive.space) (read_point (g.S.Recorded.recording l.initial.archive.space)) (bytes_of (take l.block-index l.blocks)) l.total (lending l.archive l.rows [])
