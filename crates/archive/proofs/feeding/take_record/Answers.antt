use Rattle.std.proofs.Common.{ap, refl, rules}
use Rattle.space.specs.Recording.{read_point}
use Rattle.log_block.specs.Reading.{seen}
use Rattle.archive.proofs.Taking.{record_skipped, record_tried}
use Rattle.archive.proofs.feeding.take_record.Goals as goal

pub returns-in-Trial : goal.returns-in-Trial
returns-in-Trial g c =
    record_tried (g.S.Space.meaning c.args.space.now) (read_point (g.S.Recorded.recording c.args.space.now)) c.args.placed.place (seen c.args.placed.record) c.args.members.now c.one_fed.result
    c.in-Trial.tag c.in-Trial.point.now _ c.try_bytes.result c.try_bytes.new.members (ap seen c.in-Trial.is) refl c.one_fed.ensures c.try_bytes.ensures

pub returns-in-Note : goal.returns-in-Note
returns-in-Note g c =
    record_skipped (g.S.Space.meaning c.args.space.now) (read_point (g.S.Recorded.recording c.args.space.now)) c.args.placed.place (seen c.args.placed.record) c.args.members.now c.default.result
    c.in-Note.field-0.now (ap seen c.in-Note.is) (search rules)
