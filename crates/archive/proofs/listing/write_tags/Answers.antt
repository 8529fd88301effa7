use Rattle.std.proofs.Common.{arith}
use Rattle.archive.proofs.Tags.{tags_all, tags_more}
use Rattle.archive.proofs.listing.write_tags.Goals as goal

pub loop-i-preserved : goal.loop-i-preserved
loop-i-preserved g c = tags_more c.args.members.now c.args.tags.now c.requires c.loop-i.tags c.loop-i.i c.index-members-i.result c.loop-i-test.true c.index-members-i.is c.loop-i.invariant

pub returns : goal.returns
returns g c = tags_all c.args.members.now c.args.tags.now c.requires c.loop-i.tags c.loop-i.i (omega arith) (omega arith) c.loop-i.invariant
