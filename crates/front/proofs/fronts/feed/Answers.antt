use Rattle.front.proofs.Feeds.{fed_under}
use Rattle.front.proofs.fronts.feed.Goals as goal

pub returns : goal.returns
returns c = fed_under c.args.block.now c.args.archive.now c.feed.new.self c.args.rows.now c.feed.new.rows c.feed.result c.feed.ensures.space c.feed.ensures.right
