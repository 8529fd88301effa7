use Rattle.replay.proofs.Listed.{listed}
use Rattle.replay.proofs.replaying.play_listed.Goals as goal

pub returns-clause-right : goal.returns-clause-right
returns-clause-right g c = listed (g.S.Space.meaning c.args.space) c.play.result c.play.new.own _ _ (record { list = c.args.list.now; block = _ }) (record { list = c.play.new.list; block = _ }) c.play.ensures.right
