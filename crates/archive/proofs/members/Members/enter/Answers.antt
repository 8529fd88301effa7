use Rattle.std.proofs.Common.{refl}
use Rattle.archive.proofs.Stepped.{entered_right, full_right}
use Rattle.archive.proofs.members.Members.enter.Goals as goal

pub returns-then-self : goal.returns-then-self
returns-then-self g c list = full_right c.args.trial c.args.self.now list c.if-self.true

pub returns : goal.returns
returns g c list = entered_right c.args.trial c.args.self.now list _ c.if-self.false refl refl refl
