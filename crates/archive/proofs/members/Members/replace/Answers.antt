use Rattle.std.proofs.Common.{refl}
use Rattle.archive.proofs.Stepped.{replaced_right}
use Rattle.archive.proofs.members.Members.replace.Goals as goal

pub returns : goal.returns
returns g c =
    replaced_right c.args.trial c.index-self-row.result c.args.self.now _ c.args.row c.copy_within.new.self c.args.displaced.now c.note.new.list c.note.ensures
    c.requires c.copy_within.ensures.after refl refl refl
