use Rattle.std.proofs.Common.{length, refl}
use Rattle.history.proofs.Kept.{making_begins}
use Rattle.archive.proofs.making.begin.Goals as goal

pub returns : goal.returns
returns g c =
    record {
      made = (refl, refl, refl);
      begins = λ reads. making_begins (g.S.Space.meaning c.args.space) (g.met.S.Space.lawful c.args.space) reads (length c.args.rows.now) c.requires c.args.rows.now refl;
    }
