use Rattle.std.proofs.Common.{refl, rules}
use Rattle.history.specs.declared.denials.Denial.TheVariants.{StrangeRows, ShortList, OffGrid}
use Rattle.archive.specs.Lent.{lending}
use Rattle.space.proofs.Looks.{looked_by, off_by}
use Rattle.archive.proofs.Offers.{strange_rows, short_list, off_grid, passes, denied_right, judged_right}
use Rattle.archive.proofs.holding.Archive.take_offer.Goals as goal

pub returns-then-rows-self : goal.returns-then-rows-self
returns-then-rows-self g c =
    let self = c.args.self.now in
    let M = g.S.Space.meaning self.space in
    let t = c.args.trial in
    let a = lending self c.args.rows.now c.args.displaced.now in
    record {
      space = refl;
      right = denied_right M t a (g.met.S.Space.lawful self.space) StrangeRows (strange_rows M t a c.if-rows-self.true);
    }

pub returns-then-displaced-self : goal.returns-then-displaced-self
returns-then-displaced-self g c =
    let self = c.args.self.now in
    let M = g.S.Space.meaning self.space in
    let t = c.args.trial in
    let a = lending self c.args.rows.now c.args.displaced.now in
    record {
      space = refl;
      right = denied_right M t a (g.met.S.Space.lawful self.space) ShortList (short_list M t a c.if-rows-self.false c.if-displaced-self.true);
    }

pub returns-in_default : goal.returns-in_default
returns-in_default g c =
    let self = c.args.self.now in
    let M = g.S.Space.meaning self.space in
    let t = c.args.trial in
    let a = lending self c.args.rows.now c.args.displaced.now in
    record {
      space = refl;
      right = denied_right M t a (g.met.S.Space.lawful self.space) OffGrid (off_grid M t a c.if-rows-self.false c.if-displaced-self.false (off_by M t.point c.as_slice.result.now c.in_default.ensures));
    }

pub returns : goal.returns
returns g c =
    let self = c.args.self.now in
    let M = g.S.Space.meaning self.space in
    let t = c.args.trial in
    let a = lending self c.args.rows.now c.args.displaced.now in
    let looked = looked_by M t.point c.as_slice.result.now c.in-Some.look c.in-Some.ensures in
    let passed = passes M t a c.if-rows-self.false c.if-displaced-self.false looked.0 in
    record {
      space = refl;
      right = judged_right M t a (g.met.S.Space.lawful self.space) c.step-answer.result _ c.step-answer.new.members _ c.step-answer.new.displaced (search rules) refl refl c.if-rows-self.false c.if-displaced-self.false passed c.step-answer.ensures;
    }
