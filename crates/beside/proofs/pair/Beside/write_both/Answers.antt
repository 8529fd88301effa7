use Rattle.std.proofs.Common.{◌≡◌, ◌+◌, ◌*◌, true, false, length, sym, refl, ◌∙◌, arith}
use Rattle.std.proofs.lemmas.Bool.{eq-eqb}
use Rattle.beside.specs.Pair.{fit}
use Rattle.beside.specs.Recorded.{writes_first, writes_joined, first_width, joined_width, front_lent, back_lent, write_first, write_both, none_admitted, both_writable}
use Rattle.beside.proofs.pair.Beside.write_both.Goals as goal

pub returns-in_ok-write-2 : goal.returns-in_ok-write-2
returns-in_ok-write-2 g c =
    let s = c.args.self.now in
    let R = g.A.Recorded.recording s.first in
    let S = g.B.Recorded.recording s.second in
    let FR = g.met.A.Recorded.faithful s.first in
    let FS = g.met.B.Recorded.faithful s.second in
    let fits = fit (g.A.Space.meaning s.first) (g.B.Space.meaning s.second) in
    let together : fits ≡ true = sym c.fits.ensures ∙ c.if-fits.true in
    let middle : R.width ≡ 4 * c.objectives-middle.result = omega (arith, c.write.ensures.four_each, c.objectives-middle.ensures) in
    let long : length c.args.out.now ≡ R.width + S.width = c.requires.0 ∙ joined_width R S fits together in
    record {
      value = refl;
      after = write_both R S FR FS c.args.out.now (4 * c.objectives-middle.result) middle long c.args.p.now.0 c.args.p.now.1 c.write.new.out c.write-then-fits.new.out c.write.ensures.after c.write-then-fits.ensures.after ∙ sym (writes_joined R S FR FS fits together c.args.p.now);
      writable = both_writable (g.A.Space.meaning s.first) (g.B.Space.meaning s.second) c.args.p.now R S together (c.write.ensures.writable (eq-eqb _ _ (front_lent R S FR FS c.args.out.now (4 * c.objectives-middle.result) middle (omega (arith, long))))) (c.write-then-fits.ensures.writable (eq-eqb _ _ (back_lent R S FR FS c.args.out.now (4 * c.objectives-middle.result) middle long c.args.p.now.0 c.write.new.out c.write.ensures.after)));
    }

pub returns-else-fits : goal.returns-else-fits
returns-else-fits g c =
    let s = c.args.self.now in
    let R = g.A.Recorded.recording s.first in
    let S = g.B.Recorded.recording s.second in
    let FR = g.met.A.Recorded.faithful s.first in
    let FS = g.met.B.Recorded.faithful s.second in
    let fits = fit (g.A.Space.meaning s.first) (g.B.Space.meaning s.second) in
    let apart : fits ≡ false = sym c.fits.ensures ∙ c.if-fits.false in
    let middle : R.width ≡ 4 * c.objectives-middle.result = omega (arith, c.write.ensures.four_each, c.objectives-middle.ensures) in
    record {
      value = refl;
      after = write_first R S FR FS c.args.out.now (4 * c.objectives-middle.result) middle (c.requires.0 ∙ first_width R S fits apart) c.args.p.now.0 c.write.new.out c.write.ensures.after ∙ sym (writes_first R S FR FS fits apart c.args.p.now);
      writable = λ a. absurd (none_admitted (g.A.Space.meaning s.first) (g.B.Space.meaning s.second) c.args.p.now apart a);
    }
