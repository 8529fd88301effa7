use Rattle.std.proofs.Common.{refl, subst, sym, ◌∙◌, arith}
use Rattle.archive.specs.Knowing.{Roomy}
use Rattle.archive.proofs.Known.{known_more}
use Rattle.archive.proofs.knowing.Known.learn.Goals as goal

pub loop-k-init : goal.loop-k-init
loop-k-init g c =
    let F = c.forget.ensures in
    (subst Roomy (sym F.0) c.requires.0, subst Roomy (sym F.1) c.requires.1, F.2, refl, c.objectives-self.ensures, λ i t l. absurd (omega (arith, l)))

pub keep-requires : goal.keep-requires
keep-requires g c = (omega (arith, c.loop-k-test.true, c.if-members-gt-MOST.false), c.loop-k.invariant.0, c.loop-k.invariant.1)

pub loop-k-preserved : goal.loop-k-preserved
loop-k-preserved g c =
    let I = c.loop-k.invariant in
    let K = c.keep.ensures in (
      K.room.0,
      K.room.1,
      K.same.2 ∙ I.2,
      K.same.0 ∙ I.3,
      K.same.1 ∙ I.4,
      known_more (g.S.Space.meaning c.args.space.now) (g.S.Recorded.recording c.args.space.now) c.args.members.now c.loop-k.self c.keep.new.self c.loop-k.k c.index-members-k.result c.spans.new.out
          c.index-members-k.is K.kept K.others (c.spans.ensures.told c.if-not-spans.false) I.5 c.loop-k-test.true,
    )

pub returns-clause-known : goal.returns-clause-known
returns-clause-known g c =
    let I = c.loop-k.invariant in
    λ told. record {
      all = I.3;
      room = omega (arith, I.3, c.if-members-gt-MOST.false);
      objectives = I.4;
      four_each = c.width.ensures.four_each;
      each = λ i t l is. I.5 i t (omega (arith, l, I.3, c.loop-k-test.false)) is;
    }
