use Rattle.std.proofs.Common.{◌+◌, [], refl, sym, subst, set, rules, arith, w32, pos, FitsSigned}
use Rattle.std.specs.Prelude.{slice_index_or}
use Rattle.std.proofs.lemmas.Int.{to_z-of_z}
use Rattle.archive.proofs.Known.{Keeping, keeping_more, kept_column, other_columns}
use Rattle.archive.proofs.knowing.keep.Goals as goal

pub loop-i-init : goal.loop-i-init
loop-i-init c = record { long = search rules; each_long = c.requires.1; kept = λ m l. absurd (omega arith); others = λ m j l e. refl }

pub loop-i-preserved : goal.loop-i-preserved
loop-i-preserved c =
    let fits : FitsSigned w32 (slice_index_or c.args.numbers.now c.loop-i.i (pos 0)) = search rules in
    let same = to_z-of_z w32 (slice_index_or c.args.numbers.now c.loop-i.i (pos 0)) fits in
    subst (λ n. Keeping c.args.rows.now (set c.loop-i.rows c.loop-i.i (set (slice_index_or c.loop-i.rows c.loop-i.i []) c.args.k n)) c.args.k c.args.numbers.now (c.loop-i.i + 1)) (sym same)
    (keeping_more c.args.rows.now c.loop-i.rows c.args.k c.args.numbers.now c.loop-i.i c.loop-i.invariant c.loop-i-test.true c.requires.0)

pub returns-clause-kept : goal.returns-clause-kept
returns-clause-kept c = kept_column c.args.rows.now c.loop-i.rows c.args.k c.args.numbers.now c.loop-i.i c.loop-i.invariant (omega (arith, c.loop-i-test.false)) (search rules)

pub returns-clause-others : goal.returns-clause-others
returns-clause-others c = other_columns c.args.rows.now c.loop-i.rows c.args.k c.args.numbers.now c.loop-i.i c.loop-i.invariant (omega (arith, c.loop-i-test.false))

pub returns-clause-long : goal.returns-clause-long
returns-clause-long c = c.loop-i.invariant.each_long
