use Rattle.std.proofs.Common.{sym, subst}
use Rattle.archive.specs.Standing.{Begins}
use Rattle.replay.proofs.replaying.play.Goals as goal

pub call_all-requires-clause-begins : goal.call_all-requires-clause-begins
call_all-requires-clause-begins g c =
    let archive = c.in_ok-archive.archive in
    subst (λ s. Begins (g.S.Space.meaning s) archive.rows archive.count c.args.own.now) (sym c.in_ok-archive.ensures.value.1) c.in_ok-archive.ensures.begins
