use Rattle.std.proofs.Common.{[], length, sym, ◌∙◌, subst}
use Rattle.space.specs.Recording.{read_point}
use Rattle.archive.specs.Lent.{lending}
use Rattle.archive.specs.Restoring.{FedAll}
use Rattle.archive.specs.Standing.{Begins}
use Rattle.archive.proofs.Returned.{bytes_of, no_fault, restored_right}
use Rattle.archive.proofs.restoring.restore_all.Goals as goal

pub feed_all-fed-requires : goal.feed_all-fed-requires
feed_all-fed-requires g c =
    subst (λ s. Begins (g.S.Space.meaning s) c.in_ok-archive.archive.rows c.in_ok-archive.archive.count c.args.rows.now) (sym c.in_ok-archive.ensures.value.1) c.in_ok-archive.ensures.begins

pub returns-clause-value : goal.returns-clause-value
returns-clause-value g c =
    let s = c.args.space in
    let made = c.in_ok-archive.ensures.value in
    let blocks = bytes_of c.args.blocks.now in
    let b = lending c.feed_all-fed.new.archive c.feed_all-fed.new.rows [] in (
      no_fault (g.S.Space.meaning s) (length c.args.rows.now) c.objectives_of-objectives.result blocks c.objectives_of-objectives.ensures.value made.0 (sym c.in_default.ensures),
      c.feed_all-fed.ensures.space ∙ made.1,
      restored_right (g.S.Space.meaning s) (g.S.Recorded.recording s) blocks c.feed_all-fed.result b
          (record { lawful = g.met.S.Space.lawful s; faithful = g.met.S.Recorded.faithful s; four_each = c.objectives_of-objectives.ensures.four_each })
          (subst (λ s. FedAll (g.S.Space.meaning s) (read_point (g.S.Recorded.recording s)) blocks c.feed_all-fed.result b) made.1 c.feed_all-fed.ensures.right),
    )
