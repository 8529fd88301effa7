use Rattle.std.proofs.Common.{◌≡◌, [], ◌∷◌, length, refl, sym, ap, ◌∙◌, arith}
use Rattle.space.specs.Recording.{read_point}
use Rattle.log_block.specs.Reading.{left_to_read, seen_at}
use Rattle.history.specs.BlockTrials.{trials_of}
use Rattle.archive.specs.Held.{held_by}
use Rattle.archive.specs.Knowing.{KnowsIfTold, Roomy}
use Rattle.archive.proofs.Known.{known_nothing, known_same}
use Rattle.archive.proofs.Taking.{going_record, going_records, tally_idle, trials_few}
use Rattle.archive.proofs.feeding.take_records.Goals as goal
use Rattle.archive.proofs.feeding.take_records.Goals.{then-came-gt0, else-came-gt0}

pub loop-placed-preserved : goal.loop-placed-preserved
loop-placed-preserved g c =
    let reads = read_point (g.S.Recorded.recording c.args.space.now) in
    let all = left_to_read c.args.records in
    let M = g.S.Space.meaning c.args.space.now in
    let R = g.S.Recorded.recording c.args.space.now in
    let before = c.loop-placed.members in
    let after = c.take_record-came.new.members in
    let came = c.take_record-came in
    let ready = c.prepare.ensures in
    let known : Roomy c.if-came-gt0.known.most × Roomy c.if-came-gt0.known.least × KnowsIfTold M R (held_by after) c.if-came-gt0.known =
    elim c.if-came-gt0.branch [
      | then-came-gt0 w ↦
          known_same M R (held_by after) (held_by after) _ c.if-came-gt0.known refl w.known-is (known_nothing M R (held_by after) c.prepare.new.known _ w.forget.ensures ready.room)
      | else-came-gt0 w ↦
          let none : came.result.entered ≡ 0 = omega (arith, w.if-came-gt0.false) in
          let idle = tally_idle M (length before.rows.now) (held_by before) (trials_of reads (seen_at c.in-Some.placed ∷ [])) (sym (ap (λ f. f.entered) came.ensures.told) ∙ none) in
          known_same M R c.as_slice.result.now (held_by after) c.prepare.new.known c.if-came-gt0.known (came.ensures.in_order ∙ idle ∙ sym c.as_slice.ensures) w.known-is (ready.room.0, ready.room.1, ready.known)
    ] in (
      going_record M reads (trials_of reads all) c.args.members.now
          (left_to_read c.loop-placed.placed-iterator) (left_to_read c.next.new.self) (seen_at c.in-Some.placed) c.loop-placed.fed came.result c.saturating_add-fed.result before after
          c.requires.known (omega (arith, trials_few reads all, c.requires.few)) c.in-Some.ensures.steps c.saturating_add-fed.ensures c.loop-placed.invariant.0 came.ensures,
      known.0,
      known.1,
      known.2,
    )

pub returns : goal.returns
returns g c =
    let reads = read_point (g.S.Recorded.recording c.args.space.now) in
    going_records (g.S.Space.meaning c.args.space.now) reads (trials_of reads (left_to_read c.args.records)) c.args.members.now
    (left_to_read c.loop-placed.placed-iterator) c.loop-placed.fed c.loop-placed.members c.in-None.ensures.steps.0 c.loop-placed.invariant.0
