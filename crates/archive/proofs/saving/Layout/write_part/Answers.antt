use Rattle.std.proofs.Common.{arith, map, ap, ◌∙◌}
use Rattle.log_block.specs.Writing.{trial_item, written_over}
use Rattle.history.specs.Saving.{item_for}
use Rattle.archive.proofs.Saved.{all_written}
use Rattle.archive.proofs.saving.Layout.write_part.Goals as goal

pub returns-clause-after : goal.returns-clause-after
returns-clause-after g c =
    let M = g.S.Space.meaning c.args.self.now.space.now in
    let few = (g.met.S.Space.lawful c.args.self.now.space.now).few in
    all_written M.objectives c.args.number c.split_at.result.0.now c.args.block.now c.write_trials.new.block (map (item_for (g.S.Recorded.recording c.args.self.now.space.now)) c.args.part.now)
    few.1 c.requires.fits.1 (omega (arith, c.requires.few, c.split_at.ensures.front_len))
    (ap (map (trial_item M.objectives)) c.split_at.ensures.front ∙ c.part_bytes-bytes.ensures.value)
    (c.write_trials.ensures ∙ ap (λ m. written_over m c.args.number c.split_at.result.0.now c.args.block.now) c.objectives.ensures)
