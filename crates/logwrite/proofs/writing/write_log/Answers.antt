use Rattle.std.proofs.Common.{map, sym, ap, ◌∙◌, subst}
use Rattle.std.specs.List.{flat_map}
use Rattle.entry.specs.Text.{lines}
use Rattle.logwrite.specs.Blocks.{ReadAs, blocks_of}
use Rattle.logwrite.specs.Lines.{given, told, trials_read}
use Rattle.logwrite.proofs.Sharing.{Alone}
use Rattle.logwrite.proofs.Telling.{lines_alone}
use Rattle.logwrite.proofs.writing.write_log.Goals as goal

pub blocks_of_lines-requires : goal.blocks_of_lines-requires
blocks_of_lines-requires c =
    let given_by = ap (map told) c.as_slice.ensures.value ∙ c.in_ok-lines.ensures.items in
    subst (λ xs. Alone (flat_map given xs)) (sym given_by) (lines_alone (lines c.args.text.now))

pub returns : goal.returns
returns c =
    let same = ap (map told) c.as_slice.ensures.value in
    let said = ap (flat_map given) (same ∙ c.in_ok-lines.ensures.items) in
    let made = c.in_ok-blocks.ensures in
    let read = subst (λ items. ReadAs items c.in_ok-blocks.blocks.items) said made.read in
    record {
      lines = c.in_ok-lines.ensures.items;
      blocks = made.blocks ∙ ap blocks_of said;
      read = read;
      trials = ap trials_read made.read.records ∙ (ap (λ xs. trials_read (flat_map given xs)) same ∙ c.in_ok-lines.ensures.back);
    }
