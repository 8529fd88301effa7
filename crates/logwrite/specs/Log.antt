-- The log of a text.
use Rattle.std.specs.Prelude.{◌≡◌, ℕ, List, map}
use Rattle.std.specs.List.{flat_map}
use Rattle.entry.specs.Text.{entries_of, lines}
use Rattle.logger.specs.Logger.{trials_of}
use Rattle.logwrite.specs.declared.writing.Log.{Log}
use Rattle.logwrite.specs.Lines.{item_of_line, items_of_text, told, trials_read}
use Rattle.logwrite.specs.Blocks.{ReadAs, blocks_of, records_read}

-- what each line gives is known, and the blocks are those of the records that the lines give; they are read as these
-- records, and the trials among them are those of the text's entries, each with its own point
pub record LogOf (text : List ℕ) (log : Log) : Type 0 where
  pub lines : map told log.lines.items ≡ map item_of_line (lines text)
  pub blocks : log.blocks.items ≡ blocks_of (items_of_text text)
  pub read : ReadAs (items_of_text text) log.blocks.items
  pub trials : trials_read (flat_map records_read log.blocks.items) ≡ trials_of (entries_of text)
