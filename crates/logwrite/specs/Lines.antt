-- What the lines of a text give a log: the record of a trial or of a note, or nothing.
use Rattle.std.specs.Prelude.{ℕ, cond, List, [], ◌∷◌, length, take, drop, map, ℤ, codes, Some, None, Ok, Err, Option, Result, nat_le}
use Rattle.std.specs.Str.{bytes_eq}
use Rattle.std.specs.List.{flat_map}
use Rattle.std.specs.Result.{result_map_both}
use Rattle.space.specs.Recording.{read_point}
use Rattle.space.specs.declared.tagged.Trial.{Trial}
use Rattle.entry.specs.declared.outcome.Entry.{Entry}
use Rattle.entry.specs.declared.outcome.Malformed.{Malformed}
use Rattle.entry.specs.Line.{entry_of, without_return}
use Rattle.entry.specs.Text.{lines}
use Rattle.log_block.specs.Items.{Item, trial, note}
use Rattle.logger.specs.Logger.{logger_bytes, trial_of}
use Rattle.logwrite.specs.declared.saying.Line.{Line}
use Rattle.logwrite.specs.declared.saying.Line.TheVariants.{Trial as Trial_line, Note as Note_line}
use Rattle.logwrite.specs.declared.saying.Unsaid.{Unsaid}
use Rattle.logwrite.specs.declared.saying.Unsaid.TheVariants.{NoTrial, LongNote}

-- the bytes of the note that a line is: none after the word alone, else those after the word and a space
abbrev pub note_of : List ℕ → Option (List ℕ)
note_of line = cond (bytes_eq line (codes "note")) (Some []) (cond (bytes_eq (take 5 line) (codes "note ")) (Some (drop 5 line)) None)

-- the record of an entry: its tag, and the bytes of its point
abbrev pub entry_item : Entry → Item
entry_item e = trial e.tag (logger_bytes.writes (trial_of e).point)

-- the record of a note, if it is not too long, or else of an entry
abbrev pub item_from : Option (List ℕ) → Result Entry Malformed → Result Item Unsaid
item_from (Some text) e = cond (nat_le (length text) 255) (Ok (note text)) (Err (LongNote (length text)))
item_from None (Ok e) = Ok (entry_item e)
item_from None (Err m) = Err (NoTrial m)

-- the record that a line gives, or why it gives none
abbrev pub item_of_line : List ℕ → Result Item Unsaid
item_of_line line = item_from (note_of (without_return line)) (entry_of line)

-- the record, if there is one
abbrev pub given : Result Item Unsaid → List Item
given (Ok x) = x ∷ []
given (Err u) = []

-- the records that the lines of a text give, in their order
abbrev pub items_of_text : List ℕ → List Item
items_of_text text = flat_map given (map item_of_line (lines text))

-- a line as code has it: of a trial's point, the bytes of two objectives
abbrev pub line_item : Line → Item
line_item (Trial_line tag point) = trial tag (take 8 point)
line_item (Note_line text) = note text.now

abbrev pub told : Result Line Unsaid → Result Item Unsaid
told r = result_map_both line_item (λ u. u) r

-- the trials among records: each tag, with the point that its bytes say
abbrev pub trials_read : List Item → List (Trial (List ℤ × List ℕ))
trials_read [] = []
trials_read (trial tag point ∷ xs) = record { point = read_point logger_bytes point; tag = tag } ∷ trials_read xs
trials_read (note text ∷ xs) = trials_read xs
