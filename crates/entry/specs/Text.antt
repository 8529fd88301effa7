-- What a text of several lines says, line by line.
use Rattle.std.specs.Prelude.{ℕ, cond, List, [], ◌∷◌, ◌++◌, map, length, Result, ◌==◌, nat_lt}
use Rattle.entry.specs.declared.outcome.Entry.{Entry}
use Rattle.entry.specs.declared.outcome.Malformed.{Malformed}
use Rattle.entry.specs.Line.{entry_of}

-- the lines of what is left of a text, l being the part of the first that is read already
unfoldable pub lines_after : List ℕ → List ℕ → List (List ℕ)
lines_after l [] = cond (nat_lt 0 (length l)) (l ∷ []) []
lines_after l (b ∷ bs) = cond (b == 10) (l ∷ lines_after [] bs) (lines_after (l ++ (b ∷ [])) bs)

-- the lines of a text: the bytes between its newlines, and those after the last newline where there are any
abbrev pub lines : List ℕ → List (List ℕ)
lines bs = lines_after [] bs

-- the bytes before the first newline
unfoldable pub first_line : List ℕ → List ℕ
first_line [] = []
first_line (b ∷ bs) = cond (b == 10) [] (b ∷ first_line bs)

-- the bytes after it
unfoldable pub after_line : List ℕ → List ℕ
after_line [] = []
after_line (b ∷ bs) = cond (b == 10) bs (after_line bs)

-- what each line of a text says
abbrev pub entries_of : List ℕ → List (Result Entry Malformed)
entries_of bs = map entry_of (lines bs)
