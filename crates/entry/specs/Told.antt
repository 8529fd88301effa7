-- What is told of a line that is no entry.
use Rattle.std.specs.Prelude.{ℕ, List, ◌++◌, codes}
use Rattle.std.specs.Fmt.{decimal}
use Rattle.entry.specs.declared.outcome.Malformed.{Malformed}
use Rattle.entry.specs.declared.outcome.Malformed.TheVariants.{Fields, Tag, Delay, Life}

-- the text that is shown of it: how many fields there are, or the first that is no number, and its range
abbrev pub malformed_text : Malformed → List ℕ
malformed_text (Fields n) = codes "3 numbers wanted, " ++ (decimal n ++ codes " found")
malformed_text Tag = codes "the tag is no number from 0 to 4294967295"
malformed_text Delay = codes "the delay is no number from -2147483648 to 2147483647"
malformed_text Life = codes "the life is no number from 0 to 4294967295"
