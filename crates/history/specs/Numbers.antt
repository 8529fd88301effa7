-- The numbers of the verdicts and of the denials.
use Rattle.std.specs.Prelude.{ℕ}
use Rattle.history.specs.declared.verdicts.Verdict.{Verdict}
use Rattle.history.specs.declared.verdicts.Verdict.TheVariants.{PassedOver, Entered, Displaced, Replaced}
use Rattle.history.specs.declared.denials.Denial.{Denial}
use Rattle.history.specs.declared.denials.Denial.TheVariants.{NoRows, Overlong, StrangeRows, ShortList, OffGrid, Full, WrongLength, NoSuchBlock}

-- the number of a verdict
abbrev pub verdict_number : Verdict → ℕ
verdict_number PassedOver = 0
verdict_number Entered = 1
verdict_number Displaced = 2
verdict_number Replaced = 3

-- the number of a denial
abbrev pub denial_number : Denial → ℕ
denial_number NoRows = 1
denial_number Overlong = 2
denial_number StrangeRows = 3
denial_number ShortList = 4
denial_number OffGrid = 5
denial_number Full = 6
denial_number WrongLength = 9
denial_number NoSuchBlock = 14
