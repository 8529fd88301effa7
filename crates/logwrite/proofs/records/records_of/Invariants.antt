use Rattle.std.proofs.Common.{◌≡◌, map, take, vec_items}
use Rattle.std.specs.List.{flat_map}
use Rattle.log_block.specs.Reading.{seen}
use Rattle.logwrite.specs.Lines.{given, told}
use Rattle.logwrite.proofs.records.records_of.Given as goal

abbrev pub invariant-loop-line : goal.invariant-loop-line
invariant-loop-line l = map seen (vec_items l.records) ≡ flat_map given (map told (take l.line-index l.lines))
