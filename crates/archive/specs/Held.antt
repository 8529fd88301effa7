-- What the first of some rows hold.
use Rattle.std.specs.Prelude.{List, take}
use Rattle.space.specs.declared.tagged.Trial.{Trial}
use Rattle.archive.specs.declared.members.Members.{Members}

-- the members in these rows
abbrev pub held_by : {P : Type 0} → Members P → List (Trial P)
held_by a = take a.count a.rows.now
