-- When a point dominates another, as a test, and when the boxes of two trials are apart. The tests of boxes are those of a space.
use Rattle.std.specs.Prelude.{Bool, not, ◌&&◌}
use Rattle.space.specs.Meaning.{Meaning}
use Rattle.space.specs.Boxes.{AtLeast}
use Rattle.space.specs.declared.tagged.Trial.{Trial}

-- p dominates q: no worse, and not the other way round
abbrev pub dominates : {P : Type 0} → Meaning P → P → P → Bool
dominates M p q = M.no_worse p q && not (M.no_worse q p)

-- two trials whose boxes are apart: neither equals or dominates the other
abbrev pub Apart : {P : Type 0} → Meaning P → Trial P → Trial P → Type 0
Apart M r s = (AtLeast M r.point s.point → ⊥) × (AtLeast M s.point r.point → ⊥)
