use Rattle.std.proofs.Common.{refl, arith}
use Rattle.std.proofs.lemmas.List.{length-set}
use Rattle.history.specs.Step.{below}
use Rattle.archive.proofs.Stepped.{displaced_right, length-put_back, put_back, row_free}
use Rattle.archive.proofs.boxing.Boxed.displace.Goals as goal

pub bounds-members-stay : goal.bounds-members-stay
bounds-members-stay g c =
    let b = c.args.self.now in
    let a = c.args.members.now in
    let closed = c.close_up-stay.new.members in
    let free = row_free (below (g.S.Space.meaning b.space.now) b.trial) a c.close_up-stay.result closed c.args.displaced.now c.close_up-stay.new.gone c.close_up-stay.auto.members c.close_up-stay.ensures c.requires in
    omega (arith, free, length-put_back a closed c.close_up-stay.auto.members, a.within)

pub invariant_of-members-2 : goal.invariant_of-members-2
invariant_of-members-2 g c =
    let b = c.args.self.now in
    let a = c.args.members.now in
    let stay = c.close_up-stay.result in
    let closed = c.close_up-stay.new.members in
    let free = row_free (below (g.S.Space.meaning b.space.now) b.trial) a stay closed c.args.displaced.now c.close_up-stay.new.gone c.close_up-stay.auto.members c.close_up-stay.ensures c.requires in
    let long = length-put_back a closed c.close_up-stay.auto.members in
    record { within = omega (arith, free, long, length-set (put_back a closed) stay b.trial, a.within) }

pub returns : goal.returns
returns g c =
    let b = c.args.self.now in
    displaced_right (g.S.Space.meaning b.space.now) b.trial c.args.members.now _ c.close_up-stay.result c.close_up-stay.new.members c.args.displaced.now c.close_up-stay.new.gone
    c.close_up-stay.auto.members c.requires c.close_up-stay.ensures refl refl refl
