use Rattle.std.proofs.Common.{◌≡◌, ◌-◌, map, sym, refl, ap, ◌∙◌, arith, rules}
use Rattle.log_block.specs.Writing.{run_in, so_far}
use Rattle.log_block.proofs.Fitting.{packed_all, packed_done, packed_ends, packed_more, typed_all, typed_more}
use Rattle.log_block.proofs.writing.draft.Goals as goal

pub loop-i-init : goal.loop-i-init
unfolding so_far
loop-i-init g c =
    let begun = c.begin-draft.ensures in
    let place : c.begin-draft.result.place ≡ 8 = begun.drafted.place in
    (refl, record { objectives = begun.objectives; far = omega arith; drafted = begun.drafted; held = tt; rest = ap (λ n. run_in c.args.objectives (508 - n) (map (g.T.AsRecord.item c.args.objectives) c.args.given.now)) place }, tt)

pub has_room-requires : goal.has_room-requires
has_room-requires g c = c.loop-i.invariant.1.far

pub returns-then-not-has_room : goal.returns-then-not-has_room
returns-then-not-has_room g c =
    let f = g.T.AsRecord.item c.args.objectives in
    let packed = c.loop-i.invariant.1 in
    let ends = packed_ends f c.args.objectives c.args.number c.args.given.now c.loop-i.i c.loop-i.draft packed c.index-given-i.result c.loop-i-test.true c.index-given-i.is _ c.record-record.ensures.item (sym c.if-not-has_room.ensures) in
    let done = packed_done f c.args.objectives c.args.number c.args.given.now c.loop-i.i c.loop-i.draft (omega arith) packed ends in
    let named = c.loop-i.invariant.0 ∙ c.begin-draft.ensures.same_block in
    let kept = done.after in
    record { value = done.value; typed = typed_more g.T.AsRecord.typed c.args.given.now c.loop-i.i c.index-given-i.result c.loop-i-test.true c.index-given-i.is c.loop-i.invariant.2 c.record-record.ensures.typed; holds = done.holds; within = done.within; after = search rules }

pub loop-i-preserved : goal.loop-i-preserved
loop-i-preserved g c = (
  c.put_record.ensures.same.block ∙ c.loop-i.invariant.0,
  packed_more (g.T.AsRecord.item c.args.objectives) c.args.objectives c.args.number c.args.given.now c.loop-i.i c.loop-i.draft c.loop-i.invariant.1 c.index-given-i.result c.loop-i-test.true c.index-given-i.is _ c.record-record.ensures.item _ (sym c.if-not-has_room.ensures) c.put_record.ensures.holds c.put_record.ensures.same.objectives c.put_record.ensures.drafted,
  typed_more g.T.AsRecord.typed c.args.given.now c.loop-i.i c.index-given-i.result c.loop-i-test.true c.index-given-i.is c.loop-i.invariant.2 c.record-record.ensures.typed,
)

pub returns : goal.returns
returns g c =
    let f = g.T.AsRecord.item c.args.objectives in
    let packed = c.loop-i.invariant.1 in
    let all = packed_all f c.args.objectives c.args.number c.args.given.now c.loop-i.i c.loop-i.draft c.loop-i-test.false packed in
    let done = packed_done f c.args.objectives c.args.number c.args.given.now c.loop-i.i c.loop-i.draft c.loop-i.auto.i-end packed all in
    let named = c.loop-i.invariant.0 ∙ c.begin-draft.ensures.same_block in
    let kept = done.after in
    record { value = omega (arith, done.value); typed = typed_all g.T.AsRecord.typed c.args.given.now c.loop-i.i c.loop-i-test.false c.loop-i.invariant.2; holds = done.holds; within = done.within; after = search rules }
