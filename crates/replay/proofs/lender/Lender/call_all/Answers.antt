use Rattle.std.proofs.Common.{◌≡◌, ◌<◌, ◌≤◌, [], length, get_or, sym, refl, ap, ◌∙◌, subst, arith}
use Rattle.archive.specs.Lent.{lending}
use Rattle.replay.specs.Lending.{call_by, lendings}
use Rattle.replay.specs.Replaying.{RanAs}
use Rattle.replay.proofs.Loans.{no_call, one_more}
use Rattle.replay.proofs.Turns.{asked_alike, asks_kept, replay_none, turn_more, turns_done}
use Rattle.replay.proofs.lender.Lender.call_all.Goals as goal

pub call-requires : goal.call-requires
call-requires g c = c.loop-turn.invariant.2

pub loop-turn-init : goal.loop-turn-init
loop-turn-init g c =
    let first = c.args.self.now in
    let s = c.args.archive.now.space in
    (refl, no_call first, c.requires.own_len, refl, replay_none (g.S.Space.meaning s) (g.A.Asked.reading s) (g.A.Asked.leaves s) (lending c.args.archive.now first.own.now []) (lendings first) c.requires.begins)

pub loop-turn-preserved : goal.loop-turn-preserved
loop-turn-preserved g c =
    let first = c.args.self.now in
    let before = c.loop-turn.self in
    let after = c.call.new.self in
    let s = c.args.archive.now.space in
    let turns = c.loop-turn.turn-items in
    let i = c.loop-turn.turn-index in
    let d = c.turn-item.result in
    let ask = (get_or turns i d).ask in
    let M = g.S.Space.meaning s in
    let Reading = g.A.Asked.reading s in
    let One = g.A.Asked.leaves s in
    let a = lending c.loop-turn.archive before.own.now [] in
    let b = lending c.call.new.archive after.own.now [] in
    let x = lendings before in
    let y = lendings after in
    let r = c.call.result in
    let loans = c.loop-turn.invariant.1 in
    let asked = call_by g.A.Asked.call before ask in
    let alike : asked ≡ call_by g.A.Asked.call first ask = asked_alike g.A.Asked.call ask _ _ _ _ _ _ _ _ loans.rows (ap length loans.kept) loans.long loans.wide in
    let here : RanAs M Reading One asked a x r b y = subst (λ z. RanAs (g.S.Space.meaning z) (g.A.Asked.reading z) (g.A.Asked.leaves z) asked a x r b y) c.loop-turn.invariant.0 c.call.ensures.ran in
    let ran = subst (λ z. RanAs M Reading One z a x r b y) alike here in
    let within : i < length turns = omega (arith, c.loop-turn.auto.turn-items, c.loop-turn-test.true) in (
      c.call.ensures.space ∙ c.loop-turn.invariant.0,
      one_more first before after loans c.call.ensures.loans,
      c.call.ensures.loans.rows ∙ (c.loop-turn.invariant.2 ∙ sym ran.same_rows),
      asks_kept turns i _ d refl ∙ c.loop-turn.invariant.3,
      turn_more M Reading One (call_by g.A.Asked.call first) turns i d within (lendings first) a x b y r c.loop-turn.invariant.4 ran,
    )

pub returns : goal.returns
returns g c =
    let first = c.args.self.now in
    let s = c.args.archive.now.space in
    let last = c.loop-turn.self in
    let done : length c.loop-turn.turn-items ≤ c.loop-turn.turn-index = omega (arith, c.loop-turn.auto.turn-items, c.loop-turn-test.false) in
    record {
      space = c.loop-turn.invariant.0;
      loans = c.loop-turn.invariant.1;
      asks = c.loop-turn.invariant.3;
      right = turns_done (g.S.Space.meaning s) (g.A.Asked.reading s) (g.A.Asked.leaves s) (call_by g.A.Asked.call first) c.loop-turn.turn-items c.loop-turn.turn-index (lendings first) (lending c.loop-turn.archive last.own.now []) (lendings last) _ done c.loop-turn.invariant.3 c.loop-turn.invariant.4;
    }
