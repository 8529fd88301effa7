use Rattle.std.proofs.Common.{◌≡◌, length, take, drop, refl, sym, ap, ◌∙◌, subst, rules}
use Rattle.std.proofs.lemmas.List.{take_at}
use Rattle.archive.specs.Lent.{lending}
use Rattle.shortlist.specs.Offers.{OfferedAll}
use Rattle.shortlist.proofs.Offered.{left_over, offered_all, unanswered}
use Rattle.shortlist.proofs.offers.offer_all.Goals as goal

pub returns : goal.returns
returns c =
    let trials = c.args.trials.now in
    let need = c.row_need-need.result in
    let own = c.deref_mut.result.now in
    let list = c.deref_mut-2.result.now in
    let asked = c.deref_mut-3.result.now in
    let turns = c.replay.new.turns in
    let rows = c.replay.new.own in
    let long : length turns ≡ c.in_ok-turns.turns.len = search rules in
    let same : length rows ≡ c.in_ok-rows.rows.len = search rules in
    let all_turns = take_at turns (drop (length turns) c.in_ok-turns.turns.items) c.in_ok-turns.turns.len long in
    let all_rows = take_at rows (drop (length rows) c.in_ok-rows.rows.items) c.in_ok-rows.rows.len same in
    let b = lending c.in_ok-archive.archive rows c.replay.new.list in
    let own_len : length own ≡ need = search rules in
    let list_len : length list ≡ need = search rules in
    let offers : asked ≡ unanswered need trials = c.deref_mut-3.ensures.value ∙ c.in_ok-turns.ensures in
    let right = left_over _ c.replay.result c.in_ok-archive.archive _ _ c.in_ok-archive.ensures.cases c.in_ok-archive.ensures.variant c.replay.ensures.right in
    let held = c.truncate.ensures.items ∙ (ap (take c.count.result) all_rows ∙ ap (λ n. take n rows) c.count.ensures) in
    subst (λ ts. OfferedAll trials ts c.truncate.new.self.items) (sym all_turns)
    (offered_all _ need (length own) 0 (length list) trials asked turns list b c.truncate.new.self.items c.logger_space-space.ensures.meaning c.row_need-need.ensures own_len refl list_len offers held right)
