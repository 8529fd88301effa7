use Rattle.std.proofs.Common.{◌≡◌, ◌+◌, drop, ◌%◌, ◌^◌, [], ◌∷◌, ◌++◌, List, map, length, Ok, vec_items, sym, subst, arith, rules}
use Rattle.std.proofs.lemmas.List.{take_rest}
use Rattle.log_block.specs.declared.parts.Record.{Record}
use Rattle.log_block.specs.Block.{block_of, checked}
use Rattle.log_block.specs.Reading.{seen}
use Rattle.log_block.specs.Theorems.{placed_from}
use Rattle.log_block.specs.Writing.{fitting_items}
use Rattle.logwrite.proofs.Sharing.{Shared, goes_forward, shared_more}
use Rattle.logwrite.proofs.blocks.write_blocks.Goals as goal

-- one block more is written
next : (c : goal.In_ok-push) → Shared c.args.records.now (c.loop-place.place + c.next_block-count.result.1) (vec_items c.loop-place.blocks ++ c.next_block-count.result.0 ∷ [])
next c =
    let rs = c.args.records.now in
    let place = c.loop-place.place in
    let part = take_rest rs place in
    let made = c.next_block-count.ensures in
    let counted : c.len.result ≡ length (vec_items c.loop-place.blocks) = search rules in
    shared_more rs place (vec_items c.loop-place.blocks) c.requires c.loop-place.invariant c.loop-place-test.true c.next_block-count.result.0 c.next_block-count.result.1
    (subst (λ n. c.next_block-count.result.0 ≡ block_of 2 (n % 2 ^ 32) (fitting_items 2 (map seen (drop place rs)))) counted
    (subst (λ (xs : List Record). c.next_block-count.result.0 ≡ block_of 2 (c.len.result % 2 ^ 32) (fitting_items 2 (map seen xs))) part made.block))
    (subst (λ (xs : List Record). checked 2 c.next_block-count.result.0 ≡ Ok (placed_from 8 (fitting_items 2 (map seen xs)))) part made.accepted)
    (subst (λ (xs : List Record). c.next_block-count.result.1 ≡ length (fitting_items 2 (map seen xs))) part made.count)

pub overflow_add-place : goal.overflow_add-place
overflow_add-place c = let n = (next c).within in omega arith

pub loop-place-smaller : goal.loop-place-smaller
loop-place-smaller c =
    let forward = goes_forward c.args.records.now c.loop-place.place (vec_items c.loop-place.blocks) c.requires c.loop-place.invariant c.loop-place-test.true in
    let many = subst (λ (xs : List Record). c.next_block-count.result.1 ≡ length (fitting_items 2 (map seen xs))) (take_rest c.args.records.now c.loop-place.place) c.next_block-count.ensures.count in
    let n = (next c).within in
    omega arith

pub loop-place-preserved : goal.loop-place-preserved
loop-place-preserved c = subst (Shared c.args.records.now (c.loop-place.place + c.next_block-count.result.1)) (sym c.in_ok-push.ensures.items) (next c)
