use Rattle.std.proofs.Common.{◌≡◌, [], ◌∷◌, length, get_or, replicate, subst, refl, ap, ◌∙◌, arith}
use Rattle.log_block.specs.Block.{filled}
use Rattle.log_block.specs.Writing.{so_far}
use Rattle.log_block.specs.Drafts.{Drafted}
use Rattle.log_block.proofs.drafting.Draft.begin.Goals as goal

pub returns-clause-drafted : goal.returns-clause-drafted
unfolding so_far filled
returns-clause-drafted c =
    let said = c.to_be_bytes.ensures in
    let b0 = ap (λ xs. get_or xs 0 0) said in
    let b1 = ap (λ xs. get_or xs 1 0) said in
    let b2 = ap (λ xs. get_or xs 2 0) said in
    let b3 = ap (λ xs. get_or xs 3 0) said in
    let long : length c.args.block.now ≡ 512 = omega arith in
    let zeros : c.fill.new.self ≡ filled 512 [] = c.fill.ensures.after (λ y e. e) ∙ ap (λ n. replicate n 0) long in
    let bytes = 1 ∷ (0 ∷ (c.args.objectives ∷ (0 ∷ (get_or c.to_be_bytes.result 0 0 ∷ (get_or c.to_be_bytes.result 1 0 ∷ (get_or c.to_be_bytes.result 2 0 ∷ (get_or c.to_be_bytes.result 3 0 ∷ []))))))) in
    let written : bytes ≡ so_far c.args.objectives c.args.number 0 [] = cc in
    subst (λ xs. Drafted xs c.put.new.self) written (c.put.ensures.drafted [] (record { block = zeros; place = refl }))
