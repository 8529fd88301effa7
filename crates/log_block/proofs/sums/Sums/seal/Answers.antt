use Rattle.std.proofs.Common.{◌++◌, take, drop, ap, ◌∙◌, arith}
use Rattle.std.proofs.lemmas.List.{append-nil, drop_all, drop-drop}
use Rattle.word.specs.Word.{two_bytes}
use Rattle.log_block.proofs.sums.Sums.seal.Goals as goal

pub returns : goal.returns
returns c =
    let block = c.args.block.now in
    let said = two_bytes c.args.self.low ++ two_bytes c.args.self.high in
    let past = drop-drop 4 508 block ∙ drop_all 512 block (omega arith) in
    ap (λ zs. take 508 block ++ (zs ++ drop 4 (drop 508 block))) (c.copy_from_slice.ensures.after ∙ c.to_bytes.ensures) ∙ (ap (λ zs. take 508 block ++ (said ++ zs)) past ∙ ap (λ zs. take 508 block ++ zs) (append-nil said))
