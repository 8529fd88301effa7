use Rattle.std.proofs.Common.{◌≡◌, ◌+◌, ◌-◌, ◌++◌, length, take, drop, ap, ◌∙◌, arith}
use Rattle.std.proofs.lemmas.List.{length-append}
use Rattle.log_block.proofs.Filling.{filled_put}
use Rattle.log_block.proofs.drafting.Draft.put.Goals as goal

pub returns-clause-drafted : goal.returns-clause-drafted
returns-clause-drafted c = λ xs d.
    let block = c.args.self.now.block.now in
    let place = c.args.self.now.place in
    let bytes = c.args.bytes.now in
    let size : place + length bytes - place ≡ length bytes = omega arith in
    record {
      block = ap (λ zs. take place block ++ (zs ++ drop (place + length bytes - place) (drop place block))) c.copy_from_slice.ensures.after
          ∙ (ap (λ k. take place block ++ (bytes ++ drop k (drop place block))) size
          ∙ (ap (λ zs. take place zs ++ (bytes ++ drop (length bytes) (drop place zs))) d.block ∙ filled_put 512 xs bytes place d.place));
      place = omega (arith, d.place, length-append xs bytes);
    }
