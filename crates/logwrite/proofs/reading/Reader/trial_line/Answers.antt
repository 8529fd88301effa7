use Rattle.std.proofs.Common.{◌≡◌, ℕ, ◌<◌, ◌^◌, true, List, [], ◌∷◌, take, ℤ, ap, ◌∙◌, subst, rules}
use Rattle.space.specs.Recording.{Recording, read_point}
use Rattle.space.specs.declared.tagged.Trial.{Trial}
use Rattle.grid.specs.Bits.{signed_bits}
use Rattle.logger.specs.Logger.{logger_bytes, trial_of}
use Rattle.logwrite.proofs.Points.{point_back}
use Rattle.logwrite.proofs.reading.Reader.trial_line.Goals as goal

pub returns-clause-back : goal.returns-clause-back
returns-clause-back c =
    let e = c.args.entry in
    let d : signed_bits.holds e.delay ≡ true = search rules in
    let l : e.life < 2 ^ 32 = search rules in
    let made = c.trial_of-trial.ensures in
    let front = subst (λ (R : Recording (List ℤ × List ℕ)). take R.width c.point_bytes.result ≡ R.writes c.trial_of-trial.result.point) c.args.self.now.bytes c.point_bytes.ensures.front in
    let written : take 8 c.point_bytes.result ≡ logger_bytes.writes (trial_of e).point = front ∙ ap (λ t. logger_bytes.writes t.point) made in
    let tagged : (List ℤ × List ℕ) → ℕ → List (Trial (List ℤ × List ℕ)) = λ p t. record { point = p; tag = t } ∷ [] in
    ap (λ p. tagged p c.trial_of-trial.result.tag) (ap (read_point logger_bytes) written ∙ point_back e d l) ∙ ap (λ t. tagged (trial_of e).point t.tag) made
