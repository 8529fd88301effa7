use Rattle.std.proofs.Common.{◌≡◌, ℕ, ◌<◌, ◌≤◌, Bool, true, false, length, refl, arith, rules}
use Rattle.std.specs.Bool.{MatchBool}
use Rattle.std.specs.List.{AllWithin, HoldsAt, range_with_len}
use Rattle.std.specs.Prelude.{Decides}
use Rattle.std.proofs.lemmas.Bool.{false≢true, true≢false}
use Rattle.std.proofs.lemmas.Iterator.{YieldsList-from_range, cases_from_all}
use Rattle.space.specs.Boxes.{AtLeast}
use Rattle.space.specs.Meaning.{Meaning, Lawful}
use Rattle.standing.proofs.Boxes.{at_least_from}
use Rattle.standing.proofs.Numbers.{at_each, at_some}
use Rattle.standing.proofs.compare.at_least.Goals as goal

-- what `all` answers over the objectives
module _ {P : Type 0} (M : Meaning P) (law : Lawful M) (p q : P) where
  told : (r : Bool) → MatchBool r (AllWithin (λ i. M.box i q ≤ M.box i p) (range_with_len 0 M.objectives) 0 (length (range_with_len 0 M.objectives))) ((k : ℕ) × (k < length (range_with_len 0 M.objectives)) × HoldsAt (λ i. M.box i p < M.box i q) (range_with_len 0 M.objectives) k) → Decides r (AtLeast M p q) × (r ≡ false → (i : ℕ) × (M.box i p < M.box i q))
  told true h =
      let least = at_least_from M law p q (at_each (λ i. M.box i q ≤ M.box i p) M.objectives h) in
      ((λ _. least, λ _. refl), λ e. absurd (true≢false e))
  told false h =
      let some = at_some (λ i. M.box i p < M.box i q) M.objectives h in
      ((λ e. absurd (false≢true e), λ least. absurd (omega (arith, some.2, least some.0))), λ _. (some.0, some.2))

pub returns : goal.returns
returns g c =
    let M = g.S.Space.meaning c.args.space.now in
    let p = c.args.p.now in
    let q = c.args.q.now in
    let said = told M (g.met.S.Space.lawful c.args.space.now) p q c.all.result (cases_from_all _ _ c.all.result (λ i. M.box i q ≤ M.box i p) (λ i. M.box i p < M.box i q) c.all.ensures.ran (YieldsList-from_range 0 c.objectives.result M.objectives refl (omega (arith, c.objectives.ensures))) (λ k f h. search rules) (λ k f h. search rules)) in
    record { test = said.0; shown = said.1 }
