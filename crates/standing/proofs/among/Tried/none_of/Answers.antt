use Rattle.std.proofs.Common.{ℕ, ◌<◌, Bool, true, false, not, length, refl, arith, rules}
use Rattle.std.specs.Bool.{MatchBool}
use Rattle.std.specs.List.{AllWithin, HoldsAt, range_with_len}
use Rattle.std.specs.Prelude.{Decides}
use Rattle.std.proofs.lemmas.Bool.{false≢true}
use Rattle.std.proofs.lemmas.Iterator.{YieldsList-from_range, cases_from_any}
use Rattle.standing.specs.Standing.{OnGrid, Pair, Related}
use Rattle.standing.proofs.Numbers.{at_each, at_some}
use Rattle.standing.proofs.among.Tried.none_of.Goals as goal

-- the opposite of what `any` answers over the first n places
none : (n : ℕ) (Met : ℕ → Type 0) (r : Bool) → MatchBool r ((k : ℕ) × (k < length (range_with_len 0 n)) × HoldsAt Met (range_with_len 0 n) k) (AllWithin (λ k. Met k → ⊥) (range_with_len 0 n) 0 (length (range_with_len 0 n))) → Decides (not r) ((k : ℕ) → k < n → Met k → ⊥)
none n Met true h =
    let some = at_some Met n h in
    (λ e. absurd (false≢true e), λ no. absurd (no some.0 some.1 some.2))
none n Met false h = (λ _. at_each (λ k. Met k → ⊥) n h, λ _. refl)

pub returns : goal.returns
returns g c =
    let Met : ℕ → Type 0 = λ k. OnGrid (g.S.Space.meaning c.args.self.now.space.now) c.args.self.now.trials.now k × Pair (Related c.args.relation (g.S.Space.meaning c.args.self.now.space.now)) c.args.self.now.trials.now k c.args.i in
    let said = none c.args.n Met c.any.result (cases_from_any _ _ c.any.result Met (λ k. Met k → ⊥) c.any.ensures.ran (YieldsList-from_range 0 c.args.n c.args.n refl (omega arith)) (λ k q h. search rules) (λ k q h. search rules)) in
    (λ e k l o p. said.0 e k l (o, p), λ h. said.1 (λ k l m. h k l m.0 m.1))
