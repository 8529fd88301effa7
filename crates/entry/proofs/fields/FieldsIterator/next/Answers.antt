use Rattle.std.proofs.Common.{◌≡◌, ℕ, ◌<◌, ◌∷◌, length, get_or, rules}
use Rattle.entry.specs.Line.{fields}
use Rattle.entry.proofs.Spaces.{first_and_rest, none_left}
use Rattle.entry.proofs.fields.FieldsIterator.next.Goals as goal

pub returns-in_err-start-clause-steps : goal.returns-in_err-start-clause-steps
returns-in_err-start-clause-steps c =
    let spaces : (k : ℕ) → k < length c.args.self.now.rest.now → get_or c.args.self.now.rest.now k 0 ≡ 32 = search rules in
    let none = none_left c.args.self.now.rest.now spaces in
    search rules

pub returns-clause-steps : goal.returns-clause-steps
returns-clause-steps c =
    let spaces : (k : ℕ) → k < c.in_ok-start.start → get_or c.args.self.now.rest.now k 0 ≡ 32 = search rules in
    let begun : get_or c.args.self.now.rest.now c.in_ok-start.start 0 ≡ 32 → ⊥ = search rules in
    let inside : c.in_ok-start.start < length c.args.self.now.rest.now = search rules in
    let word = c.len_before.ensures in
    let split = c.split_at.ensures in
    let parts = c.split_at-2.ensures in
    let here = first_and_rest c.args.self.now.rest.now c.split_at.result.1.now c.in_ok-start.start c.len_before.result inside spaces begun split.back word.within word.before word.found in
    let front = parts.front in
    let back = parts.back in
    cc

pub returns-clause-goes : goal.returns-clause-goes
returns-clause-goes c =
    let here : fields c.args.self.now.rest.now ≡ c.split_at-2.result.0.now ∷ fields c.split_at-2.result.1.now = returns-clause-steps c in
    search rules
