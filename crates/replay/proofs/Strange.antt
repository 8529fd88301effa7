-- An offer over strange rows.
use Rattle.std.proofs.Common.{◌≡◌, length, is_err, Ok, Err, Result, sym, ap, ◌∙◌}
use Rattle.space.specs.Meaning.{Meaning}
use Rattle.space.specs.declared.tagged.Trial.{Trial}
use Rattle.history.specs.declared.answers.Offered.{Offered}
use Rattle.history.specs.declared.denials.Denial.{Denial}
use Rattle.history.specs.declared.denials.Denial.TheVariants.{StrangeRows}
use Rattle.history.specs.Answers.{verdict_of}
use Rattle.history.specs.Checks.{offer_check}
use Rattle.history.specs.Step.{judge}
use Rattle.archive.specs.Lent.{Lent, members}
use Rattle.archive.specs.Offering.{OfferRight}
use Rattle.archive.proofs.Idle.{strange_is}

-- it is denied
pub strange_denied : {P : Type 0} (M : Meaning P) (t : Trial P) (a b : Lent P) (r : Result Offered Denial) → OfferRight M t a r b → (length a.held ≡ a.rows → ⊥) → r ≡ Err StrangeRows
strange_denied {P} M t a b r right n =
    let checked : offer_check M a.rows (length a.held) (length a.list) t ≡ Err StrangeRows = sym (strange_is a.rows (length a.held) _ n) in
    right.value ∙ ap (λ (c : Result (Trial P) Denial). elim c [ Ok s ↦ verdict_of (judge M a.rows (members a) s) | Err d ↦ Err d ]) checked

-- and alters nothing
pub strange_untouched : {P : Type 0} (M : Meaning P) (t : Trial P) (a b : Lent P) (r : Result Offered Denial) → OfferRight M t a r b → (length a.held ≡ a.rows → ⊥) → (b.count ≡ a.count) × (b.held ≡ a.held) × (b.list ≡ a.list)
strange_untouched M t a b r right n = right.untouched (ap is_err (strange_denied M t a b r right n))
