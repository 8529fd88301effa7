-- Calls that bring no trial: what stood before them stands after them.
use Rattle.std.proofs.Common.{◌≡◌, ℕ, ◌<◌, ◌≤◌, cond, eqb, ltb, List, [], length, take, Ok, Err, Option, Result, sym, refl, ap, ◌∙◌, arith}
use Rattle.std.proofs.lemmas.Bool.{cond-false, cond-true, eq-eqb, le-ltb, lt-ltb, ne_eqb}
use Rattle.space.specs.Meaning.{Meaning, Lawful}
use Rattle.space.specs.declared.tagged.Trial.{Trial}
use Rattle.history.specs.declared.answers.Answer.{Answer}
use Rattle.history.specs.declared.answers.Answer.TheVariants as answer
use Rattle.history.specs.declared.denials.Denial.{Denial}
use Rattle.history.specs.declared.denials.Denial.TheVariants.{ShortList, StrangeRows}
use Rattle.history.specs.Answers.{answer_of, audit_answer, list_answer, told}
use Rattle.history.specs.Auditing.{first_pair}
use Rattle.history.specs.Calls.{Call}
use Rattle.history.specs.Calls.Call.{audit, list}
use Rattle.history.specs.Checks.{own_rows}
use Rattle.history.specs.State.{brought}
use Rattle.history.proofs.Kept.{idle_call_keeps}
use Rattle.archive.specs.Auditing.{AuditRight}
use Rattle.archive.specs.Lent.{Lent, members}
use Rattle.archive.specs.Listing.{ListRight, listed_over}
use Rattle.archive.specs.Standing.{Stays}

-- over its own rows a call answers what it finds there
pub own : {A : Type 0} (rows lent : ℕ) (x : Result A Denial) → lent ≡ rows → own_rows rows lent x ≡ x
own rows lent x e = cond-true (eqb lent rows) x (Err StrangeRows) (eq-eqb lent rows e)

-- over strange rows it answers the same, whatever the rows hold
pub strange : {A : Type 0} (rows lent : ℕ) (x y : Result A Denial) → (lent ≡ rows → ⊥) → own_rows rows lent x ≡ own_rows rows lent y
strange rows lent x y n = cond-false (eqb lent rows) x (Err StrangeRows) (ne_eqb lent rows n) ∙ sym (cond-false (eqb lent rows) y (Err StrangeRows) (ne_eqb lent rows n))

pub strange_is : {A : Type 0} (rows lent : ℕ) (x : Result A Denial) → (lent ≡ rows → ⊥) → Err StrangeRows ≡ own_rows rows lent x
strange_is rows lent x n = sym (cond-false (eqb lent rows) x (Err StrangeRows) (ne_eqb lent rows n))

-- what a list answers over its own rows: a short list, or how many tags there are
abbrev listed : ℕ → ℕ → Result ℕ Denial
listed room n = cond (ltb room n) (Err ShortList) (Ok n)

pub list_short : {P : Type 0} (rows lent room : ℕ) (ms : List (Trial P)) → lent ≡ rows → room < length ms → Err ShortList ≡ list_answer rows ms lent room
list_short rows lent room ms e l = sym (own rows lent (listed room (length ms)) e ∙ cond-true (ltb room (length ms)) (Err ShortList) (Ok (length ms)) (lt-ltb room (length ms) l))

pub list_granted : {P : Type 0} (rows lent room n : ℕ) (ms : List (Trial P)) → lent ≡ rows → n ≡ length ms → n ≤ room → Ok n ≡ list_answer rows ms lent room
list_granted rows lent room n ms e m l = ap (λ k. Ok k) m ∙ sym (own rows lent (listed room (length ms)) e ∙ cond-false (ltb room (length ms)) (Err ShortList) (Ok (length ms)) (le-ltb room (length ms) (omega arith)))

module _ {P : Type 0} (M : Meaning P) (L : Lawful M) where
  pub idle_stays : (rows count : ℕ) (held : List (Trial P)) (call : Call P) (said : Answer) → ((reads : List ℕ → P) → said ≡ answer_of M reads rows (take count held) call) → ((reads : List ℕ → P) → brought M reads rows call ≡ []) → Stays M rows call said count held count held
  idle_stays rows count held call said right nothing reads h s = (idle_call_keeps M L reads h rows count held s (record { call = call; answer = said }) (right reads) (nothing reads)).1

  pub audit_right : (a : Lent P) (r : Result (Option (ℕ × ℕ)) Denial) → r ≡ audit_answer M a.rows (members a) (length a.held) → AuditRight M a r
  audit_right a r e =
      record {
        value = e;
        none = λ reads h s. e ∙ (own a.rows (length a.held) (Ok (first_pair M (members a))) s.long ∙ ap (λ p. Ok p) (ap (first_pair M) s.in_order ∙ s.promises.audit_none));
        stays = idle_stays a.rows a.count a.held (audit (length a.held)) (told answer.Audited r) (λ reads. ap (told answer.Audited) e) (λ reads. refl);
        stays_apart = λ n held. idle_stays a.rows a.count held (audit (length a.held)) (told answer.Audited r) (λ reads. ap (told answer.Audited) (e ∙ strange a.rows (length a.held) (Ok (first_pair M (members a))) (Ok (first_pair M (take a.count held))) n)) (λ reads. refl);
      }

  pub list_right : (a : Lent P) (r : Result ℕ Denial) (after : List ℕ) → r ≡ list_answer a.rows (members a) (length a.held) (length a.list) → after ≡ listed_over a r → ListRight M a r after
  list_right a r after e tags =
      record {
        value = e;
        tags = tags;
        stays = idle_stays a.rows a.count a.held (list (length a.held) (length a.list)) (told answer.Listed r) (λ reads. ap (told answer.Listed) e) (λ reads. refl);
        stays_apart = λ n held. idle_stays a.rows a.count held (list (length a.held) (length a.list)) (told answer.Listed r) (λ reads. ap (told answer.Listed) (e ∙ strange a.rows (length a.held) (listed (length a.list) (length (members a))) (listed (length a.list) (length (take a.count held))) n)) (λ reads. refl);
      }
