-- One call over the rows that it is lent, as it is asked for.
use Rattle.std.proofs.Common.{◌≡◌, ℕ, List, [], length, Option, Ok, Err, Result, MatchResult, sym, refl, subst}
use Rattle.space.specs.Meaning.{Meaning}
use Rattle.space.specs.declared.tagged.Trial.{Trial}
use Rattle.history.specs.declared.answers.Answer.{Answer}
use Rattle.history.specs.declared.answers.Answer.TheVariants as answer
use Rattle.history.specs.declared.denials.Denial.{Denial}
use Rattle.history.specs.Answers.{told}
use Rattle.history.specs.Calls.{Call}
use Rattle.history.specs.Calls.Call.{audit, list, offer, save}
use Rattle.archive.specs.Auditing.{AuditRight}
use Rattle.archive.specs.Lent.{Lent}
use Rattle.replay.specs.Leaving.{LeavesList, Lendings}
use Rattle.replay.specs.Replaying.{AnyReading, MadeAs}

-- the archive and the rows that it is lent, without a list
abbrev pub bare : {P : Type 0} → Lent P → Lent P
bare a = record { rows = a.rows; count = a.count; held = a.held; list = [] }

-- what a call was granted or denied is the answer that is told of it
pub told_by : {A : Type 0} (granted : A → Answer) (said : Result A Denial) (r : Answer) → MatchResult said (λ x. r ≡ granted x) (λ d. r ≡ answer.Denied d) → r ≡ told granted said
told_by granted (Ok x) r e = e
told_by granted (Err d) r e = e

-- the same call and answer under other names
pub made_as : {P X : Type 0} (M : Meaning P) (Reading : (List ℕ → P) → Type 0) (One : ℕ → List (Trial P) → Call P → X → X → Type 0) (c d : Call P) (a b : Lent P) (x y : X) (r s : Answer) → c ≡ d → s ≡ r → MadeAs M Reading One c a x r b y → MadeAs M Reading One d a x s b y
made_as M Reading One c d a b x y r s e f made = subst (λ z. MadeAs M Reading One z a x s b y) e (subst (λ z. MadeAs M Reading One c a x z b y) (sym f) made)

-- an audit
pub made_audit : {P : Type 0} (M : Meaning P) (a : Lent P) (r : Result (Option (ℕ × ℕ)) Denial) (x : Lendings) → AuditRight M a r → MadeAs M AnyReading (LeavesList M) (audit (length a.held)) a x (told answer.Audited r) a x
made_audit M a r x right =
    record {
      own = λ _. record { same_rows = refl; stays = λ reads _. right.stays reads; leaves = (refl, refl) };
      strange = λ _. refl;
      apart = λ n held. record { same_rows = refl; stays = λ reads _. right.stays_apart n held reads; leaves = (refl, refl) };
    }

-- calls that are lent the same
pub same_offer : {P : Type 0} (m n k l : ℕ) (t : Trial P) → m ≡ n → k ≡ l → offer m k t ≡ offer n l t
same_offer m n k l t e f = cc

pub same_list : {P : Type 0} (m n k l : ℕ) → m ≡ n → k ≡ l → ◌≡◌ {A = Call P} (list m k) (list n l)
same_list m n k l e f = cc

pub same_save : {P : Type 0} (m n number k l : ℕ) → m ≡ n → k ≡ l → ◌≡◌ {A = Call P} (save m number k) (save n number l)
same_save m n number k l e f = cc
