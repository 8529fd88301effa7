-- An audit tells of none exactly where the members are on the grid and their boxes are apart.
use Rattle.std.proofs.Common.{◌≡◌, ℕ, ◌+◌, Bool, true, false, not, List, [], ◌∷◌, Some, None, Decides, Option, sym, refl, ap, ◌∙◌, subst, ⊎_elim, arith}
use mathlib.Core.List.Memᴰ
use Rattle.std.specs.Option.{option_or}
use Rattle.std.proofs.lemmas.Bool.{cond_both, cond-false, cases_Bool, not_from_true, not-false, or_from, or_parts}
use Rattle.std.proofs.lemmas.Bool.Decides.{not_from_Decides}
use Rattle.space.specs.Meaning.{Meaning, Lawful}
use Rattle.space.specs.Boxes.{at_least}
use Rattle.space.specs.declared.tagged.Trial.{Trial}
use Rattle.history.specs.Lists.{EachIn, Pairwise}
use Rattle.history.specs.Comparing.{Apart}
use Rattle.history.specs.State.{on_grid}
use Rattle.history.specs.Auditing.{clash, clash_from, pair_from}
use Rattle.history.specs.Theorems.{AuditClears}
use Rattle.history.proofs.Membership.{in_nothing, in_cons, in_head}
use Rattle.history.proofs.Order.{decides_at_least}

from_not : {Q : Type 0} {b : Bool} → Decides b Q → (Q → ⊥) → b ≡ false
from_not {b = b} d n = ⊎_elim (λ e. absurd (n (d.0 e))) (λ e. e) (cases_Bool b)

module _ {P : Type 0} (M : Meaning P) (L : Lawful M) where
  -- two boxes are apart exactly where they do not clash
  pub no_clash : (r s : Trial P) → Apart M r s → clash M r s ≡ false
  no_clash r s a = or_from (at_least M r.point s.point) (at_least M s.point r.point) (from_not (decides_at_least M L r.point s.point) a.0) (from_not (decides_at_least M L s.point r.point) a.1)

  pub clash_not : (r s : Trial P) → clash M r s ≡ false → Apart M r s
  clash_not r s e =
      let k = or_parts (at_least M r.point s.point) (at_least M s.point r.point) e in (
        not_from_Decides (at_least M r.point s.point) (decides_at_least M L r.point s.point) k.0,
        not_from_Decides (at_least M s.point r.point) (decides_at_least M L s.point r.point) k.1,
      )

  no_clash_from : (i : ℕ) (r : Trial P) (j : ℕ) (ss : List (Trial P)) → EachIn ss (Apart M r) → clash_from M i r j ss ≡ None
  unfolding clash_from
  no_clash_from i r j [] h = refl
  no_clash_from i r j (s ∷ ss) h =
      cond-false (clash M r s) (Some (i, j)) (clash_from M i r (j + 1) ss) (no_clash r s (h s in_head))
      ∙ no_clash_from i r (j + 1) ss (λ x m. h x (Memᴰ.tail m))

  pub no_pair : (i : ℕ) (rs : List (Trial P)) → EachIn rs (λ r. on_grid M r ≡ true) → Pairwise (Apart M) rs → pair_from M i rs ≡ None
  unfolding pair_from
  no_pair i [] a p = refl
  no_pair i (r ∷ rs) a p =
      let rest = pair_from M (i + 1) rs in
      cond-false (not (on_grid M r)) (Some (i, i)) (option_or (clash_from M i r (i + 1) rs) rest) (not_from_true (on_grid M r) (a r in_head))
      ∙ ap (λ x. option_or x rest) (no_clash_from i r (i + 1) rs p.0)
      ∙ no_pair (i + 1) rs (λ s m. a s (Memᴰ.tail m)) p.1

  some_not_none : {A B : Type 0} (a : A) → Some a ≡ None → B
  some_not_none a e = let z : ◌≡◌ {A = ℕ} 0 1 = cc in absurd (omega arith)

  both_none : {A : Type 0} (p q : Option A) → option_or p q ≡ None → (p ≡ None) × (q ≡ None)
  both_none None q e = (refl, e)
  both_none (Some x) q e = some_not_none x e

  apart_from : (i : ℕ) (r : Trial P) (j : ℕ) (ss : List (Trial P)) → clash_from M i r j ss ≡ None → EachIn ss (Apart M r)
  unfolding clash_from
  apart_from i r j [] e s m = in_nothing m
  apart_from i r j (x ∷ ss) e₀ s m =
      (cond_both (clash M r x) (Some (i, j)) (clash_from M i r (j + 1) ss) (λ p. p ≡ None → Apart M r s)
      (λ t e. some_not_none (i, j) e)
      (λ f e.
      ⊎_elim
      (λ q. subst (Apart M r) (sym q) (clash_not r x f))
      (apart_from i r (j + 1) ss e s)
      (in_cons m)))
      e₀

  none_so : (i : ℕ) (rs : List (Trial P)) → pair_from M i rs ≡ None → EachIn rs (λ r. on_grid M r ≡ true) × Pairwise (Apart M) rs
  unfolding pair_from
  none_so i [] e = (λ r m. in_nothing m, tt)
  none_so i (x ∷ rs) e₀ =
      (cond_both (not (on_grid M x)) (Some (i, i)) (option_or (clash_from M i x (i + 1) rs) (pair_from M (i + 1) rs)) (λ p. p ≡ None → EachIn (x ∷ rs) (λ r. on_grid M r ≡ true) × Pairwise (Apart M) (x ∷ rs))
      (λ t e. some_not_none (i, i) e)
      (λ f e.
      let b = both_none (clash_from M i x (i + 1) rs) (pair_from M (i + 1) rs) e in
      let k = none_so (i + 1) rs b.1 in (
        λ r m. ⊎_elim (λ q. ap (on_grid M) q ∙ not-false (on_grid M x) f) (k.0 r) (in_cons m),
        (apart_from i x (i + 1) rs b.0, k.1),
      )))
      e₀

pub audit_clears : {P : Type 0} → AuditClears P
audit_clears M L members = (none_so M L 0 members, λ h. no_pair M L 0 members h.0 h.1)
