-- What a test of two trials decides of their places in the list.
use Rattle.std.proofs.Common.{ℕ, ◌<◌, Bool, List, length, get_or, Decides, subst}
use Rattle.std.proofs.lemmas.List.{get_or_default}
use Rattle.std.proofs.lemmas.Bool.Decides.{Decides-like}

module _ {X : Type 0} (xs : List X) (k i : ℕ) (in-k : k < length xs) (in-i : i < length xs) where
  -- one default or another: both are there
  pub at_defaults : (R : X → X → Type 0) (a b d e : X) → R (get_or xs k a) (get_or xs i b) → R (get_or xs k d) (get_or xs i e)
  at_defaults R a b d e h =
      subst (λ u. R u (get_or xs i e)) (get_or_default xs k a d in-k) (subst (R (get_or xs k a)) (get_or_default xs i b e in-i) h)

  pub decides_pair : (R : X → X → Type 0) (x y : X) (r : Bool) → Decides r (R (get_or xs k x) (get_or xs i y)) → Decides r ((d : X) → R (get_or xs k d) (get_or xs i d))
  decides_pair R x y r t = Decides-like r (λ h d. at_defaults R x y d d h) (λ h. at_defaults R x x x y (h x)) t
