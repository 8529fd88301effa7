-- A fault is no success.
use Rattle.std.proofs.Common.{◌≡◌, Ok, Err, Result}

pub never : {A E : Type 0} (f : E) (x : A) → ◌≡◌ {A = Result A E} (Err f) (Ok x) → ⊥
never f x e = cc
