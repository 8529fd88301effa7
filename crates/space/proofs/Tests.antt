-- What two tests tell together.
use Rattle.std.proofs.Common.{◌≡◌, Bool, true, false, ◌&&◌, refl}

-- the second test need be known only where the first one holds
pub and_told : (a x y : Bool) → (a ≡ true → x ≡ y) → (a && x) ≡ (a && y)
and_told true x y told = told refl
and_told false x y told = refl
