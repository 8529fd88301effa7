-- The scale of lives makes a grid.
use Rattle.std.proofs.Common.{◌≡◌, ◌+◌, ◌&&◌, leb, [], ◌∷◌, Ok, Err, Some, None, Option, Result, refl, sym, ap, ◌∙◌, arith}
use Rattle.std.specs.Result.{IsOk, MatchResult}
use Rattle.std.proofs.lemmas.Option.{none-some}
use Rattle.grid.specs.Making.{grid_fault}
use Rattle.ratio.specs.Edges.{edge, box_of}
use Rattle.ratio.specs.Rule.{in_range, ratio_sound}
use Rattle.ratio.specs.Climbing.{enclose}
use Rattle.logger.specs.Logger.{life}

-- the longest life is in box 16
longest : 16 ≡ box_of 50 1000
unfolding edge
longest = (enclose 50 1000 (omega arith)).1 16 (omega arith, omega arith)

-- so there are 17 boxes of lives, which is no fault
pub lives_sound : grid_fault ratio_sound (life ∷ []) ≡ None
lives_sound = ap (λ k. grid_fault (λ s. in_range s && leb (k + 1) 1024) (life ∷ [])) (sym longest)

-- what is refused for a fault alone is not refused where there is none
pub not_refused : {A E : Type 0} (r : Result A E) (P : A → Type 0) (fault : Option E) → fault ≡ None → MatchResult r P (λ e. fault ≡ Some e) → IsOk r
not_refused (Ok x) P fault n h = refl
not_refused (Err e) P fault n h = absurd (none-some e (sym n ∙ h))
