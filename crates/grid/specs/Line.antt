-- What one objective means: which figures it admits, how two compare, and the boxes that divide it.
use Rattle.std.specs.Prelude.{◌≡◌, ℕ, ◌<◌, ◌≤◌, Bool, true}

-- the parts of a space's meaning, at one objective
pub record Line (F : Type 0) : Type 0 where
  pub admits : F → Bool
  pub no_worse : F → F → Bool
  pub extent : ℕ
  pub box : F → ℕ
  pub covers : F → F → Bool

-- the laws of a space, at one objective
pub record LineLawful {F : Type 0} (L : Line F) : Type 0 where
  pub reflexive : (v : F) → L.admits v ≡ true → L.no_worse v v ≡ true
  pub transitive : (u v w : F) → L.admits u ≡ true → L.admits v ≡ true → L.admits w ≡ true → L.no_worse u v ≡ true → L.no_worse v w ≡ true → L.no_worse u w ≡ true
  pub monotone : (v w : F) → L.admits v ≡ true → L.admits w ≡ true → L.no_worse v w ≡ true → L.box w ≤ L.box v
  pub bounded : (v : F) → L.admits v ≡ true → L.box v < L.extent
  pub small : (1 ≤ L.extent) × (L.extent ≤ 1024)
  pub covering : (v w : F) → L.admits v ≡ true → L.admits w ≡ true → L.box w ≤ L.box v → L.covers v w ≡ true
