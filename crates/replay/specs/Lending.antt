-- What an archive's calls may be lent.
use Rattle.std.specs.Prelude.{◌≡◌, ℕ, length}
use Rattle.replay.specs.declared.lender.Lender.{Lender}
use Rattle.replay.specs.Leaving.{Lendings}

-- the list and the block
abbrev pub lendings : {S P : Type 0} → Lender S P → Lendings
lendings a = record { list = a.list.now; block = a.block.now }

-- the call that is made where this is asked
abbrev pub call_by : {S P A C : Type 0} → (A → ℕ → ℕ → ℕ → ℕ → C) → Lender S P → A → C
call_by call a ask = call ask (length a.own.now) (length a.strange.now) (length a.list.now) (length a.block.now)

-- what is lent is still lent by the same, and as long; and the strange rows are as they were
pub record SameLoans {S P : Type 0} (a b : Lender S P) : Type 0 where
  pub own : b.own.ghost_name ≡ a.own.ghost_name
  pub strange : b.strange.ghost_name ≡ a.strange.ghost_name
  pub list : b.list.ghost_name ≡ a.list.ghost_name
  pub block : b.block.ghost_name ≡ a.block.ghost_name
  pub rows : length b.own.now ≡ length a.own.now
  pub long : length b.list.now ≡ length a.list.now
  pub wide : length b.block.now ≡ length a.block.now
  pub kept : b.strange.now ≡ a.strange.now
