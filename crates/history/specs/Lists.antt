-- Words on lists.
use Rattle.std.specs.Prelude.{Bool, false, cond, ◌||◌, List, [], ◌∷◌}
use mathlib.Core.List.{Memᴰ}

infix 20 ◌∈◌
-- x stands in the list
abbrev pub ◌∈◌ : {A : Type 0} → A → List A → Type 0
x ∈ xs = Memᴰ x xs

-- something in the list is such
abbrev pub SomeIn : {A : Type 0} → List A → (A → Type 0) → Type 0
SomeIn {A} xs Q = (x : A) × (x ∈ xs) × Q x

-- nothing in the list is such
abbrev pub NoneIn : {A : Type 0} → List A → (A → Type 0) → Type 0
NoneIn {A} xs Q = (x : A) → x ∈ xs → Q x → ⊥

-- everything in the list is such
abbrev pub EachIn : {A : Type 0} → List A → (A → Type 0) → Type 0
EachIn {A} xs Q = (x : A) → x ∈ xs → Q x

-- R holds between each two places of the list, the earlier one first
abbrev pub Pairwise : {A : Type 0} → (A → A → Type 0) → List A → Type 0
Pairwise R [] = Unit {0}
Pairwise R (x ∷ xs) = EachIn xs (R x) × Pairwise R xs

-- something in the list passes the test
abbrev pub any : {A : Type 0} → (A → Bool) → List A → Bool
any f [] = false
any f (x ∷ xs) = f x || any f xs

-- the first that passes, alone in a list
abbrev pub first_of : {A : Type 0} → (A → Bool) → List A → List A
first_of f [] = []
first_of f (x ∷ xs) = cond (f x) (x ∷ []) (first_of f xs)

-- the list without the first that passes
abbrev pub without_first : {A : Type 0} → (A → Bool) → List A → List A
without_first f [] = []
without_first f (x ∷ xs) = cond (f x) xs (x ∷ without_first f xs)
