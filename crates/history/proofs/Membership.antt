-- What stands in a list, and in the lists that the step makes of it.
use Rattle.std.proofs.Common.{◌≡◌, ℕ, suc, ◌+◌, ◌≤◌, Bool, true, false, cond, ◌⊎◌, ◌↔◌, List, [], ◌∷◌, ◌++◌, length, take, drop, Decides, filter, sym, refl, ap, ◌∙◌, subst, inl, inr, ⊎_elim, arith}
use mathlib.Core.List.Memᴰ
use Rattle.std.specs.List.{AllByRecursion}
use Rattle.std.proofs.lemmas.List.{take-append-drop}
use Rattle.std.proofs.lemmas.Bool.{cond_both, or_cases, or_left, or_right, both_ways, false≢true}
use Rattle.history.specs.Lists.{◌∈◌, SomeIn, NoneIn, EachIn, any, first_of, without_first}

module _ {A : Type 0} where
  pub in_nothing : {a : A} {B : Type 0} → a ∈ [] → B
  in_nothing m = absurd (Memᴰ.not-nil m)

  pub in_cons : {a x : A} {xs : List A} → a ∈ (x ∷ xs) → (a ≡ x) ⊎ (a ∈ xs)
  in_cons m = Memᴰ.cases_cons m

  pub in_head : {x : A} {xs : List A} → x ∈ (x ∷ xs)
  in_head = Memᴰ.head refl

  pub in_push : {a t : A} (xs : List A) → (a ∈ (xs ++ (t ∷ []))) ↔ ((a ∈ xs) ⊎ (a ≡ t))
  in_push {a} {t} xs = (
    λ m. ⊎_elim inl (λ h. inr (Memᴰ.eq_of_singleton h)) (Memᴰ.append_cases xs m),
    ⊎_elim (λ m. Memᴰ.append_left (t ∷ []) m) (λ e. Memᴰ.append_right xs (Memᴰ.head e)),
  )

  pub in_last : {t : A} (xs : List A) → t ∈ (xs ++ (t ∷ []))
  in_last xs = (in_push xs).1 (inr refl)

  pub each_push : (Q : A → Type 0) {t : A} (xs : List A) → EachIn xs Q → Q t → EachIn (xs ++ (t ∷ [])) Q
  each_push Q xs h k a m = ⊎_elim (h a) (λ e. subst Q (sym e) k) ((in_push xs).0 m)

  pub each_all : (Q : A → Type 0) (xs : List A) → EachIn xs Q → AllByRecursion Q xs
  each_all Q [] h = tt
  each_all Q (x ∷ xs) h = (h x in_head, each_all Q xs (λ a m. h a (Memᴰ.tail m)))

  pub in_take : {a : A} (n : ℕ) (xs : List A) → a ∈ take n xs → a ∈ xs
  in_take {a} n xs m = subst (λ l. a ∈ l) (take-append-drop n xs) (Memᴰ.append_left (drop n xs) m)

  module _ (f : A → Bool) where
    any_found : (xs : List A) → any f xs ≡ true → SomeIn xs (λ x. f x ≡ true)
    any_found [] e = absurd (false≢true e)
    any_found (x ∷ xs) e =
        ⊎_elim
        (λ h. (x, in_head, h))
        (λ h. let r = any_found xs h in (r.0, Memᴰ.tail r.1, r.2))
        (or_cases (f x) (any f xs) e)

    any_from : {a : A} (xs : List A) → a ∈ xs → f a ≡ true → any f xs ≡ true
    any_from [] m e = in_nothing m
    any_from (x ∷ xs) m e =
        ⊎_elim
        (λ q. or_left (f x) (any f xs) (sym (ap f q) ∙ e))
        (λ n. or_right (f x) (any f xs) (any_from xs n e))
        (in_cons m)

    pub in_kept : {a : A} (xs : List A) → (a ∈ filter f xs) ↔ ((a ∈ xs) × (f a ≡ true))
    in_kept {a} [] = (λ m. in_nothing m, λ k. in_nothing k.0)
    in_kept {a} (x ∷ xs) =
        cond_both (f x) (x ∷ filter f xs) (filter f xs) (λ l. (a ∈ l) ↔ ((a ∈ (x ∷ xs)) × (f a ≡ true)))
        (λ e. (
          λ m.
              ⊎_elim
              (λ q. (Memᴰ.head q, ap f q ∙ e))
              (λ n. let r = (in_kept xs).0 n in (Memᴰ.tail r.0, r.1))
              (in_cons m),
          λ k. ⊎_elim Memᴰ.head (λ n. Memᴰ.tail ((in_kept xs).1 (n, k.1))) (in_cons k.0),
        ))
        (λ e. (
          λ m. let r = (in_kept xs).0 m in (Memᴰ.tail r.0, r.1),
          λ k. ⊎_elim (λ q. absurd (both_ways (f x) e (sym (ap f q) ∙ k.1))) (λ n. (in_kept xs).1 (n, k.1)) (in_cons k.0),
        ))

    pub in_first : {a : A} (xs : List A) → a ∈ first_of f xs → (a ∈ xs) × (f a ≡ true)
    in_first [] m = in_nothing m
    in_first {a} (x ∷ xs) m₀ =
        (cond_both (f x) (x ∷ []) (first_of f xs) (λ l. a ∈ l → (a ∈ (x ∷ xs)) × (f a ≡ true))
        (λ e m. let q = Memᴰ.eq_of_singleton m in (Memᴰ.head q, ap f q ∙ e))
        (λ e m. let r = in_first xs m in (Memᴰ.tail r.0, r.1)))
        m₀

    pub in_without : {a : A} (xs : List A) → a ∈ without_first f xs → a ∈ xs
    in_without [] m = m
    in_without {a} (x ∷ xs) m₀ =
        (cond_both (f x) xs (x ∷ without_first f xs) (λ l. a ∈ l → a ∈ (x ∷ xs))
        (λ e m. Memᴰ.tail m)
        (λ e m. ⊎_elim Memᴰ.head (λ n. Memᴰ.tail (in_without xs n)) (in_cons m)))
        m₀

    pub first_or_rest : {a : A} (xs : List A) → a ∈ xs → (a ∈ first_of f xs) ⊎ (a ∈ without_first f xs)
    first_or_rest [] m = in_nothing m
    first_or_rest {a} (x ∷ xs) m =
        elim (f x) as (λ b. (a ∈ cond b (x ∷ []) (first_of f xs)) ⊎ (a ∈ cond b xs (x ∷ without_first f xs))) [
          | true ↦ ⊎_elim (λ q. inl (Memᴰ.head q)) inr (in_cons m)
          | false ↦
              ⊎_elim
              (λ q. inr (Memᴰ.head q))
              (λ n. ⊎_elim inl (λ w. inr (Memᴰ.tail w)) (first_or_rest xs n))
              (in_cons m)
        ]

    -- what is left of a test that fails at the head
    pub any_later : (x : A) (xs : List A) → f x ≡ false → any f (x ∷ xs) ≡ true → any f xs ≡ true
    any_later x xs e h = ⊎_elim (λ k. absurd (both_ways (f x) e k)) (λ k. k) (or_cases (f x) (any f xs) h)

    pub some_kept : (xs : List A) → any f xs ≡ true → 1 ≤ length (filter f xs)
    some_kept [] e = absurd (false≢true e)
    some_kept (x ∷ xs) e =
        cond_both (f x) (x ∷ filter f xs) (filter f xs) (λ l. 1 ≤ length l)
        (λ t. omega arith)
        (λ t. some_kept xs (any_later x xs t e))

    pub one_first : (xs : List A) → any f xs ≡ true → length (first_of f xs) ≡ 1
    one_first [] e = absurd (false≢true e)
    one_first (x ∷ xs) e =
        cond_both (f x) (x ∷ []) (first_of f xs) (λ l. length l ≡ 1)
        (λ t. refl)
        (λ t. one_first xs (any_later x xs t e))

    pub length_without : (xs : List A) → length (without_first f xs) + length (first_of f xs) ≡ length xs
    length_without [] = refl
    length_without (x ∷ xs) =
        let r = length_without xs in
        elim (f x) as (λ b. length (cond b xs (x ∷ without_first f xs)) + length (cond b (x ∷ []) (first_of f xs)) ≡ suc (length xs)) [ true ↦ omega arith | false ↦ omega arith ]

    module _ (Q : A → Type 0) (decides : (x : A) → Decides (f x) (Q x)) where
      -- a test of each tells whether one is such
      pub decides_any : (xs : List A) → Decides (any f xs) (SomeIn xs Q)
      decides_any xs = (
        λ e. let r = any_found xs e in (r.0, r.1, (decides r.0).0 r.2),
        λ s. any_from xs s.1 ((decides s.0).1 s.2),
      )

      pub none_from : (xs : List A) → any f xs ≡ false → NoneIn xs Q
      none_from xs e x m q = both_ways (any f xs) e ((decides_any xs).1 (x, m, q))
