-- What holds between each two places of a list, and the pigeonhole.
use Rattle.std.proofs.Common.{◌≡◌, ℕ, zero, suc, ◌<◌, ◌≤◌, Bool, true, not, eqb, List, [], ◌∷◌, ◌++◌, length, take, filter, sym, refl, ◌∙◌, subst, ⊎_elim, arith}
use mathlib.Core.List.Memᴰ
use Rattle.std.proofs.lemmas.List.Filters.{length-filter_both}
use Rattle.std.proofs.lemmas.Bool.{cond_both, not-true, eqb-true, eqb-false, false≢true}
use Rattle.history.specs.Lists.{◌∈◌, EachIn, Pairwise, any, without_first}
use Rattle.history.proofs.Membership.{in_nothing, in_cons, in_head, in_push, in_kept, in_without, in_take, any_later}

module _ {A : Type 0} (R : A → A → Type 0) where
  pub pairwise_weaker : (S : A → A → Type 0) (xs : List A) → ((a b : A) → a ∈ xs → b ∈ xs → R a b → S a b) → Pairwise R xs → Pairwise S xs
  pairwise_weaker S [] w p = tt
  pairwise_weaker S (x ∷ xs) w p = (
    λ y m. w x y in_head (Memᴰ.tail m) (p.0 y m),
    pairwise_weaker S xs (λ a b m n. w a b (Memᴰ.tail m) (Memᴰ.tail n)) p.1,
  )

  pub pairwise_push : (t : A) (xs : List A) → Pairwise R xs → EachIn xs (λ s. R s t) → Pairwise R (xs ++ (t ∷ []))
  pairwise_push t [] p h = (λ y m. in_nothing m, tt)
  pairwise_push t (x ∷ xs) p h = (
    λ y m. ⊎_elim (p.0 y) (λ q. subst (R x) (sym q) (h x in_head)) ((in_push xs).0 m),
    pairwise_push t xs p.1 (λ s m. h s (Memᴰ.tail m)),
  )

  pub pairwise_kept : (f : A → Bool) (xs : List A) → Pairwise R xs → Pairwise R (filter f xs)
  pairwise_kept f [] p = tt
  pairwise_kept f (x ∷ xs) p =
      cond_both (f x) (x ∷ filter f xs) (filter f xs) (Pairwise R)
      (λ e. (λ y m. p.0 y ((in_kept f xs).0 m).0, pairwise_kept f xs p.1))
      (λ e. pairwise_kept f xs p.1)

  pub pairwise_take : (n : ℕ) (xs : List A) → Pairwise R xs → Pairwise R (take n xs)
  pairwise_take zero xs p = tt
  pairwise_take (suc n) [] p = tt
  pairwise_take (suc n) (x ∷ xs) p = (λ y m. p.0 y (in_take n xs m), pairwise_take n xs p.1)

  pub pairwise_without : (f : A → Bool) (xs : List A) → Pairwise R xs → Pairwise R (without_first f xs)
  pairwise_without f [] p = tt
  pairwise_without f (x ∷ xs) p =
      cond_both (f x) xs (x ∷ without_first f xs) (Pairwise R)
      (λ e. p.1)
      (λ e. (λ y m. p.0 y (in_without f xs m), pairwise_without f xs p.1))

  -- the first that passes stands to each of the others as a pair of places
  pub first_apart : ((a b : A) → R a b → R b a) → (f : A → Bool) (xs : List A) → Pairwise R xs → any f xs ≡ true → (b : A) × (b ∈ xs) × (f b ≡ true) × EachIn (without_first f xs) (R b)
  first_apart turn f [] p e = absurd (false≢true e)
  first_apart turn f (x ∷ xs) p e =
      cond_both (f x) xs (x ∷ without_first f xs) (λ l. (b : A) × (b ∈ (x ∷ xs)) × (f b ≡ true) × EachIn l (R b))
      (λ t. (x, in_head, t, p.0))
      (λ t.
      let r = first_apart turn f xs p.1 (any_later f x xs t e) in (
        r.0,
        Memᴰ.tail r.1,
        r.2,
        λ s m. ⊎_elim (λ q. subst (R r.0) (sym q) (turn x r.0 (p.0 r.0 r.1))) (r.3 s) (in_cons m),
      ))

-- elements whose numbers differ and are below n are no more than n
module _ {A : Type 0} (f : A → ℕ) where
  abbrev Distinct : List A → Type 0
  Distinct xs = Pairwise (λ a b. f a ≡ f b → ⊥) xs

  alike : (n : ℕ) (xs : List A) → Distinct xs → EachIn xs (λ a. f a ≡ n) → length xs ≤ 1
  alike n [] p h = omega arith
  alike n (x ∷ []) p h = omega arith
  alike n (x ∷ y ∷ xs) p h = absurd (p.0 y in_head (h x in_head ∙ sym (h y (Memᴰ.tail in_head))))

  pub pigeonhole : (n : ℕ) (xs : List A) → Distinct xs → EachIn xs (λ a. f a < n) → length xs ≤ n
  pigeonhole zero [] p h = omega arith
  pigeonhole zero (x ∷ xs) p h = let k = h x in_head in omega arith
  pigeonhole (suc n) xs p h =
      let at_n : A → Bool = λ a. eqb (f a) n in
      let off_n : A → Bool = λ a. not (eqb (f a) n) in
      let both = length-filter_both at_n off_n (λ _. refl) xs in
      let one = alike n (filter at_n xs) (pairwise_kept (λ a b. f a ≡ f b → ⊥) at_n xs p) (λ a m. eqb-true (f a) n ((in_kept at_n xs).0 m).1) in
      let less : EachIn (filter off_n xs) (λ a. f a < n) = λ a m. let k = (in_kept off_n xs).0 m in let ne = eqb-false (f a) n (not-true (eqb (f a) n) k.1) in let lt = h a k.0 in omega arith in
      let rest = pigeonhole n (filter off_n xs) (pairwise_kept (λ a b. f a ≡ f b → ⊥) off_n xs p) less in
      omega arith
