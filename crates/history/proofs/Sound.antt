-- What every judged trial leaves standing of the members and the judged trials.
use Rattle.std.proofs.Common.{◌≡◌, Bool, true, not, ◌⊎◌, List, [], ◌∷◌, ◌++◌, filter, inl, inr, ⊎_elim, arith}
use mathlib.Core.List.Memᴰ
use Rattle.std.proofs.lemmas.Bool.{cases_Bool, not-true, not_from_false}
use Rattle.std.proofs.lemmas.Bool.Decides.{not_from_Decides}
use Rattle.space.specs.Meaning.{Meaning, Lawful}
use Rattle.space.specs.Boxes.{Dominates, AtLeast}
use Rattle.space.specs.declared.tagged.Trial.{Trial}
use Rattle.history.specs.Lists.{◌∈◌, SomeIn, NoneIn, EachIn, Pairwise, any, without_first}
use Rattle.history.specs.Comparing.{Apart}
use Rattle.history.specs.Step.{below, beaten}
use Rattle.history.specs.TwoLevel.{Below, Beaten, Shuts}
use Rattle.history.specs.State.{on_grid}
use Rattle.history.proofs.Membership.{in_nothing, in_last, each_push, in_kept, in_first, in_without, first_or_rest}
use Rattle.history.proofs.Pairs.{pairwise_push, pairwise_kept, pairwise_without, first_apart}
use Rattle.history.proofs.Order.{at_least_refl, at_least_trans, same_both, box_dominates_back, irreflexive, meet, dominates_trans, not_dominated, shuts_from, shuts_least, decides_below, decides_beaten}
use Rattle.history.proofs.Cases.{Free, some_below}

-- the members' boxes are apart; over each judged trial there is a member whose box is at least its own; the members are judged
-- trials, all judged trials are on the grid, and none dominates a member
pub record Sound {P : Type 0} (M : Meaning P) (members trials : List (Trial P)) : Type 0 where
  pub apart : Pairwise (Apart M) members
  pub under : EachIn trials (λ j. SomeIn members (λ r. AtLeast M r.point j.point))
  pub own : EachIn members (λ r. r ∈ trials)
  pub admitted : EachIn trials (λ j. on_grid M j ≡ true)
  pub undominated : EachIn members (λ r. NoneIn trials (λ j. Dominates M j.point r.point))

pub sound_none : {P : Type 0} (M : Meaning P) → Sound M [] []
sound_none M = record {
  apart = tt;
  under = λ j m. in_nothing m;
  own = λ r m. m;
  admitted = λ j m. in_nothing m;
  undominated = λ r m. in_nothing m;
}

module _ {P : Type 0} (M : Meaning P) (L : Lawful M) {ms js : List (Trial P)} (S : Sound M ms js) (t : Trial P) (good : on_grid M t ≡ true) where
  -- t comes in behind those that stay, which are all members but some that t's box is at least
  enter : (stay : List (Trial P)) → EachIn stay (λ r. r ∈ ms) → Pairwise (Apart M) stay → EachIn stay (λ r. Apart M r t)
      → EachIn ms (λ r. (r ∈ stay) ⊎ AtLeast M t.point r.point) → NoneIn js (λ j. Dominates M j.point t.point)
      → Sound M (stay ++ (t ∷ [])) (js ++ (t ∷ []))
  enter stay part apart clear left best = record {
    apart = pairwise_push (Apart M) t stay apart clear;
    under =
        each_push (λ j. SomeIn (stay ++ (t ∷ [])) (λ r. AtLeast M r.point j.point)) js
        (λ j m.
        let u = S.under j m in
        ⊎_elim
        (λ k. (u.0, Memᴰ.append_left (t ∷ []) k, u.2))
        (λ h. (t, in_last stay, at_least_trans M h u.2))
        (left u.0 u.1))
        (t, in_last stay, at_least_refl M t.point);
    own = each_push (λ r. r ∈ (js ++ (t ∷ []))) stay (λ r m. Memᴰ.append_left (t ∷ []) (S.own r (part r m))) (in_last js);
    admitted = each_push (λ j. on_grid M j ≡ true) js S.admitted good;
    undominated =
        each_push (λ r. NoneIn (js ++ (t ∷ [])) (λ j. Dominates M j.point r.point)) stay
        (λ r m.
        each_push (λ j. Dominates M j.point r.point → ⊥) js
        (S.undominated r (part r m))
        (λ d. (clear r m).1 (L.monotone t.point r.point good (S.admitted r (S.own r (part r m))) d.0)))
        (each_push (λ j. Dominates M j.point t.point → ⊥) js best (irreflexive M));
  }

  -- over a judged trial that dominates t there is a member whose box is at least t's
  over : (j : Trial P) → j ∈ js → Dominates M j.point t.point → SomeIn ms (λ r. AtLeast M r.point t.point)
  over j m d =
      let u = S.under j m in
      (u.0, u.1, at_least_trans M u.2 (L.monotone j.point t.point (S.admitted j m) good d.0))

  pub displaces : any (below M t) ms ≡ true → Sound M (filter (λ r. not (below M t r)) ms ++ (t ∷ [])) (js ++ (t ∷ []))
  displaces e =
      let d = some_below M L ms t e in
      -- a box that is at least t's would be at least one that it is apart from
      let off : EachIn ms (λ r. AtLeast M r.point t.point → ⊥) = λ r m h. box_dominates_back M d.2 (at_least_trans M (meet M ms S.apart m d.1 (at_least_trans M h d.2.0)) h) in
      let stays : Trial P → Bool = λ r. not (below M t r) in
      enter (filter stays ms)
      (λ r m. ((in_kept stays ms).0 m).0)
      (pairwise_kept (Apart M) stays ms S.apart)
      (λ r m.
      let k = (in_kept stays ms).0 m in
      let n : Below M t r → ⊥ = not_from_Decides (below M t r) (decides_below M L t r) (not-true (below M t r) k.1) in
      (off r k.0, λ h. off r k.0 (not_dominated M L n h)))
      (λ r m.
      ⊎_elim
      (λ h. inr ((decides_below M L t r).0 h).0)
      (λ h. inl ((in_kept stays ms).1 (m, not_from_false (below M t r) h)))
      (cases_Bool (below M t r)))
      (λ j m h. let o = over j m h in off o.0 o.1 o.2)

  pub replaces : any (beaten M t) ms ≡ true → Sound M (without_first (beaten M t) ms ++ (t ∷ [])) (js ++ (t ∷ []))
  replaces e =
      let b = first_apart (Apart M) (λ a c h. (h.1, h.0)) (beaten M t) ms S.apart e in
      let k = (decides_beaten M L t b.0).0 b.2 in
      let same = same_both M k.0 in
      enter (without_first (beaten M t) ms)
      (λ r m. in_without (beaten M t) ms m)
      (pairwise_without (Apart M) (beaten M t) ms S.apart)
      (λ r m.
      let c = b.3 r m in
      (λ h. c.1 (at_least_trans M h same.1), λ h. c.0 (at_least_trans M same.0 h)))
      (λ r m.
      ⊎_elim
      (λ f. inr (same_both M ((decides_beaten M L t r).0 (in_first (beaten M t) ms f).1).0).1)
      inl
      (first_or_rest (beaten M t) ms m))
      (λ j m d.
      S.undominated b.0 b.1 j m
      (dominates_trans M L j.point t.point b.0.point (S.admitted j m) good (S.admitted b.0 (S.own b.0 b.1)) d k.1))

  -- a trial that is below no member, and that none shuts out, is apart from all
  pub clear : Free M ms t → EachIn ms (λ r. Apart M r t)
  clear F r m =
      let n : AtLeast M r.point t.point → ⊥ = λ h. F.none_shuts r m (shuts_from M L t r h) in
      (n, λ h. n (not_dominated M L (F.none_below r m) h))

  pub enters : Free M ms t → Sound M (ms ++ (t ∷ [])) (js ++ (t ∷ []))
  enters F =
      enter ms
      (λ r m. m)
      S.apart
      (clear F)
      (λ r m. inl m)
      (λ j m d. let o = over j m d in (clear F o.0 o.1).0 o.2)

  pub passed_over : NoneIn ms (Below M t) → NoneIn ms (Beaten M t) → SomeIn ms (Shuts M t) → Sound M ms (js ++ (t ∷ []))
  passed_over n b s = record {
    apart = S.apart;
    under =
        each_push (λ j. SomeIn ms (λ r. AtLeast M r.point j.point)) js S.under
        (s.0, s.1, shuts_least M L t s.0 s.2);
    own = λ r m. Memᴰ.append_left (t ∷ []) (S.own r m);
    admitted = each_push (λ j. on_grid M j ≡ true) js S.admitted good;
    undominated = λ r m.
        each_push (λ j. Dominates M j.point r.point → ⊥) js
        (S.undominated r m)
        (λ d.
        let h = L.monotone t.point r.point good (S.admitted r (S.own r m)) d.0 in
        b r m (λ i. let x = h i in let y = not_dominated M L (n r m) h i in omega arith, d));
  }
