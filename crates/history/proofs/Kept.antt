-- The promises, from what holds of the state after every call; and how they pass from one call to the next.
use Rattle.std.proofs.Common.{◌≡◌, ℕ, true, List, length, take, sym, refl, ap, ◌∙◌, ⊎_elim, arith}
use Rattle.space.specs.Meaning.{Meaning, Lawful}
use Rattle.space.specs.Boxes.{SameBox}
use Rattle.space.specs.declared.tagged.Trial.{Trial}
use Rattle.history.specs.Lists.{EachIn}
use Rattle.history.specs.Comparing.{Apart}
use Rattle.history.specs.Calls.{Event, History, begun, ◌▸◌}
use Rattle.history.specs.State.{after_all, brought, on_grid, state, state_of, members_after, members_called}
use Rattle.history.specs.Answers.{answer_of}
use Rattle.history.specs.Truthful.{Truthful}
use Rattle.history.specs.Promises.{Members, Boxes, Held, SameTrials, Promises}
use Rattle.history.specs.Theorems.{HistoryKeeps, MakingBegins, CallKeeps, IdleCallKeeps}
use Rattle.history.proofs.Pairs.{pairwise_weaker}
use Rattle.history.proofs.Order.{at_least_trans, same_both, box_dominates_back, meet, same_or_dominates}
use Rattle.history.proofs.Sound.{Sound}
use Rattle.history.proofs.Steps.{holds}
use Rattle.history.proofs.Bound.{bounded}
use Rattle.history.proofs.Sums.{told_right, members_of_all}
use Rattle.history.proofs.Room.{all_denies}
use Rattle.history.proofs.Audit.{no_pair}

module _ {P : Type 0} (M : Meaning P) (L : Lawful M) where
  kept_members : {ms js : List (Trial P)} → Sound M ms js → Members M ms js
  kept_members S = record {
    own = S.own;
    undominated = S.undominated;
    covered = λ j m.
        let u = S.under j m in
        (u.0, u.1, L.covering u.0.point j.point (S.admitted u.0 (S.own u.0 u.1)) (S.admitted j m) u.2);
  }

  kept_boxes : {ms js : List (Trial P)} → Sound M ms js → Boxes M ms js
  kept_boxes {ms} {js} S = record {
    exactly = λ t mt. (
      -- over a judged trial whose box dominates a held one there would be a member that is apart from the holder
      λ held s m d.
          let u = S.under s m in
          let back = (same_both M held.2).1 in
          let met = meet M ms S.apart u.1 held.1 (at_least_trans M u.2 (at_least_trans M d.0 back)) in
          box_dominates_back M d (at_least_trans M back (at_least_trans M met u.2)),
      λ top.
          let u = S.under t mt in
          (u.0, u.1, ⊎_elim (λ same. same) (λ d. absurd (top u.0 (S.own u.0 u.1) d)) (same_or_dominates M L u.2)),
    );
    once = pairwise_weaker (Apart M) (λ r s. SameBox M r.point s.point → ⊥) ms (λ r s m n a same. a.0 (same_both M same).0) S.apart;
  }

  -- the boxes held are those of a set of trials
  same_boxes : {ms js ns ks : List (Trial P)} → Sound M ms js → Sound M ns ks → SameTrials js ks → (p : P) → Held M ms p → Held M ns p
  same_boxes S T same p (r, m, s) =
      let j = S.own r m in
      let top = ((kept_boxes S).exactly r j).0 (r, m, λ i. refl) in
      let held = ((kept_boxes T).exactly r ((same r).0 j)).1 (λ k mk. top k ((same k).1 mk)) in
      (held.0, held.1, λ i. held.2 i ∙ s i)

  pub promised : (reads : List ℕ → P) (h : History P) → Truthful M reads h → Promises M reads h
  promised reads h r =
      let H = holds M L h.rows reads h.events in
      let S = H.sound in
      let told = told_right M h.rows reads h.events r in
      let good : EachIn (state M reads h).members (λ m. on_grid M m ≡ true) = λ m i. S.admitted m (S.own m i) in
      record {
        counting = record {
          entered = told.0;
          displaced = told.1;
          balance = omega (arith, H.balance, told.0, told.1);
          fits = H.fits;
          bounded = λ i l. bounded M L i (state M reads h).members good S.apart;
          roomy = λ enough.
              let all = all_denies M L h.rows enough reads h.events r in
              record { never_full = λ e m. (all e m).1; only_off = λ e m. (all e m).0; none_rowless = H.roomy enough };
        };
        members = kept_members S;
        boxes = kept_boxes S;
        any_order = λ other k same p.
            let T = (holds M L k.rows other k.events).sound in
            (same_boxes S T same p, same_boxes T S (λ t. ((same t).1, (same t).0)) p);
        audit_none = no_pair M L 0 (state M reads h).members good S.apart;
      }

  -- the members after one call more
  members_more : (reads : List ℕ → P) (h : History P) (e : Event P) → (state M reads (h ▸ e)).members ≡ members_called M reads h.rows (state M reads h).members e.call
  unfolding state_of
  members_more reads h e = members_of_all M h.rows (state M reads h) (brought M reads h.rows e.call)

pub history_keeps : {P : Type 0} → HistoryKeeps P
history_keeps M L reads h r = promised M L reads h r

pub making_begins : {P : Type 0} → MakingBegins P
unfolding state_of
making_begins M L reads n granted held long = record {
  granted = granted;
  truthful = tt;
  made = refl;
  long = long;
  counted = refl;
  in_order = refl;
  promises = promised M L reads (begun n) tt;
}

pub call_keeps : {P : Type 0} → CallKeeps P
call_keeps M L reads h rows count held S e defined count' held' long counted in_order =
    let same : members_called M reads rows (take count held) e.call ≡ (state M reads (h ▸ e)).members = ap (λ n. members_called M reads n (take count held) e.call) S.made ∙ ap (λ ms. members_called M reads h.rows ms e.call) S.in_order ∙ sym (members_more M L reads h e) in
    let truth : Truthful M reads (h ▸ e) = (S.truthful, defined ∙ ap (λ n. answer_of M reads n (take count held) e.call) S.made ∙ ap (λ ms. answer_of M reads h.rows ms e.call) S.in_order) in
    record {
      granted = S.granted;
      truthful = truth;
      made = S.made;
      long = long;
      counted = counted ∙ ap length same;
      in_order = in_order ∙ same;
      promises = promised M L reads (h ▸ e) truth;
    }

pub idle_call_keeps : {P : Type 0} → IdleCallKeeps P
unfolding state_of members_after
idle_call_keeps M L reads h rows count held S e defined idle =
    let unmoved : take count held ≡ members_called M reads rows (take count held) e.call = sym (ap (members_after M rows (take count held)) idle) in (
      ap (after_all M h.rows (state M reads h)) (ap (λ n. brought M reads n e.call) (sym S.made) ∙ idle),
      call_keeps M L reads h rows count held S e defined count held S.long (S.counted ∙ ap length (sym S.in_order ∙ unmoved)) unmoved,
    )
