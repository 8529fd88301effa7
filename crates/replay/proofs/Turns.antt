-- A replay, one call after the other.
use Rattle.std.proofs.Common.{◌≡◌, ℕ, ◌+◌, ◌<◌, ◌≤◌, List, [], ◌∷◌, ◌++◌, map, length, get_or, take, set, Some, Option, sym, refl, ap, ◌∙◌, subst}
use Rattle.std.proofs.lemmas.List.{map-append, reverse-append, take_all, take_more_set}
use Rattle.std.proofs.Math.Seq.{map-set_same}
use Rattle.space.specs.Meaning.{Meaning}
use Rattle.space.specs.declared.tagged.Trial.{Trial}
use Rattle.history.specs.declared.answers.Answer.{Answer}
use Rattle.history.specs.Calls.{Call, Event, answers, begun, ◌▸◌}
use Rattle.history.specs.Stands.{Stands}
use Rattle.history.specs.State.{state_of}
use Rattle.archive.specs.Lent.{Lent, members}
use Rattle.archive.specs.Standing.{Begins}
use Rattle.replay.specs.declared.asking.Turn.{Turn}
use Rattle.replay.specs.Asking.{answers_in, asks_in}
use Rattle.replay.specs.Leaving.{Left}
use Rattle.replay.specs.Replaying.{RanAs, ReplayedAs}

module _ {P X : Type 0} (M : Meaning P) (Reading : (List ℕ → P) → Type 0) (One : ℕ → List (Trial P) → Call P → X → X → Type 0) where
  -- no call yet
  pub replay_none : (a : Lent P) (x : X) → Begins M a.rows a.count a.held → ReplayedAs M Reading One [] [] x a x
  replay_none a x begins = record { history = begun a.rows; called = refl; answered = refl; stands = λ reads _. begins reads; left = λ reads _. refl }

  -- one call more
  pub replay_more : (made : List (Call P)) (told : List (Option Answer)) (before : X) (a : Lent P) (x : X) (b : Lent P) (y : X) (c : Call P) (r : Answer) → ReplayedAs M Reading One made told before a x → RanAs M Reading One c a x r b y → ReplayedAs M Reading One (made ++ c ∷ []) (told ++ Some r ∷ []) before b y
  replay_more made told before a x b y c r right ran =
      let h = right.history in
      let e : Event P = record { call = c; answer = r } in
      record {
        history = h ▸ e;
        called = reverse-append (c ∷ []) (map (λ x. x.call) h.events) ∙ ap (λ xs. xs ++ c ∷ []) right.called;
        answered = ap (map Some) (reverse-append (r ∷ []) (map (λ x. x.answer) h.events)) ∙ (map-append Some (answers h) (r ∷ []) ∙ ap (λ xs. xs ++ Some r ∷ []) right.answered);
        stands = λ reads own. subst (λ n. Stands M reads (h ▸ e) n b.count b.held) (sym ran.same_rows) (ran.stays reads own h (right.stands reads own));
        left = λ reads own.
            let s = right.stands reads own in
            let same : members a ≡ (state_of M reads a.rows h.events).members = s.in_order ∙ ap (λ n. (state_of M reads n h.events).members) (sym s.made) in
            let all : Left One M reads a.rows (e ∷ h.events) before y = (x, right.left reads own, subst (λ ms. One a.rows ms c x y) same ran.leaves) in
            subst (λ n. Left One M reads n (e ∷ h.events) before y) (sym ran.same_rows) all;
      }

-- calls that are asked for alike, and lent the same
pub asked_alike : {A C : Type 0} (call : A → ℕ → ℕ → ℕ → ℕ → C) (ask : A) (own own' other other' long long' wide wide' : ℕ) → own ≡ own' → other ≡ other' → long ≡ long' → wide ≡ wide' → call ask own other long wide ≡ call ask own' other' long' wide'
asked_alike call ask own own' other other' long long' wide wide' e f h i = cc

-- an answer is written beside its call
module _ {A : Type 0} (turns : List (Turn A)) (i : ℕ) (t d : Turn A) (same : t.ask ≡ (get_or turns i d).ask) where
  pub asks_kept : asks_in (set turns i t) ≡ asks_in turns
  asks_kept = map-set_same (λ x. x.ask) turns i t d same

  pub asks_more : i < length turns → asks_in (take (i + 1) (set turns i t)) ≡ asks_in (take i turns) ++ t.ask ∷ []
  asks_more l = ap asks_in (take_more_set turns i t l) ∙ map-append (λ x. x.ask) (take i turns) (t ∷ [])

  pub answers_more : i < length turns → answers_in (take (i + 1) (set turns i t)) ≡ answers_in (take i turns) ++ t.answer ∷ []
  answers_more l = ap answers_in (take_more_set turns i t l) ∙ map-append (λ x. x.answer) (take i turns) (t ∷ [])

-- one turn more: its call was made, and the answer is beside it
module _ {A P X : Type 0} (M : Meaning P) (Reading : (List ℕ → P) → Type 0) (One : ℕ → List (Trial P) → Call P → X → X → Type 0) (call : A → Call P) (turns : List (Turn A)) (i : ℕ) where
  pub turn_more : (d : Turn A) → i < length turns → (before : X) (a : Lent P) (x : X) (b : Lent P) (y : X) (r : Answer) → ReplayedAs M Reading One (map call (asks_in (take i turns))) (answers_in (take i turns)) before a x → RanAs M Reading One (call (get_or turns i d).ask) a x r b y → let done : List (Turn A) = take (i + 1) (set turns i (record { ask = (get_or turns i d).ask; answer = Some r })) in ReplayedAs M Reading One (map call (asks_in done)) (answers_in done) before b y
  turn_more d within before a x b y r right ran =
      let ask = (get_or turns i d).ask in
      let t : Turn A = record { ask = ask; answer = Some r } in
      let done = take (i + 1) (set turns i t) in
      let made = ap (map call) (asks_more turns i t d refl within) ∙ map-append call (asks_in (take i turns)) (ask ∷ []) in
      subst (λ xs. ReplayedAs M Reading One (map call (asks_in done)) xs before b y) (sym (answers_more turns i t d refl within))
      (subst (λ xs. ReplayedAs M Reading One xs (answers_in (take i turns) ++ Some r ∷ []) before b y) (sym made)
      (replay_more M Reading One (map call (asks_in (take i turns))) (answers_in (take i turns)) before a x b y (call ask) r right ran))

  -- in the end all calls were made
  pub turns_done : (before : X) (b : Lent P) (y : X) (asks : List A) → length turns ≤ i → asks_in turns ≡ asks → ReplayedAs M Reading One (map call (asks_in (take i turns))) (answers_in (take i turns)) before b y → ReplayedAs M Reading One (map call asks) (answers_in turns) before b y
  turns_done before b y asks done same right =
      subst (λ xs. ReplayedAs M Reading One (map call xs) (answers_in turns) before b y) same
      (subst (λ ts. ReplayedAs M Reading One (map call (asks_in ts)) (answers_in ts) before b y) (take_all i turns done) right)
