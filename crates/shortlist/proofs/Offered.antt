-- Offers of trials, all over the archive's own rows and a list as long.
use Rattle.std.proofs.Common.{◌≡◌, ℕ, eqb, min, cond, true, List, [], ◌∷◌, map, is_ok, Ok, Err, Result, IfOk, MatchResult, None, refl, ap, ◌∙◌, subst, arith}
use Rattle.std.proofs.lemmas.Bool.{cond-true, eq-eqb}
use Rattle.space.specs.Meaning.{Meaning}
use Rattle.space.specs.declared.tagged.Trial.{Trial}
use Rattle.history.specs.Calls.Call.{offer}
use Rattle.history.specs.RowNeed.{row_need}
use Rattle.archive.specs.Lent.{Lent, members}
use Rattle.replay.specs.declared.asking.Ask.{Ask}
use Rattle.replay.specs.declared.asking.Ask.TheVariants.{Offer}
use Rattle.replay.specs.declared.asking.Turn.{Turn}
use Rattle.replay.specs.Asking.{answers_in, asks_in, call_of}
use Rattle.replay.specs.Replaying.{ReplayRight}
use Rattle.logger.specs.Logger.{logger}
use Rattle.shortlist.specs.Offers.{OfferedAll, Point}

-- offers that are not answered yet
abbrev pub unanswered : ℕ → List (Trial Point) → List (Turn (Ask Point))
unanswered n trials = map (λ t. record { ask = Offer n n t; answer = None }) trials

module _ (n : ℕ) where
  -- an offer is lent what it asks for
  as_asked : (t : Trial Point) → call_of n 0 n (Offer n n t) ≡ offer n n t
  as_asked t =
      let rows : cond (eqb n n) n (min n 0) ≡ n = cond-true (eqb n n) n (min n 0) (eq-eqb n n refl) in
      let room : min n n ≡ n = omega arith in
      ap (λ k. offer k (min n n) t) rows ∙ ap (λ k. offer n k t) room

  pub calls_made : (trials : List (Trial Point)) → map (call_of n 0 n) (asks_in (unanswered n trials)) ≡ map (offer n n) trials
  calls_made [] = refl
  calls_made (t ∷ ts) = ap (λ c. c ∷ map (call_of n 0 n) (asks_in (unanswered n ts))) (as_asked t) ∙ ap (λ cs. offer n n t ∷ cs) (calls_made ts)

-- what a replay of them says
pub offered_all : (M : Meaning Point) (n own other long : ℕ) (trials : List (Trial Point)) (asked turns : List (Turn (Ask Point))) (before : List ℕ) (b : Lent Point) (held : List (Trial Point)) → M ≡ logger → n ≡ row_need M → own ≡ n → other ≡ 0 → long ≡ n → asked ≡ unanswered n trials → held ≡ members b → ReplayRight M (map (call_of own other long) (asks_in asked)) (answers_in turns) before b → OfferedAll trials turns held
offered_all M n own other long trials asked turns before b held is need o s l a h right₀ =
    let right₁ = subst (λ m. ReplayRight m (map (call_of own other long) (asks_in asked)) (answers_in turns) before b) is right₀ in
    let calls : map (call_of own other long) (asks_in asked) ≡ map (offer n n) trials = ap (λ k. map (call_of k other long) (asks_in asked)) o ∙ (ap (λ k. map (call_of n k long) (asks_in asked)) s ∙ (ap (λ k. map (call_of n 0 k) (asks_in asked)) l ∙ (ap (λ x. map (call_of n 0 n) (asks_in x)) a ∙ calls_made n trials))) in
    let rows : n ≡ row_need logger = need ∙ ap row_need is in
    record {
      history = right₁.history;
      called = right₁.called ∙ (calls ∙ ap (λ k. map (offer k k) trials) rows);
      answered = right₁.answered;
      promises = λ reads. (right₁.stands reads tt).promises;
      held = λ reads. h ∙ (right₁.stands reads tt).in_order;
    }

-- what holds of a success holds of what is left once another error took the place of the first
pub left_over : {A E : Type 0} (F : Type 0) (r : Result A E) (a : A) (P : A → Type 0) (Q : E → Type 0) → MatchResult r (λ x. ◌≡◌ {A = Result A F} (Ok a) (Ok x)) Q → true ≡ is_ok r → IfOk r P → P a
left_over F (Ok x) a P Q same good right = subst P (let back : x ≡ a = cc in back) right
left_over F (Err e) a P Q other good right = cc
