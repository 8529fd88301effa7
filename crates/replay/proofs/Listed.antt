-- A replay of calls that are lent no block, told of the list alone.
use Rattle.std.proofs.Common.{ℕ, List, [], ◌∷◌, Ok, Err, Result, IfOk, Option, ap}
use Rattle.space.specs.Meaning.{Meaning}
use Rattle.space.specs.declared.tagged.Trial.{Trial}
use Rattle.history.specs.declared.answers.Answer.{Answer}
use Rattle.history.specs.Calls.{Call, Event}
use Rattle.archive.specs.declared.holding.Archive.{Archive}
use Rattle.archive.specs.Lent.{lending}
use Rattle.replay.specs.Leaving.{Leaves, LeavesList, Left, Lendings}
use Rattle.replay.specs.Replaying.{AnyReading, ReplayedAs, ReplayRight}

module _ {P : Type 0} (M : Meaning P) where
  -- what the calls leave in the list
  left_listed : (reads : List ℕ → P) (rows : ℕ) (es : List (Event P)) (x y : Lendings) → Left (LeavesList M) M reads rows es x y → Left (Leaves M) M reads rows es x.list y.list
  left_listed reads rows [] x y e = ap (λ (z : Lendings). z.list) e
  left_listed reads rows (e ∷ es) x y l = (l.0.list, left_listed reads rows es x l.0 l.1, l.2.0)

  -- what holds of the replay
  pub listed : {S E : Type 0} (r : Result (Archive S) E) (own : List (Trial P)) (made : List (Call P)) (told : List (Option Answer)) (x y : Lendings) → IfOk r (λ a. ReplayedAs M AnyReading (LeavesList M) made told x (lending a own []) y) → IfOk r (λ a. ReplayRight M made told x.list (lending a own y.list))
  listed (Ok a) own made told x y right =
      record {
        history = right.history;
        called = right.called;
        answered = right.answered;
        stands = right.stands;
        left = λ reads any. left_listed reads a.rows right.history.events x y (right.left reads any);
      }
  listed (Err e) own made told x y right = right
