-- The trials of a text, line by line.
use Rattle.std.proofs.Common.{◌≡◌, List, [], ◌∷◌, ◌++◌, Ok, Err, Result, refl, ap}
use Rattle.std.specs.List.{filter_map}
use Rattle.entry.specs.declared.outcome.Entry.{Entry}
use Rattle.entry.specs.declared.outcome.Malformed.{Malformed}
use Rattle.logger.specs.Logger.{trial_of, trial_of_line, trials_of}

-- the trials of the first line, and then those of the others
pub first_line : (l : Result Entry Malformed) (ls : List (Result Entry Malformed)) → trials_of (l ∷ ls) ≡ trials_of (l ∷ []) ++ trials_of ls
first_line (Ok e) ls = refl
first_line (Err m) ls = refl

-- they are those of the lines, without those of the lines that tell of none
pub trials_told : (ls : List (Result Entry Malformed)) → filter_map trial_of_line ls ≡ trials_of ls
trials_told [] = refl
trials_told (Ok e ∷ ls) = ap (λ ts. trial_of e ∷ ts) (trials_told ls)
trials_told (Err m ∷ ls) = trials_told ls
