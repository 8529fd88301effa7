-- What lines give: a note is no entry, and a block may hold each record alone.
use Rattle.std.proofs.Common.{◌≡◌, ℕ, cond, eqb, leb, List, [], ◌∷◌, ◌++◌, map, length, take, drop, codes, Some, None, Ok, Err, Option, Result, sym, refl, ap, ◌∙◌, ⊎_elim}
use Rattle.std.specs.List.{flat_map}
use Rattle.std.specs.Str.{bytes_eq}
use Rattle.std.proofs.lemmas.Bool.{cases_Bool, cond_both, cond-false, leb-true}
use Rattle.std.proofs.lemmas.List.{take-append-drop}
use Rattle.std.proofs.lemmas.Slice.Eq.{bytes_eq-Decides}
use Rattle.space.specs.Recording.{read_point}
use Rattle.entry.specs.declared.outcome.Entry.{Entry}
use Rattle.entry.specs.declared.outcome.Malformed.{Malformed}
use Rattle.entry.specs.Line.{digits, entry_of, entry_of_fields, fields, fields_after, without_return}
use Rattle.logger.specs.Logger.{logger_bytes, trials_of}
use Rattle.logger.proofs.Lines.{first_line as all_trials}
use Rattle.log_block.specs.Items.{Item, trial, note}
use Rattle.logwrite.specs.declared.saying.Line.{Line}
use Rattle.logwrite.specs.declared.saying.Unsaid.{Unsaid}
use Rattle.logwrite.specs.Lines.{given, item_from, item_of_line, note_of, told, trials_read}
use Rattle.logwrite.proofs.Points.{entry_alone, note_alone}
use Rattle.logwrite.proofs.Sharing.{Alone}

-- fields of which the first is the word say no entry
no_entry : (fs : List (List ℕ)) → trials_of (entry_of_fields (codes "note" ∷ fs) ∷ []) ≡ []
unfolding digits
no_entry fs = cond_both (eqb (length (codes "note" ∷ fs)) 3) _ _ (λ r. trials_of (r ∷ []) ≡ []) (λ e. refl) (λ e. refl)

-- the word alone is one field
word_alone : fields (codes "note") ≡ codes "note" ∷ []
unfolding fields_after
word_alone = refl

-- and with a space after it, it is the first
word_first : (rest : List ℕ) → fields (codes "note " ++ rest) ≡ codes "note" ∷ fields rest
unfolding fields_after
word_first rest = refl

-- so that a note tells of no trial
pub note_tells_none : (line text : List ℕ) → note_of (without_return line) ≡ Some text → trials_of (entry_of line ∷ []) ≡ []
note_tells_none line text e =
    let bare = without_return line in
    ⊎_elim
    (λ t.
    let same : bare ≡ codes "note" = (bytes_eq-Decides bare (codes "note")).0 t in
    ap (λ bs. trials_of (entry_of_fields (fields bs) ∷ [])) same ∙ (ap (λ fs. trials_of (entry_of_fields fs ∷ [])) word_alone ∙ no_entry []))
    (λ f.
    ⊎_elim
    (λ t.
    let front : take 5 bare ≡ codes "note " = (bytes_eq-Decides (take 5 bare) (codes "note ")).0 t in
    let whole : bare ≡ codes "note " ++ drop 5 bare = sym (take-append-drop 5 bare) ∙ ap (λ bs. bs ++ drop 5 bare) front in
    ap (λ bs. trials_of (entry_of_fields (fields bs) ∷ [])) whole ∙ (ap (λ fs. trials_of (entry_of_fields fs ∷ [])) (word_first (drop 5 bare)) ∙ no_entry (fields (drop 5 bare))))
    (λ g. absurd (let none = cond-false (bytes_eq bare (codes "note")) (Some []) (cond (bytes_eq (take 5 bare) (codes "note ")) (Some (drop 5 bare)) None) f ∙ cond-false (bytes_eq (take 5 bare) (codes "note ")) (Some (drop 5 bare)) None g in cc))
    (cases_Bool (bytes_eq (take 5 bare) (codes "note "))))
    (cases_Bool (bytes_eq bare (codes "note")))

-- what a line gives, a block may hold alone
from_alone : (n : Option (List ℕ)) (e : Result Entry Malformed) → Alone (given (item_from n e))
from_alone (Some text) e = cond_both (leb (length text) 255) _ _ (λ r. Alone (given r)) (λ t. (note_alone text (leb-true (length text) 255 t), tt)) (λ f. tt)
from_alone None (Ok e) = (entry_alone e, tt)
from_alone None (Err m) = tt

alone_append : (xs ys : List Item) → Alone xs → Alone ys → Alone (xs ++ ys)
alone_append [] ys h g = g
alone_append (x ∷ xs) ys h g = (h.0, alone_append xs ys h.1 g)

-- and so each of what lines give
pub lines_alone : (ls : List (List ℕ)) → Alone (flat_map given (map item_of_line ls))
lines_alone [] = tt
lines_alone (l ∷ ls) = alone_append (given (item_of_line l)) (flat_map given (map item_of_line ls)) (from_alone (note_of (without_return l)) (entry_of l)) (lines_alone ls)

-- trials among more records
pub trials_more : (xs ys : List Item) → trials_read (xs ++ ys) ≡ trials_read xs ++ trials_read ys
trials_more [] ys = refl
trials_more (trial tag point ∷ xs) ys = ap (λ ts. record { point = read_point logger_bytes point; tag = tag } ∷ ts) (trials_more xs ys)
trials_more (note text ∷ xs) ys = trials_more xs ys

-- the trials of what is told of lines are those of their entries, where it is so of each line
pub same_trials : (rs : List (Result Line Unsaid)) (ls : List (List ℕ)) → map (λ r. trials_read (given (told r))) rs ≡ map (λ l. trials_of (entry_of l ∷ [])) ls → trials_read (flat_map given (map told rs)) ≡ trials_of (map entry_of ls)
same_trials [] [] e = refl
same_trials [] (l ∷ ls) e = cc
same_trials (r ∷ rs) [] e = cc
same_trials (r ∷ rs) (l ∷ ls) e =
    let here : trials_read (given (told r)) ≡ trials_of (entry_of l ∷ []) = cc in
    let later : map (λ r. trials_read (given (told r))) rs ≡ map (λ l. trials_of (entry_of l ∷ [])) ls = cc in
    trials_more (given (told r)) (flat_map given (map told rs))
    ∙ (ap (λ ts. ts ++ trials_read (flat_map given (map told rs))) here
    ∙ (ap (λ ts. trials_of (entry_of l ∷ []) ++ ts) (same_trials rs ls later) ∙ sym (all_trials (entry_of l) (map entry_of ls))))
