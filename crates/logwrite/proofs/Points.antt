-- An entry's record: a block may hold it, and the bytes of its point read back.
use Rattle.std.proofs.Common.{◌≡◌, ℕ, zero, suc, ◌+◌, ◌^◌, ◌<◌, ◌≤◌, true, ◌||◌, eqb, leb, ltb, List, [], ◌∷◌, length, refl, ◌∙◌, arith}
use Rattle.std.proofs.lemmas.Bool.{and_from, cond-true, eq-eqb, le-leb, lt-ltb}
use Rattle.space.specs.Recording.{Faithful, blank_point, read_point}
use Rattle.grid.specs.Bits.{Bits, Exact, signed_bits, unsigned_bits}
use Rattle.grid.specs.Bytes.{all_held, sextuple, zero_from}
use Rattle.grid.specs.Space.{figure_at}
use Rattle.grid.specs.InUse.{signed_exact, signed_zero_held, unsigned_exact, unsigned_zero_held}
use Rattle.grid.specs.Recorded.{faithful_grid}
use Rattle.grid.specs.Tests.{all_below_from}
use Rattle.beside.specs.Recorded.{faithful_pair}
use Rattle.entry.specs.declared.outcome.Entry.{Entry}
use Rattle.log_block.specs.Items.{note}
use Rattle.log_block.specs.Writing.{fits}
use Rattle.logger.specs.Logger.{delay_bytes, life_bytes, logger_bytes, trial_of}
use Rattle.logwrite.specs.Lines.{entry_item}

-- the bytes of a logger's points keep the laws
faithful : Faithful logger_bytes
faithful = faithful_pair delay_bytes life_bytes (faithful_grid signed_bits signed_exact 1 (omega arith)) (faithful_grid unsigned_bits unsigned_exact 1 (omega arith)) true

-- a grid's point of one objective, whose figure 32 bits hold, is writable
module _ {F : Type 0} (B : Bits F) (exact : Exact B) (zero_held : B.holds B.zero ≡ true) (v : F) (held : B.holds v ≡ true) where
  abbrev alone : List F
  alone = v ∷ B.zero ∷ B.zero ∷ B.zero ∷ B.zero ∷ B.zero ∷ []

  held_at : (k : ℕ) → k < 6 → B.holds (figure_at B alone k) ≡ true
  held_at zero l = held
  held_at (suc zero) l = zero_held
  held_at (suc (suc zero)) l = zero_held
  held_at (suc (suc (suc zero))) l = zero_held
  held_at (suc (suc (suc (suc zero)))) l = zero_held
  held_at (suc (suc (suc (suc (suc zero))))) l = zero_held
  held_at (suc (suc (suc (suc (suc (suc k)))))) l = absurd (omega arith)

  zero_at : (k : ℕ) → k < 6 → (ltb k 1 || B.is_zero (figure_at B alone k)) ≡ true
  zero_at zero l = refl
  zero_at (suc zero) l = exact.zero_tested
  zero_at (suc (suc zero)) l = exact.zero_tested
  zero_at (suc (suc (suc zero))) l = exact.zero_tested
  zero_at (suc (suc (suc (suc zero)))) l = exact.zero_tested
  zero_at (suc (suc (suc (suc (suc zero))))) l = exact.zero_tested
  zero_at (suc (suc (suc (suc (suc (suc k)))))) l = absurd (omega arith)

  writable_alone : sextuple B 1 alone ≡ true
  writable_alone = and_from (all_held B alone) (zero_from B 1 alone) (all_below_from (λ k. B.holds (figure_at B alone k)) 6 held_at) (all_below_from (λ k. ltb k 1 || B.is_zero (figure_at B alone k)) 6 zero_at)

-- a point of 32-bit figures can be written so that it reads back
writable : (e : Entry) → signed_bits.holds e.delay ≡ true → e.life < 2 ^ 32 → logger_bytes.writable (trial_of e).point ≡ true
writable e d l =
    and_from (delay_bytes.writable (trial_of e).point.0) (life_bytes.writable (trial_of e).point.1)
    (writable_alone signed_bits signed_exact signed_zero_held e.delay d)
    (writable_alone unsigned_bits unsigned_exact unsigned_zero_held e.life (lt-ltb e.life (2 ^ 32) l))

-- and it does
pub point_back : (e : Entry) → signed_bits.holds e.delay ≡ true → e.life < 2 ^ 32 → read_point logger_bytes (logger_bytes.writes (trial_of e).point) ≡ (trial_of e).point
point_back e d l =
    let p = (trial_of e).point in
    let long = faithful.long p in
    cond-true (eqb (length (logger_bytes.writes p)) logger_bytes.width) (logger_bytes.reads (logger_bytes.writes p)) (blank_point logger_bytes) (eq-eqb (length (logger_bytes.writes p)) logger_bytes.width long) ∙ faithful.reads_back p (writable e d l)

-- a block may hold an entry's record alone, and a note's that is not too long
pub entry_alone : (e : Entry) → fits 2 500 (entry_item e) ≡ true
entry_alone e = refl

pub note_alone : (text : List ℕ) → length text ≤ 255 → fits 2 500 (note text) ≡ true
note_alone text l = and_from (leb (length text) 255) (leb (2 + length text) 500) (le-leb (length text) 255 l) (le-leb (2 + length text) 500 (omega arith))
