-- What is lent stays lent, call after call.
use Rattle.std.proofs.Common.{◌∙◌, refl}
use Rattle.replay.specs.declared.lender.Lender.{Lender}
use Rattle.replay.specs.Lending.{SameLoans}

module _ {S P : Type 0} where
  pub no_call : (a : Lender S P) → SameLoans a a
  no_call a = record { own = refl; strange = refl; list = refl; block = refl; rows = refl; long = refl; wide = refl; kept = refl }

  pub one_more : (a b c : Lender S P) → SameLoans a b → SameLoans b c → SameLoans a c
  one_more a b c s t =
      record {
        own = t.own ∙ s.own;
        strange = t.strange ∙ s.strange;
        list = t.list ∙ s.list;
        block = t.block ∙ s.block;
        rows = t.rows ∙ s.rows;
        long = t.long ∙ s.long;
        wide = t.wide ∙ s.wide;
        kept = t.kept ∙ s.kept;
      }
