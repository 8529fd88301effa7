-- What is counted of some trials.
use Rattle.std.specs.Prelude.{ℕ, ◌+◌, ◌-◌, ◌%◌, ◌^◌, cond, ◌==◌, nat_lt}
use Rattle.std.specs.Int.Bits.{bit_or}
use Rattle.space.specs.declared.looking.Look.{Look}
use Rattle.space.specs.declared.looking.Holders.TheVariants.{Nobody, One, Several}
use Rattle.grid.specs.declared.counts.Counts.{Counts}
use Rattle.grid.specs.declared.counts.Missed.{Missed}

-- the counts of some trials and of one more, at place k
abbrev pub counted : Counts → ℕ → Missed → Counts
counted c k missed = record {
  most = (c.most + missed.most) % 2 ^ 32;
  least = (c.least + missed.least) % 2 ^ 32;
  others = (c.others + bit_or missed.most missed.least) % 2 ^ 32;
  places = (c.places + cond (bit_or missed.most missed.least == 0) k 0) % 2 ^ 32;
}

-- what the counts of n trials tell
abbrev pub told_by : Counts → ℕ → Look
told_by c n = record {
  below = nat_lt c.most c.others;
  holders = cond ((n - c.others) == 0) Nobody (cond ((n - c.others) == 1) (One c.places) Several);
  shut = nat_lt c.least n;
}
