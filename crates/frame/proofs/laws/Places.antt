-- No two sides of frames stand in one place, and all stand within their layout's places. Assumes nothing.
use Rattle.std.specs.Prelude.{ℕ}
use Rattle.std.proofs.Common.{arith}
use Rattle.frame.specs.Layout.{interleaved, planar, scratch, SidesApart}

pub interleaved_apart : (first n : ℕ) → SidesApart (interleaved first n)
unfolding interleaved
interleaved_apart first n =
    record {
      left_in = λ i h. (omega arith, omega arith);
      right_in = λ i h. (omega arith, omega arith);
      lefts = λ i j p q h e. h (omega arith);
      rights = λ i j p q h e. h (omega arith);
      apart = λ i j p q e. absurd (omega arith);
    }

pub planar_apart : (first n : ℕ) → SidesApart (planar first n)
unfolding planar
planar_apart first n =
    record {
      left_in = λ i h. (omega arith, omega arith);
      right_in = λ i h. (omega arith, omega arith);
      lefts = λ i j p q h e. h (omega arith);
      rights = λ i j p q h e. h (omega arith);
      apart = λ i j p q e. absurd (omega arith);
    }

abbrev pub scratch_apart : (first n : ℕ) → SidesApart (scratch first n)
scratch_apart = planar_apart
