-- A month of mixes in exact numbers. A sample is given by its f32 bits.
use Rattle.std.specs.Prelude.{◌≡◌, Bool, true, cond, ◌&&◌, ◌||◌, List, [], ◌∷◌, ◌++◌, ℕ, suc, ◌+◌, ◌*◌, ◌/◌, ◌%◌, ◌^◌, ◌≤◌, ◌<◌, eqb, ltb, pos, nat_abs, length}
use Rattle.std.specs.Float.{binary32}
use Rattle.std.specs.Float.Ieee.{le, neg, of_int, of_bits}
use Rattle.laws.specs.Count.{if_picked}
use Rattle.pcm.specs.Sample.{nearest16}
use Rattle.month.specs.declared.totals.Peak.{Peak}
use Rattle.month.specs.declared.totals.Totals.{Totals}

-- the mixes of a month, and the samples of a mix, at most
abbrev pub most_mixes : ℕ
most_mixes = 1000

abbrev pub most_samples : ℕ
most_samples = 2 ^ 24

-- ---- one sample

-- -1.0 to 1.0, which no NaN is
unfoldable pub sample_in : ℕ → Bool
sample_in w = le (neg (of_int binary32 (pos 1))) (of_bits binary32 w) && le (of_bits binary32 w) (of_int binary32 (pos 1))

-- its bits without the sign
unfoldable pub magnitude : ℕ → ℕ
magnitude w = w % 2 ^ 31

-- of 1.0
abbrev pub one_bits : ℕ
one_bits = 127 * 2 ^ 23

-- 1.0 or -1.0
unfoldable pub is_full : ℕ → Bool
is_full w = eqb (magnitude w) one_bits

-- the square of its 16-bit value
unfoldable pub square : ℕ → ℕ
square w = nat_abs (nearest16 (of_bits binary32 w)) * nat_abs (nearest16 (of_bits binary32 w))

-- ---- some samples

unfoldable pub all_in : List ℕ → Bool
all_in [] = true
all_in (w ∷ ws) = sample_in w && all_in ws

unfoldable pub sum_of : (ℕ → ℕ) → List ℕ → ℕ
sum_of f [] = 0
sum_of f (w ∷ ws) = f w + sum_of f ws

unfoldable pub full : List ℕ → ℕ
full ws = sum_of (λ w. if_picked (is_full w)) ws

unfoldable pub squares : List ℕ → ℕ
squares ws = sum_of square ws

-- where there is none
abbrev pub no_peak : Peak
no_peak = record { bits = 0; mix = 0; sample = 0 }

-- the first of the larger: the earlier one, unless there is none or the later one is larger
unfoldable pub higher : Peak → Peak → Peak
higher p q = cond (eqb p.mix 0 || ltb p.bits q.bits) q p

-- the first of the largest, among samples of a mix that has `before` samples in front of them
unfoldable pub peak_in : ℕ → ℕ → List ℕ → Peak
peak_in mix before [] = no_peak
peak_in mix before (w ∷ ws) = higher (record { bits = magnitude w; mix = mix; sample = suc before }) (peak_in mix (suc before) ws)

-- ---- some mixes

pub record Mix : Type 0 where
  pub channels : ℕ
  pub samples : List ℕ

unfoldable pub samples_of : List Mix → List ℕ
samples_of [] = []
samples_of (m ∷ ms) = m.samples ++ samples_of ms

unfoldable pub frames : List Mix → ℕ
frames [] = 0
frames (m ∷ ms) = length m.samples / m.channels + frames ms

-- with `before` mixes in front of them
unfoldable pub peak_from : ℕ → List Mix → Peak
peak_from before [] = no_peak
peak_from before (m ∷ ms) = higher (peak_in (suc before) 0 m.samples) (peak_from (suc before) ms)

unfoldable pub totals : List Mix → Totals
totals ms = record { mixes = length ms; frames = frames ms; full = full (samples_of ms); peak = peak_from 0 ms; squares = squares (samples_of ms) }

-- ---- what is shown of them

-- no mix has more samples than are allowed
abbrev pub Short : List Mix → Type 0
Short [] = Unit {0}
Short (m ∷ ms) = (length m.samples ≤ most_samples) × Short ms

-- counts and sums of two lists add to those of both
pub record Added (a b both : Totals) : Type 0 where
  pub mixes : both.mixes ≡ a.mixes + b.mixes
  pub frames : both.frames ≡ a.frames + b.frames
  pub full : both.full ≡ a.full + b.full
  pub squares : both.squares ≡ a.squares + b.squares

pub record FitsIn64 (t : Totals) : Type 0 where
  pub mixes : t.mixes < 2 ^ 64
  pub frames : t.frames < 2 ^ 64
  pub full : t.full < 2 ^ 64
  pub bits : t.peak.bits < 2 ^ 64
  pub mix : t.peak.mix < 2 ^ 64
  pub sample : t.peak.sample < 2 ^ 64
  pub squares : t.squares < 2 ^ 64
