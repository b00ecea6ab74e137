-- The amplitudes of a level that moves from one value to another in a chunk.
use Rattle.std.specs.Prelude.{cond, ◌⊎◌, List, ℕ, ◌≤◌, ◌<◌, T, leb, get_or, Float}
use Rattle.std.specs.Float.{nan, binary32}
use Rattle.std.specs.Float.Ieee.{le}
use Rattle.laws.specs.Loop.{changed}
use Rattle.laws.specs.Interpolate.{interpolate}
use Rattle.decibels.specs.declared.decibels.Decibels.{Decibels}
use Rattle.decibels.specs.Decibels.{amplitude}

-- the value at frame i, read at part i of the chunk
unfoldable pub value_at : Decibels → Decibels → List Float → ℕ → Float
value_at before after parts i = interpolate binary32 before.0 after.0 (get_or parts i nan)

-- its amplitude, as a step on the factor of frame i
unfoldable pub amplitude_at : Decibels → Decibels → List Float → ℕ → Float → Float
amplitude_at before after parts i x = amplitude (value_at before after parts i)

-- the factors with those of the first n frames set
abbrev pub with_amplitudes : Decibels → Decibels → List Float → ℕ → List Float → List Float
with_amplitudes before after parts n factors = changed (amplitude_at before after parts) n factors

-- the factors with those of the frames from `first` up to `to` set
abbrev pub with_run : Decibels → Decibels → List Float → ℕ → ℕ → List Float → List Float
with_run before after parts first to factors = changed (λ i x. cond (leb first i) (amplitude_at before after parts i x) x) to factors

-- over the first n frames the values never fall, or never rise
abbrev pub Monotone : Decibels → Decibels → List Float → ℕ → Type 0
Monotone before after parts n = ((i j : ℕ) → i ≤ j → j < n → T (le (value_at before after parts i) (value_at before after parts j))) ⊎ ((i j : ℕ) → i ≤ j → j < n → T (le (value_at before after parts j) (value_at before after parts i)))
