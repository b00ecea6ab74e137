-- What holds of both buffers holds of the one that a sound is from. Assumes nothing.
use mathlib.Core.Bool.{Bool, true, false, cond}
use mathlib.Core.List.{List}
use Prim.Native.Nat.{ℕ, ◌^◌, ◌<◌}
use lib.Dec.{eqb}
use lib.ListN.{length}
use lib.Ieee.{Float}
use Rattle.recordings.specs.Recordings.{Recordings, from_house, recording}

pub of_both : (P : List Float → Type 0) (samples : Recordings) (from : ℕ) → P samples.house → P samples.visitor → P (recording samples from)
unfolding recording
of_both P samples from h v = go (eqb from from_house)
  where
    go : (b : Bool) → P (cond b samples.house samples.visitor)
    go true = h
    go false = v

-- as long as a lent slice can be
abbrev pub Lent : Recordings → Type 0
Lent samples = (length samples.house < 2 ^ 63) × (length samples.visitor < 2 ^ 63)

pub lent_recording : (samples : Recordings) (from : ℕ) → Lent samples → length (recording samples from) < 2 ^ 63
lent_recording samples from h = of_both (λ l. length l < 2 ^ 63) samples from h.0 h.1
