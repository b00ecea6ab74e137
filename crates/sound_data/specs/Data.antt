-- The samples of a sound file's data. A frame has a value for each channel, one after the other; a sample buffer has two samples for each
-- frame, the left and the right. Of one channel both have the value, and the left is what is written.
use Rattle.std.specs.Prelude.{◌≡◌, List, [], ◌∷◌, ℕ, ◌+◌, ◌-◌, ◌*◌, ◌/◌, ◌≤◌, ◌<◌, length, get_or, T, Float}
use Rattle.std.specs.Float.{nan, binary32}
use Rattle.std.specs.Float.Ieee.{fits}
use Rattle.laws.specs.Pieces.{pieces}
use Rattle.byte_order.specs.declared.bytes.ByteOrder.{ByteOrder}
use Rattle.byte_order.specs.Bytes.{bytes_of}
use Rattle.pcm.specs.declared.sample.Encoding.{Encoding}
use Rattle.pcm.specs.Sample.{InRange, Kept, width, sample_at, pattern_of}

-- Value k of the data that begin at a place.
unfoldable pub value_at : Encoding → ByteOrder → List ℕ → ℕ → ℕ → Float
value_at encoding order bytes start k = sample_at encoding order bytes (start + k * width encoding)

-- So many frames of the data: a frame's left side is its first value, and its right side its last.
unfoldable pub samples_in : Encoding → ByteOrder → ℕ → List ℕ → ℕ → ℕ → List Float
samples_in encoding order channels bytes start frames =
    pieces (λ i. value_at encoding order bytes start (i * channels) ∷ value_at encoding order bytes start (i * channels + channels - 1) ∷ []) frames

-- The bytes of value k, of values that stand `step` samples apart.
unfoldable pub encoded_at : Encoding → ByteOrder → List Float → ℕ → ℕ → List ℕ
encoded_at encoding order samples step k = bytes_of order (width encoding) (pattern_of encoding (get_or samples (k * step) nan))

-- The data of a sample buffer: of two channels all samples, of one those of the left side.
unfoldable pub data_of : Encoding → ByteOrder → ℕ → List Float → List ℕ
data_of encoding order channels samples = pieces (encoded_at encoding order samples (2 / channels)) (length samples / 2 * channels)

-- Every sample is in -1.0..1.0.
pub record AllInRange (samples : List Float) : Type 0 where
  pub each : (i : ℕ) → i < length samples → InRange (get_or samples i nan)

-- `count` values that stand `step` samples apart are among n samples.
pub record Steps (step count n : ℕ) : Type 0 where
  pub apart : 0 < step
  pub among : count * step ≤ n

-- Samples that come back from the data as they were: f32 values that the encoding keeps, and of one channel frames whose sides agree.
pub record ComesBack (encoding : Encoding) (channels : ℕ) (samples : List Float) : Type 0 where
  pub fitting : (i : ℕ) → i < length samples → T (fits binary32 (get_or samples i nan))
  pub kept : (i : ℕ) → i < length samples → Kept encoding (get_or samples i nan)
  pub agreeing : channels ≡ 1 → (i : ℕ) → i < length samples / 2 → get_or samples (i * 2 + 1) nan ≡ get_or samples (i * 2) nan
