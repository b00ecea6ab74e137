-- The data as the loop writes them, value by value. Assumes nothing.
use mathlib.Core.Path.{◌≡◌, sym, ap, ◌∙◌}
use mathlib.Core.List.{List}
use Prim.Native.Nat.{ℕ, suc, ◌+◌, ◌*◌, ◌/◌, ◌%◌, ◌≤◌, ◌<◌}
use native.Mathlib.Nat.{mul-le-mul_right, suc-mul, mul-one}
use native.Mathlib.Omega.{arith}
use lib.ListN.{length, get_or}
use lib.Ieee.{Float, nan}
use Rattle.laws.specs.Pieces.{pieces, put_at}
use Rattle.laws.proofs.laws.Pieces.{pieces_next, length-pieces, put_turn}
use Rattle.byte_order.specs.declared.bytes.ByteOrder.{ByteOrder}
use Rattle.byte_order.specs.Bytes.{bytes_of}
use Rattle.byte_order.proofs.laws.Bytes.{length_bytes}
use Rattle.pcm.specs.declared.sample.Encoding.{Encoding}
use Rattle.pcm.specs.Sample.{width, pattern_of}
use Rattle.sound_data.specs.Data.{encoded_at, data_of, Steps}

-- value i's sample
pub in_steps : (i step count n : ℕ) → i < count → Steps step count n → i * step < n
in_steps i step count n h s =
    let g : suc i * step ≤ count * step = mul-le-mul_right step h in
    omega (arith, suc-mul i step, s.apart, s.among)

-- pieces of one length, put one after the other
module _ (f : ℕ → List ℕ) (w : ℕ) (each : (k : ℕ) → length (f k) ≡ w) (start : ℕ) (l : List ℕ) where
  length_all : (n : ℕ) → length (pieces f n) ≡ n * w
  length_all n = length-pieces f w n (λ i h. each i)

  pub piece_turn : (i : ℕ) {place : ℕ} {now last : List ℕ} → start ≤ length l → place ≡ start + i * w → now ≡ put_at start (pieces f i) l → last ≡ put_at place (f i) now
      → last ≡ put_at start (pieces f (i + 1)) l
  piece_turn i h p n q =
      q ∙ put_turn start (pieces f i) (f i) l h n (p ∙ ap (λ (x : ℕ). start + x) (sym (length_all i))) ∙ ap (λ (x : List ℕ). put_at start x l) (sym (pieces_next f i))

module _ (encoding : Encoding) (order : ByteOrder) (samples : List Float) (step : ℕ) where
  pub length_encoded : (k : ℕ) → length (encoded_at encoding order samples step k) ≡ width encoding
  unfolding encoded_at
  length_encoded k = length_bytes order (width encoding) _

  pub length_written : (n : ℕ) → length (pieces (encoded_at encoding order samples step) n) ≡ n * width encoding
  length_written n = length-pieces (encoded_at encoding order samples step) (width encoding) n (λ i h. length_encoded i)

  -- one value more
  pub write_turn : (start i : ℕ) (l : List ℕ) {place w : ℕ} {now last : List ℕ} → start ≤ length l → w ≡ width encoding → place ≡ start + i * w
      → now ≡ put_at start (pieces (encoded_at encoding order samples step) i) l
      → last ≡ put_at place (bytes_of order (width encoding) (pattern_of encoding (get_or samples (i * step) nan))) now
      → last ≡ put_at start (pieces (encoded_at encoding order samples step) (i + 1)) l
  unfolding encoded_at
  write_turn start i l h e p n q =
      piece_turn (encoded_at encoding order samples step) (width encoding) length_encoded start l i h (p ∙ ap (λ (x : ℕ). start + i * x) e) n q

-- ---- one channel or two

module _ (encoding : Encoding) (order : ByteOrder) (samples : List Float) where
  pub mono_data : pieces (encoded_at encoding order samples 2) (length samples / 2) ≡ data_of encoding order 1 samples
  unfolding data_of
  mono_data = ap (pieces (encoded_at encoding order samples 2)) (sym (mul-one (length samples / 2)))

  pub stereo_data : length samples % 2 ≡ 0 → pieces (encoded_at encoding order samples 1) (length samples) ≡ data_of encoding order 2 samples
  unfolding data_of
  stereo_data h = ap (pieces (encoded_at encoding order samples 1)) (whole (length samples) h)
    where
      whole : (n : ℕ) → n % 2 ≡ 0 → n ≡ n / 2 * 2
      whole n z = omega arith

-- the same of bytes that were written
module _ (order : ByteOrder) (samples : List Float) (start : ℕ) (bytes : List ℕ) {l : List ℕ} where
  pub sides_written : (encoding : Encoding) {channels k : ℕ} {p : List ℕ} → channels ≡ k → p ≡ data_of encoding order k samples → l ≡ put_at start p bytes
      → l ≡ put_at start (data_of encoding order channels samples) bytes
  sides_written encoding e d w = w ∙ ap (λ (x : List ℕ). put_at start x bytes) (d ∙ ap (λ (k : ℕ). data_of encoding order k samples) (sym e))

  pub known_written : (channels : ℕ) {encoding known : Encoding} → encoding ≡ known → l ≡ put_at start (data_of known order channels samples) bytes
      → l ≡ put_at start (data_of encoding order channels samples) bytes
  known_written channels e w = w ∙ ap (λ (x : Encoding). put_at start (data_of x order channels samples) bytes) (sym e)

-- ---- where the values stand

pub left_steps : (n : ℕ) → Steps 2 (n / 2) n
left_steps n = record { apart = omega arith; among = omega arith }

pub all_steps : (n : ℕ) → Steps 1 n n
all_steps n = record { apart = omega arith; among = omega (arith, mul-one n) }
