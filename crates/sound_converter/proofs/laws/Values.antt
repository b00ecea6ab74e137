-- The values of a file's data: which are whole, and how they are copied. Assumes nothing.
use mathlib.Core.Path.{◌≡◌, refl, sym, ap, ◌∙◌}
use mathlib.Core.Logic.{◌⊎◌, inl, inr}
use mathlib.Core.Bool.{true}
use mathlib.Core.List.{List}
use Prim.Native.Nat.{ℕ, ◌+◌, ◌*◌, ◌≤◌}
use native.Mathlib.Omega.{arith}
use lib.Dec.{T}
use lib.ListN.{length}
use lib.Ieee.{Float, binary32, fits}
use Rattle.laws.specs.Pieces.{pieces, put_at}
use Rattle.scene_tables.specs.Bytes.{every}
use Rattle.scene_tables.proofs.laws.Every.{every_at}
use Rattle.byte_order.specs.declared.bytes.ByteOrder.{ByteOrder}
use Rattle.byte_order.specs.Bytes.{number_at, bytes_of}
use Rattle.byte_order.proofs.laws.Bytes.{length_bytes}
use Rattle.pcm.specs.declared.sample.Encoding.{Encoding}
use Rattle.pcm.specs.declared.sample.Encoding.TheVariants.{Pcm16, Float32}
use Rattle.pcm.specs.Sample.{whole16, width, sample_at, pattern_of}
use Rattle.pcm.proofs.laws.Whole.{sample_fits, stored_whole, passes_whole}
use Rattle.sound_data.specs.Data.{value_at}
use Rattle.sound_data.proofs.laws.Written.{piece_turn}
use Rattle.sound_converter.specs.Convert.{AllWhole, keeps16, value_as16, values_most}

-- ---- how many

pub values_most_lem : (f c : ℕ) → f ≤ 4294967295 → (c ≡ 1) ⊎ (c ≡ 2) → f * c ≤ values_most
values_most_lem f c h (inl e) = let z : f * c ≡ f * 1 = ap (λ (x : ℕ). f * x) e in omega arith
values_most_lem f c h (inr e) = let z : f * c ≡ f * 2 = ap (λ (x : ℕ). f * x) e in omega arith

-- ---- 16 bits hold them

module _ (order : ByteOrder) (bytes : List ℕ) (start : ℕ) where
  pub value_fits : (encoding : Encoding) (k : ℕ) → T (fits binary32 (value_at encoding order bytes start k))
  unfolding value_at sample_at
  value_fits encoding k = sample_fits encoding (number_at order bytes (start + k * width encoding) (width encoding))

  module _ (count : ℕ) where
    pub pcm_whole : AllWhole Pcm16 order bytes start count
    unfolding value_at sample_at
    pcm_whole = record { each = λ k h. stored_whole (number_at order bytes (start + k * width Pcm16) (width Pcm16)) }

    float_whole : every count (λ k. whole16 (value_at Float32 order bytes start k)) ≡ true → AllWhole Float32 order bytes start count
    float_whole e = record {
      each = λ k h. passes_whole (value_at Float32 order bytes start k) (value_fits Float32 k) (every_at count (λ j. whole16 (value_at Float32 order bytes start j)) k h e);
    }

    pub keeps_whole : (encoding : Encoding) → keeps16 encoding order bytes start count ≡ true → AllWhole encoding order bytes start count
    unfolding keeps16
    keeps_whole Pcm16 e = pcm_whole
    keeps_whole Float32 e = float_whole e

    pub keeps_pcm : (encoding : Encoding) → encoding ≡ Pcm16 → true ≡ keeps16 encoding order bytes start count
    unfolding keeps16
    keeps_pcm encoding e = sym (ap (λ (x : Encoding). keeps16 x order bytes start count) e)

    pub keeps_float : (encoding : Encoding) → encoding ≡ Float32 → every count (λ k. whole16 (value_at Float32 order bytes start k)) ≡ keeps16 encoding order bytes start count
    unfolding keeps16
    keeps_float encoding e = sym (ap (λ (x : Encoding). keeps16 x order bytes start count) e)

-- ---- copied one after the other

module _ (encoding : Encoding) (order : ByteOrder) (bytes : List ℕ) (start : ℕ) (into : ByteOrder) (place : ℕ) (l : List ℕ) where
  as16_length : (k : ℕ) → length (value_as16 encoding order bytes start into k) ≡ width Pcm16
  unfolding value_as16
  as16_length k = length_bytes into (width Pcm16) _

  pub copy_turn : (i : ℕ) {to : ℕ} {x : Float} {now last : List ℕ} → place ≤ length l → to ≡ place + i * width Pcm16 → x ≡ value_at encoding order bytes start i
      → now ≡ put_at place (pieces (value_as16 encoding order bytes start into) i) l → last ≡ put_at to (bytes_of into (width Pcm16) (pattern_of Pcm16 x)) now
      → last ≡ put_at place (pieces (value_as16 encoding order bytes start into) (i + 1)) l
  unfolding value_as16
  copy_turn i {to} {x} {now} h p v n q =
      piece_turn (value_as16 encoding order bytes start into) (width Pcm16) as16_length place l i h p n
      (q ∙ ap (λ (y : Float). put_at to (bytes_of into (width Pcm16) (pattern_of Pcm16 y)) now) v)

-- a value's bytes, by a number for their width
pub pcm_step : (place i : ℕ) → place + i * 2 ≡ place + i * width Pcm16
unfolding width
pcm_step place i = refl

pub float_value : (order : ByteOrder) (bytes : List ℕ) (start k : ℕ) → sample_at Float32 order bytes (start + k * 4) ≡ value_at Float32 order bytes start k
unfolding value_at width
float_value order bytes start k = refl
