-- What each encoding's definitions come to, and what comes back from a sample's pattern. Assumes nothing.
use mathlib.Core.Path.{◌≡◌, refl, ap}
use mathlib.Core.List.{List}
use Prim.Native.Nat.{ℕ}
use lib.Ieee.{Float, binary32, of_bits}
use Rattle.byte_order.specs.declared.bytes.ByteOrder.{ByteOrder}
use Rattle.pcm.specs.declared.sample.Encoding.{Encoding}
use Rattle.pcm.specs.declared.sample.Encoding.TheVariants.{Pcm16, Float32}
use Rattle.laws.specs.Pieces.{put_at}
use Rattle.byte_order.specs.Bytes.{number_at, bytes_of}
use Rattle.pcm.specs.Sample.{width, sample_of, sample_at, pattern_of}

pub pcm_width : (encoding : Encoding) → encoding ≡ Pcm16 → width encoding ≡ 2
unfolding width
pcm_width encoding e = ap width e

pub float_width : (encoding : Encoding) → encoding ≡ Float32 → width encoding ≡ 4
unfolding width
float_width encoding e = ap width e

pub pcm_at : (order : ByteOrder) (bytes : List ℕ) (at : ℕ) → sample_at Pcm16 order bytes at ≡ sample_of Pcm16 (number_at order bytes at 2)
unfolding sample_at width
pcm_at order bytes at = refl

pub float_at : (order : ByteOrder) (bytes : List ℕ) (at : ℕ) → sample_at Float32 order bytes at ≡ of_bits binary32 (number_at order bytes at 4)
unfolding sample_at width sample_of
float_at order bytes at = refl

-- the same of a number that was read
module _ (order : ByteOrder) (bytes : List ℕ) (at : ℕ) {encoding : Encoding} {n : ℕ} {x : Float} where
  pub pcm_read : encoding ≡ Pcm16 → n ≡ number_at order bytes at 2 → x ≡ sample_of Pcm16 n → x ≡ sample_at encoding order bytes at
  pcm_read e p q = cc (pcm_at order bytes at)

  pub float_read : encoding ≡ Float32 → n ≡ number_at order bytes at 4 → x ≡ of_bits binary32 n → x ≡ sample_at encoding order bytes at
  float_read e p q = cc (float_at order bytes at)

-- a sample's bytes, of a pattern that was made
module _ (order : ByteOrder) (bytes : List ℕ) (at : ℕ) (x : Float) {encoding : Encoding} {n : ℕ} {l : List ℕ} where
  pub pcm_put : encoding ≡ Pcm16 → n ≡ pattern_of Pcm16 x → l ≡ put_at at (bytes_of order 2 n) bytes → l ≡ put_at at (bytes_of order (width encoding) (pattern_of encoding x)) bytes
  pcm_put e p q = cc (pcm_width encoding e)

  pub float_put : encoding ≡ Float32 → n ≡ pattern_of Float32 x → l ≡ put_at at (bytes_of order 4 n) bytes → l ≡ put_at at (bytes_of order (width encoding) (pattern_of encoding x)) bytes
  float_put e p q = cc (float_width encoding e)
