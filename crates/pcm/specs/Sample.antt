-- Samples as they are stored: 16-bit whole numbers in two's complement, and 32-bit floats by their bits.
use Rattle.std.specs.Prelude.{◌≡◌, Bool, true, false, cond, List, ℕ, suc, ◌+◌, ◌-◌, ◌*◌, ◌<◌, min, T, eqb, ltb, ℤ, pos, negsuc, neg_ℤ, Float}
use Rattle.std.specs.Float.{nan, inf, fin, binary32}
use Rattle.std.specs.Float.Ieee.{up, down, div, le, neg, of_int, of_bits, to_bits}
use Rattle.rounding.specs.Nearest.{nearest_quotient}
use Rattle.byte_order.specs.declared.bytes.ByteOrder.{ByteOrder}
use Rattle.pcm.specs.declared.sample.Encoding.{Encoding}
use Rattle.pcm.specs.declared.sample.Encoding.TheVariants.{Pcm16, Float32}
use Rattle.byte_order.specs.Bytes.{number_at}

-- -1.0 to 1.0
pub record InRange (x : Float) : Type 0 where
  pub not_below : T (le (neg (of_int binary32 (pos 1))) x)
  pub not_above : T (le x (of_int binary32 (pos 1)))

-- ---- 16-bit values

-- The number that 16 bits stand for, and its bits.
unfoldable pub signed16 : ℕ → ℤ
signed16 bits = cond (ltb bits 32768) (pos bits) (neg_ℤ (pos (65536 - bits)))

unfoldable pub bits16 : ℤ → ℕ
bits16 (pos n) = n
bits16 (negsuc n) = 65536 - suc n

-- v / 32768
unfoldable pub sample_of16 : ℤ → Float
sample_of16 v = div binary32 (of_int binary32 v) (of_int binary32 (pos 32768))

-- The whole number nearest to 32768 x, at a tie the even one, but 32767 at most and -32768 at least.
unfoldable pub nearest16 : Float → ℤ
nearest16 nan = pos 0
nearest16 (inf s) = pos 0
nearest16 (fin false m e) = pos (min (nearest_quotient (m * up e * 32768) (down e)) 32767)
nearest16 (fin true m e) = neg_ℤ (pos (min (nearest_quotient (m * up e * 32768) (down e)) 32768))

-- -32768 to 32767
abbrev pub In16 : ℤ → Type 0
In16 (pos n) = n < 32768
In16 (negsuc n) = n < 32768

-- Whether x is v / 32768 for a whole number v of 16 bits: whether it has the bits of the one that is nearest. Neither -0.0 nor 1.0 has.
unfoldable pub whole16 : Float → Bool
whole16 x = eqb (to_bits binary32 (sample_of16 (nearest16 x))) (to_bits binary32 x)

-- v + 32768, which is not negative.
unfoldable pub raised16 : ℤ → ℕ
raised16 (pos n) = 32768 + n
raised16 (negsuc n) = 32768 - suc n

-- ---- both encodings

-- A sample's bytes.
unfoldable pub width : Encoding → ℕ
width Pcm16 = 2
width Float32 = 4

-- Its bits.
unfoldable pub bits_of : Encoding → ℕ
bits_of Pcm16 = 16
bits_of Float32 = 32

-- The sample that a pattern stands for, and the pattern of a sample.
unfoldable pub sample_of : Encoding → ℕ → Float
sample_of Pcm16 bits = sample_of16 (signed16 bits)
sample_of Float32 bits = of_bits binary32 bits

unfoldable pub pattern_of : Encoding → Float → ℕ
pattern_of Pcm16 x = bits16 (nearest16 x)
pattern_of Float32 x = to_bits binary32 x

-- The sample that begins at a place.
unfoldable pub sample_at : Encoding → ByteOrder → List ℕ → ℕ → Float
sample_at encoding order bytes at = sample_of encoding (number_at order bytes at (width encoding))

-- What comes back from an encoding: of floats every sample, of 16 bits v / 32768 for a whole number v, which neither -0.0 nor 1.0 is.
pub record Whole16 (x : Float) : Type 0 where
  pub value : ℤ
  pub in_range : In16 value
  pub is : x ≡ sample_of16 value

abbrev pub Kept : Encoding → Float → Type 0
Kept Pcm16 x = Whole16 x
Kept Float32 x = Unit {0}
