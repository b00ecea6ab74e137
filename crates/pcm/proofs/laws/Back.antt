-- What comes back from a sample's pattern: from 32-bit floats every sample, from 16 bits every v / 32768. -0.0 and 1.0 don't come back from
-- 16 bits. Assumes nothing.
use mathlib.Core.Path.{◌≡◌, refl, sym, ap, ◌∙◌, subst}
use mathlib.Core.Bool.{Bool, true, false, true≢false}
use Prim.Native.Nat.{ℕ, suc, ◌-◌, ◌*◌, ◌^◌, ◌≤◌, ◌<◌, min}
use native.Mathlib.Nat.{mul-one, mul-pos, mul_comm, mul_assoc}
use native.Mathlib.Omega.{arith}
use lib.Dec.{T, ltb}
use borrow.Author.Tests.{lt-ltb, le-ltb}
use lib.IntN.{ℤ, pos, negsuc, neg_ℤ}
use lib.Ieee.{Float, nan, inf, fin, binary32, up, down, round, div, of_int, fits}
use lib.Ieee.Bits.{of_bits-to_bits, to_bits-lt}
use lib.Ieee.Exact.{HasValue}
use lib.Ieee.Fits.{down_pos, round-fits}
use lib.Ieee.Scale.{round_same}
use Rattle.laws.proofs.laws.Choice.{cond-true, cond-false}
use Rattle.laws.specs.Float.{pos_zero, neg_zero, one}
use Rattle.laws.proofs.laws.FloatBounds.{Holds, holds_value, holds_small, holds_scaled}
use Rattle.laws.proofs.laws.FloatValue.{value_unique}
use Rattle.rounding.specs.Nearest.{nearest_quotient}
use Rattle.rounding.proofs.laws.Nearest.{nearest_quotient_is}
use Rattle.pcm.specs.declared.sample.Encoding.{Encoding}
use Rattle.pcm.specs.declared.sample.Encoding.TheVariants.{Pcm16, Float32}
use Rattle.pcm.specs.Sample.{In16, Whole16, Kept, signed16, bits16, sample_of16, nearest16, width, sample_of, pattern_of}
use Rattle.pcm.proofs.laws.Sixteen.{from_raised}

-- ---- v / 32768 is exact

pub scaled : (n : ℕ) → n ≤ 32768 → Holds binary32 n 32768
scaled n h = subst (λ (x : ℕ). Holds binary32 x 32768) (mul-one n) (holds_scaled binary32 n 24 0 15 (omega arith) (omega arith) (omega arith) (omega arith))

one_sign : (t s : Bool) (n d a : ℕ) → 0 < d → t ≡ s → n * 1 ≡ a * d → round binary32 t (n * 1) (32768 * d) ≡ round binary32 s a 32768
one_sign t s n d a D e v =
    round_same binary32 t (n * 1) (32768 * d) a 32768 (mul-pos (omega arith) D) (omega arith)
    (ap (λ (x : ℕ). x * 32768) v ∙ mul_assoc a d 32768 ∙ ap (λ (x : ℕ). a * x) (mul_comm d 32768))
    ∙ ap (λ (b : Bool). round binary32 b a 32768) e

divided : (x : Float) (s : Bool) (a : ℕ) → HasValue x s a 1 → div binary32 x (fin false 1 (pos 15)) ≡ round binary32 s a 32768
unfolding div
divided nan s a v = absurd v
divided (inf t) s a v = absurd v
divided (fin false m e) s a v = one_sign false s (m * up e) (down e) a (down_pos e) v.0 v.1
divided (fin true m e) s a v = one_sign true s (m * up e) (down e) a (down_pos e) v.0 v.1

whole : (s : Bool) (n : ℕ) → n ≤ 32768 → HasValue (round binary32 s n 1) s n 1
whole s n h = holds_value s (holds_small binary32 n (omega arith))

pub plus_is : (n : ℕ) → n ≤ 32768 → sample_of16 (pos n) ≡ round binary32 false n 32768
unfolding sample_of16 of_int
plus_is n h = divided (round binary32 false n 1) false n (whole false n h)

pub minus_is : (n : ℕ) → n < 32768 → sample_of16 (negsuc n) ≡ round binary32 true (suc n) 32768
unfolding sample_of16 of_int
minus_is n h = divided (round binary32 true (suc n) 1) true (suc n) (whole true (suc n) h)

-- ---- and its nearest 16-bit value is v

own : (n d : ℕ) → 0 < d → nearest_quotient (n * d) d ≡ n
own n d D = nearest_quotient_is (n * d) d n D (record { not_below = omega arith; not_above = omega arith; even_below = λ e. absurd (omega arith); even_above = λ e. absurd (omega arith) })

nearest_plus : (x : Float) (n : ℕ) → n ≤ 32767 → HasValue x false n 32768 → nearest16 x ≡ pos n
unfolding nearest16
nearest_plus nan n h v = absurd v
nearest_plus (inf s) n h v = absurd v
nearest_plus (fin true m e) n h v = absurd (true≢false v.0)
nearest_plus (fin false m e) n h v =
    let q : nearest_quotient (m * up e * 32768) (down e) ≡ n = ap (λ (a : ℕ). nearest_quotient a (down e)) v.1 ∙ own n (down e) (down_pos e) in
    ap pos (omega arith)

nearest_minus : (x : Float) (n : ℕ) → n < 32768 → HasValue x true (suc n) 32768 → nearest16 x ≡ negsuc n
unfolding nearest16
nearest_minus nan n h v = absurd v
nearest_minus (inf s) n h v = absurd v
nearest_minus (fin false m e) n h v = absurd (true≢false (sym v.0))
nearest_minus (fin true m e) n h v =
    let q : nearest_quotient (m * up e * 32768) (down e) ≡ suc n = ap (λ (a : ℕ). nearest_quotient a (down e)) v.1 ∙ own (suc n) (down e) (down_pos e) in
    let r : min (nearest_quotient (m * up e * 32768) (down e)) 32768 ≡ suc n = omega arith in
    ap (λ (a : ℕ). neg_ℤ (pos a)) r

pub nearest_own : (v : ℤ) → In16 v → nearest16 (sample_of16 v) ≡ v
nearest_own (pos n) h =
    ap nearest16 (plus_is n (omega arith)) ∙ nearest_plus (round binary32 false n 32768) n (omega arith) (holds_value false (scaled n (omega arith)))
nearest_own (negsuc n) h =
    ap nearest16 (minus_is n h) ∙ nearest_minus (round binary32 true (suc n) 32768) n h (holds_value true (scaled (suc n) h))

-- ---- bits and value

pub signed_bits : (v : ℤ) → In16 v → signed16 (bits16 v) ≡ v
unfolding signed16 bits16
signed_bits (pos n) h = cond-true (ltb n 32768) (pos n) _ (lt-ltb n 32768 h)
signed_bits (negsuc n) h =
    let b = 65536 - suc n in
    cond-false (ltb b 32768) (pos b) (neg_ℤ (pos (65536 - b))) (le-ltb b 32768 (omega arith))
    ∙ ap (λ (a : ℕ). neg_ℤ (pos a)) (back n h)
  where
    back : (n : ℕ) → n < 32768 → 65536 - (65536 - suc n) ≡ suc n
    back n h = omega arith

-- ---- both encodings

-- a pattern fills its bytes
pub pattern_fits : (encoding : Encoding) (x : Float) → T (fits binary32 x) → pattern_of encoding x < 256 ^ width encoding
unfolding pattern_of width
pattern_fits Pcm16 x F = omega (arith, (from_raised x).bits)
pattern_fits Float32 x F = to_bits-lt binary32 x F

whole_back : (x : Float) → Whole16 x → sample_of16 (signed16 (bits16 (nearest16 x))) ≡ x
whole_back x w =
    ap (λ (y : Float). sample_of16 (signed16 (bits16 (nearest16 y)))) w.is
    ∙ ap (λ (v : ℤ). sample_of16 (signed16 (bits16 v))) (nearest_own w.value w.in_range)
    ∙ ap sample_of16 (signed_bits w.value w.in_range)
    ∙ sym w.is

pub kept_back : (encoding : Encoding) (x : Float) → T (fits binary32 x) → Kept encoding x → sample_of encoding (pattern_of encoding x) ≡ x
unfolding sample_of pattern_of
kept_back Pcm16 x F k = whole_back x k
kept_back Float32 x F k = of_bits-to_bits binary32 x F

-- ---- a whole multiple of 1 / 32768 below 1.0, other than -0.0, is such a value

pub plus_multiple : (x : Float) (n : ℕ) → T (fits binary32 x) → n < 32768 → HasValue x false n 32768 → Whole16 x
plus_multiple x n F h v = record {
  value = pos n;
  in_range = h;
  is = value_unique binary32 x (round binary32 false n 32768) false n 32768 (omega arith) F (round-fits binary32 false n 32768) v (holds_value false (scaled n (omega arith))) ∙ sym (plus_is n (omega arith));
}

pub minus_multiple : (x : Float) (n : ℕ) → T (fits binary32 x) → n < 32768 → HasValue x true (suc n) 32768 → Whole16 x
minus_multiple x n F h v = record {
  value = negsuc n;
  in_range = h;
  is = value_unique binary32 x (round binary32 true (suc n) 32768) true (suc n) 32768 (omega arith) F (round-fits binary32 true (suc n) 32768) v (holds_value true (scaled (suc n) h)) ∙ sym (minus_is n h);
}

-- ---- the two that don't come back: -0.0 becomes 0.0, and 1.0 becomes 32767 / 32768

pub minus_zero_lost : sample_of Pcm16 (pattern_of Pcm16 neg_zero) ≡ pos_zero
unfolding sample_of pattern_of sample_of16 signed16 bits16 nearest16 nearest_quotient div of_int
minus_zero_lost = refl

pub one_lost : sample_of Pcm16 (pattern_of Pcm16 one) ≡ fin false 32767 (negsuc 14)
unfolding sample_of pattern_of sample_of16 signed16 bits16 nearest16 nearest_quotient div of_int
one_lost = refl
