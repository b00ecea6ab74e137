-- Which samples 16 bits hold: v / 32768, which is an f32 number in -1.0..1.0, and no other. Assumes nothing.
use mathlib.Core.Path.{◌≡◌, refl, sym, ap, ◌∙◌, subst}
use mathlib.Core.Bool.{Bool, true, false, ◌&&◌, ◌||◌}
use Prim.Native.Nat.{ℕ, zero, suc, ◌+◌, ◌-◌, ◌*◌, ◌≤◌, ◌<◌, min}
use native.Mathlib.Nat.{mul-le-mul_right}
use native.Mathlib.Decide.{dec_le}
use native.Mathlib.Omega.{arith}
use lib.Dec.{T, eqb, ltb, lt→ltb}
use lib.IntN.{ℤ, pos, negsuc, neg_ℤ}
use lib.Ieee.{Float, nan, inf, fin, binary32, up, down, round, level, le, lt, eq, neg, of_int, of_bits, to_bits, fits}
use lib.Ieee.Bits.{of_bits-to_bits, of_bits-fits}
use lib.Ieee.Exact.{HasValue}
use lib.Ieee.Fits.{down_pos, round-fits}
use borrow.Author.Tests.{eq-eqb, eqb-true, lt-ltb, le-ltb}
use Rattle.laws.proofs.laws.Choice.{cond-true, cond-false}
use Rattle.laws.proofs.laws.FloatBounds.{holds_value}
use Rattle.pcm.specs.declared.sample.Encoding.{Encoding}
use Rattle.pcm.specs.declared.sample.Encoding.TheVariants.{Pcm16, Float32}
use Rattle.pcm.specs.Sample.{InRange, In16, Whole16, signed16, sample_of16, nearest16, whole16, sample_of, pattern_of}
use Rattle.pcm.proofs.laws.Sixteen.{quotient16}
use Rattle.pcm.proofs.laws.Back.{scaled, plus_is, minus_is, nearest_own, signed_bits}

-- ---- 16-bit values

neg_in : (n : ℕ) → n ≤ 32768 → In16 (neg_ℤ (pos n))
neg_in zero h = omega arith
neg_in (suc n) h = h

pub nearest_in : (x : Float) → In16 (nearest16 x)
unfolding nearest16
nearest_in nan = omega arith
nearest_in (inf s) = omega arith
nearest_in (fin false m e) = omega arith
nearest_in (fin true m e) = neg_in (min (quotient16 m e) 32768) (omega arith)

pub signed_in : (bits : ℕ) → In16 (signed16 bits)
unfolding signed16
signed_in bits = elim (dec_le 32768 bits) [
  | yes h ↦ subst In16 (sym (cond-false (ltb bits 32768) (pos bits) (neg_ℤ (pos (65536 - bits))) (le-ltb bits 32768 h))) (neg_in (65536 - bits) (omega arith))
  | no h ↦
      let k : bits < 32768 = omega arith in
      subst In16 (sym (cond-true (ltb bits 32768) (pos bits) (neg_ℤ (pos (65536 - bits))) (lt-ltb bits 32768 k))) k
]

-- ---- v / 32768 is an f32 number

value_fits : (v : ℤ) → In16 v → T (fits binary32 (sample_of16 v))
value_fits (pos n) h = subst (λ (x : Float). T (fits binary32 x)) (sym (plus_is n (omega arith))) (round-fits binary32 false n 32768)
value_fits (negsuc n) h = subst (λ (x : Float). T (fits binary32 x)) (sym (minus_is n h)) (round-fits binary32 true (suc n) 32768)

pub sample_fits : (encoding : Encoding) (bits : ℕ) → T (fits binary32 (sample_of encoding bits))
unfolding sample_of
sample_fits Pcm16 bits = value_fits (signed16 bits) (signed_in bits)
sample_fits Float32 bits = of_bits-fits binary32 bits

-- ---- in -1.0..1.0

or_left : (p q : Bool) → T p → T (p || q)
or_left true q t = tt
or_left false q t = absurd t

or_right : (p q : Bool) → T q → T (p || q)
or_right true q t = tt
or_right false q t = t

at_most : (a b : ℕ) → a ≤ b → T (ltb a b || (eqb a b && true))
at_most a b h = elim (dec_le b a) [
  | yes k ↦
      let e : a ≡ b = omega arith in
      or_right (ltb a b) (eqb a b && true) (subst (λ (t : Bool). T (t && true)) (sym (eq-eqb a b e)) tt)
  | no k ↦ or_left (ltb a b) (eqb a b && true) (lt→ltb a b (omega arith))
]

at_least : (a b : ℕ) → b ≤ a → T (ltb b a || (eqb a b && true))
at_least a b h = elim (dec_le a b) [
  | yes k ↦
      let e : a ≡ b = omega arith in
      or_right (ltb b a) (eqb a b && true) (subst (λ (t : Bool). T (t && true)) (sym (eq-eqb a b e)) tt)
  | no k ↦ or_left (ltb b a) (eqb a b && true) (lt→ltb b a (omega arith))
]

sized : (p d n : ℕ) → n ≤ 32768 → p * 32768 ≡ n * d → p ≤ d
sized p d n h e =
    let g : n * d ≤ 32768 * d = mul-le-mul_right d h in
    omega arith

by_value : (x : Float) (s : Bool) (n : ℕ) → n ≤ 32768 → HasValue x s n 32768 → InRange x
unfolding le lt eq neg of_int
by_value nan s n h v = absurd v
by_value (inf t) s n h v = absurd v
by_value (fin false m e) s n h v =
    let k : m * up e ≤ down e = sized (m * up e) (down e) n h v.1 in
    record {
      not_below = or_left (ltb 0 (1 * 1 * down e + m * up e * 1)) (level true (1 * 1 * down e) false (m * up e * 1)) (lt→ltb 0 (1 * 1 * down e + m * up e * 1) (omega (arith, down_pos e)));
      not_above = at_most (m * up e * 1) (1 * 1 * down e) (omega arith);
    }
by_value (fin true m e) s n h v =
    let k : m * up e ≤ down e = sized (m * up e) (down e) n h v.1 in
    record {
      not_below = at_least (1 * 1 * down e) (m * up e * 1) (omega arith);
      not_above = or_left (ltb 0 (m * up e * 1 + 1 * 1 * down e)) (level true (m * up e * 1) false (1 * 1 * down e)) (lt→ltb 0 (m * up e * 1 + 1 * 1 * down e) (omega (arith, down_pos e)));
    }

value_in_range : (v : ℤ) → In16 v → InRange (sample_of16 v)
value_in_range (pos n) h =
    subst InRange (sym (plus_is n (omega arith))) (by_value (round binary32 false n 32768) false n (omega arith) (holds_value false (scaled n (omega arith))))
value_in_range (negsuc n) h =
    subst InRange (sym (minus_is n h)) (by_value (round binary32 true (suc n) 32768) true (suc n) h (holds_value true (scaled (suc n) h)))

pub whole_in_range : (x : Float) → Whole16 x → InRange x
whole_in_range x w = subst InRange (sym w.is) (value_in_range w.value w.in_range)

-- ---- what 16 bits stand for is such a sample

pub stored_whole : (bits : ℕ) → Whole16 (sample_of Pcm16 bits)
unfolding sample_of
stored_whole bits = record { value = signed16 bits; in_range = signed_in bits; is = refl }

-- ---- the test

pub own_value : (x : Float) → sample_of Pcm16 (pattern_of Pcm16 x) ≡ sample_of16 (nearest16 x)
unfolding sample_of pattern_of
own_value x = ap sample_of16 (signed_bits (nearest16 x) (nearest_in x))

-- the test, of what was made on the way
pub own_told : (x : Float) {n a b : ℕ} {y : Float} → n ≡ pattern_of Pcm16 x → y ≡ sample_of Pcm16 n → a ≡ to_bits binary32 y → b ≡ to_bits binary32 x → eqb a b ≡ whole16 x
unfolding whole16
own_told x p q r s = cc (own_value x)

-- x passes it exactly where it is v / 32768
pub whole_passes : (x : Float) → Whole16 x → whole16 x ≡ true
unfolding whole16
whole_passes x w =
    eq-eqb (to_bits binary32 (sample_of16 (nearest16 x))) (to_bits binary32 x)
    (ap (to_bits binary32) (ap (λ (y : Float). sample_of16 (nearest16 y)) w.is ∙ ap sample_of16 (nearest_own w.value w.in_range) ∙ sym w.is))

pub passes_whole : (x : Float) → T (fits binary32 x) → whole16 x ≡ true → Whole16 x
unfolding whole16
passes_whole x F e =
    let y = sample_of16 (nearest16 x) in
    record {
      value = nearest16 x;
      in_range = nearest_in x;
      is =
          sym (of_bits-to_bits binary32 x F)
          ∙ ap (of_bits binary32) (sym (eqb-true (to_bits binary32 y) (to_bits binary32 x) e))
          ∙ of_bits-to_bits binary32 y (value_fits (nearest16 x) (nearest_in x));
    }

pub outside_fails : (x : Float) → T (fits binary32 x) → (InRange x → ⊥) → false ≡ whole16 x
outside_fails x F n = go (whole16 x) refl
  where
    go : (b : Bool) → whole16 x ≡ b → false ≡ b
    go true e = absurd (n (whole_in_range x (passes_whole x F e)))
    go false e = refl
