-- The number that 16 bits stand for, as the code works it out. Assumes nothing.
use mathlib.Core.Path.{◌≡◌, sym, ap, ◌∙◌, subst}
use Prim.Native.Nat.{ℕ, suc, ◌+◌, ◌-◌, ◌%◌, ◌≤◌, ◌<◌}
use native.Mathlib.Decide.{dec_le}
use native.Mathlib.Omega.{arith}
use lib.Dec.{T, ltb, lt→ltb, le→leb}
use lib.IntN.{ℤ, pos, negsuc, neg_ℤ, ◌-ℤ◌, sub_ℕ}
use lib.Ieee.{binary32, in_float}
use borrow.Author.Tests.{lt-ltb, le-ltb}
use mir.Syntax.{w32}
use mir.Val.{SFits, to_z, of_z}
use mir.Facts.{to_z_pos, to_z-of_z}
use Rattle.laws.proofs.laws.Choice.{cond-true, cond-false}
use Rattle.pcm.specs.Sample.{signed16}

-- a number of 16 bits: an i32 and an f32 hold it
pub record Small (v : ℤ) : Type 0 where
  pub in_word : SFits w32 v
  pub in_float32 : T (in_float binary32 v)

small_pos : (n : ℕ) → n < 32768 → Small (pos n)
unfolding in_float
small_pos n h = record { in_word = record { sfits = omega arith }; in_float32 = le→leb n 16777216 (omega arith) }

small_neg : (n : ℕ) → n < 32768 → Small (negsuc n)
unfolding in_float
small_neg n h = record { in_word = record { sfits = omega arith }; in_float32 = lt→ltb n 16777216 (omega arith) }

-- v, from its bits raised by 32768
abbrev lowered : ℕ → ℤ
lowered bits = to_z w32 ((bits + 32768) % 65536) -ℤ pos 32768

lowered_is : (bits : ℕ) → lowered bits ≡ sub_ℕ ((bits + 32768) % 65536) 32768
lowered_is bits = ap (λ (z : ℤ). z -ℤ pos 32768) (to_z_pos w32 {n = (bits + 32768) % 65536} (omega arith))

module _ (bits : ℕ) (h : bits < 32768) where
  plus_is : signed16 bits ≡ pos bits
  unfolding signed16
  plus_is = cond-true (ltb bits 32768) (pos bits) (neg_ℤ (pos (65536 - bits))) (lt-ltb bits 32768 h)

  plus_lowered : lowered bits ≡ pos bits
  plus_lowered =
      let q = (bits + 32768) % 65536 in
      lowered_is bits
      ∙ cond-false (ltb q 32768) (negsuc (32768 - suc q)) (pos (q - 32768)) (le-ltb q 32768 (omega arith))
      ∙ ap pos (omega arith)

module _ (bits : ℕ) (h : 32768 ≤ bits) (u : bits < 65536) where
  negated : (n k : ℕ) → n ≡ suc k → neg_ℤ (pos n) ≡ negsuc k
  negated n k e = ap (λ (x : ℕ). neg_ℤ (pos x)) e

  minus_is : signed16 bits ≡ negsuc (65535 - bits)
  unfolding signed16
  minus_is =
      cond-false (ltb bits 32768) (pos bits) (neg_ℤ (pos (65536 - bits))) (le-ltb bits 32768 h)
      ∙ negated (65536 - bits) (65535 - bits) (omega arith)

  minus_lowered : lowered bits ≡ negsuc (65535 - bits)
  minus_lowered =
      let q = (bits + 32768) % 65536 in
      lowered_is bits
      ∙ cond-true (ltb q 32768) (negsuc (32768 - suc q)) (pos (q - 32768)) (lt-ltb q 32768 (omega arith))
      ∙ ap negsuc (omega arith)

pub lowered_signed : (bits : ℕ) → bits < 65536 → lowered bits ≡ signed16 bits
lowered_signed bits u = elim (dec_le 32768 bits) [
  | yes h ↦ minus_lowered bits h u ∙ sym (minus_is bits h u)
  | no h ↦ let k : bits < 32768 = omega arith in plus_lowered bits k ∙ sym (plus_is bits k)
]

pub signed_small : (bits : ℕ) → bits < 65536 → Small (signed16 bits)
signed_small bits u = elim (dec_le 32768 bits) [
  | yes h ↦ subst (λ (z : ℤ). Small z) (sym (minus_is bits h u)) (small_neg (65535 - bits) (omega arith))
  | no h ↦ let k : bits < 32768 = omega arith in subst (λ (z : ℤ). Small z) (sym (plus_is bits k)) (small_pos bits k)
]

-- what the code asks of its v, and what v is
module _ (bits : ℕ) (u : bits < 65536) where
  pub lowered_fits : SFits w32 (lowered bits)
  lowered_fits = subst (λ (z : ℤ). SFits w32 z) (sym (lowered_signed bits u)) (signed_small bits u).in_word

  pub loaded : to_z w32 (of_z w32 (lowered bits)) ≡ signed16 bits
  loaded = to_z-of_z lowered_fits ∙ lowered_signed bits u

  pub loaded_float : T (in_float binary32 (to_z w32 (of_z w32 (lowered bits))))
  loaded_float = subst (λ (z : ℤ). T (in_float binary32 z)) (sym loaded) (signed_small bits u).in_float32
