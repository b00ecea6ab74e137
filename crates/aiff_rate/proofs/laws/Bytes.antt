-- A rate's ten bytes: how often it is doubled, its digits in two words, and that they read back. Assumes nothing.
use mathlib.Core.Path.{◌≡◌, refl, sym, ap, ap₂, ◌∙◌, subst}
use mathlib.Core.Bool.{cond}
use mathlib.Core.List.{List, ◌++◌}
use Prim.Native.Nat.{ℕ, ◌+◌, ◌-◌, ◌*◌, ◌/◌, ◌%◌, ◌^◌, ◌≤◌, ◌<◌}
use native.Mathlib.Nat.{add_assoc, mul_assoc}
use native.Mathlib.Decide.{dec_le}
use native.Mathlib.Omega.{arith}
use lib.Dec.{ltb}
use lib.ListN.{length, get_or}
use lib.Pow.{pow-add}
use Rattle.std.specs.Prelude.{Some, None}
use borrow.Author.Tests.{lt-ltb}
use Rattle.laws.proofs.laws.Choice.{cond-true, picks_lt, leaves_lt}
use Rattle.laws.specs.Pieces.{put_at}
use Rattle.byte_order.specs.declared.bytes.ByteOrder.TheVariants.{Big}
use Rattle.byte_order.specs.Bytes.{number_at, bytes_of}
use Rattle.byte_order.proofs.laws.Fields.{put_three, behind}
use Rattle.aiff_rate.specs.Rate.{unit, least_rate, most_rate, whole_of, whole_at, shift_of, rate_bytes}
use Rattle.aiff_rate.proofs.laws.Whole.{scaled_whole}

-- ---- 64 digits in two words

pub two_words : (bytes : List ℕ) (at : ℕ) → number_at Big bytes at 4 * 4294967296 + number_at Big bytes (at + 4) 4 ≡ number_at Big bytes at 8
unfolding number_at
two_words bytes at =
    omega (arith, here 0, here 1, here 2, here 3)
  where
    here : (i : ℕ) → get_or bytes (at + 4 + i) 0 ≡ get_or bytes (at + (4 + i)) 0
    here i = ap (λ (k : ℕ). get_or bytes k 0) (add_assoc at 4 i)

pub high_word : (h : ℕ) → bytes_of Big 8 (h * 4294967296) ≡ bytes_of Big 4 h ++ bytes_of Big 4 0
unfolding bytes_of
high_word h =
    let n = h * 4294967296 in
    let p : n / 256 ≡ h * 16777216 = omega arith in
    let q : n / 256 / 256 ≡ h * 65536 = ap (λ (x : ℕ). x / 256) p ∙ third h in
    let r : n / 256 / 256 / 256 ≡ h * 256 = ap (λ (x : ℕ). x / 256) q ∙ second h in
    let s : n / 256 / 256 / 256 / 256 ≡ h = ap (λ (x : ℕ). x / 256) r ∙ first h in
    let a : n % 256 ≡ 0 = omega arith in
    let b : n / 256 % 256 ≡ 0 = ap (λ (x : ℕ). x % 256) p ∙ low h in
    let c : n / 256 / 256 % 256 ≡ 0 = ap (λ (x : ℕ). x % 256) q ∙ middle h in
    let d : n / 256 / 256 / 256 % 256 ≡ 0 = ap (λ (x : ℕ). x % 256) r ∙ clear h in
    cc
  where
    third : (h : ℕ) → h * 16777216 / 256 ≡ h * 65536
    third h = omega arith

    second : (h : ℕ) → h * 65536 / 256 ≡ h * 256
    second h = omega arith

    first : (h : ℕ) → h * 256 / 256 ≡ h
    first h = omega arith

    low : (h : ℕ) → h * 16777216 % 256 ≡ 0
    low h = omega arith

    middle : (h : ℕ) → h * 65536 % 256 ≡ 0
    middle h = omega arith

    clear : (h : ℕ) → h * 256 % 256 ≡ 0
    clear h = omega arith

-- ---- how often a rate is doubled

pub record Scales (rate shift : ℕ) : Type 0 where
  pub least : 46 ≤ shift
  pub most : shift ≤ 51
  pub full : 9223372036854775808 ≤ rate * 2 ^ shift
  pub short : rate * 2 ^ (shift - 32) < 4294967296

module _ (rate : ℕ) where
  pub shift_51 : rate < 8192 → 51 ≡ shift_of rate
  unfolding shift_of
  shift_51 h = sym (picks_lt rate 8192 51 _ h)

  module _ (a : 8192 ≤ rate) where
    from_8192 : shift_of rate ≡ cond (ltb rate 16384) 50 (cond (ltb rate 32768) 49 (cond (ltb rate 65536) 48 (cond (ltb rate 131072) 47 46)))
    unfolding shift_of
    from_8192 = leaves_lt rate 8192 51 _ a

    pub shift_50 : rate < 16384 → 50 ≡ shift_of rate
    shift_50 h = sym (from_8192 ∙ picks_lt rate 16384 50 _ h)

    pub shift_49 : 16384 ≤ rate → rate < 32768 → 49 ≡ shift_of rate
    shift_49 b h = sym (from_8192 ∙ leaves_lt rate 16384 50 _ b ∙ picks_lt rate 32768 49 _ h)

    pub shift_48 : 32768 ≤ rate → rate < 65536 → 48 ≡ shift_of rate
    shift_48 b h = sym (from_8192 ∙ leaves_lt rate 16384 50 _ (omega arith) ∙ leaves_lt rate 32768 49 _ b ∙ picks_lt rate 65536 48 _ h)

    pub shift_47 : 65536 ≤ rate → rate < 131072 → 47 ≡ shift_of rate
    shift_47 b h =
        sym (from_8192 ∙ leaves_lt rate 16384 50 _ (omega arith) ∙ leaves_lt rate 32768 49 _ (omega arith) ∙ leaves_lt rate 65536 48 _ b ∙ picks_lt rate 131072 47 46 h)

    pub shift_46 : 131072 ≤ rate → 46 ≡ shift_of rate
    shift_46 b =
        sym (from_8192 ∙ leaves_lt rate 16384 50 _ (omega arith) ∙ leaves_lt rate 32768 49 _ (omega arith) ∙ leaves_lt rate 65536 48 _ (omega arith) ∙ leaves_lt rate 131072 47 46 b)

  scales_at : (k : ℕ) → k ≡ shift_of rate → Scales rate k → Scales rate (shift_of rate)
  scales_at k e s = subst (λ (x : ℕ). Scales rate x) e s

  pub shift_scales : least_rate ≤ rate → rate ≤ most_rate → Scales rate (shift_of rate)
  shift_scales l m = elim (dec_le 8192 rate) [
    | no a ↦ scales_at 51 (shift_51 (omega arith)) (record { least = omega arith; most = omega arith; full = omega arith; short = omega arith })
    | yes a ↦ elim (dec_le 16384 rate) [
      | no b ↦ scales_at 50 (shift_50 a (omega arith)) (record { least = omega arith; most = omega arith; full = omega arith; short = omega arith })
      | yes b ↦ elim (dec_le 32768 rate) [
        | no c ↦ scales_at 49 (shift_49 a b (omega arith)) (record { least = omega arith; most = omega arith; full = omega arith; short = omega arith })
        | yes c ↦ elim (dec_le 65536 rate) [
          | no d ↦ scales_at 48 (shift_48 a c (omega arith)) (record { least = omega arith; most = omega arith; full = omega arith; short = omega arith })
          | yes d ↦ elim (dec_le 131072 rate) [
            | no e ↦ scales_at 47 (shift_47 a d (omega arith)) (record { least = omega arith; most = omega arith; full = omega arith; short = omega arith })
            | yes e ↦ scales_at 46 (shift_46 a e) (record { least = omega arith; most = omega arith; full = omega arith; short = omega arith })
          ]
        ]
      ]
    ]
  ]

-- ---- put, and read back

module _ (rate : ℕ) (l : least_rate ≤ rate) (m : rate ≤ most_rate) where
  in_words : rate * 2 ^ (shift_of rate - 32) * 4294967296 ≡ rate * 2 ^ shift_of rate
  in_words =
      let s = shift_of rate in
      let e : s - 32 + 32 ≡ s = omega (arith, (shift_scales rate l m).least) in
      mul_assoc rate (2 ^ (s - 32)) 4294967296 ∙ ap (λ (x : ℕ). rate * x) (sym (pow-add 2 (s - 32) 32) ∙ ap (λ (k : ℕ). 2 ^ k) e)

  pub digits_short : rate * 2 ^ shift_of rate < 18446744073709551616
  digits_short = omega (arith, in_words, (shift_scales rate l m).short)

  pub rate_put : (bytes : List ℕ) (at : ℕ) {high : ℕ} {n k j : List ℕ} → at + 10 ≤ length bytes → high ≡ rate * 2 ^ (shift_of rate - 32) → n ≡ put_at at (bytes_of Big 2 (unit - shift_of rate)) bytes
      → k ≡ put_at (at + 2) (bytes_of Big 4 high) n → j ≡ put_at (at + 6) (bytes_of Big 4 0) k → j ≡ put_at at (rate_bytes rate) bytes
  unfolding rate_bytes
  rate_put bytes at {high} h z e f g =
      let power = bytes_of Big 2 (unit - shift_of rate) in
      put_three at bytes (omega arith) power (bytes_of Big 4 high) (bytes_of Big 4 0) e f g
      (behind Big 2 (unit - shift_of rate) at (at + 2) refl) (behind Big 4 high (at + 2) (at + 6) (omega arith))
      ∙ ap (λ (x : List ℕ). put_at at (power ++ x) bytes) (sym (high_word high) ∙ ap (bytes_of Big 8) (ap (λ (x : ℕ). x * 4294967296) z ∙ in_words))

  pub whole_back : (bytes : List ℕ) (at : ℕ) → number_at Big bytes at 2 ≡ unit - shift_of rate → number_at Big bytes (at + 2) 8 ≡ rate * 2 ^ shift_of rate → whole_at bytes at ≡ Some rate
  unfolding whole_at
  whole_back bytes at e f =
      let s = shift_of rate in
      ap₂ (λ (p d : ℕ). cond (ltb p 32767) (whole_of unit p d) None) e f
      ∙ cond-true (ltb (unit - s) 32767) _ None (lt-ltb (unit - s) 32767 (omega arith))
      ∙ scaled_whole unit s rate (omega (arith, (shift_scales rate l m).most)) (omega arith)

-- ---- by the power

module _ (bytes : List ℕ) (at : ℕ) where
  pub endless_none : 32767 ≤ number_at Big bytes at 2 → None ≡ whole_at bytes at
  unfolding whole_at
  endless_none h = sym (leaves_lt (number_at Big bytes at 2) 32767 _ None h)

  pub number_whole : number_at Big bytes at 2 < 32767 → whole_of unit (number_at Big bytes at 2) (number_at Big bytes (at + 2) 8) ≡ whole_at bytes at
  unfolding whole_at
  number_whole h = sym (picks_lt (number_at Big bytes at 2) 32767 _ None h)
