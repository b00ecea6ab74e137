-- Laws of the segments: where a segment holds a level, the curve between its two entries gives the level's amplitude.
-- Assumes nothing.
use mathlib.Core.Path.{◌≡◌, refl, sym, ap, ◌∙◌, subst}
use mathlib.Core.Bool.{Bool, true, false, cond, not, ◌||◌, beq, true≢false}
use Prim.Native.Nat.{ℕ, zero, suc, ◌+◌, ◌-◌, ◌*◌, ◌/◌, ◌^◌, ◌≤◌, ◌<◌}
use native.Mathlib.Nat.{le_trans, le_of_eq, le_of_lt, lt_of_le_of_lt, lt_of_lt_of_le, zero-lt-suc, le-add_right, add_comm, mul-one, one-mul, zero-mul, suc-mul, mul_comm, mul_assoc, mul_left_comm, mul_right_comm, mul-pos, add-mul, mul-le-mul_right, mul-lt-mul_of_pos_right, lt_of_mul-lt-mul_right, div-eq_of_lt-le, mod-eq-sub-div-mul}
use native.Mathlib.Numerals.{add-one}
use native.Mathlib.Omega.{arith}
use lib.IntN.{ℤ, pos, negsuc}
use lib.Dec.{T, ltb, eqb, ltb→lt, nltb→le, lt→ltb, eqb→eq, not_T, T_not, lit<, lit≤}
use lib.Pow.{pow-add, pow_pos, pow_mono, pow-lt, shl_lt}
use lib.Ieee.{Float, nan, inf, fin, binary32, binary64, up, down, below, round, neg, add, sub, mul, div, lt, eq, le, fits, is_nan, of_int}
use lib.Ieee.Bits.{is_false}
use lib.Ieee.Fits.{and_l, and_r, up_pos, down_pos, round-fits}
use lib.Ieee.Exact.{HasValue, round_exact}
use lib.Ieee.Scale.{finite, round_same}
use lib.Ieee.Back.{round_whole}
use Rattle.laws.proofs.laws.Arithmetic.{or_ge}
use Rattle.rounding.specs.Narrow.{narrowed, IsNormal}
use Rattle.rounding.proofs.laws.Normal.{between_normal}
use Rattle.gain_table.specs.GainTable.{entry, entries}
use Rattle.laws.proofs.laws.Choice.{cond-false}
use Rattle.laws.specs.Float.{pos_zero, whole}
use Rattle.laws.proofs.laws.Float.{Zero, zero_of, fits_parts, fits_zero}
use Rattle.laws.proofs.laws.FloatValue.{round_not_zero}
use Rattle.laws.specs.FloatOrder.{Number, magnitude, plus, minus}
use Rattle.laws.proofs.laws.FloatOrder.{value_finite}
use Rattle.laws.specs.FloatRound.{Between}
use Rattle.laws.proofs.laws.FloatRound.{number, units_least, at_integer, div_least}
use Rattle.laws.proofs.laws.Amount.{InUnit, round_amount}
use Rattle.gain_segment.specs.declared.segment.Segment.{Segment}
use Rattle.decibels.specs.Decibels.{silence, last_entry, admitted, sixteenths, entry_below, rest_above, line_at, correction_at, curve_at, curve, amplitude}
use Rattle.decibels.proofs.laws.Position.{sixteen, steps, entry_most, sub_at, sub_under, add_at, negated, whole_value, by_16}
use Rattle.decibels.proofs.laws.Correction.{in_row, low_end_lem, high_end_lem}
use Rattle.decibels.proofs.laws.Decibels.{to_top, quotient_between, curve_least, curve_most, ends_rise, curve_inside}
use Rattle.gain_segment.specs.Segment.{steps_at, decibels_at, segment, segment_of, IsSegment, contains}

-- ---- the segment of a level is one of the table's

pub segment_few : (n : Float) → T (fits binary32 n) → T (admitted n) → segment_of n ≤ last_entry
unfolding segment_of
segment_few n f t =
    picked (eq n (whole 0)) 960 (cond (le n silence) 0 (entry_below n)) (λ e. lit≤ tt)
    (λ e. picked (le n silence) 0 (entry_below n) (λ l. lit≤ tt) (λ l. entry_most n (steps n f t l e)))
  where
    picked : (b : Bool) (x y : ℕ) → (T b → x ≤ last_entry) → (T (not b) → y ≤ last_entry) → cond b x y ≤ last_entry
    picked true x y p q = p tt
    picked false x y p q = q tt

pub segment_is : (n : Float) → T (fits binary32 n) → T (admitted n) → IsSegment (segment (segment_of n))
segment_is n f t = record { number = segment_of n; there = segment_few n f t; is = refl }

-- ---- where entry k stands: ±gap k sixteenths, exactly, and below 0 where k is below 960

abbrev gap : ℕ → ℕ
gap k = 960 - k + (k - 960)

steps_value : (k : ℕ) → k < entries → HasValue (steps_at k) (ltb k 960) (gap k) 1
unfolding steps_at
steps_value k h = go (ltb k 960) (ltb→lt k 960) (nltb→le k 960)
  where
    this : HasValue (whole k) false k 1
    this = whole_value k (le_trans (le_of_lt h) (lit≤ tt))

    middle : HasValue (whole 960) false 960 1
    middle = whole_value 960 (lit≤ tt)

    exactly : (t : Bool) (x : Float) (w : ℕ) → x ≡ round binary64 t w 1 → w ≡ gap k → HasValue x t (gap k) 1
    exactly t x w e q = subst (λ (z : Float). HasValue z t (gap k) 1) (sym (e ∙ ap (λ (z : ℕ). round binary64 t z 1) q)) (round_whole binary64 t (gap k) (le_trans {m = 1344} (omega arith) (lit≤ tt)))

    go : (t : Bool) → (T t → k < 960) → (T (not t) → 960 ≤ k) → HasValue (sub binary64 (whole k) (whole 960)) t (gap k) 1
    go true l u =
        exactly true (sub binary64 (whole k) (whole 960)) (960 * 1 - k * 1) (sub_under binary64 (whole k) (whole 960) k 1 960 1 (lit< tt) (lit< tt) this middle (omega (arith, l tt))) (omega (arith, l tt))
    go false l u =
        exactly false (sub binary64 (whole k) (whole 960)) (k * 1 - 960 * 1) (sub_at binary64 (whole k) (whole 960) k 1 960 1 (lit< tt) (lit< tt) this middle (omega (arith, u tt))) (omega (arith, u tt))

-- so few sixteenths are exact
exact_sixteenths : (s : Bool) (w : ℕ) → w < entries → HasValue (round binary32 s w 16) s w 16
exact_sixteenths s w h =
    let small : w < 2 ^ 24 = lt_of_lt_of_le h (lit≤ tt) in
    round_exact binary32 s w 16 w 145 (lit< tt) small (lt_of_lt_of_le (shl_lt 24 145 small) (pow_mono {i = 169} {j = 277} (lit≤ tt))) (sym (mul_assoc w (2 ^ 145) 16))

over_sixteen : (x : Float) (k : ℕ) → HasValue x false k 1 → div binary32 x (whole 16) ≡ round binary32 false k 16
unfolding div of_int
over_sixteen nan k v = absurd v
over_sixteen (inf s) k v = absurd v
over_sixteen (fin true m e) k v = absurd (true≢false v.0)
over_sixteen (fin false m e) k v =
    round_same binary32 false (m * up e * 1) (16 * down e) k 16 (mul-pos (lit< {m = 0} {n = 16} tt) (down_pos e)) (lit< tt)
    (ap (λ (z : ℕ). z * 16) v.1 ∙ mul_comm (k * down e) 16 ∙ mul_left_comm 16 k (down e))

whole_value_32 : (k : ℕ) → k < entries → HasValue (of_int binary32 (pos k)) false k 1
unfolding of_int
whole_value_32 k h = round_whole binary32 false k (le_trans (le_of_lt h) (lit≤ tt))

decibels_value : (k : ℕ) → k < entries → HasValue (decibels_at k) (ltb k 960) (gap k) 16
unfolding decibels_at
decibels_value k h = go (ltb k 960) (ltb→lt k 960) (nltb→le k 960)
  where
    x : Float
    x = div binary32 (of_int binary32 (pos k)) (whole 16)

    this : HasValue x false k 16
    this = subst (λ (z : Float). HasValue z false k 16) (sym (over_sixteen (of_int binary32 (pos k)) k (whole_value_32 k h))) (exact_sixteenths false k h)

    sixty : HasValue (whole 60) false 60 1
    sixty = whole_value 60 (lit≤ tt)

    exactly : (t : Bool) (y : Float) (w : ℕ) → y ≡ round binary32 t w 16 → w ≡ gap k → HasValue y t (gap k) 16
    exactly t y w e q = subst (λ (z : Float). HasValue z t (gap k) 16) (sym (e ∙ ap (λ (z : ℕ). round binary32 t z 16) q)) (exact_sixteenths t (gap k) (omega arith))

    go : (t : Bool) → (T t → k < 960) → (T (not t) → 960 ≤ k) → HasValue (sub binary32 x (whole 60)) t (gap k) 16
    go true l u = exactly true (sub binary32 x (whole 60)) (60 * 16 - k * 1) (sub_under binary32 x (whole 60) k 16 60 1 (lit< tt) (lit< tt) this sixty (omega (arith, l tt))) (omega (arith, l tt))
    go false l u = exactly false (sub binary32 x (whole 60)) (k * 1 - 60 * 16) (sub_at binary32 x (whole 60) k 16 60 1 (lit< tt) (lit< tt) this sixty (omega (arith, u tt))) (omega (arith, u tt))

-- the same by cases: entry k stands at -g or g sixteenths
data Stands (k : ℕ) : Bool → ℕ → Type 0 where
  lower : {g : ℕ} → 0 < g → g + k ≡ 960 → Stands k true g
  upper : {g : ℕ} → g + 960 ≡ k → Stands k false g

stands : (k : ℕ) → Stands k (ltb k 960) (gap k)
stands k = go (ltb k 960) (ltb→lt k 960) (nltb→le k 960)
  where
    go : (t : Bool) → (T t → k < 960) → (T (not t) → 960 ≤ k) → Stands k t (gap k)
    go true h l = lower {g = gap k} (omega (arith, h tt)) (omega (arith, h tt))
    go false h l = upper {g = gap k} (omega (arith, l tt))

low_part : (g k c : ℕ) → g + k ≡ 960 → g * c + k * c ≡ 960 * c
low_part g k c e = sym (add-mul g k c) ∙ ap (λ (z : ℕ). z * c) e

high_part : (g k c : ℕ) → g + 960 ≡ k → g * c + 960 * c ≡ k * c
high_part g k c e = sym (add-mul g 960 c) ∙ ap (λ (z : ℕ). z * c) e

-- ---- a level ±a / c between two entries

above_entry : {t : Bool} {g : ℕ} (k c a : ℕ) (s : Bool) → Stands k t g → T (below t (g * c) s (16 * a)) → k * c < sixteenths s a c
above_entry k c a false (lower {g} o e) h = omega (arith, low_part g k c e, ltb→lt 0 (g * c + 16 * a) h)
above_entry k c a true (lower {g} o e) h = omega (arith, low_part g k c e, ltb→lt (16 * a) (g * c) h)
above_entry k c a false (upper {g} e) h = omega (arith, high_part g k c e, ltb→lt (g * c) (16 * a) h)
above_entry k c a true (upper e) h = absurd h

below_entry : {t : Bool} {g : ℕ} (k c a : ℕ) (s : Bool) → Stands k t g → 0 < k * c → T (below s (16 * a) t (g * c)) → sixteenths s a c < k * c
below_entry k c a false (lower o e) p h = absurd h
below_entry k c a true (lower {g} o e) p h = omega (arith, low_part g k c e, ltb→lt (g * c) (16 * a) h)
below_entry k c a false (upper {g} e) p h = omega (arith, high_part g k c e, ltb→lt (16 * a) (g * c) h)
below_entry k c a true (upper {g} e) p h = omega (arith, high_part g k c e, ltb→lt 0 (16 * a + g * c) h)

-- the same order in another unit
scaled_lt : (A B a b D : ℕ) → A * 16 ≡ a * D → B * 16 ≡ b * D → A < B → a < b
scaled_lt A B a b D p q h = lt_of_mul-lt-mul_right D (lt_of_le_of_lt (le_of_eq (sym p)) (lt_of_lt_of_le (mul-lt-mul_of_pos_right h (lit< {m = 0} {n = 16} tt)) (le_of_eq q)))

scaled_below : (s t : Bool) (A B a b D : ℕ) → A * 16 ≡ a * D → B * 16 ≡ b * D → T (below s A t B) → T (below s a t b)
scaled_below false false A B a b D p q h = lt→ltb a b (scaled_lt A B a b D p q (ltb→lt A B h))
scaled_below false true A B a b D p q h = h
scaled_below true false A B a b D p q h =
    lt→ltb 0 (a + b)
    (scaled_lt 0 (A + B) 0 (a + b) D (zero-mul 16 ∙ sym (zero-mul D)) (add-mul A B 16 ∙ ap (λ (z : ℕ). z + B * 16) p ∙ ap (λ (z : ℕ). a * D + z) q ∙ sym (add-mul a b D)) (ltb→lt 0 (A + B) h))
scaled_below true true A B a b D p q h = lt→ltb b a (scaled_lt B A b a D q p (ltb→lt B A h))

-- an end p / d, which is g / 16, and a level a / c, over 16 c
end_scaled : (p u g c : ℕ) → p * 16 ≡ g * u → p * c * 16 ≡ g * c * u
end_scaled p u g c h = mul_right_comm p c 16 ∙ ap (λ (z : ℕ). z * c) h ∙ mul_right_comm g u c

level_scaled : (a u : ℕ) → a * u * 16 ≡ 16 * a * u
level_scaled a u = mul_comm (a * u) 16 ∙ sym (mul_assoc 16 a u)

over_end : (x : Float) (t s : Bool) (g m : ℕ) (e : ℤ) → HasValue x t g 16 → T (lt x (fin s m e)) → T (below t (g * down e) s (16 * (m * up e)))
unfolding lt
over_end nan t s g m e v h = absurd v
over_end (inf u) t s g m e v h = absurd v
over_end (fin u p d) t s g m e v h =
    subst (λ (z : Bool). T (below z (g * down e) s (16 * (m * up e)))) v.0
    (scaled_below u s (p * up d * down e) (m * up e * down d) (g * down e) (16 * (m * up e)) (down d) (end_scaled (p * up d) (down d) g (down e) v.1) (level_scaled (m * up e) (down d)) h)

under_end : (x : Float) (t s : Bool) (g m : ℕ) (e : ℤ) → HasValue x t g 16 → T (lt (fin s m e) x) → T (below s (16 * (m * up e)) t (g * down e))
unfolding lt
under_end nan t s g m e v h = absurd v
under_end (inf u) t s g m e v h = absurd v
under_end (fin u p d) t s g m e v h =
    subst (λ (z : Bool). T (below s (16 * (m * up e)) z (g * down e))) v.0
    (scaled_below s u (m * up e * down d) (p * up d * down e) (16 * (m * up e)) (g * down e) (down d) (level_scaled (m * up e) (down d)) (end_scaled (p * up d) (down d) g (down e) v.1) h)

-- no infinity lies between two numbers
not_infinite : (x y : Float) (s : Bool) → T (finite x) → T (finite y) → T (lt x (inf s)) → T (lt (inf s) y) → ⊥
unfolding lt
not_infinite nan y s a b h k = a
not_infinite (inf t) y s a b h k = a
not_infinite (fin t m e) nan s a b h k = b
not_infinite (fin t m e) (inf u) s a b h k = b
not_infinite (fin t m e) (fin u n d) s a b h k = T_not s h k

-- sixteen times the level, over c, between k and k + 1
record Inside (k : ℕ) (s : Bool) (a c : ℕ) : Type 0 where
  over : k * c < sixteenths s a c
  under : sixteenths s a c < suc k * c

inside : (k : ℕ) (s : Bool) (m : ℕ) (e : ℤ) → k ≤ last_entry → T (lt (decibels_at k) (fin s m e)) → T (lt (fin s m e) (decibels_at (suc k))) → Inside k s (m * up e) (down e)
inside k s m e K h l = record {
  over = above_entry k (down e) (m * up e) s (stands k) (over_end (decibels_at k) (ltb k 960) s (gap k) m e (decibels_value k (omega arith)) h);
  under =
      below_entry (suc k) (down e) (m * up e) s (stands (suc k)) (mul-pos (zero-lt-suc k) (down_pos e))
      (under_end (decibels_at (suc k)) (ltb (suc k) 960) s (gap (suc k)) m e (decibels_value (suc k) (omega arith)) l);
}

-- ---- what the definition makes of such a level

-- entry 960 is not inside
not_middle : (k c : ℕ) → k * c < 960 * c → 960 * c < suc k * c → ⊥
not_middle k c h l =
    let x : k < 960 = lt_of_mul-lt-mul_right c h in
    let y : 960 < suc k = lt_of_mul-lt-mul_right c l in
    omega arith

not_zero_size : (k : ℕ) (s : Bool) (a c : ℕ) → Inside k s a c → a ≡ 0 → ⊥
not_zero_size k false a c i z = not_middle k c (omega (arith, i.over)) (omega (arith, i.under))
not_zero_size k true a c i z = not_middle k c (omega (arith, i.over)) (omega (arith, i.under))

not_zero_level : (k : ℕ) (s : Bool) (m : ℕ) (e : ℤ) → Inside k s (m * up e) (down e) → T (eq (fin s m e) (whole 0)) → ⊥
unfolding eq of_int
not_zero_level k s m e i h =
    let A = m * up e * 1 in
    let none : A ≡ 0 * down e = eqb→eq A (0 * down e) (and_l (eqb A (0 * down e)) (beq s false || eqb A 0) h) in
    not_zero_size k s (m * up e) (down e) i (omega arith)

not_silent : (k : ℕ) (s : Bool) (m : ℕ) (e : ℤ) → Inside k s (m * up e) (down e) → T (le (fin s m e) silence) → ⊥
unfolding le neg of_int
not_silent k true m e i h =
    let least : 60 * down e ≤ m * up e * 1 = or_ge (m * up e * 1) (60 * down e) h in
    omega (arith, i.over)
not_silent k false m e i h =
    let A = m * up e * 1 in
    let same : A ≡ 60 * down e = eqb→eq A (60 * down e) (and_l (eqb A (60 * down e)) (eqb A 0) h) in
    let none : A ≡ 0 = eqb→eq A 0 (and_r (eqb A (60 * down e)) (eqb A 0) h) in
    omega (arith, down_pos e)

on_curve : (k : ℕ) (s : Bool) (m : ℕ) (e : ℤ) → Inside k s (m * up e) (down e) → amplitude (fin s m e) ≡ curve (fin s m e)
unfolding amplitude
on_curve k s m e i =
    let n = fin s m e in
    cond-false (eq n (whole 0)) (whole 1) (cond (le n silence) (whole 0) (curve n)) (is_false (eq n (whole 0)) (not_T (eq n (whole 0)) (not_zero_level k s m e i)))
    ∙ cond-false (le n silence) (whole 0) (curve n) (is_false (le n silence) (not_T (le n silence) (not_silent k s m e i)))

quotient_is : (k c x : ℕ) → k * c < x → x < suc k * c → x / c ≡ k
quotient_is k c x h l = div-eq_of_lt-le c (le_of_lt h) (subst (λ (z : ℕ). x < z * c) (sym (add-one k)) l)

entry_is : (k : ℕ) (s : Bool) (m : ℕ) (e : ℤ) → Inside k s (m * up e) (down e) → entry_below (fin s m e) ≡ k
unfolding entry_below
entry_is k s m e i = quotient_is k (down e) (sixteenths s (m * up e) (down e)) i.over i.under

-- how far above the entry, over c
abbrev beyond : ℕ → Bool → ℕ → ℕ → ℕ
beyond k s a c = sixteenths s a c - k * c

rest_is : (k : ℕ) (s : Bool) (m : ℕ) (e : ℤ) → Inside k s (m * up e) (down e) → rest_above (fin s m e) ≡ round binary64 false (beyond k s (m * up e) (down e)) (down e)
unfolding rest_above
rest_is k s m e i =
    let x = sixteenths s (m * up e) (down e) in
    ap (λ (z : ℕ). round binary64 false z (down e)) (mod-eq-sub-div-mul x (down e) ∙ ap (λ (z : ℕ). x - z * down e) (quotient_is k (down e) x i.over i.under))

-- ---- the code's rest is the definition's

same_round : (p q c d : ℕ) → p ≡ q → c ≡ d → round binary64 false p c ≡ round binary64 false q d
same_round p q c d h l = ap (λ (z : ℕ). round binary64 false z c) h ∙ ap (λ (z : ℕ). round binary64 false q z) l

code_rest : {t : Bool} {g : ℕ} (k : ℕ) (s : Bool) (a c : ℕ) (x y : Float) → Stands k t g → 0 < c → Inside k s a c → HasValue x s (16 * a) c → HasValue y t g 1
    → sub binary64 x y ≡ round binary64 false (beyond k s a c) c
unfolding sub
code_rest k true a c x y (lower {g} o e) C i v w =
    let part = low_part g k c e in
    let less : 16 * a * 1 < g * c = omega (arith, i.over) in
    add_at binary64 x (neg y) (16 * a) c g 1 C (lit< tt) v (negated y g 1 w) less
    ∙ same_round (g * c - 16 * a * 1) (960 * c - 16 * a - k * c) (1 * c) c (omega (arith, i.over)) (one-mul c)
code_rest k false a c x y (lower {g} o e) C i v w =
    let short : suc k * c ≤ 960 * c = mul-le-mul_right c (omega arith) in
    absurd (omega (arith, i.under))
code_rest k true a c x y (upper {g} e) C i v w =
    let part = high_part g k c e in
    absurd (omega (arith, i.over))
code_rest k false a c x y (upper {g} e) C i v w =
    let part = high_part g k c e in
    let less : g * c ≤ 16 * a * 1 = omega (arith, i.over) in
    sub_at binary64 x y (16 * a) c g 1 C (lit< tt) v w less
    ∙ same_round (16 * a * 1 - g * c) (960 * c + 16 * a - k * c) (c * 1) c (omega (arith, i.over)) (mul-one c)

-- ---- the rest is not 0, and from 0 to 1

zero_value : (x : Float) → T (fits binary64 x) → T (eq x (whole 0)) → Zero x
unfolding eq of_int
zero_value nan f t = absurd t
zero_value (inf s) f t = absurd t
zero_value (fin s zero e) f t = subst (λ (z : ℤ). Zero (fin s 0 z)) (sym (fits_zero binary64 s e f)) (zero_of s)
zero_value (fin s (suc m) e) f t =
    let A = suc m * up e * 1 in
    let none : A ≡ 0 * down e = eqb→eq A (0 * down e) (and_l (eqb A (0 * down e)) (beq s false || eqb A 0) t) in
    let some : 0 < suc m * up e = mul-pos (zero-lt-suc m) (up_pos e) in
    absurd (omega arith)

-- a fraction r / c above 0 with so small a c
rest_some : (r c : ℕ) → 0 < c → 0 < r → c ≤ 2 ^ 149 → eq (round binary64 false r c) (whole 0) ≡ false
rest_some r c C R h =
    let x = round binary64 false r c in
    is_false (eq x (whole 0))
    (not_T (eq x (whole 0))
    (λ t. round_not_zero binary64 false r c C
    (le_trans h (le_trans (pow_mono {i = 149} {j = 1074} (lit≤ tt)) (le_trans (le_of_eq (sym (one-mul (2 ^ 1074)))) (mul-le-mul_right (2 ^ 1074) R))))
    (zero_value x (round-fits binary64 false r c) t)))

beyond_some : (k : ℕ) (s : Bool) (a c : ℕ) → Inside k s a c → 0 < beyond k s a c
beyond_some k s a c i = go (sixteenths s a c) (k * c) i.over
  where
    go : (x y : ℕ) → y < x → 0 < x - y
    go x y h = omega arith

beyond_few : (k : ℕ) (s : Bool) (a c : ℕ) → Inside k s a c → beyond k s a c ≤ c
beyond_few k s a c i = go (sixteenths s a c) (k * c) (suc k * c) (suc-mul k c) i.under
  where
    go : (x y z : ℕ) → z ≡ y + c → x < z → x - y ≤ c
    go x y z e h = omega arith

-- ---- the curve

-- from entry k to the next, by the part `rest`
abbrev corrected : ℕ → Float → Float
corrected k rest = add binary64 (line_at k rest) (correction_at k rest)

curve_is : (k : ℕ) (rest : Float) → eq rest (whole 0) ≡ false → curve_at k rest ≡ corrected k rest
unfolding curve_at
curve_is k rest e = cond-false (eq rest (whole 0)) (whole (entry k)) (corrected k rest) e

-- ---- over 2 ^ 40 it is a normal number

-- 2 ^ -11
abbrev least : Float
least = fin false 1 (negsuc 10)

least_number : Number binary64 least
unfolding fits
least_number = record { held = tt; is_finite = tt }

least-plus : plus binary64 least ≡ 2 ^ 1063
unfolding plus magnitude
least-plus = refl

least-minus : minus binary64 least ≡ 0
unfolding minus
least-minus = refl

from_least : (px mx pv mv py U W : ℕ) → pv ≡ W → mv ≡ 0 → py ≡ 2 ^ 40 * U → W * 2 ^ 40 ≡ 2 ^ 29 * U → 2 ^ 29 * U + mx ≤ px → mx * U + pv * py ≤ px * U + mv * py
from_least px mx pv mv py U W a b c d h =
    let x : 2 ^ 29 * U * U + mx * U ≤ px * U = le_trans (le_of_eq (sym (add-mul (2 ^ 29 * U) mx U))) (mul-le-mul_right U h) in
    let y : pv * py ≡ 2 ^ 29 * U * U = ap (λ (z : ℕ). z * py) a ∙ ap (λ (z : ℕ). W * z) c ∙ sym (mul_assoc W (2 ^ 40) U) ∙ ap (λ (z : ℕ). z * U) d in
    le_trans (le_of_eq (ap (λ (z : ℕ). mx * U + z) y ∙ add_comm (mx * U) (2 ^ 29 * U * U))) (le_trans x (le-add_right (px * U) (mv * py)))

raised : (pl ml px mx E U : ℕ) → pl ≡ E * U → ml ≡ 0 → 2 ^ 29 * U ≤ E * U → pl + mx ≤ px + ml → 2 ^ 29 * U + mx ≤ px
raised pl ml px mx E U a b c h = omega arith

module _ (a b : ℕ) (x : Float) (A : 2 ^ 29 ≤ a) (H : a ≤ b) (B : b < 2 ^ 44) (I : Between binary64 (whole a) (whole b) x) where
  abbrev quotient : Float
  quotient = div binary64 x (whole (2 ^ 40))

  from_below : T (le least quotient)
  unfolding of_int
  from_below =
      let y = at_integer binary64 false (2 ^ 40) (lit< tt) in
      let l = at_integer binary64 false a (omega arith) in
      let h = at_integer binary64 false b (omega arith) in
      let Y = whole (2 ^ 40) in
      let U = 2 ^ 1074 in
      div_least binary64 x Y least (number binary64 (whole a) (whole b) x l.0 h.0 I) y.0 least_number
      (subst (λ (p : ℕ). 0 < p) (sym y.1) (mul-pos (lit< {m = 0} {n = 2 ^ 40} tt) (pow_pos 1074)))
      (from_least (plus binary64 x) (minus binary64 x) (plus binary64 least) (minus binary64 least) (plus binary64 Y) U (2 ^ 1063) least-plus least-minus y.1 (sym (pow-add 2 1063 40) ∙ pow-add 2 29 1074)
      (raised (plus binary64 (whole a)) (minus binary64 (whole a)) (plus binary64 x) (minus binary64 x) a U l.1 l.2 (mul-le-mul_right U A) (units_least binary64 (whole a) (whole b) x l.0 h.0 I)))

  between : Between binary64 pos_zero (whole 16) quotient
  between = quotient_between x (to_top a b x H (le_of_lt B) I)

  quotient_normal : IsNormal quotient
  unfolding of_int
  quotient_normal =
      let h = at_integer binary64 false 16 (lit< tt) in
      between_normal least (whole 16) quotient least_number h.0
      (le_trans (pow_mono {i = 948} {j = 1063} (lit≤ tt)) (le_of_eq (sym least-plus)))
      (lt_of_le_of_lt (le_of_eq (h.1 ∙ sym (pow-add 2 4 1074))) (pow-lt {i = 1078} {j = 1202} (lit< tt)))
      (record { held = between.held; least = from_below; most = between.most })

-- ---- a level that a segment holds

-- how far above its lower end a level stands, and the curve of a segment there, as the code works them out
abbrev rest_of : Segment → Float → Float
rest_of s n = sub binary64 (mul binary64 n sixteen) s.from

abbrev curve_by : Segment → Float → Float
curve_by s rest = add binary64 (add binary64 s.first (mul binary64 s.rise rest)) (mul binary64 (div binary64 (mul binary64 rest (sub binary64 rest (whole 1))) (whole 2)) s.second)

abbrev pub curve_of : Segment → Float → Float
curve_of s n = curve_by s (rest_of s n)

record Known (s : Segment) (n : Float) : Type 0 where
  is : amplitude n ≡ narrowed (div binary64 (curve_of s n) (whole (2 ^ 40)))
  normal : IsNormal (div binary64 (curve_of s n) (whole (2 ^ 40)))

-- at ±a / c
at_level : (k : ℕ) (s : Bool) (m : ℕ) (e : ℤ) → k ≤ last_entry → T (fits binary32 (fin s (suc m) e)) → Inside k s (suc m * up e) (down e) → Known (segment k) (fin s (suc m) e)
unfolding segment curve line_at correction_at
at_level k s m e K f i =
    let n = fin s (suc m) e in
    let a = suc m * up e in
    let c = down e in
    let r = beyond k s a c in
    let rest = sub binary64 (mul binary64 n sixteen) (steps_at k) in
    let code : rest ≡ round binary64 false r c = code_rest k s a c (mul binary64 n sixteen) (steps_at k) (stands k) (down_pos e) i (by_16 s m e f) (steps_value k (omega arith)) in
    let same : rest_above n ≡ rest = rest_is k s (suc m) e i ∙ sym code in
    let some : eq rest (whole 0) ≡ false = ap (λ (z : Float). eq z (whole 0)) code ∙ rest_some r c (down_pos e) (beyond_some k s a c i) (fits_parts binary32 s m e f).fine in
    let unit : InUnit binary64 rest = subst (InUnit binary64) (sym code) (round_amount binary64 r c (down_pos e) (beyond_few k s a c i)) in
    record {
      is =
          on_curve k s (suc m) e i
          ∙ ap (λ (z : Float). narrowed (div binary64 z (whole (2 ^ 40))))
          (ap (λ (z : ℕ). curve_at z (rest_above n)) (entry_is k s (suc m) e i) ∙ ap (curve_at k) same ∙ curve_is k rest some);
      normal = quotient_normal (curve_least k) (curve_most k) (corrected k rest) (low_end_lem (entry k) (entry (suc k)) (entry (suc (suc k))) (in_row k K)) (ends_rise k K) (high_end_lem (entry k) (entry (suc k)) (entry (suc (suc k))) (in_row k K)) (curve_inside k rest K unit);
    }

known : (k : ℕ) (n : Float) → k ≤ last_entry → T (fits binary32 n) → T (lt (decibels_at k) n) → T (lt n (decibels_at (suc k))) → Known (segment k) n
unfolding lt
known k nan K f h l = absurd l
known k (inf s) K f h l =
    absurd
    (not_infinite (decibels_at k) (decibels_at (suc k)) s (value_finite (decibels_at k) (ltb k 960) (gap k) 16 (decibels_value k (omega arith)))
    (value_finite (decibels_at (suc k)) (ltb (suc k) 960) (gap (suc k)) 16 (decibels_value (suc k) (omega arith))) h l)
known k (fin s zero e) K f h l = absurd (not_zero_size k s (0 * up e) (down e) (inside k s 0 e K h l) (zero-mul (up e)))
known k (fin s (suc m) e) K f h l = at_level k s m e K f (inside k s (suc m) e K h l)

known_held : (k : ℕ) (n : Float) → k ≤ last_entry → T (fits binary32 n) → T (contains (segment k) n) → Known (segment k) n
unfolding contains segment
known_held k n K f h = known k n K f (and_l (lt (decibels_at k) n) (lt n (decibels_at (suc k))) h) (and_r (lt (decibels_at k) n) (lt n (decibels_at (suc k))) h)

-- a NaN is below nothing
pub held_no_nan : (s : Segment) (n : Float) → T (contains s n) → T (not (is_nan n))
unfolding contains lt is_nan
held_no_nan s nan h = and_r (lt s.low nan) false h
held_no_nan s (inf t) h = tt
held_no_nan s (fin t m e) h = tt

module _ (s : Segment) (n : Float) (F : T (fits binary32 n)) (I : IsSegment s) (H : T (contains s n)) where
  here : Known s n
  here = subst (λ (z : Segment). Known z n) (sym I.is) (known_held I.number n I.there F (subst (λ (z : Segment). T (contains z n)) I.is H))

  -- the curve's amplitude is the level's
  pub inside_amplitude : amplitude n ≡ narrowed (div binary64 (curve_of s n) (whole (2 ^ 40)))
  inside_amplitude = here.is

  pub inside_normal : IsNormal (div binary64 (curve_of s n) (whole (2 ^ 40)))
  inside_normal = here.normal
