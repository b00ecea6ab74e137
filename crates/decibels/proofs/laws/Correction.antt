-- The curve between two entries lies at most as far off the line as entry k + 2 lies above entry k, and so stays well inside 0..16.
-- Assumes nothing.
use mathlib.Core.Path.{◌≡◌, sym, ap, ◌∙◌, subst}
use mathlib.Core.Bool.{true, false, true≢false}
use Prim.Native.Nat.{ℕ, zero, suc, ◌+◌, ◌-◌, ◌*◌, ◌^◌, ◌≤◌, ◌<◌, zero-le}
use native.Mathlib.Nat.{le_trans, le_of_eq, le_of_lt, mul-one, mul_right_comm, mul-mul-mul_comm, mul-pos, add-mul, mul-le-mul_left, mul-le-mul_right, le_of_mul-le-mul_right, one-mul, zero-mul}
use native.Mathlib.Omega.{arith}
use lib.IntN.{pos}
use lib.Dec.{lit<, lit≤}
use lib.Pow.{pow_pos}
use lib.Ieee.{Float, nan, inf, fin, binary64, up, down, round, add, sub, mul, div, of_int}
use lib.Ieee.Fits.{mul-fits, down_pos}
use lib.Ieee.Exact.{HasValue}
use lib.Ieee.Scale.{round_same}
use lib.Ieee.Back.{round_whole}
use lib.Ieee.Positive.{num, den, den_pos}
use Rattle.gain_table.specs.GainTable.{entry, entries, digits, at_most}
use Rattle.gain_table.proofs.laws.GainTable.{entry_rises, entry_grows, entry_under}
use Rattle.laws.specs.Float.{whole}
use Rattle.laws.specs.FloatOrder.{Number, plus, minus, magnitude}
use Rattle.laws.proofs.laws.FloatOrder.{magnitude_exact}
use Rattle.laws.specs.FloatRound.{Between, integer}
use Rattle.laws.proofs.laws.FloatRound.{at_integer, add_between, sub_between, div_between, number, units_least, units_most}
use Rattle.laws.specs.FloatBounds.{Within}
use Rattle.laws.proofs.laws.FloatBounds.{within_value, within_between, mul_within, Holds, holds_number}
use Rattle.laws.proofs.laws.Amount.{InUnit, AtMost, fraction, at_most_lem, amount_number, amount_minus, amount_plus}
use Rattle.decibels.specs.Decibels.{last_entry}
use Rattle.decibels.proofs.laws.Position.{sub_under, whole_value}

-- ---- three entries in a row

pub record InRow (a b c : ℕ) : Type 0 where
  pub least : 2 ^ 30 ≤ a
  pub rises : a ≤ b
  pub rises_on : b ≤ c
  pub grows : 32 * b ≤ 33 * a + 33
  pub grows_on : 32 * c ≤ 33 * b + 33
  pub most : b < 15 * 2 ^ 40

first_entry : 2 ^ 30 ≤ entry 0
unfolding entry digits at_most
first_entry = lit≤ tt

entry_least : (k : ℕ) → k < entries → 2 ^ 30 ≤ entry k
entry_least zero h = first_entry
entry_least (suc k) h = le_trans (entry_least k (omega arith)) (entry_rises k h)

-- 10 ^ 369 is below 15 ^ 320
pub in_row : (k : ℕ) → k ≤ last_entry → InRow (entry k) (entry (suc k)) (entry (suc (suc k)))
in_row k h = record {
  least = entry_least k (omega arith);
  rises = entry_rises k (omega arith);
  rises_on = entry_rises (suc k) (omega arith);
  grows = entry_grows k (omega arith);
  grows_on = entry_grows (suc k) (omega arith);
  most = entry_under (suc k) 369 (15 * 2 ^ 40) (omega arith) (omega arith) (lit< tt);
}

-- ---- a bound in units

magnitude_few : (M n d a U : ℕ) → 0 < d → M * d ≡ n * U → n * 1 ≤ a * d → M ≤ a * U
magnitude_few M n d a U D e h =
    le_of_mul-le-mul_right (le_trans (le_of_eq (e ∙ ap (λ (z : ℕ). z * U) (sym (mul-one n)))) (le_trans (mul-le-mul_right U h) (le_of_eq (mul_right_comm a d U)))) D

size_most : (x : Float) (a : ℕ) → Number binary64 x → Within x a 1 → magnitude binary64 x ≤ a * 2 ^ 1074
size_most x a N w = magnitude_few (magnitude binary64 x) (num x) (den x) a (2 ^ 1074) (den_pos x) (magnitude_exact binary64 x N) w.size

plus_most : (x : Float) (B : ℕ) → magnitude binary64 x ≤ B → plus binary64 x ≤ B
unfolding plus
plus_most nan B h = zero-le
plus_most (inf s) B h = zero-le
plus_most (fin true m e) B h = zero-le
plus_most (fin false m e) B h = h

minus_most : (x : Float) (B : ℕ) → magnitude binary64 x ≤ B → minus binary64 x ≤ B
unfolding minus
minus_most nan B h = zero-le
minus_most (inf s) B h = zero-le
minus_most (fin true m e) B h = h
minus_most (fin false m e) B h = zero-le

-- what lies from -d to d
within_whole : (x : Float) (d : ℕ) → d < 2 ^ 53 → Between binary64 (integer binary64 true d) (integer binary64 false d) x → Within x d 1
within_whole x d h b =
    within_between (within_value (integer binary64 true d) true (round_whole binary64 true d (le_of_lt h))) (within_value (integer binary64 false d) false (round_whole binary64 false d (le_of_lt h))) b.least b.most

-- ---- the factor f (f - 1) / 2 is at most 1 in size

-- how many units 1 is
abbrev U : ℕ
U = 2 ^ 1074

minus_one : Number binary64 (integer binary64 true 1) × (plus binary64 (integer binary64 true 1) ≡ 0) × (minus binary64 (integer binary64 true 1) ≡ 1 * U)
minus_one = at_integer binary64 true 1 (lit< tt)

plus_one : Number binary64 (integer binary64 false 1) × (plus binary64 (integer binary64 false 1) ≡ 1 * U) × (minus binary64 (integer binary64 false 1) ≡ 0)
plus_one = at_integer binary64 false 1 (lit< tt)

rest_within : (rest : Float) → InUnit binary64 rest → Within rest 1 1
rest_within rest u = go (at_most_lem 1 (pos 0) rest u.sign u.most)
  where
    go : {x : Float} → AtMost 1 (pos 0) x → Within x 1 1
    go (fraction m e h) = record { is_finite = tt; size = h }

less_one : (pr mr po mo pl ml ph mh W : ℕ) → pr ≤ W → mr ≡ 0 → po ≡ 1 * W → mo ≡ 0 → pl ≡ 0 → ml ≡ 1 * W → ph ≡ 1 * W → mh ≡ 0
    → (mr + po + pl ≤ pr + mo + ml) × (pr + mo + mh ≤ mr + po + ph)
less_one pr mr po mo pl ml ph mh W a b c d e f g h = (omega arith, omega arith)

less_one_within : (rest : Float) → InUnit binary64 rest → Within (sub binary64 rest (whole 1)) 1 1
unfolding of_int
less_one_within rest u =
    let l = minus_one in
    let h = plus_one in
    let lo = integer binary64 true 1 in
    let hi = integer binary64 false 1 in
    let q = less_one (plus binary64 rest) (minus binary64 rest) (plus binary64 hi) (minus binary64 hi) (plus binary64 lo) (minus binary64 lo) (plus binary64 hi) (minus binary64 hi) U (amount_plus binary64 rest u) (amount_minus binary64 rest u) h.1 h.2 l.1 l.2 h.1 h.2 in
    within_whole (sub binary64 rest (whole 1)) 1 (lit< tt) (sub_between binary64 rest (whole 1) lo hi (amount_number binary64 rest u) h.0 l.0 h.0 q.0 q.1)

halved : (px mx pt pl ml ph mh W : ℕ) → px ≤ 1 * W → mx ≤ 1 * W → pt ≡ 2 * W → pl ≡ 0 → ml ≡ 1 * W → ph ≡ 1 * W → mh ≡ 0
    → (mx * W + pl * pt ≤ px * W + ml * pt) × (px * W + mh * pt ≤ mx * W + ph * pt)
halved px mx pt pl ml ph mh W a b c d e f g = (side mx px pl ml b d e, side px mx mh ph a g f)
  where
    side : (x y z w : ℕ) → x ≤ 1 * W → z ≡ 0 → w ≡ 1 * W → x * W + z * pt ≤ y * W + w * pt
    side x y z w h i j =
        let none : z * pt ≡ 0 = ap (λ (n : ℕ). n * pt) i ∙ zero-mul pt in
        let some : 1 * W * W ≤ w * pt = le_trans (mul-le-mul_left {m = W} {n = pt} (1 * W) (omega arith)) (le_of_eq (ap (λ (n : ℕ). n * pt) (sym j))) in
        let most : x * W ≤ 1 * W * W = mul-le-mul_right W h in
        omega arith

half_within : (x : Float) → Number binary64 x → Within x 1 1 → Within (div binary64 x (whole 2)) 1 1
unfolding of_int
half_within x N w =
    let l = minus_one in
    let h = plus_one in
    let t = at_integer binary64 false 2 (lit< tt) in
    let lo = integer binary64 true 1 in
    let hi = integer binary64 false 1 in
    let size = size_most x 1 N w in
    let q = halved (plus binary64 x) (minus binary64 x) (plus binary64 (whole 2)) (plus binary64 lo) (minus binary64 lo) (plus binary64 hi) (minus binary64 hi) U (plus_most x (1 * U) size) (minus_most x (1 * U) size) t.1 l.1 l.2 h.1 h.2 in
    within_whole (div binary64 x (whole 2)) 1 (lit< tt)
    (div_between binary64 x (whole 2) lo hi N t.0 l.0 h.0 (subst (λ (p : ℕ). 0 < p) (sym t.1) (mul-pos (lit< {m = 0} {n = 2} tt) (pow_pos 1074))) q.0 q.1)

abbrev factor : Float → Float
factor rest = div binary64 (mul binary64 rest (sub binary64 rest (whole 1))) (whole 2)

factor_within : (rest : Float) → InUnit binary64 rest → Within (factor rest) 1 1
factor_within rest u =
    let product = mul binary64 rest (sub binary64 rest (whole 1)) in
    let w : Within product 1 1 = mul_within {a = 1} {c = 1} {b = 1} {d = 1} (holds_number binary64 1 (lit< tt)) (rest_within rest u) (less_one_within rest u) in
    half_within product (record { held = mul-fits binary64 rest (sub binary64 rest (whole 1)); is_finite = w.is_finite }) w

-- ---- the second difference is at most c - a in size

-- a product of two values
mul_at : (x y : Float) (a c b d : ℕ) → 0 < c → 0 < d → HasValue x false a c → HasValue y false b d → mul binary64 x y ≡ round binary64 false (a * b) (c * d)
unfolding mul
mul_at nan y a c b d C D v w = absurd v
mul_at (inf s) y a c b d C D v w = absurd v
mul_at (fin true m e) y a c b d C D v w = absurd (true≢false v.0)
mul_at (fin false m e) nan a c b d C D v w = absurd w
mul_at (fin false m e) (inf t) a c b d C D v w = absurd w
mul_at (fin false m e) (fin true n k) a c b d C D v w = absurd (true≢false w.0)
mul_at (fin false m e) (fin false n k) a c b d C D v w =
    round_same binary64 false (m * up e * (n * up k)) (down e * down k) (a * b) (c * d) (mul-pos (down_pos e) (down_pos k)) (mul-pos C D)
    (mul-mul-mul_comm (m * up e) (n * up k) c d ∙ ap (λ (z : ℕ). z * (n * up k * d)) v.1 ∙ ap (λ (z : ℕ). a * down e * z) w.1 ∙ mul-mul-mul_comm a (down e) b (down k))

-- twice a whole number
twice : (b : ℕ) → b ≤ 2 ^ 53 → mul binary64 (whole 2) (whole b) ≡ whole (2 * b)
unfolding of_int
twice b h = mul_at (whole 2) (whole b) 2 1 b 1 (lit< tt) (lit< tt) (whole_value 2 (lit≤ tt)) (whole_value b h)

abbrev second : ℕ → ℕ → ℕ → Float
second a b c = add binary64 (sub binary64 (whole c) (mul binary64 (whole 2) (whole b))) (whole a)

-- the first step, c - 2 b, exactly
first_step : (a b c : ℕ) → InRow a b c → sub binary64 (whole c) (mul binary64 (whole 2) (whole b)) ≡ integer binary64 true (2 * b - c)
first_step a b c r =
    ap (sub binary64 (whole c)) (twice b (omega (arith, r.most)))
    ∙ sub_under binary64 (whole c) (whole (2 * b)) c 1 (2 * b) 1 (lit< tt) (lit< tt) (whole_value c (omega (arith, r.most, r.grows_on))) (whole_value (2 * b) (omega (arith, r.most)))
    (omega (arith, r.least, r.rises, r.grows_on))
    ∙ ap (λ (z : ℕ). integer binary64 true z) {x = 2 * b * 1 - c * 1} {y = 2 * b - c} (omega arith)

-- in units: x is -(2 b - c), y is a, and the two ends are ±(c - a)
ends : (a b c px mx py my pl ml ph mh W : ℕ) → a ≤ b → b ≤ c → c ≤ 2 * b → px ≡ 0 → mx ≡ (2 * b - c) * W → py ≡ a * W → my ≡ 0 → pl ≡ 0 → ml ≡ (c - a) * W → ph ≡ (c - a) * W → mh ≡ 0
    → (mx + my + pl ≤ px + py + ml) × (px + py + mh ≤ mx + my + ph)
ends a b c px mx py my pl ml ph mh W A B C i j k l m n o p =
    let low : (2 * b - c) * W ≤ a * W + (c - a) * W = le_trans (mul-le-mul_right {m = 2 * b - c} {n = a + (c - a)} W (omega arith)) (le_of_eq (add-mul a (c - a) W)) in
    let high : a * W ≤ (2 * b - c) * W + (c - a) * W = le_trans (mul-le-mul_right {m = a} {n = 2 * b - c + (c - a)} W (omega arith)) (le_of_eq (add-mul (2 * b - c) (c - a) W)) in
    (omega arith, omega arith)

second_within : (a b c : ℕ) → InRow a b c → Within (second a b c) (c - a) 1
unfolding of_int
second_within a b c r =
    let x = sub binary64 (whole c) (mul binary64 (whole 2) (whole b)) in
    let d = c - a in
    let few : d < 2 ^ 53 = omega (arith, r.most, r.grows_on) in
    let X = subst (λ (z : Float). Number binary64 z × (plus binary64 z ≡ 0) × (minus binary64 z ≡ (2 * b - c) * U)) (sym (first_step a b c r)) (at_integer binary64 true (2 * b - c) (omega (arith, r.most))) in
    let Y = at_integer binary64 false a (omega (arith, r.most, r.rises)) in
    let L = at_integer binary64 true d few in
    let H = at_integer binary64 false d few in
    let lo = integer binary64 true d in
    let hi = integer binary64 false d in
    let q = ends a b c (plus binary64 x) (minus binary64 x) (plus binary64 (whole a)) (minus binary64 (whole a)) (plus binary64 lo) (minus binary64 lo) (plus binary64 hi) (minus binary64 hi) U r.rises r.rises_on (omega (arith, r.least, r.rises, r.grows_on)) X.1 X.2 Y.1 Y.2 L.1 L.2 H.1 H.2 in
    within_whole (second a b c) d few (add_between binary64 x (whole a) lo hi X.0 Y.0 L.0 H.0 q.0 q.1)

-- ---- the correction too, and so the curve

module _ (a b c : ℕ) (r : InRow a b c) (rest : Float) (u : InUnit binary64 rest) where
  abbrev correction : Float
  correction = mul binary64 (factor rest) (second a b c)

  correction_within : Within correction (c - a) 1
  correction_within =
      subst (λ (z : ℕ). Within correction z 1) (one-mul (c - a))
      (mul_within {a = 1} {c = 1} {b = c - a} {d = 1} (subst (λ (z : ℕ). Holds binary64 z 1) (sym (one-mul (c - a))) (holds_number binary64 (c - a) (omega (arith, r.most, r.grows_on)))) (factor_within rest u) (second_within a b c r))

  correction_number : Number binary64 correction
  correction_number = record { held = mul-fits binary64 (factor rest) (second a b c); is_finite = correction_within.is_finite }

added : (px mx py my pa ma pb mb pl ml ph mh A B D L H : ℕ) → py ≤ D → my ≤ D → pa ≡ A → ma ≡ 0 → pb ≡ B → mb ≡ 0 → pl ≡ L → ml ≡ 0 → ph ≡ H → mh ≡ 0 → L + D ≡ A → H ≡ B + D
    → pa + mx ≤ px + ma → px + mb ≤ pb + mx → (mx + my + pl ≤ px + py + ml) × (px + py + mh ≤ mx + my + ph)
added px mx py my pa ma pb mb pl ml ph mh A B D L H i j k l m n o p q s t w x y = (omega arith, omega arith)

-- the two ends of what a line from a to b with its correction can be
abbrev pub low_end : ℕ → ℕ → ℕ
low_end a c = a - (c - a)

abbrev pub high_end : ℕ → ℕ → ℕ → ℕ
high_end a b c = b + (c - a)

pub low_end_lem : (a b c : ℕ) → InRow a b c → 2 ^ 29 ≤ low_end a c
low_end_lem a b c r = omega (arith, r.least, r.rises, r.grows, r.grows_on)

pub high_end_lem : (a b c : ℕ) → InRow a b c → high_end a b c < 2 ^ 44
high_end_lem a b c r = omega (arith, r.rises, r.grows, r.grows_on, r.most, r.least)

pub corrected_between : (a b c : ℕ) (r : InRow a b c) (line rest : Float) → InUnit binary64 rest → Between binary64 (whole a) (whole b) line
    → Between binary64 (whole (low_end a c)) (whole (high_end a b c)) (add binary64 line (mul binary64 (factor rest) (second a b c)))
unfolding of_int
corrected_between a b c r line rest u l =
    let y = mul binary64 (factor rest) (second a b c) in
    let A = at_integer binary64 false a (omega (arith, r.most, r.rises)) in
    let B = at_integer binary64 false b (omega (arith, r.most)) in
    let L = at_integer binary64 false (low_end a c) (omega (arith, r.most, r.rises)) in
    let H = at_integer binary64 false (high_end a b c) (omega (arith, high_end_lem a b c r)) in
    let lo = whole (low_end a c) in
    let hi = whole (high_end a b c) in
    let N = number binary64 (whole a) (whole b) line A.0 B.0 l in
    let M = correction_number a b c r rest u in
    let size = size_most y (c - a) M (correction_within a b c r rest u) in
    let q = added (plus binary64 line) (minus binary64 line) (plus binary64 y) (minus binary64 y) (plus binary64 (whole a)) (minus binary64 (whole a)) (plus binary64 (whole b)) (minus binary64 (whole b)) (plus binary64 lo) (minus binary64 lo) (plus binary64 hi) (minus binary64 hi)
    (a * U) (b * U) ((c - a) * U) (low_end a c * U) (high_end a b c * U) (plus_most y ((c - a) * U) size) (minus_most y ((c - a) * U) size) A.1 A.2 B.1 B.2 L.1 L.2 H.1 H.2
    (sym (add-mul (low_end a c) (c - a) U) ∙ ap (λ (z : ℕ). z * U) {x = low_end a c + (c - a)} {y = a} (omega (arith, low_end_lem a b c r)))
    (add-mul b (c - a) U)
    (units_least binary64 (whole a) (whole b) line A.0 B.0 l) (units_most binary64 (whole a) (whole b) line A.0 B.0 l) in
    add_between binary64 line y lo hi N M L.0 H.0 q.0 q.1
