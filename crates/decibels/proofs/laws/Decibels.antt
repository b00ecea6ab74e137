-- The gain's laws: +0.0 at or below -60, exactly 1.0 at ±0, and from 0 to 16 wherever there is an amplitude.
-- Assumes nothing.
use mathlib.Core.Path.{◌≡◌, refl, sym, ap, ◌∙◌, subst}
use mathlib.Core.Bool.{Bool, true, false, cond, not}
use Prim.Native.Nat.{ℕ, suc, ◌+◌, ◌-◌, ◌*◌, ◌%◌, ◌^◌, ◌≤◌, ◌<◌}
use native.Mathlib.Nat.{le_trans, le_of_lt, le_of_eq, mod-lt, lt_of_le_of_lt, mul-le-mul_right, mul_assoc, mul_right_comm, mul-pos, add-mul, sub-add_cancel, add_comm, add-zero, zero-mul}
use native.Mathlib.Omega.{arith}
use lib.IntN.{pos}
use lib.Dec.{T, eqb, eqb→eq, lit<, lit≤}
use lib.Pow.{pow_pos}
use lib.Ieee.{Float, nan, inf, fin, binary32, binary64, up, down, neg, round, add, sub, div, eq, le, is_nan, fits, of_int}
use lib.Ieee.Bits.{is_true}
use lib.Ieee.Fits.{and_l, and_i, down_pos, of_int-fits}
use Rattle.laws.proofs.laws.Arithmetic.{or_ge}
use Rattle.rounding.proofs.laws.Narrow.{narrowed-fits, narrowed-le, narrowed_ge}
use Rattle.gain_table.specs.GainTable.{entry}
use Rattle.gain_table.proofs.laws.GainTable.{entry_below_lem, entry_rises}
use Rattle.laws.proofs.laws.Choice.{cond-true, cond-false, true-T}
use Rattle.laws.specs.Float.{pos_zero, one, whole}
use Rattle.laws.proofs.laws.Float.{Zero, positive_zero, negative_zero}
use Rattle.laws.specs.FloatOrder.{Number, plus, minus}
use Rattle.laws.proofs.laws.FloatOrder.{units→le, plus_on_grid, le_through}
use Rattle.laws.specs.FloatRound.{Between, integer}
use Rattle.laws.proofs.laws.FloatRound.{at_integer, sub_exact, div_between, number, units_least, units_most, between_widens}
use Rattle.laws.proofs.laws.FloatLiteral.{at_pos_zero}
use Rattle.laws.specs.FloatBounds.{Within}
use Rattle.laws.proofs.laws.FloatBounds.{within_between}
use Rattle.laws.proofs.laws.Amount.{InUnit, round_amount}
use Rattle.laws.specs.Interpolate.{interpolate}
use Rattle.laws.proofs.laws.Interpolate.{exact_up}
use Rattle.laws.proofs.laws.DecibelRange.{ReadRange, read_number, read_not_nan}
use Rattle.decibels.specs.Decibels.{limit, silence, last_entry, admitted, entry_below, rest_above, line_at, second_difference, correction_at, curve_at, curve, amplitude, sixteenths}
use Rattle.decibels.proofs.laws.Position.{Steps, steps, entry_most}
use Rattle.decibels.proofs.laws.Correction.{in_row, low_end, high_end, high_end_lem, corrected_between}

-- ---- exact values

pub amplitude_unity : {n : Float} → Zero n → amplitude n ≡ one
unfolding amplitude eq of_int
amplitude_unity positive_zero = refl
amplitude_unity negative_zero = refl

-- what is at or below -60 is not 0
not_both : (n : Float) → T (eq n (whole 0)) → T (le n silence) → ⊥
unfolding eq le neg of_int
not_both nan h k = h
not_both (inf s) h k = h
not_both (fin true m e) h k =
    let A = m * up e * 1 in
    let none : A ≡ 0 * down e = eqb→eq A (0 * down e) (and_l (eqb A (0 * down e)) (eqb A 0) h) in
    let least : 60 * down e ≤ A = or_ge A (60 * down e) k in
    let c = down_pos e in
    omega arith
not_both (fin false m e) h k =
    let A = m * up e * 1 in
    let none : A ≡ 0 * down e = eqb→eq A (0 * down e) (and_l (eqb A (0 * down e)) true h) in
    let same : A ≡ 60 * down e = eqb→eq A (60 * down e) (and_l (eqb A (60 * down e)) (eqb A 0) k) in
    let c = down_pos e in
    omega arith

pub amplitude_silent : (n : Float) → T (le n silence) → amplitude n ≡ pos_zero
unfolding amplitude of_int
amplitude_silent n h = go (eq n (whole 0)) refl
  where
    go : (t : Bool) → eq n (whole 0) ≡ t → cond (eq n (whole 0)) (whole 1) (cond (le n silence) (whole 0) (curve n)) ≡ pos_zero
    go true e = absurd (not_both n (true-T (eq n (whole 0)) e) h)
    go false e = cond-false (eq n (whole 0)) (whole 1) (cond (le n silence) (whole 0) (curve n)) e ∙ cond-true (le n silence) (whole 0) (curve n) (is_true (le n silence) h)

-- ---- bounds

order : (pa ma pb mb A B : ℕ) → pa ≡ A → ma ≡ 0 → pb ≡ B → mb ≡ 0 → A ≤ B → pa + mb ≤ pb + ma
order pa ma pb mb A B h i j k l = omega arith

pub whole_le : (a b : ℕ) → a ≤ b → b < 2 ^ 53 → T (le (whole a) (whole b))
unfolding of_int
whole_le a b h l =
    let x = at_integer binary64 false a (lt_of_le_of_lt h l) in
    let y = at_integer binary64 false b l in
    units→le binary64 (whole a) (whole b) x.0 y.0
    (order (plus binary64 (whole a)) (minus binary64 (whole a)) (plus binary64 (whole b)) (minus binary64 (whole b)) (a * 2 ^ 1074) (b * 2 ^ 1074) x.1 x.2 y.1 y.2
    (mul-le-mul_right (2 ^ 1074) h))

pub whole_number : (a : ℕ) → a < 2 ^ 53 → Number binary64 (whole a)
unfolding of_int
whole_number a h = (at_integer binary64 false a h).0

-- the difference of two entries is exact
pub record Exact (a b : Float) : Type 0 where
  pub is_number : Number binary64 (sub binary64 b a)
  pub exactly : plus binary64 (sub binary64 b a) + (minus binary64 b + plus binary64 a) ≡ minus binary64 (sub binary64 b a) + (plus binary64 b + minus binary64 a)

parts : (pd mu pt pu mt D X Y : ℕ) → pd ≡ D → mu ≡ 0 → pt ≡ X → pu ≡ Y → mt ≡ 0 → D + X ≡ Y → pd + (mu + pt) ≡ 0 + (pu + mt)
parts pd mu pt pu mt D X Y a b c d e h = omega arith

pub exact : (t u : ℕ) → t ≤ u → u < 2 ^ 53 → Exact (whole t) (whole u)
unfolding of_int
exact t u h l =
    let x = at_integer binary64 false t (lt_of_le_of_lt h l) in
    let y = at_integer binary64 false u l in
    let d = at_integer binary64 false (u - t) (lt_of_le_of_lt (omega arith) l) in
    let w = plus binary64 (whole (u - t)) in
    let r = sub_exact binary64 (whole u) (whole t) false w y.0 x.0 (plus_on_grid binary64 (whole (u - t)) d.0)
    (parts w (minus binary64 (whole u)) (plus binary64 (whole t)) (plus binary64 (whole u)) (minus binary64 (whole t)) ((u - t) * 2 ^ 1074) (t * 2 ^ 1074) (u * 2 ^ 1074) d.1 y.2 x.1 y.1 x.2
    (sym (add-mul (u - t) t (2 ^ 1074)) ∙ ap (λ (z : ℕ). z * 2 ^ 1074) (sub-add_cancel h))) in
    record { is_number = r.0; exactly = r.1 }

-- the value that a test picks
picked : (P : Float → Type 0) (b : Bool) (x y : Float) → (T b → P x) → (T (not b) → P y) → P (cond b x y)
picked P true x y p q = p tt
picked P false x y p q = q tt

-- a value between two whole numbers below 2 ^ 44
pub to_top : (a b : ℕ) (x : Float) → a ≤ b → b ≤ 2 ^ 44 → Between binary64 (whole a) (whole b) x → Between binary64 pos_zero (whole (2 ^ 44)) x
unfolding of_int
to_top a b x h l =
    between_widens binary64 (whole a) (whole b) (whole 0) (whole (2 ^ 44)) x (whole_number a (omega arith)) (whole_number b (omega arith)) (whole_number 0 (lit< tt)) (whole_number (2 ^ 44) (lit< tt))
    (whole_le 0 a (omega arith) (omega arith)) (whole_le b (2 ^ 44) l (lit< tt))

line_inside : (k : ℕ) (rest : Float) → k ≤ last_entry → InUnit binary64 rest → Between binary64 (whole (entry k)) (whole (entry (suc k))) (line_at k rest)
unfolding line_at interpolate
line_inside k rest h u =
    let rises = entry_rises k (omega arith) in
    let next = entry_below_lem (suc k) (omega arith) in
    let x = exact (entry k) (entry (suc k)) rises (omega arith) in
    exact_up binary64 (whole (entry k)) (whole (entry (suc k))) rest (whole_number (entry k) (omega arith)) (whole_number (entry (suc k)) (omega arith)) x.is_number u x.exactly
    (whole_le (entry k) (entry (suc k)) rises (omega arith))

-- the ends of what the curve can be from entry k to the next
abbrev pub curve_least : ℕ → ℕ
curve_least k = low_end (entry k) (entry (suc (suc k)))

abbrev pub curve_most : ℕ → ℕ
curve_most k = high_end (entry k) (entry (suc k)) (entry (suc (suc k)))

pub curve_inside : (k : ℕ) (rest : Float) → k ≤ last_entry → InUnit binary64 rest → Between binary64 (whole (curve_least k)) (whole (curve_most k)) (add binary64 (line_at k rest) (correction_at k rest))
unfolding correction_at second_difference
curve_inside k rest h u = corrected_between (entry k) (entry (suc k)) (entry (suc (suc k))) (in_row k h) (line_at k rest) rest u (line_inside k rest h u)

pub ends_rise : (k : ℕ) → k ≤ last_entry → curve_least k ≤ curve_most k
ends_rise k h = omega (arith, (in_row k h).rises)

curve_at_between : (k : ℕ) (rest : Float) → k ≤ last_entry → InUnit binary64 rest → Between binary64 pos_zero (whole (2 ^ 44)) (curve_at k rest)
unfolding curve_at
curve_at_between k rest h u =
    let this = entry_below_lem k (omega arith) in
    picked (Between binary64 pos_zero (whole (2 ^ 44))) (eq rest (whole 0)) (whole (entry k)) (add binary64 (line_at k rest) (correction_at k rest))
    (λ e. to_top (entry k) (entry k) (whole (entry k)) (omega arith) (omega arith)
    (record { held = of_int-fits binary64 (pos (entry k)); least = whole_le (entry k) (entry k) (omega arith) (omega arith); most = whole_le (entry k) (entry k) (omega arith) (omega arith) }))
    (λ e. to_top (curve_least k) (curve_most k) (add binary64 (line_at k rest) (correction_at k rest)) (ends_rise k h) (le_of_lt (high_end_lem (entry k) (entry (suc k)) (entry (suc (suc k))) (in_row k h))) (curve_inside k rest h u))

-- over 2 ^ 40
scaled : (px mx U : ℕ) → px ≤ 2 ^ 44 * U + mx → px * U ≤ mx * U + 16 * U * (2 ^ 40 * U)
scaled px mx U h =
    le_trans (mul-le-mul_right U h)
    (le_of_eq (add-mul (2 ^ 44 * U) mx U ∙ add_comm (2 ^ 44 * U * U) (mx * U) ∙ ap (λ (z : ℕ). mx * U + z) (powers U)))
  where
    powers : (U : ℕ) → 2 ^ 44 * U * U ≡ 16 * U * (2 ^ 40 * U)
    powers U = ap (λ (z : ℕ). z * U) (sym (mul_right_comm 16 U (2 ^ 40))) ∙ mul_assoc (16 * U) (2 ^ 40) U

from_zero : (px mx pz mz py U : ℕ) → pz ≡ 0 → mz ≡ 0 → pz + mx ≤ px + mz → mx * U + pz * py ≤ px * U + mz * py
from_zero px mx pz mz py U a b h =
    let x : mx * U ≤ px * U = mul-le-mul_right U (omega arith) in
    let y : pz * py ≡ 0 = ap (λ (z : ℕ). z * py) a ∙ zero-mul py in
    omega arith

to_sixteen : (px mx ph mh py U : ℕ) → ph ≡ 16 * U → mh ≡ 0 → py ≡ 2 ^ 40 * U → px ≤ 2 ^ 44 * U + mx → px * U + mh * py ≤ mx * U + ph * py
to_sixteen px mx ph mh py U a b c h =
    let x : px * U ≤ mx * U + 16 * U * (2 ^ 40 * U) = scaled px mx U h in
    let y : mh * py ≡ 0 = ap (λ (z : ℕ). z * py) b ∙ zero-mul py in
    let w : ph * py ≡ 16 * U * (2 ^ 40 * U) = ap (λ (z : ℕ). z * py) a ∙ ap (λ (z : ℕ). 16 * U * z) c in
    le_trans (le_of_eq (ap (λ (z : ℕ). px * U + z) y ∙ add-zero (px * U))) (le_trans x (le_of_eq (ap (λ (z : ℕ). mx * U + z) (sym w))))

bounded : (px mx pt mt T' : ℕ) → pt ≡ T' → mt ≡ 0 → px + mt ≤ pt + mx → px ≤ T' + mx
bounded px mx pt mt T' a b h = omega arith

pub quotient_between : (x : Float) → Between binary64 pos_zero (whole (2 ^ 44)) x → Between binary64 pos_zero (whole 16) (div binary64 x (whole (2 ^ 40)))
unfolding of_int
quotient_between x b =
    let z = at_pos_zero binary64 in
    let y = at_integer binary64 false (2 ^ 40) (lit< tt) in
    let t = at_integer binary64 false (2 ^ 44) (lit< tt) in
    let h = at_integer binary64 false 16 (lit< tt) in
    let U = 2 ^ 1074 in
    let Y = whole (2 ^ 40) in
    let N = number binary64 pos_zero (whole (2 ^ 44)) x z.0 t.0 b in
    div_between binary64 x Y pos_zero (whole 16) N y.0 z.0 h.0
    (subst (λ (p : ℕ). 0 < p) (sym y.1) (mul-pos (lit< {m = 0} {n = 2 ^ 40} tt) (pow_pos 1074)))
    (from_zero (plus binary64 x) (minus binary64 x) (plus binary64 pos_zero) (minus binary64 pos_zero) (plus binary64 Y) U z.1 z.2 (units_least binary64 pos_zero (whole (2 ^ 44)) x z.0 t.0 b))
    (to_sixteen (plus binary64 x) (minus binary64 x) (plus binary64 (whole 16)) (minus binary64 (whole 16)) (plus binary64 Y) U h.1 h.2 y.1
    (bounded (plus binary64 x) (minus binary64 x) (plus binary64 (whole (2 ^ 44))) (minus binary64 (whole (2 ^ 44))) (2 ^ 44 * U) t.1 t.2 (units_most binary64 pos_zero (whole (2 ^ 44)) x z.0 t.0 b)))

curve_between : (n : Float) → Steps n → Between binary32 pos_zero (whole 16) (curve n)
unfolding curve fits of_int
curve_between n S =
    let u : InUnit binary64 (rest_above n) =
    subst (InUnit binary64) (sym S.rest) (round_amount binary64 (sixteenths S.s S.a S.c % S.c) S.c S.above (le_of_lt (mod-lt (sixteenths S.s S.a S.c) S.above))) in
    let q = quotient_between (curve_at (entry_below n) (rest_above n)) (curve_at_between (entry_below n) (rest_above n) (entry_most n S) u) in
    let x = div binary64 (curve_at (entry_below n) (rest_above n)) (whole (2 ^ 40)) in
    record { held = narrowed-fits x; least = narrowed_ge pos_zero x tt q.least; most = narrowed-le x (whole 16) tt q.most }

zero_between : Between binary32 pos_zero (whole 16) (whole 0)
unfolding of_int fits le
zero_between = record { held = tt; least = tt; most = tt }

one_between : Between binary32 pos_zero (whole 16) (whole 1)
unfolding of_int fits le
one_between = record { held = tt; least = tt; most = tt }

-- an amplitude is from 0 to 16
pub amplitude_between : (n : Float) → T (fits binary32 n) → T (admitted n) → Between binary32 pos_zero (whole 16) (amplitude n)
unfolding amplitude
amplitude_between n f t =
    picked (Between binary32 pos_zero (whole 16)) (eq n (whole 0)) (whole 1) (cond (le n silence) (whole 0) (curve n))
    (λ e. one_between)
    (λ e. picked (Between binary32 pos_zero (whole 16)) (le n silence) (whole 0) (curve n) (λ l. zero_between) (λ l. curve_between n (steps n f t l e)))

pub amplitude_within : (n : Float) → T (fits binary32 n) → T (admitted n) → Within (amplitude n) 16 1
unfolding of_int
amplitude_within n f t =
    let b = amplitude_between n f t in
    within_between (record { is_finite = tt; size = lit≤ tt }) (record { is_finite = tt; size = lit≤ tt }) b.least b.most

-- ---- what a render reads has an amplitude

limit_number : Number binary32 limit
unfolding fits of_int
limit_number = record { held = tt; is_finite = tt }

pub read_admitted : (x : Float) → ReadRange x → T (admitted x)
unfolding admitted le of_int round
read_admitted x h =
    and_i (not (is_nan x)) (le x limit) (read_not_nan x h)
    (le_through binary32 x (integer binary32 false 20) limit (read_number x h) (at_integer binary32 false 20 (lit< tt)).0 limit_number h.most tt)
