-- Amounts stay from 0 to 1: easings take them to amounts, and so does a tween's value up to its end. Assumes nothing.
use mathlib.Core.Path.{◌≡◌, refl, sym, ap, ◌∙◌, subst}
use mathlib.Core.Logic.{inl, inr}
use mathlib.Core.Bool.{Bool, true, false, cond, ◌&&◌, ◌||◌, true≢false}
use Prim.Native.Nat.{ℕ, zero, suc, ◌+◌, ◌-◌, ◌*◌, ◌/◌, ◌%◌, ◌^◌, ◌≤◌, ◌<◌}
use native.Mathlib.Nat.{eq-zero-or-pos, mul-pos, suc-mul, le-add_left, le-add_right}
use native.Mathlib.Omega.{arith}
use lib.Dec.{T, ltb, eqb, lit<}
use borrow.Author.Tests.{ltb-false}
use lib.Pow.{pow_pos}
use lib.Ieee.{Float, nan, inf, fin, binary64, low, up, down, round, add, sub, mul, div, lt, le, of_int}
use lib.Ieee.Positive.{positive}
use lib.Ieee.Order.{round_mono}
use Rattle.std.specs.Float.{is_sign_negative}
use Rattle.laws.proofs.laws.Arithmetic.{le_or}
use Rattle.laws.proofs.laws.Choice.{true-T, false-T}
use Rattle.laws.specs.Float.{pos_zero, half, one, two}
use Rattle.laws.proofs.laws.FloatLiteral.{at_pos_zero}
use Rattle.laws.specs.FloatOrder.{Number, plus, minus}
use Rattle.laws.proofs.laws.FloatOrder.{units→lt, lt→units}
use Rattle.laws.specs.FloatRound.{Between, integer}
use Rattle.laws.proofs.laws.FloatRound.{at_integer, number, units_least, add_between}
use Rattle.laws.proofs.laws.Amount.{InUnit, round-unsigned, add-unsigned, power_amount, mul_amount, div_amount, positive_of_lt, one_minus_amount, double_amount, mirror_amount, one_in_unit, half_amount, mirrored_upper_amount, amount_number, amount_minus, amount_plus, place_above_zero}
use Rattle.laws.proofs.laws.Unsigned.{unsigned}
use Rattle.rounding.specs.Duration.{secs_from_millis}
use Rattle.tween.specs.declared.tween.Easing.{Easing}
use Rattle.tween.specs.declared.tween.Easing.TheVariants.{Linear, InPowi, OutPowi, InOutPowi}
use Rattle.tween.specs.declared.tween.Tween.{Tween}
use Rattle.tween.specs.TimeWithin.{TimeWithin}
use Rattle.tween.specs.Tween.{powi_from, powi, in_out_powi, easing_apply, tween_value}

-- ---- easings

powi_from_amount : (bits : ℕ) (result base : Float) (left : ℕ) → InUnit binary64 result → InUnit binary64 base → InUnit binary64 (powi_from bits result base left)
unfolding powi_from
powi_from_amount zero result base left R B = R
powi_from_amount (suc bits) result base left R B =
    powi_from_amount bits (cond (eqb (left % 2) 1) (mul binary64 result base) result) (mul binary64 base base) (left / 2)
    (power_amount binary64 (eqb (left % 2) 1) result base R B) (mul_amount binary64 base base B B)

pub powi_amount : (x : Float) (power : ℕ) → InUnit binary64 x → InUnit binary64 (powi x power)
unfolding powi
powi_amount x power h = powi_from_amount 32 one x power (one_in_unit binary64) h

in_out_amount : (x : Float) (power : ℕ) → InUnit binary64 x → InUnit binary64 (in_out_powi (mul binary64 x two) power)
unfolding in_out_powi
in_out_amount x power h = go (lt y one) refl
  where
    y : Float
    y = mul binary64 x two

    go : (b : Bool) → lt y one ≡ b
        → InUnit binary64 (cond b (mul binary64 half (powi y power)) (add binary64 (mul binary64 half (sub binary64 one (powi (sub binary64 two y) power))) half))
    go true e = half_amount binary64 (powi y power) (powi_amount y power (double_amount binary64 x h (true-T (lt y one) e)))
    go false e =
        mirrored_upper_amount binary64 (powi (sub binary64 two y) power) (powi_amount (sub binary64 two y) power (mirror_amount binary64 x h (false-T (lt y one) e)))

pub easing_amount : (easing : Easing) (x : Float) → InUnit binary64 x → InUnit binary64 (easing_apply easing x)
unfolding easing_apply
easing_amount Linear x h = h
easing_amount (InPowi power) x h = powi_amount x power h
easing_amount (OutPowi power) x h =
    one_minus_amount binary64 (powi (sub binary64 one x) power) (powi_amount (sub binary64 one x) power (one_minus_amount binary64 x h))
easing_amount (InOutPowi power) x h = in_out_amount x power h

-- ---- a duration in seconds, as q whole ones and r milliseconds

abbrev whole_secs : ℕ → Float
whole_secs q = integer binary64 false q

abbrev rest_secs : ℕ → Float
rest_secs r = div binary64 (integer binary64 false (r * 1000000)) (integer binary64 false 1000000000)

rest_amount : (r : ℕ) → r < 1000 → InUnit binary64 (rest_secs r)
unfolding round
rest_amount r R =
    div_amount binary64 (integer binary64 false (r * 1000000)) (integer binary64 false 1000000000) (round-unsigned binary64 (r * 1000000) 1) tt
    (round_mono binary64 (r * 1000000) 1 1000000000 1 (lit< tt) (lit< tt) (omega arith))

-- a rest of some milliseconds is above zero
rest_above : (r : ℕ) → 0 < r → r < 1000 → 0 < plus binary64 (rest_secs r)
rest_above r P R =
    let e : suc (r * 1000000 - 1) ≡ r * 1000000 = omega arith in
    let o = at_pos_zero binary64 in
    let l : T (lt pos_zero (rest_secs r)) = subst (λ (a : ℕ). T (lt pos_zero (div binary64 (integer binary64 false a) (integer binary64 false 1000000000)))) e
    (place_above_zero binary64 (r * 1000000 - 1) 1000000000 (omega arith) (lit< tt)) in
    go (plus binary64 pos_zero) (minus binary64 pos_zero) (plus binary64 (rest_secs r)) (minus binary64 (rest_secs r)) o.2
    (lt→units binary64 pos_zero (rest_secs r) o.0 (amount_number binary64 (rest_secs r) (rest_amount r R)) l)
  where
    go : (a b c d : ℕ) → b ≡ 0 → a + d < c + b → 0 < c
    go a b c d e h = omega arith

module _ (q r : ℕ) (Q : suc q < 2 ^ 53) (R : r < 1000) where
  secs : Float
  secs = add binary64 (whole_secs q) (rest_secs r)

  -- the sum is not below a part v of it, and at most q + 1
  secs_from : (v : Float) → Number binary64 v → minus binary64 v ≡ 0 → plus binary64 v ≤ plus binary64 (whole_secs q) + plus binary64 (rest_secs r) → Between binary64 v (integer binary64 false (suc q)) secs
  unfolding secs
  secs_from v N z h =
      let A = rest_amount r R in
      let x = at_integer binary64 false q (omega arith) in
      let y = at_integer binary64 false (suc q) Q in
      add_between binary64 (whole_secs q) (rest_secs r) v (integer binary64 false (suc q)) x.0 (amount_number binary64 (rest_secs r) A) N y.0
      (least (minus binary64 (whole_secs q)) (minus binary64 (rest_secs r)) (plus binary64 v) (plus binary64 (whole_secs q) + plus binary64 (rest_secs r)) (minus binary64 v) x.2 (amount_minus binary64 (rest_secs r) A) h)
      (most q (2 ^ low binary64) (plus binary64 (whole_secs q)) (minus binary64 (whole_secs q)) (plus binary64 (rest_secs r)) (minus binary64 (rest_secs r)) (plus binary64 (integer binary64 false (suc q))) (minus binary64 (integer binary64 false (suc q)))
      x.1 (amount_plus binary64 (rest_secs r) A) y.1 y.2)
    where
      least : (mx my pv s mv : ℕ) → mx ≡ 0 → my ≡ 0 → pv ≤ s → mx + my + pv ≤ s + mv
      least mx my pv s mv a b h = omega arith

      most : (q U px mx py my ph mh : ℕ) → px ≡ q * U → py ≤ U → ph ≡ suc q * U → mh ≡ 0 → px + py + mh ≤ mx + my + ph
      most q U px mx py my ph mh a b c d = let e : suc q * U ≡ q * U + U = suc-mul q U in omega arith

  secs_above : (v : Float) → Number binary64 v → minus binary64 v ≡ 0 → plus binary64 v ≤ plus binary64 (whole_secs q) + plus binary64 (rest_secs r) → 0 < plus binary64 v → T (positive secs)
  secs_above v N z h p =
      let b = secs_from v N z h in
      let H = (at_integer binary64 false (suc q) Q).0 in
      let S = number binary64 v (integer binary64 false (suc q)) secs N H b in
      let o = at_pos_zero binary64 in
      positive_of_lt secs S.is_finite
      (units→lt binary64 pos_zero secs o.0 S
      (go (plus binary64 pos_zero) (minus binary64 pos_zero) (plus binary64 v) (minus binary64 v) (plus binary64 secs) (minus binary64 secs) o.1 z p (units_least binary64 v (integer binary64 false (suc q)) secs N H b)))
    where
      go : (po mo pv mv ps ms : ℕ) → po ≡ 0 → mv ≡ 0 → 0 < pv → pv + ms ≤ ps + mv → po + ms < ps + mo
      go po mo pv mv ps ms a b p h = omega arith

  secs_positive : 0 < q + r → T (positive secs)
  secs_positive p = elim (eq-zero-or-pos q) [
    | inl z ↦
        let A = rest_amount r R in
        secs_above (rest_secs r) (amount_number binary64 (rest_secs r) A) (amount_minus binary64 (rest_secs r) A) (le-add_left (plus binary64 (rest_secs r)) (plus binary64 (whole_secs q))) (rest_above r (omega arith) R)
    | inr h ↦
        let x = at_integer binary64 false q (omega arith) in
        secs_above (whole_secs q) x.0 x.2 (le-add_right (plus binary64 (whole_secs q)) (plus binary64 (rest_secs r)))
        (subst (λ (z : ℕ). 0 < z) (sym x.1) (mul-pos h (pow_pos (low binary64))))
  ]

-- longer durations are no whole numbers of f64's
pub duration_positive : (n : ℕ) → 0 < n → n < 2 ^ 53 → T (positive (secs_from_millis n))
unfolding secs_from_millis of_int secs
duration_positive n p h = secs_positive (n / 1000) (n % 1000) (omega arith) (omega arith) (omega arith)

pub duration_unsigned : (n : ℕ) → T (unsigned (secs_from_millis n))
unfolding secs_from_millis of_int
duration_unsigned n = add-unsigned binary64 (whole_secs (n / 1000)) (rest_secs (n % 1000)) (round-unsigned binary64 (n / 1000) 1) (rest_amount (n % 1000) (omega arith)).sign

pub duration_zero : secs_from_millis 0 ≡ pos_zero
unfolding secs_from_millis of_int add div
duration_zero = refl

fails : (a b : ℕ) → (ltb a b || (eqb a b && true)) ≡ false → b ≤ a
fails a b = go (ltb a b) refl
  where
    go : (p : Bool) → ltb a b ≡ p → (p || (eqb a b && true)) ≡ false → b ≤ a
    go true e h = absurd (true≢false h)
    go false e h = ltb-false a b e

unsigned_above : (x : Float) → T (unsigned x) → T (le pos_zero x)
unfolding le
unsigned_above nan h = absurd h
unsigned_above (inf false) h = tt
unsigned_above (inf true) h = absurd h
unsigned_above (fin false m e) h = le_or (0 * down e) (m * up e * 1) (omega arith)
unsigned_above (fin true m e) h = absurd h

-- of two such values one is at most the other
unsigned_total : (x y : Float) → T (unsigned x) → T (unsigned y) → le x y ≡ false → T (le y x)
unfolding le
unsigned_total nan y h k e = absurd h
unsigned_total (inf true) y h k e = absurd h
unsigned_total (fin true m i) y h k e = absurd h
unsigned_total (inf false) nan h k e = absurd k
unsigned_total (inf false) (inf true) h k e = absurd k
unsigned_total (inf false) (inf false) h k e = tt
unsigned_total (inf false) (fin t n j) h k e = tt
unsigned_total (fin false m i) nan h k e = absurd k
unsigned_total (fin false m i) (inf true) h k e = absurd k
unsigned_total (fin false m i) (inf false) h k e = absurd (true≢false e)
unsigned_total (fin false m i) (fin true n j) h k e = absurd k
unsigned_total (fin false m i) (fin false n j) h k e = le_or (n * up j * down i) (m * up i * down j) (fails (m * up i * down j) (n * up j * down i) e)

-- the sign of a time within a motion is clear, and a time of which that is so and which is at most the duration is within it
pub within_unsigned : (time : Float) (millis : ℕ) → TimeWithin time millis → T (unsigned time)
unfolding le is_sign_negative
within_unsigned nan millis w = absurd w.most
within_unsigned (inf s) millis w = w.sign
within_unsigned (fin s m e) millis w = w.sign

unsigned_within : (time : Float) (millis : ℕ) → T (unsigned time) → T (le time (secs_from_millis millis)) → TimeWithin time millis
unfolding is_sign_negative
unsigned_within nan millis h k = absurd h
unsigned_within (inf s) millis h k = record { sign = h; most = k }
unsigned_within (fin s m e) millis h k = record { sign = h; most = k }

pub within_start : (millis : ℕ) → TimeWithin pos_zero millis
within_start millis = unsigned_within pos_zero millis tt (unsigned_above (secs_from_millis millis) (duration_unsigned millis))

pub tween_amount : (tween : Tween) (time : Float) → 0 < tween.duration → tween.duration < 2 ^ 53 → TimeWithin time tween.duration → InUnit binary64 (tween_value tween time)
unfolding tween_value
tween_amount tween time p h w =
    easing_amount tween.easing (div binary64 time (secs_from_millis tween.duration))
    (div_amount binary64 time (secs_from_millis tween.duration) (within_unsigned time tween.duration w) (duration_positive tween.duration p h) w.most)

-- a motion that has not ended after a step on
pub within_step : (time dt : Float) (millis : ℕ) → T (unsigned time) → T (unsigned dt) → le (secs_from_millis millis) (add binary64 time dt) ≡ false → TimeWithin (add binary64 time dt) millis
within_step time dt millis h k e =
    let sign = add-unsigned binary64 time dt h k in
    unsigned_within (add binary64 time dt) millis sign (unsigned_total (secs_from_millis millis) (add binary64 time dt) (duration_unsigned millis) sign e)

-- a motion of no length has ended at once
pub no_length_ends : (time : Float) → T (unsigned time) → le (secs_from_millis 0) time ≡ true
no_length_ends time h = ap (λ (x : Float). le x time) duration_zero ∙ T_true (le pos_zero time) (unsigned_above time h)
  where
    T_true : (b : Bool) → T b → b ≡ true
    T_true true t = refl
    T_true false t = absurd t
