-- The laws of the loop that takes ones off a timer and counts them: each difference is exact, so that ticks plus fraction keep the sum exactly.
-- Times are counted in the f64's smallest values, 2 ^ 1074 of which are one: `plus binary64 x` says how many of them x is. Assumes nothing.
use mathlib.Core.Path.{◌≡◌, refl, sym, ap, ◌∙◌, subst}
use Prim.Native.Nat.{ℕ, zero, suc, ◌+◌, ◌*◌, ◌/◌, ◌^◌, ◌≤◌, ◌<◌}
use native.Mathlib.Nat.{le_trans, le_of_eq, le_of_mul-le-mul_right, lt_of_mul-lt-mul_right, lt_of_lt_of_le, lt_of_le_of_lt, lt-suc_self, not-le_of_lt, one-mul, suc-mul, add-mul, add-div_right, div-lt_iff_lt-mul, mul-le-mul_right}
use native.Mathlib.Numerals.{add-one}
use native.Mathlib.Omega.{arith}
use mathlib.Core.Bool.{Bool, true, false, not, cond}
use lib.Dec.{T, leb, ltb, leb→le, nleb→lt, ltb→lt, nltb→le, lit<, lit≤}
use lib.Pow.{pow_pos, pow_mono}
use lib.Ieee.{Float, binary64, low, sub, le, lt, of_int, to_unsigned}
use Rattle.laws.specs.Float.{whole}
use Rattle.laws.specs.FloatOrder.{Number, minus}
use Rattle.laws.proofs.laws.FloatOrder.{le_is, lt_is, le→units, not_le→units}
use Rattle.laws.proofs.laws.FloatRound.{at_integer}
use Rattle.laws.proofs.laws.Choice.{cond-true, cond-false, true-T, false-T}
use Rattle.clock.specs.declared.clock.ClockState.{ClockState}
use Rattle.clock.specs.declared.clock.ClockState.TheVariants.{Started}
use Rattle.clock.specs.Clock.{ticks_of, fraction_of, taken_within, taken, span, Timer, CanTake, one_span}
use Rattle.clock.proofs.laws.Exact.{OneLess, one_less, whole_part}

-- ---- what the test says

pub whole-span : (n : ℕ) → n < 2 ^ 53 → Number binary64 (whole n) × (span (whole n) ≡ n * one_span) × (minus binary64 (whole n) ≡ 0)
unfolding of_int
whole-span n h = at_integer binary64 false n h

one_at : Number binary64 (whole 1) × (span (whole 1) ≡ 1 * one_span) × (minus binary64 (whole 1) ≡ 0)
one_at = whole-span 1 (lit< tt)

-- from the order as two sums, of which b and d are 0 and a is one
at_least : (U a b c d : ℕ) → a ≡ 1 * U → b ≡ 0 → d ≡ 0 → a + b ≤ c + d → U ≤ c
at_least U a b c d p q r h = omega arith

at_most : (U a b c d : ℕ) → a ≡ 1 * U → b ≡ 0 → d ≡ 0 → c + d < a + b → c < U
at_most U a b c d p q r h = omega arith

one_left : (x : Float) → Timer x → le (whole 1) x ≡ true → one_span ≤ span x
one_left x t h =
    at_least one_span (span (whole 1)) (minus binary64 x) (span x) (minus binary64 (whole 1)) one_at.1 t.least one_at.2
    (le→units binary64 (whole 1) x one_at.0 t.number (true-T (le (whole 1) x) h))

none_left : (x : Float) → Timer x → le (whole 1) x ≡ false → span x < one_span
none_left x t h =
    at_most one_span (span (whole 1)) (minus binary64 x) (span x) (minus binary64 (whole 1)) one_at.1 t.least one_at.2
    (not_le→units binary64 (whole 1) x one_at.0 t.number (false-T (le (whole 1) x) h))

leb-not : (a b : ℕ) → leb a b ≡ not (ltb b a)
leb-not a b = go (leb a b) (ltb b a) (leb→le a b) (nleb→lt a b) (ltb→lt b a) (nltb→le b a)
  where
    go : (p q : Bool) → (T p → a ≤ b) → (T (not p) → b < a) → (T q → b < a) → (T (not q) → a ≤ b) → p ≡ not q
    go true true h k l m = absurd (not-le_of_lt (l tt) (h tt))
    go true false h k l m = refl
    go false true h k l m = refl
    go false false h k l m = absurd (not-le_of_lt (k tt) (m tt))

-- `timer >= 1.0`, and `timer < 1.0` as a loop that is left by a test has it
pub test_is : (x : Float) → Timer x → le (whole 1) x ≡ not (lt x (whole 1))
test_is x t =
    le_is binary64 (whole 1) x one_at.0 t.number ∙ leb-not (span (whole 1) + minus binary64 x) (span x + minus binary64 (whole 1))
    ∙ ap not (sym (lt_is binary64 x (whole 1) t.number one_at.0))

-- ---- one turn

abbrev less : Float → Float
less x = sub binary64 x (whole 1)

pub less_exact : (x : Float) → Timer x → le (whole 1) x ≡ true → OneLess binary64 x (less x)
unfolding of_int
less_exact x t h = one_less binary64 x t.number t.least (one_left x t h) t.small

falls : (U y x b : ℕ) → y + U ≡ x → x < b → y < b
falls U y x b e h = omega arith

pub less_timer : (x : Float) → Timer x → le (whole 1) x ≡ true → Timer (less x)
less_timer x t h =
    let l = less_exact x t h in
    record { number = l.number; least = l.least; small = falls one_span (span (less x)) (span x) (2 ^ 53 * one_span) l.exact t.small }

-- its ones are one fewer
ones : (x : Float) → Timer x → to_unsigned 64 x ≡ span x / one_span
ones x t = whole_part binary64 64 x t.number t.least (lt_of_lt_of_le t.small (mul-le-mul_right one_span (pow_mono {i = 53} {j = 64} (lit≤ tt))))

pub less_ones : (x : Float) → Timer x → le (whole 1) x ≡ true → to_unsigned 64 x ≡ suc (to_unsigned 64 (less x))
less_ones x t h =
    ones x t ∙ ap (λ (n : ℕ). n / one_span) (sym (less_exact x t h).exact) ∙ add-div_right (span (less x)) (pow_pos (low binary64)) ∙ add-one (span (less x) / one_span)
    ∙ ap suc (sym (ones (less x) (less_timer x t h)))

counted : (U t y x a : ℕ) → suc t * U ≡ t * U + U → y + U ≡ x → a ≡ suc t * U + y → a ≡ t * U + x
counted U t y x a p e h = omega arith

pub less_kept : (ticks : ℕ) (x : Float) → Timer x → le (whole 1) x ≡ true → (a : ℕ) → a ≡ suc ticks * one_span + span (less x) → a ≡ ticks * one_span + span x
less_kept ticks x t h a e = counted one_span ticks (span (less x)) (span x) a (suc-mul ticks one_span) (less_exact x t h).exact e

pub taken_again : (ticks : ℕ) (x : Float) → Timer x → le (whole 1) x ≡ true → taken ticks x ≡ taken (suc ticks) (less x)
unfolding taken
taken_again ticks x t h =
    ap (λ (n : ℕ). taken_within n ticks x) (less_ones x t h)
    ∙ cond-true (le (whole 1) x) (taken_within (to_unsigned 64 (less x)) (suc ticks) (less x)) (Started ticks x) h

pub taken_done : (ticks : ℕ) (x : Float) → le (whole 1) x ≡ false → taken ticks x ≡ Started ticks x
unfolding taken
taken_done ticks x h = go (to_unsigned 64 x)
  where
    go : (n : ℕ) → taken_within n ticks x ≡ Started ticks x
    go zero = refl
    go (suc n) = cond-false (le (whole 1) x) (taken_within n (suc ticks) (less x)) (Started ticks x) h

-- there is room for the tick
room_for : (U t a b c : ℕ) → t + a ≡ b → U ≤ a → b < c → t + U < c
room_for U t a b c e h k = omega arith

pub tick_fits : (ticks : ℕ) (x : Float) (before : ℕ) (timer : Float) → CanTake before timer → Timer x → ticks * one_span + span x ≡ before * one_span + span timer → le (whole 1) x ≡ true
    → ticks + 1 < 2 ^ 64
tick_fits ticks x before timer c t e h =
    lt_of_mul-lt-mul_right one_span
    (lt_of_le_of_lt (le_of_eq (add-mul ticks 1 one_span ∙ ap (λ (n : ℕ). ticks * one_span + n) (one-mul one_span)))
    (room_for one_span (ticks * one_span) (span x) (before * one_span + span timer) (2 ^ 64 * one_span) e (one_left x t h) c.room))

-- ---- all turns

-- s is where a timer leads from a number of ticks: less than one is left, and ticks plus fraction are ticks plus timer, exactly
pub record Kept (ticks : ℕ) (timer : Float) (s : ClockState) : Type 0 where
  pub started : s ≡ Started (ticks_of s) (fraction_of s)
  pub fraction : Timer (fraction_of s)
  pub below : span (fraction_of s) < one_span
  pub exact : ticks_of s * one_span + span (fraction_of s) ≡ ticks * one_span + span timer

left : (U n y x : ℕ) → suc n * U ≡ n * U + U → y + U ≡ x → x < suc n * U → y < n * U
left U n y x p e h = omega arith

-- the first turn, from what the others do
kept_turn : (n ticks : ℕ) (x : Float) → Timer x → (le (whole 1) x ≡ true → Kept (suc ticks) (less x) (taken_within n (suc ticks) (less x)))
    → Kept ticks x (taken_within (suc n) ticks x)
unfolding taken_within ticks_of fraction_of
kept_turn n ticks x t k = go (le (whole 1) x) refl
  where
    s : ClockState
    s = taken_within n (suc ticks) (less x)

    turn : le (whole 1) x ≡ true → Kept (suc ticks) (less x) s → Kept ticks x s
    turn e r =
        record {
          started = r.started;
          fraction = r.fraction;
          below = r.below;
          exact = less_kept ticks x t e (ticks_of s * one_span + span (fraction_of s)) r.exact;
        }

    go : (b : Bool) → le (whole 1) x ≡ b → Kept ticks x (cond b s (Started ticks x))
    go true e = turn e (k e)
    go false e = record { started = refl; fraction = t; below = none_left x t e; exact = refl }

kept_within : (n ticks : ℕ) (x : Float) → Timer x → span x < suc n * one_span → Kept ticks x (taken_within n ticks x)
unfolding taken_within ticks_of fraction_of
kept_within zero ticks x t h = record { started = refl; fraction = t; below = subst (λ (m : ℕ). span x < m) (one-mul one_span) h; exact = refl }
kept_within (suc n) ticks x t h =
    kept_turn n ticks x t
    (λ e. kept_within n (suc ticks) (less x) (less_timer x t e) (left one_span (suc n) (span (less x)) (span x) (suc-mul (suc n) one_span) (less_exact x t e).exact h))

-- ticks plus fraction keep the timer exactly, and less than one is left
pub kept : (ticks : ℕ) (x : Float) → Timer x → Kept ticks x (taken ticks x)
unfolding taken
kept ticks x t =
    kept_within (to_unsigned 64 x) ticks x t
    (subst (λ (n : ℕ). span x < suc n * one_span) (sym (ones x t)) ((div-lt_iff_lt-mul (pow_pos (low binary64))).0 (lt-suc_self (span x / one_span))))

-- a timer of n at most has n ticks at most
within : (a r b x y : ℕ) → a + r ≡ b + x → x ≤ y → a ≤ b + y
within a r b x y e h = omega arith

pub few_ticks : (ticks n : ℕ) (x : Float) (s : ClockState) → Kept ticks x s → span x ≤ n * one_span → ticks_of s ≤ ticks + n
few_ticks ticks n x s k h =
    le_of_mul-le-mul_right
    (le_trans (within (ticks_of s * one_span) (span (fraction_of s)) (ticks * one_span) (span x) (n * one_span) k.exact h) (le_of_eq (sym (add-mul ticks n one_span))))
    (pow_pos (low binary64))
