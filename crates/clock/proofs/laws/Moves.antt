-- The laws of a clock's update: what it adds is a number from 0 to 1001, so that the loop of Ticks.antt keeps it exactly; the fraction stays from 0 to
-- 1; an update of n / 1000 seconds at most counts n + 1 ticks at most; and no clock goes back. Assumes nothing.
use mathlib.Core.Path.{◌≡◌, refl, sym, subst}
use mathlib.Core.Logic.{◌⊎◌, inl, inr}
use Prim.Native.Nat.{ℕ, suc, ◌+◌, ◌*◌, ◌^◌, ◌≤◌, ◌<◌, zero-le}
use native.Mathlib.Nat.{le_refl, le_trans, le_of_eq, le-suc, lt_of_le_of_lt, mul-le-mul_right, mul-lt-mul_of_pos_right, mul_right_comm, suc-mul, add-mul, le-add_right, add-le-add}
use native.Mathlib.Omega.{arith}
use mathlib.Core.Bool.{Bool, true, false}
use lib.Dec.{T, lit<}
use lib.Pow.{pow_pos}
use lib.Ieee.{Float, binary64, low, add, mul, le, lt, fits, of_int}
use lib.Ieee.Fits.{and_l, and_r}
use Rattle.laws.specs.Float.{whole}
use Rattle.laws.proofs.laws.Choice.{cond-true, cond-false}
use Rattle.laws.specs.FloatOrder.{Number, minus}
use Rattle.laws.proofs.laws.FloatOrder.{le→units, units→le, units→lt, lt→le, one_sided}
use Rattle.laws.specs.FloatRound.{Between}
use Rattle.laws.proofs.laws.FloatRound.{number, units_most, mul_between, add_between}
use Rattle.clock.specs.declared.clock_speed.ClockSpeed.{ClockSpeed}
use Rattle.clock.specs.declared.clock.ClockState.{ClockState}
use Rattle.clock.specs.declared.clock.Clock.{Clock}
use Rattle.clock.specs.ClockSpeed.{as_ticks_per_second, allowed_speed}
use Rattle.clock.specs.Clock.{new_clock, ticks_of, fraction_of, taken, updated, IsFraction, IsStep, ClockWithin, last_tick, CanMove, span, Timer, CanTake, one_span}
use Rattle.clock.proofs.laws.Ticks.{whole-span, Kept, kept, few_ticks}

-- ---- numbers from 0 to n

-- x is a number, 0 or more, and n at most
pub record UpTo (n : ℕ) (x : Float) : Type 0 where
  pub number : Number binary64 x
  pub least : minus binary64 x ≡ 0
  pub most : span x ≤ n * one_span

pub zero_least : (U a b c d : ℕ) → a ≡ 0 * U → d ≡ 0 → (c ≡ 0) ⊎ (b ≡ 0) → a + b ≤ c + d → b ≡ 0
zero_least U a b c d p q (inl r) h = omega arith
zero_least U a b c d p q (inr r) h = r

most_of : (U n x a b d : ℕ) → a ≡ n * U → b ≡ 0 → d ≡ 0 → x + b ≤ a + d → x ≤ n * U
most_of U n x a b d p q r h = omega arith

pub up_to : (n : ℕ) (x : Float) → n < 2 ^ 53 → Between binary64 (whole 0) (whole n) x → UpTo n x
up_to n x h b =
    let z = whole-span 0 (lit< tt) in
    let t = whole-span n h in
    let N = number binary64 (whole 0) (whole n) x z.0 t.0 b in
    let l = zero_least one_span (span (whole 0)) (minus binary64 x) (span x) (minus binary64 (whole 0)) z.1 z.2 (one_sided binary64 x) (le→units binary64 (whole 0) x z.0 N b.least) in
    record { number = N; least = l; most = most_of one_span n (span x) (span (whole n)) (minus binary64 (whole n)) (minus binary64 x) t.1 t.2 l (units_most binary64 (whole 0) (whole n) x z.0 t.0 b) }

-- ---- fractions

pub fraction_number : (x : Float) → IsFraction x → UpTo 1 x
fraction_number x f = up_to 1 x (lit< tt) (record { held = f.held; least = f.least; most = lt→le x (whole 1) f.below })

to_least : (U a b c d : ℕ) → a ≡ 0 * U → b ≡ 0 → a + b ≤ c + d
to_least U a b c d p q = omega arith

to_below : (U x a b d : ℕ) → a ≡ 1 * U → b ≡ 0 → x < U → x + b < a + d
to_below U x a b d p q h = omega arith

pub to_fraction : (x : Float) → Timer x → span x < one_span → IsFraction x
to_fraction x t h =
    let z = whole-span 0 (lit< tt) in
    let o = whole-span 1 (lit< tt) in
    record {
      held = t.number.held;
      least = units→le binary64 (whole 0) x z.0 t.number (to_least one_span (span (whole 0)) (minus binary64 x) (span x) (minus binary64 (whole 0)) z.1 t.least);
      below = units→lt binary64 x (whole 1) t.number o.0 (to_below one_span (span x) (span (whole 1)) (minus binary64 (whole 1)) (minus binary64 x) o.1 o.2 h);
    }

-- ---- what an update adds

product : (U a b n : ℕ) → a ≤ 1000 * U → 1000 * b ≤ n * U → a * b ≤ n * U * U
product U a b n h k =
    le_trans (mul-le-mul_right b h)
    (le_trans (le_of_eq (mul_right_comm 1000 U b)) (mul-le-mul_right U k))

pub product_least : (U a a' b b' l l' : ℕ) → a' ≡ 0 → b' ≡ 0 → l ≡ 0 * U → a * b' + a' * b + l * U ≤ a * b + a' * b' + l' * U
product_least U a a' b b' l l' p q r = rw (p, q, r) (omega arith)

product_most : (U a a' b b' h h' n : ℕ) → a' ≡ 0 → b' ≡ 0 → h' ≡ 0 → h ≡ n * U → a * b ≤ n * U * U → a * b + a' * b' + h' * U ≤ a * b' + a' * b + h * U
product_most U a a' b b' h h' n p q r s k = rw (p, q, r, s) (omega arith)

-- speed times seconds: n at most where the seconds are n / 1000 at most
pub step_up_to : (n : ℕ) (s dt : Float) → n < 2 ^ 53 → UpTo 1000 s → UpTo 1 dt → 1000 * span dt ≤ n * one_span → UpTo n (mul binary64 s dt)
step_up_to n s dt h u v k =
    let z = whole-span 0 (lit< tt) in
    let t = whole-span n h in
    up_to n (mul binary64 s dt) h
    (mul_between binary64 s dt (whole 0) (whole n) u.number v.number z.0 t.0
    (product_least one_span (span s) (minus binary64 s) (span dt) (minus binary64 dt) (span (whole 0)) (minus binary64 (whole 0)) u.least v.least z.1)
    (product_most one_span (span s) (minus binary64 s) (span dt) (minus binary64 dt) (span (whole n)) (minus binary64 (whole n)) n u.least v.least t.2 t.1 (product one_span (span s) (span dt) n u.most k)))

sum_least : (U a a' b b' l l' : ℕ) → a' ≡ 0 → b' ≡ 0 → l ≡ 0 * U → a' + b' + l ≤ a + b + l'
sum_least U a a' b b' l l' p q r = omega arith

sum_most : (U a a' b b' h h' n : ℕ) → a ≤ 1 * U → b ≤ n * U → h' ≡ 0 → h ≡ suc n * U → suc n * U ≡ n * U + U → a + b + h' ≤ a' + b' + h
sum_most U a a' b b' h h' n p q r s e = omega arith

-- the fraction and what is added: the timer that the loop takes ones off
pub timer_up_to : (n : ℕ) (x y : Float) → suc n < 2 ^ 53 → UpTo 1 x → UpTo n y → UpTo (suc n) (add binary64 x y)
timer_up_to n x y h u v =
    let z = whole-span 0 (lit< tt) in
    let t = whole-span (suc n) h in
    up_to (suc n) (add binary64 x y) h
    (add_between binary64 x y (whole 0) (whole (suc n)) u.number v.number z.0 t.0
    (sum_least one_span (span x) (minus binary64 x) (span y) (minus binary64 y) (span (whole 0)) (minus binary64 (whole 0)) u.least v.least z.1)
    (sum_most one_span (span x) (minus binary64 x) (span y) (minus binary64 y) (span (whole (suc n))) (minus binary64 (whole (suc n))) n u.most v.most t.2 t.1 (suc-mul n one_span)))

pub up_to_timer : (n : ℕ) (x : Float) → n < 2 ^ 53 → UpTo n x → Timer x
up_to_timer n x h u = record { number = u.number; least = u.least; small = lt_of_le_of_lt u.most (mul-lt-mul_of_pos_right h (pow_pos (low binary64))) }

-- ---- an update

abbrev pub timer_of : Clock → Float → Float
timer_of c dt = add binary64 (fraction_of c.state) (mul binary64 (as_ticks_per_second c.speed) dt)

pub updated_still : (c : Clock) (dt : Float) → c.ticking ≡ false → updated c dt ≡ c
unfolding updated
updated_still c dt h = cond-false c.ticking (record { ticking = true; speed = c.speed; state = taken (ticks_of c.state) (timer_of c dt) }) c h

pub updated-ticking : (c : Clock) (dt : Float) → c.ticking ≡ true → updated c dt ≡ record { ticking = true; speed = c.speed; state = taken (ticks_of c.state) (timer_of c dt) }
unfolding updated
updated-ticking c dt h = cond-true c.ticking (record { ticking = true; speed = c.speed; state = taken (ticks_of c.state) (timer_of c dt) }) c h

step_number : (dt : Float) → IsStep dt → UpTo 1 dt
step_number dt s = up_to 1 dt (lit< tt) (record { held = s.held; least = s.least; most = s.most })

speed_number : (m : ℕ) (c : Clock) → ClockWithin m c → UpTo 1000 (as_ticks_per_second c.speed)
unfolding allowed_speed
speed_number m c w =
    let s = as_ticks_per_second c.speed in
    up_to 1000 s (lit< tt)
    (record { held = w.held; least = and_l (le (whole 0) s) (le s (whole 1000)) w.allowed; most = and_r (le (whole 0) s) (le s (whole 1000)) w.allowed })

-- an update of n / 1000 seconds at most
pub timer_of_lem : (n m : ℕ) (c : Clock) (dt : Float) → suc n < 2 ^ 53 → ClockWithin m c → IsStep dt → 1000 * span dt ≤ n * one_span → UpTo (suc n) (timer_of c dt)
timer_of_lem n m c dt h w s k =
    timer_up_to n (fraction_of c.state) (mul binary64 (as_ticks_per_second c.speed) dt) h (fraction_number (fraction_of c.state) w.fraction)
    (step_up_to n (as_ticks_per_second c.speed) dt (le_trans (le-suc (suc n)) h) (speed_number m c w) (step_number dt s) k)

thousand : (U d : ℕ) → d ≤ 1 * U → 1000 * d ≤ 1000 * U
thousand U d h = omega arith

pub step_thousand : (dt : Float) → IsStep dt → 1000 * span dt ≤ 1000 * one_span
step_thousand dt s = thousand one_span (span dt) (step_number dt s).most

timer_whole : (m : ℕ) (c : Clock) (dt : Float) → ClockWithin m c → IsStep dt → UpTo 1001 (timer_of c dt)
timer_whole m c dt w s = timer_of_lem 1000 m c dt (lit< tt) w s (step_thousand dt s)

pub can_take : (c : Clock) (dt : Float) → CanMove c dt → CanTake (ticks_of c.state) (timer_of c dt)
can_take c dt k =
    let u = timer_whole last_tick c dt k.clock k.step in
    record { is_timer = up_to_timer 1001 (timer_of c dt) (lit< tt) u; room = room one_span (ticks_of c.state) (span (timer_of c dt)) (pow_pos (low binary64)) k.clock.few u.most }
  where
    fits_in : (t : ℕ) → t ≤ last_tick → t + 1001 < 2 ^ 64
    fits_in t h = omega arith

    room : (U t x : ℕ) → 0 < U → t ≤ last_tick → x ≤ 1001 * U → t * U + x < 2 ^ 64 * U
    room U t x p h l = lt_of_le_of_lt (sum_up U t x l) (mul-lt-mul_of_pos_right (fits_in t h) p)
      where
        sum_up : (U t x : ℕ) → x ≤ 1001 * U → t * U + x ≤ (t + 1001) * U
        sum_up U t x l = rw add-mul (omega arith)

-- ---- what stays

pub new_clock_within : (s : ClockSpeed) (ticking : Bool) → T (fits binary64 (as_ticks_per_second s)) → T (allowed_speed s) → ClockWithin 0 (new_clock s ticking)
unfolding ticks_of fraction_of of_int fits le lt
new_clock_within s ticking h k = record { held = h; allowed = k; fraction = record { held = tt; least = tt; below = tt }; few = zero-le }

pub within_more : {m n : ℕ} {c : Clock} → m ≤ n → ClockWithin m c → ClockWithin n c
within_more h w = record { held = w.held; allowed = w.allowed; fraction = w.fraction; few = le_trans w.few h }

-- an update of n / 1000 seconds at most counts n + 1 ticks at most
pub updated_few : (n m : ℕ) (c : Clock) (dt : Float) → suc n < 2 ^ 53 → ClockWithin m c → IsStep dt → 1000 * span dt ≤ n * one_span → ClockWithin (m + suc n) (updated c dt)
updated_few n m c dt h w s k = go c.ticking refl
  where
    t : ℕ
    t = ticks_of c.state

    moved : ClockState
    moved = taken t (timer_of c dt)

    u : UpTo (suc n) (timer_of c dt)
    u = timer_of_lem n m c dt h w s k

    r : Kept t (timer_of c dt) moved
    r = kept t (timer_of c dt) (up_to_timer (suc n) (timer_of c dt) h u)

    go : (b : Bool) → c.ticking ≡ b → ClockWithin (m + suc n) (updated c dt)
    go false e = subst (λ (d : Clock). ClockWithin (m + suc n) d) (sym (updated_still c dt e)) (within_more (le-add_right m (suc n)) w)
    go true e =
        subst (λ (d : Clock). ClockWithin (m + suc n) d) (sym (updated-ticking c dt e))
        (record {
          held = w.held;
          allowed = w.allowed;
          fraction = to_fraction (fraction_of moved) r.fraction r.below;
          few = le_trans (few_ticks t (suc n) (timer_of c dt) moved r u.most) (add-le-add w.few (le_refl (suc n)));
        })

pub updated_within : (m : ℕ) (c : Clock) (dt : Float) → ClockWithin m c → IsStep dt → ClockWithin (m + 1001) (updated c dt)
updated_within m c dt w s = updated_few 1000 m c dt (lit< tt) w s (step_thousand dt s)
