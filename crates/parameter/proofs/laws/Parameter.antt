-- What a parameter keeps to: the ranges of its values, what is read of it within a chunk, and that a value which stands still has one amplitude.
-- Assumes nothing.
use mathlib.Core.Path.{◌≡◌, refl, sym, ap, ◌∙◌, subst}
use mathlib.Core.Bool.{Bool, true, false, cond}
use Prim.Native.Nat.{ℕ, ◌<◌, ◌^◌}
use native.Mathlib.Omega.{arith}
use lib.Dec.{T, eqb}
use lib.Ieee.{Float, binary64, add, le}
use borrow.Author.Tests.{eqb-false}
use Rattle.laws.proofs.laws.Choice.{cond-true}
use Rattle.laws.specs.Float.{pos_zero}
use Rattle.laws.proofs.laws.Amount.{InUnit, add-unsigned}
use Rattle.laws.proofs.laws.Unsigned.{unsigned}
use Rattle.laws.specs.DecibelRange.{ValueRange}
use Rattle.laws.proofs.laws.DecibelRange.{SilentRange, target→value, value→read}
use Rattle.rounding.specs.Duration.{secs_from_millis}
use Rattle.decibels.specs.declared.decibels.Decibels.{Decibels}
use Rattle.decibels.specs.Decibels.{admitted}
use Rattle.decibels.proofs.laws.Decibels.{read_admitted}
use Rattle.clock.specs.declared.when_to_start.Clocks.{Clocks}
use Rattle.tween.specs.declared.start_time.StartTime.{StartTime}
use Rattle.tween.specs.declared.start_time.StartTime.TheVariants.{Immediate, Delayed, ClockTime}
use Rattle.tween.specs.declared.tween.Tween.{Tween}
use Rattle.tween.specs.TimeWithin.{TimeWithin}
use Rattle.tween.specs.Tween.{tween_value}
use Rattle.tween.proofs.laws.Tween.{within_unsigned, within_start, within_step, no_length_ends, tween_amount}
use Rattle.tween.specs.Tweenable.{interpolated}
use Rattle.tween.proofs.laws.Tweenable.{interpolated_moves, interpolated_silent}
use Rattle.parameter.specs.declared.parameter.ParameterState.{ParameterState}
use Rattle.parameter.specs.declared.parameter.ParameterState.TheVariants.{Idle, Tweening}
use Rattle.parameter.specs.declared.parameter.Parameter.{Parameter}
use Rattle.parameter.specs.Parameter.{ParameterUpdate}
use Rattle.parameter.specs.Parameter.{TweenStart}
use Rattle.parameter.specs.Parameter.{parameter_new, parameter_set, started_at, tween_start, with_state, tween_move, tween_update_in, tween_update, value_in, new_raw_value, with_previous, with_new_value, parameter_update}
use Rattle.parameter.specs.Range.{Range, value_range, Short, StateIn, ParameterIn}

-- ---- it stays there

-- a range that values don't leave on their way to targets
pub record IsKept (R : Range) : Type 0 where
  pub reached : (b : Decibels) → R.Target b.0 → R.Value b.0
  pub moves : (a b : Decibels) (t : Float) → InUnit binary64 t → R.Value a.0 → R.Target b.0 → R.Value (interpolated a b t).0

pub value_kept : IsKept value_range
value_kept = record { reached = λ b. target→value b.0; moves = interpolated_moves }

-- values from -96 to -60 dB, which are silent, on their way to such
abbrev pub silent_range : Range
silent_range = record { Value = SilentRange; Target = SilentRange }

pub silent_kept : IsKept silent_range
silent_kept = record { reached = λ b h. h; moves = interpolated_silent }

tween_start-duration : (tween : Tween) (dt : Float) (clocks : Clocks) → (tween_start tween dt clocks).tween.duration ≡ tween.duration
unfolding tween_start
tween_start-duration tween dt clocks = go tween.start_time
  where
    either : (b : Bool) (x y : TweenStart) → x.tween.duration ≡ tween.duration → y.tween.duration ≡ tween.duration → (cond b x y).tween.duration ≡ tween.duration
    either true x y h k = h
    either false x y h k = k

    go : (start : StartTime) → (started_at start tween dt clocks).tween.duration ≡ tween.duration
    go Immediate = unfold started_at in refl
    go (Delayed remaining) = unfold started_at in either (eqb remaining 0) _ _ refl refl
    go (ClockTime t) = unfold started_at in refl

module _ (R : Range) where
  pub new_in : (value : Decibels) → R.Value value.0 → ParameterIn R (parameter_new value)
  unfolding parameter_new
  new_in value h = record { value = h; previous = h; state = h }

  pub set_in : (p : Parameter) (target : Decibels) (tween : Tween) → ParameterIn R p → R.Target target.0 → Short tween → ParameterIn R (parameter_set p target tween)
  unfolding parameter_set
  set_in p target tween h k s = record { value = h.value; previous = h.previous; state = (h.value, k, within_start tween.duration, s) }

  with_state_in : (p : Parameter) (state : ParameterState) (stagnant : Bool) → ParameterIn R p → StateIn R state → ParameterIn R (with_state p state stagnant)
  unfolding with_state
  with_state_in p state stagnant h k = record { value = h.value; previous = h.previous; state = k }

  -- an update that goes by a test
  either_in : (b : Bool) (x y : ParameterUpdate) → (b ≡ true → ParameterIn R x.parameter) → (b ≡ false → ParameterIn R y.parameter) → ParameterIn R (cond b x y).parameter
  either_in true x y h k = h refl
  either_in false x y h k = k refl

module _ (R : Range) (kept : IsKept R) where
  tween_move_in : (p : Parameter) (start target : Decibels) (time dt : Float) (tween : Tween) → ParameterIn R p → R.Value start.0 → R.Target target.0 → T (unsigned time) → T (unsigned dt) → Short tween
      → ParameterIn R (tween_move p start target (add binary64 time dt) tween).parameter
  unfolding tween_move
  tween_move_in p start target time dt tween h v k u w s =
      let now = add binary64 time dt in
      either_in R (le (secs_from_millis tween.duration) now) (record { parameter = with_state p (Idle target) true; just_finished_tween = true })
      (record { parameter = with_state p (Tweening start target now tween) p.stagnant; just_finished_tween = false }) (λ e. with_state_in R p (Idle target) true h (kept.reached target k))
      (λ e. with_state_in R p (Tweening start target now tween) p.stagnant h (v, k, within_step time dt tween.duration u w e, s))

  tween_update_in_lem : (state : ParameterState) (p : Parameter) (dt : Float) (clocks : Clocks) → T (unsigned dt) → ParameterIn R p → StateIn R state → ParameterIn R (tween_update_in state p dt clocks).parameter
  unfolding tween_update_in
  tween_update_in_lem (Idle value) p dt clocks w h k = h
  tween_update_in_lem (Tweening start target time tween) p dt clocks w h k =
      let begun = tween_start tween dt clocks in
      let same = tween_start-duration tween dt clocks in
      let short = subst (λ (n : ℕ). n < 2 ^ 53) (sym same) k.3 in
      either_in R begun.started (tween_move p start target (add binary64 time dt) begun.tween)
      (record { parameter = with_state p (Tweening start target time begun.tween) p.stagnant; just_finished_tween = false })
      (λ e. tween_move_in p start target time dt begun.tween h k.0 k.1 (within_unsigned time tween.duration k.2) w short)
      (λ e. with_state_in R p (Tweening start target time begun.tween) p.stagnant h (k.0, k.1, subst (λ (n : ℕ). TimeWithin time n) (sym same) k.2, short))

  value_in_lem : (state : ParameterState) (now : Decibels) → StateIn R state → R.Value now.0 → R.Value (value_in state now).0
  unfolding value_in
  value_in_lem (Idle value) now k h = k
  value_in_lem (Tweening start target time tween) now k h = go (eqb tween.duration 0) refl
    where
      go : (b : Bool) → eqb tween.duration 0 ≡ b → R.Value (cond b now (interpolated start target (tween_value tween time))).0
      go true e = h
      go false e =
          let some = eqb-false tween.duration 0 e in
          kept.moves start target (tween_value tween time) (tween_amount tween time (omega arith) k.3 k.2) k.0 k.1

  with_new_value_in : (u : ParameterUpdate) → ParameterIn R u.parameter → ParameterIn R (with_new_value u).parameter
  unfolding with_new_value new_raw_value
  with_new_value_in u h = record { value = value_in_lem u.parameter.state u.parameter.raw_value h.state h.value; previous = h.previous; state = h.state }

  with_previous_in : (p : Parameter) → ParameterIn R p → ParameterIn R (with_previous p)
  unfolding with_previous
  with_previous_in p h = record { value = h.value; previous = h.value; state = h.state }

  pub update_in : (p : Parameter) (dt : Float) (clocks : Clocks) → T (unsigned dt) → ParameterIn R p → ParameterIn R (parameter_update p dt clocks).parameter
  unfolding parameter_update tween_update
  update_in p dt clocks w h =
      let before = with_previous_in p h in
      either_in R p.stagnant (record { parameter = with_previous p; just_finished_tween = false }) (with_new_value (tween_update (with_previous p) dt clocks)) (λ e. before)
      (λ e. with_new_value_in (tween_update (with_previous p) dt clocks) (tween_update_in_lem (with_previous p).state (with_previous p) dt clocks w before before.state))

-- ---- at once

-- a test that came out as the tween's start says
started : (begun : TweenStart) (tween : Tween) (moves : Tween → ParameterUpdate) (waits : TweenStart → ParameterUpdate) → begun ≡ record { tween = tween; started = true }
    → cond begun.started (moves begun.tween) (waits begun) ≡ moves tween
started begun tween moves waits e = ap (λ (b : TweenStart). cond b.started (moves b.tween) (waits b)) e

move_ends : (p : Parameter) (start target : Decibels) (time : Float) (tween : Tween) → tween.duration ≡ 0 → T (unsigned time) → (tween_move p start target time tween).just_finished_tween ≡ true
unfolding tween_move
move_ends p start target time tween d u =
    ap (λ (x : ParameterUpdate). x.just_finished_tween) (cond-true (le (secs_from_millis tween.duration) time) _ _ (ap (λ (n : ℕ). le (secs_from_millis n) time) d ∙ no_length_ends time u))

-- a motion of no length that starts at once ends with the first update
pub set_at_once : (p : Parameter) (target : Decibels) (tween : Tween) (dt : Float) (clocks : Clocks) → tween.start_time ≡ Immediate → tween.duration ≡ 0 → T (unsigned dt)
    → (parameter_update (parameter_set p target tween) dt clocks).just_finished_tween ≡ true
unfolding parameter_update parameter_set with_previous with_new_value tween_update tween_update_in tween_start started_at
set_at_once p target tween dt clocks s d w =
    let q = with_previous (parameter_set p target tween) in
    ap (λ (x : ParameterUpdate). x.just_finished_tween)
    (started (tween_start tween dt clocks) tween (tween_move q p.raw_value target (add binary64 pos_zero dt))
    (λ (b : TweenStart). record { parameter = with_state q (Tweening p.raw_value target pos_zero b.tween) false; just_finished_tween = false })
    (ap (λ (t : StartTime). started_at t tween dt clocks) s))
    ∙ move_ends q p.raw_value target (add binary64 pos_zero dt) tween d (add-unsigned binary64 pos_zero dt tt w)

-- ---- what is read

-- number 11 is never met
pub value_admitted : (x : Float) → ValueRange x → T (admitted x)
value_admitted x h = read_admitted x (value→read x h)
