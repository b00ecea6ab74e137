-- A pause's fade, update by update: while it has not ended its time is the sum of the updates' lengths, and once it has the state is `Paused`. Assumes nothing.
use mathlib.Core.Path.{◌≡◌, refl, sym, ap, ◌∙◌, subst}
use mathlib.Core.Logic.{inl, inr}
use mathlib.Core.Bool.{Bool, true, false, cond, ◌||◌}
use Prim.Native.Nat.{ℕ, zero, suc, ◌≤◌}
use native.Mathlib.Nat.{eq-or-lt_of_le, le_of_suc-le-suc}
use native.Mathlib.Omega.{arith}
use lib.Ieee.{Float, binary64, add, le}
use Rattle.laws.specs.Loop.{upto}
use Rattle.laws.proofs.laws.Choice.{cond-true, cond-false}
use Rattle.rounding.specs.Duration.{secs_from_millis}
use Rattle.decibels.specs.declared.decibels.Decibels.{Decibels}
use Rattle.clock.specs.declared.when_to_start.Clocks.{Clocks}
use Rattle.tween.specs.declared.start_time.StartTime.{StartTime}
use Rattle.tween.specs.declared.start_time.StartTime.TheVariants.{Immediate}
use Rattle.tween.specs.declared.tween.Tween.{Tween}
use Rattle.parameter.specs.declared.parameter.Parameter.{Parameter}
use Rattle.parameter.specs.declared.parameter.ParameterState.{ParameterState}
use Rattle.parameter.specs.declared.parameter.ParameterState.TheVariants.{Tweening}
use Rattle.parameter.specs.Parameter.{ParameterUpdate}
use Rattle.parameter.specs.Parameter.{parameter_new, parameter_set, started_at, tween_start, with_state, tween_move, tween_update_in, tween_update, with_previous, with_new_value, parameter_update}
use Rattle.playback.specs.declared.playback_state_manager.PlaybackState.{PlaybackState}
use Rattle.playback.specs.declared.playback_state_manager.PlaybackState.TheVariants.{Pausing, Paused}
use Rattle.playback.specs.declared.playback_state_manager.PlaybackStateManager.{PlaybackStateManager}
use Rattle.playback.specs.PlaybackStateManager.{identity, silent, is_stopped, playback_new, playback_pause, after_fade, state_update, playback_update}
use Rattle.playback.proofs.laws.PlaybackStateManager.{paused_stays}
use Rattle.noninterference.proofs.laws.Inside.{or_left, or_right}
use Rattle.pause_end.proofs.laws.Sum.{sum}

-- ---- before the order

-- a track that plays stays as it was made
pub playing_stays : (dt : Float) (clocks : Clocks) → (playback_update playback_new dt clocks).manager ≡ playback_new
unfolding playback_new playback_update state_update parameter_new parameter_update with_previous
playing_stays dt clocks = refl

-- ---- one update of the fade

-- of a fade that has started
module _ (p : Parameter) (start target : Decibels) (time : Float) (tween : Tween) (dt : Float) (clocks : Clocks) (at_once : tween.start_time ≡ Immediate)
    (moving : p.state ≡ Tweening start target time tween) (awake : p.stagnant ≡ false) where
  abbrev now : Float
  now = add binary64 time dt

  abbrev waits : Tween → ParameterUpdate
  waits begun = record { parameter = with_state (with_previous p) (Tweening start target time begun) p.stagnant; just_finished_tween = false }

  moves : parameter_update p dt clocks ≡ with_new_value (tween_move (with_previous p) start target now tween)
  unfolding parameter_update with_previous tween_update tween_update_in tween_start started_at
  moves =
      cond-false p.stagnant (record { parameter = with_previous p; just_finished_tween = false }) (with_new_value (tween_update (with_previous p) dt clocks)) awake
      ∙ ap (λ (state : ParameterState). with_new_value (tween_update_in state (with_previous p) dt clocks)) moving
      ∙ ap (λ (begins : StartTime). with_new_value (cond (started_at begins tween dt clocks).started (tween_move (with_previous p) start target now (started_at begins tween dt clocks).tween) (waits (started_at begins tween dt clocks).tween))) at_once

  ends : le (secs_from_millis tween.duration) now ≡ true → (parameter_update p dt clocks).just_finished_tween ≡ true
  unfolding tween_move with_new_value
  ends e =
      ap (λ (u : ParameterUpdate). u.just_finished_tween) moves
      ∙ ap (λ (u : ParameterUpdate). u.just_finished_tween) (cond-true (le (secs_from_millis tween.duration) now) _ _ e)

  goes_on : le (secs_from_millis tween.duration) now ≡ false
      → parameter_update p dt clocks ≡ with_new_value (record { parameter = with_state (with_previous p) (Tweening start target now tween) p.stagnant; just_finished_tween = false })
  unfolding tween_move with_previous
  goes_on e = moves ∙ ap with_new_value (cond-false (le (secs_from_millis tween.duration) now) _ _ e)

-- ---- one update of the state

module _ (m : PlaybackStateManager) (dt : Float) (clocks : Clocks) (pausing : m.state ≡ Pausing) where
  abbrev faded : ParameterUpdate
  faded = parameter_update m.volume_fade dt clocks

  pauses : faded.just_finished_tween ≡ true → (playback_update m dt clocks).manager.state ≡ Paused
  unfolding playback_update state_update after_fade
  pauses e =
      ap (λ (state : PlaybackState). (state_update state faded.parameter faded.just_finished_tween dt clocks).manager.state) pausing
      ∙ ap (λ (b : Bool). (after_fade b Pausing Paused faded.parameter).manager.state) e

  pauses_later : faded.just_finished_tween ≡ false → (playback_update m dt clocks).manager ≡ record { state = Pausing; volume_fade = faded.parameter }
  unfolding playback_update state_update after_fade
  pauses_later e =
      ap (λ (state : PlaybackState). (state_update state faded.parameter faded.just_finished_tween dt clocks).manager) pausing
      ∙ ap (λ (b : Bool). (after_fade b Pausing Paused faded.parameter).manager) e

-- ---- after n updates of one length

-- it still fades
pub record Fading (dt : Float) (tween : Tween) (n : ℕ) (m : PlaybackStateManager) : Type 0 where
  pub from : Decibels
  pub to : Decibels
  pub state : m.state ≡ Pausing
  pub fade : m.volume_fade.state ≡ Tweening from to (sum dt n) tween
  pub awake : m.volume_fade.stagnant ≡ false

-- once the pause is ordered
pub fading_starts : (dt : Float) (tween : Tween) → Fading dt tween 0 (playback_pause playback_new tween)
unfolding playback_new playback_pause is_stopped parameter_new parameter_set upto
fading_starts dt tween = record { from = identity; to = silent; state = refl; fade = refl; awake = refl }

-- its time has come in one of the first n updates
unfoldable pub ended : (ℕ → Bool) → ℕ → Bool
ended f zero = false
ended f (suc n) = ended f n || f (suc n)

abbrev pub over : Float → ℕ → ℕ → Bool
over dt millis n = le (secs_from_millis millis) (sum dt n)

abbrev pub Stands : Bool → Float → Tween → ℕ → PlaybackStateManager → Type 0
Stands true dt tween n m = m.state ≡ Paused
Stands false dt tween n m = Fading dt tween n m

module _ (dt : Float) (tween : Tween) (at_once : tween.start_time ≡ Immediate) (n : ℕ) (m : PlaybackStateManager) (clocks : Clocks) where
  fading_ends : Fading dt tween n m → over dt tween.duration (suc n) ≡ true → (playback_update m dt clocks).manager.state ≡ Paused
  unfolding upto
  fading_ends h e = pauses m dt clocks h.state (ends m.volume_fade h.from h.to (sum dt n) tween dt clocks at_once h.fade h.awake e)

  fading_on : Fading dt tween n m → over dt tween.duration (suc n) ≡ false → Fading dt tween (suc n) (playback_update m dt clocks).manager
  unfolding upto with_new_value with_state
  fading_on h e =
      let step = goes_on m.volume_fade h.from h.to (sum dt n) tween dt clocks at_once h.fade h.awake e in
      subst (Fading dt tween (suc n)) (sym (pauses_later m dt clocks h.state (ap (λ (u : ParameterUpdate). u.just_finished_tween) step)))
      (record {
        from = h.from;
        to = h.to;
        state = refl;
        fade = ap (λ (u : ParameterUpdate). u.parameter.state) step;
        awake = ap (λ (u : ParameterUpdate). u.parameter.stagnant) step ∙ h.awake;
      })

  pub stands_next : Stands (ended (over dt tween.duration) n) dt tween n m → Stands (ended (over dt tween.duration) (suc n)) dt tween (suc n) (playback_update m dt clocks).manager
  unfolding ended
  stands_next = go (ended (over dt tween.duration) n) (over dt tween.duration (suc n)) refl
    where
      go : (a b : Bool) → over dt tween.duration (suc n) ≡ b → Stands a dt tween n m → Stands (a || b) dt tween (suc n) (playback_update m dt clocks).manager
      go true b e h = paused_stays m dt clocks h
      go false true e h = fading_ends h e
      go false false e h = fading_on h e

-- ---- when it has ended

pub ended_since : (f : ℕ → Bool) (n a : ℕ) → 1 ≤ a → a ≤ n → f a ≡ true → ended f n ≡ true
unfolding ended
ended_since f zero a some h e = absurd (omega arith)
ended_since f (suc n) a some h e = elim (eq-or-lt_of_le h) [
  | inl k ↦ or_right (ended f n) (f (suc n)) (ap f (sym k) ∙ e)
  | inr k ↦ or_left (ended f n) (f (suc n)) (ended_since f n a some (le_of_suc-le-suc k) e)
]

absorbed : (a b : Bool) → (a ≡ true → b ≡ true) → (a || b) ≡ b
absorbed true b h = sym (h refl)
absorbed false b h = refl

-- what is reached stays reached
pub ended_now : (f : ℕ → Bool) (n : ℕ) → ((k : ℕ) → k ≤ n → f k ≡ true → f (suc k) ≡ true) → ended f (suc n) ≡ f (suc n)
unfolding ended
ended_now f zero h = refl
ended_now f (suc n) h =
    ap (λ (b : Bool). b || f (suc (suc n))) (ended_now f n (λ k l. h k (omega arith))) ∙ absorbed (f (suc n)) (f (suc (suc n))) (h (suc n) (omega arith))
