-- Where nothing may wait, how far is looked ahead does not matter. Assumes nothing.
use mathlib.Core.Path.{◌≡◌, refl, ap, ap₂, ◌∙◌}
use mathlib.Core.Bool.{Bool, true, false, ◌&&◌, beq}
use mathlib.Core.List.{List}
use Prim.Native.Nat.{ℕ, ◌-◌}
use lib.ListN.{get_or}
use Rattle.scene_tables.proofs.laws.Every.{every_same}
use Rattle.parameter.specs.declared.parameter.Parameter.{Parameter}
use Rattle.playback.specs.declared.playback_state_manager.PlaybackState.{PlaybackState}
use Rattle.playback.specs.declared.playback_state_manager.PlaybackState.TheVariants.{Playing, Pausing, Paused, WaitingToResume, Resuming, Stopping, Stopped}
use Rattle.playback.specs.PlaybackStateManager.{is_advancing}
use Rattle.scene.specs.declared.scene.Scene.{Scene}
use Rattle.accepted.specs.Lines.{absent_track_line, absent_route_line}
use Rattle.mixer.specs.declared.sub.Track.{Track}
use Rattle.mixer.specs.declared.mixer.Mixer.{Mixer}
use Rattle.mixer.specs.Mixer.{state_of, parameter_of, live_above}
use Rattle.steady_mixer.specs.Steady.{ahead, parameter_steady, state_steady, reached_steady, steady_where, route_steady}
use Rattle.steady_mixer.specs.MixerSteady.{steady_track, steady_route, steady_send, mixer_steady}

module _ (n n' : ℕ) (e e' : List ℕ) where
  state_always : (state : PlaybackState) → state_steady (ahead false n' e') state ≡ state_steady (ahead false n e) state
  unfolding state_steady
  state_always Playing = refl
  state_always Pausing = refl
  state_always Paused = refl
  state_always (WaitingToResume start tween) = refl
  state_always Resuming = refl
  state_always Stopping = refl
  state_always Stopped = refl

  parameter_always : (p : Parameter) → parameter_steady (ahead false n' e') p ≡ parameter_steady (ahead false n e) p
  unfolding parameter_steady
  parameter_always p = refl

  track_always : (t : Track) (reached : Bool) → steady_where (ahead false n' e') t reached ≡ steady_where (ahead false n e) t reached
  unfolding steady_where reached_steady
  track_always t true =
      ap (λ (x : Bool). beq t.reached true && (x && (beq t.live (is_advancing t.playback.state) && (parameter_steady (ahead false n' e') t.volume && parameter_steady (ahead false n' e') t.playback.volume_fade)))) (state_always t.playback.state)
      ∙ ap₂ (λ (x y : Bool). beq t.reached true && (state_steady (ahead false n e) t.playback.state && (beq t.live (is_advancing t.playback.state) && (x && y)))) (parameter_always t.volume) (parameter_always t.playback.volume_fade)
  track_always t false = refl

  route_always : (p : Parameter) (reached : Bool) → route_steady (ahead false n' e') p reached ≡ route_steady (ahead false n e) p reached
  unfolding route_steady
  route_always p true = parameter_always p
  route_always p false = refl

  all_always : {x x' y y' z z' w w' : Bool} → x ≡ x' → y ≡ y' → z ≡ z' → w ≡ w' → (x && (y && (z && w))) ≡ (x' && (y' && (z' && w')))
  all_always p q r t = rw (p, q, r, t) refl

  pub rests_always : (s : Scene) (m : Mixer) → mixer_steady (ahead false n' e') s m ≡ mixer_steady (ahead false n e) s m
  unfolding mixer_steady steady_send steady_track steady_route
  rests_always s m =
      all_always (parameter_always m.main_volume)
      (every_same s.send_count (steady_send (ahead false n' e') m.sends) (steady_send (ahead false n e) m.sends) (λ i b. parameter_always (parameter_of m.sends i)))
      (every_same s.track_count (steady_track (ahead false n' e') s.tracks m.tracks) (steady_track (ahead false n e) s.tracks m.tracks) (λ t b. track_always (state_of m.tracks t) (live_above m.tracks (get_or s.tracks t absent_track_line).parent)))
      (every_same s.route_count (steady_route (ahead false n' e') s.routes m.tracks m.routes) (steady_route (ahead false n e) s.routes m.tracks m.routes) (λ r b. route_always (parameter_of m.routes r) (state_of m.tracks ((get_or s.routes r absent_route_line).track - 1)).reached))
