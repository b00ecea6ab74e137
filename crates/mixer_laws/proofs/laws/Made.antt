-- A new mixer. Assumes nothing.
use mathlib.Core.Path.{refl, sym, subst, ◌∙◌}
use Prim.Native.Nat.{ℕ, ◌≤◌, zero-le}
use native.Mathlib.Nat.{le_trans}
use lib.ListN.{replicate, length-replicate, get_or-replicate}
use Rattle.limits.specs.Limits.{clock_lines, track_places, send_lines, route_lines, sound_lines}
use Rattle.laws.specs.DecibelRange.{TargetRange}
use Rattle.laws.proofs.laws.DecibelRange.{target→value}
use Rattle.laws.proofs.laws.Loop.{changed_from}
use Rattle.decibels.specs.declared.decibels.Decibels.{Decibels}
use Rattle.clock.specs.Clock.{new_clock, ClockWithin}
use Rattle.clock.specs.WhenToStart.{ClocksWithin, absent_clock}
use Rattle.clock.proofs.laws.Moves.{new_clock_within}
use Rattle.parameter.specs.Parameter.{parameter_new}
use Rattle.parameter.specs.Range.{ParameterIn, value_range}
use Rattle.parameter.proofs.laws.Parameter.{new_in}
use Rattle.playback.proofs.laws.PlaybackStateManager.{new_runs}
use Rattle.scene.specs.declared.scene.Scene.{Scene}
use Rattle.accepted.specs.Lines.{clock_line, track_line, send_line, route_line, sound_line}
use Rattle.accepted.specs.SceneOk.{SceneOk}
use Rattle.mixer.specs.Sub.{track_new}
use Rattle.mixer.specs.Mixer.{empty_track, empty_parameter, empty_clock, clocks_new, tracks_new, sends_new, routes_new, mixer_new}
use Rattle.mixer.specs.MixerOk.{TrackOk, MixerOk}
use Rattle.mixer_laws.proofs.laws.Arrays.{ArrayOk, changed_array}
use Rattle.mixer_laws.proofs.laws.States.{TracksOk, ParametersOk, PlayedOk, mixer_ok}

parameter_new_ok : (volume : Decibels) → TargetRange volume.0 → ParameterIn value_range (parameter_new volume)
parameter_new_ok volume h = new_in value_range volume (target→value volume.0 h)

track_new_ok : (clocks : ℕ) (volume : Decibels) → TargetRange volume.0 → TrackOk clocks (track_new volume)
unfolding track_new
track_new_ok clocks volume h = record { volume = parameter_new_ok volume h; playback = new_runs clocks }

module _ (s : Scene) (ok : SceneOk s) where
  clocks_new_ok : ClocksWithin 0 (clocks_new s)
  unfolding clocks_new empty_clock
  clocks_new_ok =
      let clocks : ArrayOk (λ i c. ClockWithin 0 c) s.clock_count clock_lines absent_clock (clocks_new s).clocks
      = changed_array (replicate clock_lines empty_clock) (λ i c. new_clock (clock_line s i).speed (clock_line s i).ticking) ok.clock_count (length-replicate clock_lines empty_clock)
      (λ i b. new_clock_within (clock_line s i).speed (clock_line s i).ticking (ok.clocks i b).0 (ok.clocks i b).1) in
      record {
        few = ok.clock_count;
        laid = record {
          few = ok.clock_count;
          long = clocks.places;
          rest = λ i h b. changed_from (λ j c. new_clock (clock_line s j).speed (clock_line s j).ticking) s.clock_count (replicate clock_lines empty_clock) i absent_clock h ∙ get_or-replicate clock_lines i empty_clock absent_clock b;
        };
        each = clocks.each;
      }

  tracks_new_ok : TracksOk s.clock_count s.track_count (tracks_new s)
  unfolding tracks_new
  tracks_new_ok =
      changed_array (replicate track_places empty_track) (λ t x. track_new (track_line s t).volume) ok.track_count (length-replicate track_places empty_track)
      (λ t b. track_new_ok s.clock_count (track_line s t).volume (ok.tracks t b))

  sends_new_ok : ParametersOk s.send_count send_lines (sends_new s)
  unfolding sends_new
  sends_new_ok =
      changed_array (replicate send_lines empty_parameter) (λ i p. parameter_new (send_line s i).volume) ok.send_count (length-replicate send_lines empty_parameter)
      (λ i b. parameter_new_ok (send_line s i).volume (ok.sends i b))

  routes_new_ok : ParametersOk s.route_count route_lines (routes_new s)
  unfolding routes_new
  routes_new_ok =
      changed_array (replicate route_lines empty_parameter) (λ r p. parameter_new (route_line s r).volume) ok.route_count (length-replicate route_lines empty_parameter)
      (λ r b. parameter_new_ok (route_line s r).volume (ok.routes r b).volume)

  played_new_ok : PlayedOk s (replicate sound_lines 0)
  played_new_ok =
      record {
        places = length-replicate {A = ℕ} sound_lines 0;
        each = λ k b. subst (λ (n : ℕ). n ≤ (sound_line s k).count) (sym (get_or-replicate sound_lines k 0 0 (le_trans b ok.sound_count))) zero-le;
      }

pub new_ok : (s : Scene) → SceneOk s → MixerOk s 0 (mixer_new s)
unfolding mixer_new clocks_new
new_ok s ok =
    mixer_ok s 0 (mixer_new s) refl (clocks_new_ok s ok) (parameter_new_ok s.head.volume ok.volume) (tracks_new_ok s ok) (sends_new_ok s ok) (routes_new_ok s ok) (played_new_ok s ok)
