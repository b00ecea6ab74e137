-- The mixer of a scene, and the mixer of what is left of the scene: what they share, and that new mixers share it. Assumes nothing.
use mathlib.Core.Path.{◌≡◌, sym, ap, ap₂, ◌∙◌, subst}
use mathlib.Core.Bool.{Bool}
use mathlib.Core.List.{List}
use Prim.Native.Nat.{ℕ}
use lib.ListN.{replicate, length-replicate}
use Rattle.recordings.specs.Recordings.{Recordings}
use Rattle.limits.specs.Limits.{clock_lines, route_lines, send_lines, sound_lines, track_places}
use Rattle.laws.specs.Loop.{changed}
use Rattle.laws.proofs.laws.Loop.{changed_cong}
use Rattle.laws.specs.Kept.{rank}
use Rattle.clock.specs.declared.clock.Clock.{Clock}
use Rattle.clock.specs.declared.when_to_start.Clocks.{Clocks}
use Rattle.clock.specs.Clock.{new_clock}
use Rattle.parameter.specs.declared.parameter.Parameter.{Parameter}
use Rattle.parameter.specs.Parameter.{parameter_new}
use Rattle.scene.specs.declared.scene.Head.{Head}
use Rattle.scene.specs.declared.scene.Scene.{Scene}
use Rattle.scene.specs.declared.scene.ClockLine.{ClockLine}
use Rattle.scene.specs.declared.scene.TrackLine.{TrackLine}
use Rattle.scene.specs.declared.scene.SendLine.{SendLine}
use Rattle.scene.specs.declared.scene.RouteLine.{RouteLine}
use Rattle.accepted.specs.Lines.{clock_line, track_line, send_line, route_line}
use Rattle.accepted.specs.SceneOk.{SceneOk}
use Rattle.mixer.specs.declared.sub.Track.{Track}
use Rattle.mixer.specs.declared.mixer.Mixer.{Mixer}
use Rattle.mixer.specs.Sub.{track_new}
use Rattle.mixer.specs.Mixer.{empty_track, empty_parameter, empty_clock, clocks_new, tracks_new, sends_new, routes_new, mixer_new, absent_parameter, absent_track}
use Rattle.noninterference.proofs.laws.SceneLeft.{kept_route_line, kept_sound_line, SceneLeft}
use Rattle.noninterference.proofs.laws.Arrays.{ArrayLeft, all_same, changed_left}

pub record MixerLeft (keep chosen : ℕ → Bool) (s : Scene) (m m' : Mixer) : Type 0 where
  pub clocks : m'.clocks ≡ m.clocks
  pub main : m'.main_volume ≡ m.main_volume
  pub sends : m'.sends ≡ m.sends
  pub tracks : ArrayLeft Track keep s.track_count track_places absent_track m.tracks m'.tracks
  pub routes : ArrayLeft Parameter (kept_route_line keep s) s.route_count route_lines absent_parameter m.routes m'.routes
  pub played : ArrayLeft ℕ (kept_sound_line keep chosen s) s.sound_count sound_lines 0 m.played m'.played

clocks_with : List Clock → ℕ → Clocks
clocks_with l n = record { clocks = l; count = n }

module _ {keep chosen quiet : ℕ → Bool} {s : Scene} {samples : Recordings} {e : Scene} {samples' : Recordings} (ok : SceneOk s) (w : SceneLeft keep chosen quiet s samples e samples') where
  clocks_new_lem : clocks_new e ≡ clocks_new s
  unfolding clocks_new clocks_with
  clocks_new_lem =
      let f : ℕ → Clock → Clock = λ i c. new_clock (clock_line e i).speed (clock_line e i).ticking in
      let g : ℕ → Clock → Clock = λ i c. new_clock (clock_line s i).speed (clock_line s i).ticking in
      ap₂ clocks_with
      (ap (λ (n : ℕ). changed f n (replicate clock_lines empty_clock)) w.clock_count
      ∙ changed_cong f g s.clock_count (replicate clock_lines empty_clock) empty_clock (λ i l b. ap (λ (c : ClockLine). new_clock c.speed c.ticking) (w.clocks i l)))
      w.clock_count

  sends_new_lem : sends_new e ≡ sends_new s
  unfolding sends_new
  sends_new_lem =
      let f : ℕ → Parameter → Parameter = λ i x. parameter_new (send_line e i).volume in
      let g : ℕ → Parameter → Parameter = λ i x. parameter_new (send_line s i).volume in
      ap (λ (n : ℕ). changed f n (replicate send_lines empty_parameter)) w.send_count
      ∙ changed_cong f g s.send_count (replicate send_lines empty_parameter) empty_parameter (λ i l b. ap (λ (c : SendLine). parameter_new c.volume) (w.sends i l))

  tracks_new_lem : ArrayLeft Track keep s.track_count track_places absent_track (tracks_new s) (tracks_new e)
  unfolding tracks_new
  tracks_new_lem =
      let l = replicate track_places empty_track in
      let f : ℕ → Track → Track = λ t x. track_new (track_line s t).volume in
      let g : ℕ → Track → Track = λ t x. track_new (track_line e t).volume in
      subst (λ (n : ℕ). ArrayLeft Track keep s.track_count track_places absent_track (changed f s.track_count l) (changed g n l)) (sym w.track_count)
      (changed_left keep s.track_count track_places absent_track ok.track_count l l f g (length-replicate track_places empty_track) (length-replicate track_places empty_track)
      (λ t b k. ap (λ (r : TrackLine). track_new r.volume) (w.tracks t b k)))

  routes_new_lem : ArrayLeft Parameter (kept_route_line keep s) s.route_count route_lines absent_parameter (routes_new s) (routes_new e)
  unfolding routes_new
  routes_new_lem =
      let l = replicate route_lines empty_parameter in
      let f : ℕ → Parameter → Parameter = λ r x. parameter_new (route_line s r).volume in
      let g : ℕ → Parameter → Parameter = λ r x. parameter_new (route_line e r).volume in
      subst (λ (n : ℕ). ArrayLeft Parameter (kept_route_line keep s) s.route_count route_lines absent_parameter (changed f s.route_count l) (changed g n l)) (sym w.route_count)
      (changed_left (kept_route_line keep s) s.route_count route_lines absent_parameter ok.route_count l l f g (length-replicate route_lines empty_parameter) (length-replicate route_lines empty_parameter)
      (λ t b k. ap (λ (r : RouteLine). parameter_new r.volume) (w.routes t b k)))

  pub new_left : MixerLeft keep chosen s (mixer_new s) (mixer_new e)
  unfolding mixer_new
  new_left =
      record {
        clocks = clocks_new_lem;
        main = ap (λ (h : Head). parameter_new h.volume) w.head;
        sends = sends_new_lem;
        tracks = tracks_new_lem;
        routes = routes_new_lem;
        played = record {
          places = length-replicate {A = ℕ} sound_lines 0;
          places' = length-replicate {A = ℕ} sound_lines 0;
          same = λ k b t. all_same sound_lines (rank (kept_sound_line keep chosen s) k) 0 ∙ sym (all_same sound_lines k 0);
        };
      }
