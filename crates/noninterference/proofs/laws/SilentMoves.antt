-- Silent tracks while a scene runs: a volume that is silent stays so, and a held track is paused by its first update and never advances. Assumes nothing.
use mathlib.Core.Path.{◌≡◌, refl, sym, ap, ◌∙◌, subst}
use mathlib.Core.Logic.{inl, inr}
use mathlib.Core.Bool.{Bool, true, false, cond}
use mathlib.Core.List.{List}
use Prim.Native.Nat.{ℕ, suc, ◌≤◌, ◌<◌}
use native.Mathlib.Nat.{lt_of_lt_of_le, eq-or-lt_of_le}
use native.Mathlib.Omega.{arith}
use lib.Dec.{T}
use lib.ListN.{length, get_or, set, length-set}
use lib.Seq.{get_or-set_same}
use lib.Ieee.{Float}
use Rattle.limits.specs.Limits.{track_places}
use Rattle.laws.proofs.laws.Loop.{upto_holds}
use Rattle.laws.proofs.laws.Unsigned.{unsigned}
use Rattle.clock.specs.declared.when_to_start.Clocks.{Clocks}
use Rattle.parameter.specs.Range.{ParameterIn}
use Rattle.parameter.proofs.laws.Parameter.{silent_range, update_in, silent_kept}
use Rattle.playback.specs.declared.playback_state_manager.PlaybackState.TheVariants.{Paused}
use Rattle.playback.specs.declared.playback_state_manager.PlaybackStateManager.{PlaybackStateManager}
use Rattle.playback.specs.PlaybackStateManager.{is_advancing, playback_update}
use Rattle.playback.proofs.laws.PlaybackStateManager.{paused_stays}
use Rattle.scene.specs.declared.scene.TrackLine.{TrackLine}
use Rattle.mixer.specs.Mixer.{absent_track, state_of, live_above, track_step, tracks_update}
use Rattle.mixer.specs.declared.sub.Track.{Track}
use Rattle.mixer.specs.Sub.{track_moved, track_still, track_update}
use Rattle.noninterference.proofs.laws.Arrays.{set_holds}
use Rattle.accepted.specs.Lines.{absent_track_line}

-- ---- what a silent track keeps to

abbrev pub SilentVolume : Track → Type 0
SilentVolume x = ParameterIn silent_range x.volume

-- whatever update comes next, the state is paused by it
abbrev pub Holds : PlaybackStateManager → Type 0
Holds p = (dt : Float) (clocks : Clocks) → T (unsigned dt) → (playback_update p dt clocks).manager.state ≡ Paused

-- ---- an update

either : (P : Track → Type 0) (b : Bool) (x y : Track) → P x → P y → P (cond b x y)
either P true x y p q = p
either P false x y p q = q

module _ (dt : Float) (clocks : Clocks) (positive : T (unsigned dt)) (reached : Bool) (x : Track) where
  pub silent_update : SilentVolume x → SilentVolume (track_update x reached dt clocks)
  unfolding track_update track_moved track_still
  silent_update h = either SilentVolume reached (track_moved x dt clocks) (track_still x) (update_in silent_range silent_kept x.volume dt clocks positive h) h

  pub held_update : Holds x.playback → Holds (track_update x reached dt clocks).playback × ((track_update x reached dt clocks).live ≡ false)
  unfolding track_update track_moved track_still is_advancing
  held_update h =
      let p = (playback_update x.playback dt clocks).manager in
      either (λ (y : Track). Holds y.playback × (y.live ≡ false)) reached (track_moved x dt clocks) (track_still x)
      ((λ d c u. paused_stays p d c (h dt clocks positive)), ap is_advancing (h dt clocks positive))
      (h, refl)

-- A line is updated once, in its own turn: what an update makes of what held before holds after all turns.
module _ (lines : List TrackLine) (dt : Float) (clocks : Clocks) (P Q : Track → Type 0) (moves : (reached : Bool) (x : Track) → P x → Q (track_update x reached dt clocks)) (t : ℕ) where
  record Turns (i : ℕ) (l : List Track) : Type 0 where
    places : length l ≡ track_places
    before : i ≤ t → P (state_of l t)
    after : t < i → Q (state_of l t)

  turn : (i : ℕ) → i < track_places → (l : List Track) → Turns i l → Turns (suc i) (track_step lines dt clocks i l)
  unfolding track_step
  turn i b l r =
      let x = track_update (state_of l i) (live_above l (get_or lines i absent_track_line).parent) dt clocks in
      record {
        places = length-set l i x ∙ r.places;
        before = λ h. set_holds P l i t x absent_track (r.before (omega arith)) (λ e. absurd (omega arith));
        after = λ h. elim (eq-or-lt_of_le h) [
          | inl e ↦ here (omega arith)
          | inr k ↦ set_holds Q l i t x absent_track (r.after (omega arith)) (λ e. absurd (omega arith))
        ];
      }
    where
      here : t ≡ i → Q (state_of (track_step lines dt clocks i l) t)
      here e =
          let above = live_above l (get_or lines i absent_track_line).parent in
          let x = track_update (state_of l i) above dt clocks in
          subst (λ (k : ℕ). Q (get_or (set l i x) k absent_track)) (sym e)
          (subst Q (sym (get_or-set_same l i x absent_track (omega (arith, r.places)))) (moves above (state_of l i) (subst (λ (k : ℕ). P (state_of l k)) e (r.before (omega arith)))))

  pub updated_once : (n : ℕ) → t < n → n ≤ track_places → (l : List Track) → length l ≡ track_places → P (state_of l t) → Q (state_of (tracks_update lines n dt clocks l) t)
  unfolding tracks_update
  updated_once n b c l e p =
      (upto_holds Turns (track_step lines dt clocks) n l (record { places = e; before = λ h. p; after = λ h. absurd (omega arith) }) (λ i h x r. turn i (lt_of_lt_of_le h c) x r)).after b
