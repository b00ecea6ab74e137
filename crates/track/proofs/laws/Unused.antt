-- Tracks that no sound is on, nor on a track below them: their frames are zeros, for a zero times what is finite is a zero, and so is what they send.
-- A loop over the tracks below a line may pass over them where its sum and the send tracks' inputs are running. Assumes nothing.
use mathlib.Core.Path.{◌≡◌, refl, sym, ap, ◌∙◌, subst}
use mathlib.Core.Bool.{Bool, true, false, cond, ◌&&◌, true≢false}
use mathlib.Core.List.{List}
use Prim.Native.Nat.{ℕ, zero, suc, ◌-◌, ◌≤◌, ◌<◌}
use native.Mathlib.Omega.{arith}
use lib.Dec.{T, eqb, eqb→eq, lit<}
use lib.Ieee.{Float, binary32, mul, sub}
use lib.Ieee.Fits.{add-fits, and_r}
use lib.Ieee.Scale.{finite}
use Rattle.recordings.specs.Recordings.{Recordings}
use Rattle.limits.specs.Limits.{track_places}
use Rattle.decibels.specs.declared.decibels.Amplitude.{Amplitude}
use Rattle.decibels.proofs.laws.Decibels.{amplitude_within}
use Rattle.laws.specs.FloatBounds.{Within}
use Rattle.laws.specs.Interpolate.{interpolate}
use Rattle.laws.proofs.laws.Choice.{leaves_eq}
use Rattle.laws.proofs.laws.Loop.{downto_holds, upto_holds}
use Rattle.laws.proofs.laws.Float.{Zero}
use Rattle.laws.proofs.laws.FloatZero.{mul_zero_left}
use Rattle.laws.proofs.laws.FloatBounds.{holds_small, mul_within}
use Rattle.rounding.specs.Narrow.{narrowed}
use Rattle.tween.specs.Tweenable.{interpolated}
use Rattle.spatial.specs.declared.placing.Placing.{Placing}
use Rattle.spatial.specs.declared.placing.Placing.TheVariants.{Plain, Unheard, Spatial}
use Rattle.spatial.specs.Spatial.{factor, PlacingIn}
use Rattle.spatial.proofs.laws.Spatial.{factor_within}
use Rattle.links.specs.Links.{owners}
use Rattle.frame.specs.declared.frame.Frame.{Frame}
use Rattle.frame.specs.Frame.{zero_frame, added, scaled}
use Rattle.frame.specs.Layout.{scratch, frame_at, with_frames}
use Rattle.frame.specs.Running.{Both, Running, AllRunning}
use Rattle.frame.proofs.laws.Layout.{first_held}
use Rattle.chunk.specs.declared.chunk.Level.{Level}
use Rattle.chunk.specs.declared.chunk.ChunkTrack.{ChunkTrack}
use Rattle.chunk.specs.declared.chunk.Chunk.{Chunk}
use Rattle.chunk.specs.Chunk.{amount_at, level_amplitude, track_amplitude, LevelInRange, ChunkOk, track_row, route_row, sound_row}
use Rattle.chunk.proofs.laws.Chunk.{IsAmount, amount_is, level_admitted}
use Rattle.track_sounds.specs.Owners.{UsedTracks, used_parent}
use Rattle.send_track.specs.Send.{send_layout, SendsRunning}
use Rattle.track_sounds.specs.Sound.{added_sound, with_sounds}
use Rattle.track.specs.Sub.{over_sub_tracks, sum_over, track_sum, track_frame, with_routes, with_track_sends, placed}
use Rattle.track.proofs.laws.Running.{zeros, running_zero, picked_if, absorbed}
use Rattle.send_track.proofs.laws.Send.{all_sends, on_sends_held}
use Rattle.track_sounds.proofs.laws.Owners.{Skips}
use Rattle.track.proofs.laws.Sub.{sub_step, sub_send}

-- ---- what a track's frames are scaled by is finite

level_within : (l : Level) (amount : Float) → LevelInRange l → IsAmount amount → Within (level_amplitude l amount).0 16 1
unfolding level_amplitude interpolated interpolate
level_within l amount h k =
    let x : Float = (interpolated l.before l.now amount).0 in
    amplitude_within x (add-fits binary32 l.before.0 (mul binary32 (sub binary32 l.now.0 l.before.0) (narrowed amount))) (level_admitted l amount h k)

factor_finite : (t : ChunkTrack) (amount : Float) → LevelInRange t.volume → LevelInRange t.fade → IsAmount amount → T (finite (track_amplitude t amount).0)
unfolding track_amplitude
factor_finite t amount v f k = (mul_within {c = 1} {d = 1} (holds_small binary32 256 (lit< tt)) (level_within t.volume amount v k) (level_within t.fade amount f k)).is_finite

zeros_scaled : {a : Frame} (k : Amplitude) → T (finite k.0) → Both Zero a → Both Zero (scaled a k)
unfolding scaled
zeros_scaled k h z = record { left = mul_zero_left binary32 k.0 z.left h; right = mul_zero_left binary32 k.0 z.right h }

zeros_placed : (p : Placing) → PlacingIn p → {a : Frame} → Both Zero a → Both Zero (placed p a)
unfolding placed
zeros_placed Plain k z = z
zeros_placed Unheard k z = zeros
zeros_placed (Spatial level) k z = zeros_scaled (record { 0 = factor (Spatial level) }) (factor_within (Spatial level) k).is_finite z

-- ---- one track

not_so : (b : Bool) → (b ≡ true → ⊥) → b ≡ false
not_so true h = absurd (h refl)
not_so false h = refl

module _ {c : Chunk} {samples : Recordings} (ok : ChunkOk c samples) {used : ℕ → Bool} (u : UsedTracks c used) where
  -- a line that is not used: nothing is on it, and no track right below it is used
  module _ (line : ℕ) (few : line ≤ track_places) (e : used line ≡ false) where
    no_sound : (k : ℕ) → k < c.sound_count → (sound_row c k).track ≡ line → ⊥
    no_sound k h q = true≢false (sym (u.sounds k h (omega (arith, q, few))) ∙ ap used q ∙ e)

    below_unused : (j : ℕ) → j < c.track_count → T (eqb (track_row c j).parent line) → used (suc j) ≡ false
    below_unused j h t = not_so (used (suc j)) (λ y. true≢false (sym (u.parents j h y) ∙ ap used (eqb→eq (track_row c j).parent line t) ∙ e))

    no_sounds : (i : ℕ) (a : Frame) → with_sounds c samples line i a ≡ a
    unfolding with_sounds
    no_sounds i a =
        downto_holds (λ k x. x ≡ a) (λ k x. cond (eqb (sound_row c k).track line) (added_sound samples (sound_row c k) i x) x) c.sound_count a refl
        (λ k h x q. leaves_eq (sound_row c k).track line (added_sound samples (sound_row c k) i x) x (no_sound k h) ∙ q)

    -- a step on the tracks right below it, which leaves a as it is where they are not used
    none_below : (step : ℕ → Frame → Frame) (a : Frame) → ((j : ℕ) → j < c.track_count → used (suc j) ≡ false → step (suc j) a ≡ a) → over_sub_tracks c line step a ≡ a
    unfolding over_sub_tracks
    none_below step a h =
        downto_holds (λ j x. x ≡ a) (λ j x. cond (eqb (track_row c j).parent line) (step (suc j) x) x) c.track_count a refl
        (λ j l x q. picked_if (λ y. y ≡ a) (eqb (track_row c j).parent line) (step (suc j) x) x (λ t. ap (step (suc j)) q ∙ h j l (below_unused j l t)) q)

  pub unused_zeros : (d line i : ℕ) → 1 ≤ line → line ≤ c.track_count → used line ≡ false → i < c.frames → Both Zero (track_frame d c samples line i)
  unfolding track_frame sum_over
  unused_zeros zero line i low high e p = zeros
  unused_zeros (suc d) line i low high e p =
      let track = track_row c (line - 1) in
      let few : line ≤ track_places = omega (arith, high, ok.tracks) in
      let here : line - 1 < c.track_count = omega (arith, low, high) in
      let factors : Amplitude = track_amplitude track (amount_at i c.frames) in
      let under : Frame = over_sub_tracks c line (λ below x. added x (track_frame d c samples below i)) zero_frame in
      let empty : track_sum d c samples line i ≡ zero_frame =
      no_sounds line few e i under
      ∙ none_below line few e (λ below x. added x (track_frame d c samples below i)) zero_frame (λ j l n. absorbed running_zero (unused_zeros d (suc j) i (omega arith) l n p)) in
      picked_if (Both Zero) track.advancing (scaled (placed track.placing (track_sum d c samples line i)) factors) zero_frame
      (λ t. zeros_scaled factors (factor_finite track (amount_at i c.frames) (ok.volumes (line - 1) here) (ok.fades (line - 1) here) (amount_is i c.frames p ok.short))
      (zeros_placed track.placing (ok.placings (line - 1) here) (subst (Both Zero) (sym empty) zeros)))
      zeros

  -- a route to send track s: what is there is running
  abbrev Sent : ℕ → Frame → Type 0
  Sent s a = (r : ℕ) → r < c.route_count → (route_row c r).send ≡ s → Both Running a

  zeros_sent : (line s : ℕ) (frame a : Frame) → Both Zero frame → Sent s a → with_routes c line s frame a ≡ a
  unfolding with_routes
  zeros_sent line s frame a z run =
      upto_holds (λ r x. x ≡ a) (λ r x. cond (eqb (route_row c r).track line && eqb (route_row c r).send s) (added x (scaled frame (route_row c r).amplitude)) x) c.route_count a refl
      (λ r h x q. picked_if (λ y. y ≡ a) (eqb (route_row c r).track line && eqb (route_row c r).send s) (added x (scaled frame (route_row c r).amplitude)) x
      (λ t. ap (λ (y : Frame). added y (scaled frame (route_row c r).amplitude)) q
      ∙ absorbed (run r h (eqb→eq (route_row c r).send s (and_r (eqb (route_row c r).track line) (eqb (route_row c r).send s) t))) (zeros_scaled (route_row c r).amplitude (ok.amplitudes r h) z))
      q)

  unused_sends : (d line s i : ℕ) (a : Frame) → 1 ≤ line → line ≤ c.track_count → used line ≡ false → i < c.frames → Sent s a → with_track_sends d c samples line s i a ≡ a
  unfolding with_track_sends
  unused_sends zero line s i a low high e p run = refl
  unused_sends (suc d) line s i a low high e p run =
      let few : line ≤ track_places = omega (arith, high, ok.tracks) in
      let step : ℕ → Frame → Frame = λ below x. with_track_sends d c samples below s i x in
      let frame : Frame = track_frame (suc d) c samples line i in
      picked_if (λ x. x ≡ a) (track_row c (line - 1)).advancing (with_routes c line s frame (over_sub_tracks c line step a)) a
      (λ t. ap (with_routes c line s frame) (none_below line few e step a (λ j l n. unused_sends d (suc j) s i a (omega arith) l n p run))
      ∙ zeros_sent line s frame a (unused_zeros (suc d) line i low high e p) run)
      refl

  -- ---- a loop over the tracks below `line`

  module _ (d line : ℕ) (few : line ≤ track_places) (begun : List Float) where
    -- a track right below it that has no link is not used
    not_linked : (k : ℕ) → (used_parent c used k ≡ line → ⊥) → T (eqb (track_row c k).parent line) → used (suc k) ≡ false
    not_linked k n t = not_so (used (suc k)) (λ y. n (ap (λ (b : Bool). cond b (track_row c k).parent owners) y ∙ eqb→eq (track_row c k).parent line t))

    pub sum_skips : (x : List Float) → AllRunning c.frames x → Skips (with_frames (scratch 0 c.frames)) (sub_step d c samples line) c.track_count (used_parent c used) line begun x
    sum_skips x run k h n =
        let L = scratch 0 c.frames in
        first_held L (sub_step d c samples line k) c.frames x
        (λ i p. picked_if (λ y. y ≡ frame_at L x i) (eqb (track_row c k).parent line) (added (frame_at L x i) (track_frame d c samples (suc k) i)) (frame_at L x i)
        (λ t. absorbed (run i p) (unused_zeros d (suc k) i (omega arith) h (not_linked k n t) p)) refl)

    pub sends_skip : (x : List Float) → SendsRunning c x → Skips (all_sends c.frames) (sub_send d c samples line) c.track_count (used_parent c used) line begun x
    sends_skip x run k h n =
        on_sends_held c.frames (λ s i a. sub_send d c samples line k (s, i) a) x
        (λ s i q p.
        let a : Frame = frame_at (send_layout s c.frames) x i in
        picked_if (λ y. y ≡ a) (eqb (track_row c k).parent line) (with_track_sends d c samples (suc k) (suc s) i a) a
        (λ t. unused_sends d (suc k) (suc s) i a (omega arith) h (not_linked k n t) p (λ r b e. run s i (omega (arith, (ok.routed r b).1, e)) p)) refl)
