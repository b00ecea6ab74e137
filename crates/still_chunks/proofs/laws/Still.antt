-- Each frame of a chunk whose levels stand still is the one that does not ask how long the chunk is. Assumes nothing.
use mathlib.Core.Path.{◌≡◌, refl, ap, ap₂, ◌∙◌}
use mathlib.Core.Bool.{Bool, true, false, cond}
use Prim.Native.Nat.{ℕ, zero, suc, ◌-◌, ◌<◌}
use native.Mathlib.Omega.{arith}
use lib.Dec.{eqb}
use Rattle.recordings.specs.Recordings.{Recordings}
use Rattle.limits.specs.Limits.{track_depth}
use Rattle.laws.specs.Loop.{downto}
use Rattle.laws.proofs.laws.Loop.{downto_cong}
use Rattle.decibels.specs.declared.decibels.Amplitude.{Amplitude}
use Rattle.frame.specs.declared.frame.Frame.{Frame}
use Rattle.frame.specs.Frame.{zero_frame, added, scaled}
use Rattle.chunk.specs.declared.chunk.Chunk.{Chunk}
use Rattle.chunk.specs.Chunk.{amount_at, track_amplitude, steady_amplitude, track_row, send_row, ChunkOk}
use Rattle.track_volume.specs.TrackVolume.{placed}
use Rattle.track_volume.proofs.laws.Steady.{product, steady_at}
use Rattle.track_sounds.specs.Sound.{with_sounds}
use Rattle.send_track.specs.Send.{send_frame}
use Rattle.track.specs.Sub.{over_sub_tracks, sum_over, track_frame, with_routes, with_track_sends, with_sub_sends}
use Rattle.track.specs.Mix.{send_input, tracks_frame, mixed_frame}
use Rattle.still_chunks.proofs.laws.Chunks.{still_track_amplitude, still_track_frame, with_still_track_sends, still_send_input, still_tracks_frame, still_mixed_frame, StillChunk}

-- ---- sums of the same

-- what is picked matters only where it is picked
pub cond_same : {X : Type 0} (b : Bool) (x y z : X) → (b ≡ true → x ≡ y) → cond b x z ≡ cond b y z
cond_same true x y z h = h refl
cond_same false x y z h = refl

pub over_cong : (c : Chunk) (line : ℕ) (f g : ℕ → Frame → Frame) (a : Frame) → ((j : ℕ) → j < c.track_count → (x : Frame) → f (suc j) x ≡ g (suc j) x) → over_sub_tracks c line f a ≡ over_sub_tracks c line g a
unfolding over_sub_tracks
over_cong c line f g a h =
    downto_cong (λ j x. cond (eqb (track_row c j).parent line) (f (suc j) x) x) (λ j x. cond (eqb (track_row c j).parent line) (g (suc j) x) x) c.track_count a
    (λ j b x. ap (λ (y : Frame). cond (eqb (track_row c j).parent line) y x) (h j b x))

-- sums over the tracks below `line`
pub frames_cong : (c : Chunk) (line : ℕ) (f g : ℕ → Frame) → ((j : ℕ) → j < c.track_count → f (suc j) ≡ g (suc j)) → over_sub_tracks c line (λ below x. added x (f below)) zero_frame ≡ over_sub_tracks c line (λ below x. added x (g below)) zero_frame
frames_cong c line f g h = over_cong c line (λ below x. added x (f below)) (λ below x. added x (g below)) zero_frame (λ j b x. ap (added x) (h j b))

line_below : (j n : ℕ) → j < n → suc j - 1 < n
line_below j n h = omega arith

-- ---- frame i

module _ (c : Chunk) (samples : Recordings) (i : ℕ) (inside : i < c.frames) (ok : ChunkOk c samples) (still : StillChunk c) where
  amplitude_still : (j : ℕ) → j < c.track_count → (track_row c j).advancing ≡ true → track_amplitude (track_row c j) (amount_at i c.frames) ≡ still_track_amplitude (track_row c j)
  unfolding track_amplitude still_track_amplitude
  amplitude_still j h e =
      ap₂ product
      (steady_at c.frames ok.short (track_row c j).volume i (still.volumes j h e) (ok.volumes j h) inside)
      (steady_at c.frames ok.short (track_row c j).fade i (still.fades j h e) (ok.fades j h) inside)

  pub track_still : (d line : ℕ) → line - 1 < c.track_count → track_frame d c samples line i ≡ still_track_frame d c samples line i
  unfolding track_frame still_track_frame sum_over
  track_still zero line h = refl
  track_still (suc d) line h =
      let track = track_row c (line - 1) in
      let sum : Frame = sum_over (λ below. track_frame d c samples below i) c samples line i in
      let still_sum : Frame = sum_over (λ below. still_track_frame d c samples below i) c samples line i in
      let same : sum ≡ still_sum = ap (with_sounds c samples line i) (frames_cong c line (λ below. track_frame d c samples below i) (λ below. still_track_frame d c samples below i) (λ j b. track_still d (suc j) (line_below j c.track_count b))) in
      cond_same track.advancing (scaled (placed track.placing sum) (track_amplitude track (amount_at i c.frames))) (scaled (placed track.placing still_sum) (still_track_amplitude track)) zero_frame
      (λ e. ap₂ (λ (f : Frame) (a : Amplitude). scaled (placed track.placing f) a) same (amplitude_still (line - 1) h e))

  pub sends_still : (d line s : ℕ) (a : Frame) → line - 1 < c.track_count → with_track_sends d c samples line s i a ≡ with_still_track_sends d c samples line s i a
  unfolding with_track_sends with_still_track_sends
  sends_still zero line s a h = refl
  sends_still (suc d) line s a h =
      ap₂ (λ (f x : Frame). cond (track_row c (line - 1)).advancing (with_routes c line s f x) a) (track_still (suc d) line h)
      (over_cong c line (λ below x. with_track_sends d c samples below s i x) (λ below x. with_still_track_sends d c samples below s i x) a
      (λ j b x. sends_still d (suc j) s x (line_below j c.track_count b)))

  pub input_still : (s : ℕ) → send_input c samples s i ≡ still_send_input c samples s i
  unfolding send_input with_sub_sends still_send_input
  input_still s =
      over_cong c 0 (λ below x. with_track_sends track_depth c samples below s i x) (λ below x. with_still_track_sends track_depth c samples below s i x) zero_frame
      (λ j b x. sends_still track_depth (suc j) s x (line_below j c.track_count b))

  pub tracks_still : tracks_frame c samples i ≡ still_tracks_frame c samples i
  unfolding tracks_frame still_tracks_frame
  tracks_still =
      frames_cong c 0 (λ line. track_frame track_depth c samples line i) (λ line. still_track_frame track_depth c samples line i)
      (λ j b. track_still track_depth (suc j) (line_below j c.track_count b))

  send_still : (s : ℕ) → s < c.send_count → send_frame (send_row c s) c.frames i (send_input c samples (suc s) i) ≡ scaled (added zero_frame (still_send_input c samples (suc s) i)) (steady_amplitude (send_row c s))
  unfolding send_frame
  send_still s h =
      ap₂ (λ (f : Frame) (a : Amplitude). scaled (added zero_frame f) a) (input_still (suc s))
      (steady_at c.frames ok.short (send_row c s) i (still.send_levels s h) (ok.send_levels s h) inside)

  pub still_mixed : mixed_frame c samples i ≡ still_mixed_frame c samples i
  unfolding mixed_frame still_mixed_frame
  still_mixed =
      ap₂ (λ (f : Frame) (a : Amplitude). scaled (with_sounds c samples 0 i f) a)
      (downto_cong (λ s x. added x (send_frame (send_row c s) c.frames i (send_input c samples (suc s) i))) (λ s x. added x (scaled (added zero_frame (still_send_input c samples (suc s) i)) (steady_amplitude (send_row c s)))) c.send_count (tracks_frame c samples i)
      (λ s b x. ap (added x) (send_still s b))
      ∙ ap (λ (f : Frame). downto (λ s x. added x (scaled (added zero_frame (still_send_input c samples (suc s) i)) (steady_amplitude (send_row c s)))) c.send_count f) tracks_still)
      (steady_at c.frames ok.short c.main i still.main_level ok.main_level inside)
