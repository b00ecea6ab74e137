-- The size of what is heard inside a track: at most 96 terms at each level, each scaled by at most 2 ^ 8 and by a placing's factor, at most 1, so a frame
-- with d levels of tracks is within 2 ^ (15 d), and every sum is finite. Assumes nothing.
use mathlib.Core.Path.{◌≡◌, sym, subst}
use mathlib.Core.Bool.{Bool, cond}
use Prim.Native.Nat.{ℕ, zero, suc, ◌+◌, ◌-◌, ◌*◌, ◌^◌, ◌≤◌, ◌<◌}
use native.Mathlib.Nat.{one-mul, mul-le-mul_right, add-zero}
use native.Mathlib.Omega.{arith}
use lib.Dec.{eqb, lit<, lit≤}
use lib.Pow.{pow-add, pow_pos}
use lib.Ieee.{Float, binary32, binary64, add, mul, sub, neg, of_int}
use lib.Ieee.Fits.{add-fits}
use Rattle.recordings.specs.Recordings.{Recordings}
use Rattle.limits.specs.Limits.{sound_lines, track_depth, track_places}
use Rattle.laws.specs.Loop.{downto}
use Rattle.laws.proofs.laws.Loop.{downto_holds}
use Rattle.laws.proofs.laws.Float.{Zero, positive_zero}
use Rattle.laws.specs.FloatBounds.{Within}
use Rattle.laws.proofs.laws.FloatBounds.{Holds, holds_small, holds_pow, within_weaken, within_zero, mul_within, add_count, raise_count}
use Rattle.laws.specs.Interpolate.{interpolate}
use Rattle.decibels.proofs.laws.Decibels.{amplitude_within, amplitude_silent}
use Rattle.laws.proofs.laws.DecibelRange.{SilentRange, silent_stays, silent_most}
use Rattle.rounding.specs.Narrow.{narrowed}
use Rattle.rounding.proofs.laws.Narrow.{narrowed_unit}
use Rattle.tween.specs.Tweenable.{interpolated}
use Rattle.spatial.specs.declared.placing.Placing.{Placing}
use Rattle.spatial.specs.declared.placing.Placing.TheVariants.{Plain, Unheard, Spatial}
use Rattle.spatial.specs.Spatial.{factor, PlacingIn}
use Rattle.spatial.proofs.laws.Spatial.{factor_within}
use Rattle.frame.specs.declared.frame.Frame.{Frame}
use Rattle.chunk.specs.declared.chunk.Level.{Level}
use Rattle.chunk.specs.declared.chunk.Chunk.{Chunk}
use Rattle.chunk.specs.declared.chunk.ChunkTrack.{ChunkTrack}
use Rattle.frame.specs.Frame.{zero_frame, added}
use Rattle.chunk.specs.Chunk.{amount_at, level_amplitude, track_amplitude, LevelInRange, ChunkOk, track_row, sound_row}
use Rattle.chunk.proofs.laws.Chunk.{IsAmount, amount_is, level_admitted}
use Rattle.track_sounds.specs.Sound.{sound_frame, added_sound, with_sounds}
use Rattle.track.specs.Sub.{over_sub_tracks, placed, track_frame, sum_over, track_sum}
use Rattle.frame.specs.Running.{Both}
use Rattle.track.proofs.laws.Running.{both_added, both_zero, picked_if}
use Rattle.noninterference.proofs.laws.Frames.{Finite, both_map, both_scaled}
use Rattle.noninterference.proofs.laws.Parts.{track_parts, track_holds}

-- ---- amplitudes

pub level_within : (l : Level) (amount : Float) → LevelInRange l → IsAmount amount → Within (level_amplitude l amount).0 16 1
unfolding level_amplitude interpolated interpolate
level_within l amount h k =
    let x : Float = (interpolated l.before l.now amount).0 in
    amplitude_within x (add-fits binary32 l.before.0 (mul binary32 (sub binary32 l.now.0 l.before.0) (narrowed amount))) (level_admitted l amount h k)

-- a level whose two values are silent has no amplitude
pub level_silent : (l : Level) (amount : Float) → SilentRange l.before.0 → SilentRange l.now.0 → IsAmount amount → Zero (level_amplitude l amount).0
unfolding level_amplitude interpolated of_int neg
level_silent l amount h k u =
    let x : Float = (interpolated l.before l.now amount).0 in
    subst Zero (sym (amplitude_silent x (silent_most x (silent_stays l.before.0 l.now.0 (narrowed amount) (narrowed_unit binary64 amount u) h k)))) positive_zero

pub track_amplitude_within : (t : ChunkTrack) (amount : Float) → LevelInRange t.volume → LevelInRange t.fade → IsAmount amount → Within (track_amplitude t amount).0 (2 ^ 8) 1
unfolding track_amplitude
track_amplitude_within t amount v f k = mul_within {c = 1} {d = 1} (holds_small binary32 256 (lit< tt)) (level_within t.volume amount v k) (level_within t.fade amount f k)

-- ---- sums of some of n terms

-- finite, and at most n
abbrev pub Size : ℕ → Float → Type 0
Size n x = Within x n 1

one_more : (m n i u : ℕ) (x y : Float) → i < n → u ≤ 121 → m + n < 128 → Within x ((m + (n - suc i)) * 2 ^ u) 1 → Within y (2 ^ u) 1 → Within (add binary32 x y) ((m + (n - i)) * 2 ^ u) 1
one_more m n i u x y h U N v w =
    subst (λ (k : ℕ). Within (add binary32 x y) (k * 2 ^ u) 1) (next m n i h)
    (add_count binary32 7 u (m + (n - suc i)) 1 (lit≤ tt) (room u U) (short m n i h N) v (subst (λ (k : ℕ). Within y k 1) (sym (one-mul (2 ^ u))) w))
  where
    next : (m n i : ℕ) → i < n → m + (n - suc i) + 1 ≡ m + (n - i)
    next m n i h = omega arith

    room : (u : ℕ) → u ≤ 121 → 7 + u ≤ 128
    room u h = omega arith

    short : (m n i : ℕ) → i < n → m + n < 128 → m + (n - suc i) + 1 < 128
    short m n i h k = omega arith

no_more : (m n i u : ℕ) (x : Float) → Within x ((m + (n - suc i)) * 2 ^ u) 1 → Within x ((m + (n - i)) * 2 ^ u) 1
no_more m n i u x v = within_weaken (mul-le-mul_right (2 ^ u) (more m n i)) v
  where
    more : (m n i : ℕ) → m + (n - suc i) ≤ m + (n - i)
    more m n i = omega arith

pub terms_within : (pick : ℕ → Bool) (g : ℕ → Frame) (u n m : ℕ) (s : Frame) → u ≤ 121 → m + n < 128 → ((i : ℕ) → i < n → Both (Size (2 ^ u)) (g i)) → Both (Size (m * 2 ^ u)) s
    → Both (Size ((m + n) * 2 ^ u)) (downto (λ i x. cond (pick i) (added x (g i)) x) n s)
terms_within pick g u n m s U N h b =
    subst (λ (k : ℕ). Both (Size (k * 2 ^ u)) (downto (λ i x. cond (pick i) (added x (g i)) x) n s)) (all m n)
    (downto_holds (λ i x. Both (Size ((m + (n - i)) * 2 ^ u)) x) (λ i x. cond (pick i) (added x (g i)) x) n s
    (subst (λ (k : ℕ). Both (Size (k * 2 ^ u)) s) (none m n) b)
    (λ i l x p. picked_if (Both (Size ((m + (n - i)) * 2 ^ u))) (pick i) (added x (g i)) x
    (λ t. both_added (Size ((m + (n - i)) * 2 ^ u)) (λ y z v w. one_more m n i u y z l U N v w) p (h i l))
    (both_map (Size ((m + (n - i)) * 2 ^ u)) (λ y v. no_more m n i u y v) p)))
  where
    all : (m n : ℕ) → m + (n - 0) ≡ m + n
    all m n = omega arith

    none : (m n : ℕ) → m ≡ m + (n - n)
    none m n = omega arith

-- ---- a track

mul_pow : (a b : ℕ) {x y : Float} → a + b ≤ 127 → Within x (2 ^ a) 1 → Within y (2 ^ b) 1 → Within (mul binary32 x y) (2 ^ (a + b)) 1
mul_pow a b {x} {y} h v w =
    subst (λ (k : ℕ). Within (mul binary32 x y) k 1) (sym (pow-add 2 a b)) (mul_within {c = 1} {d = 1} (subst (λ (k : ℕ). Holds binary32 k 1) (pow-add 2 a b) (holds_pow binary32 (a + b) h)) v w)

-- a placing leaves a bound as it is
pub placed_within : (u : ℕ) → u ≤ 127 → (p : Placing) → PlacingIn p → {a : Frame} → Both (Size (2 ^ u)) a → Both (Size (2 ^ u)) (placed p a)
unfolding placed
placed_within u h Plain k b = b
placed_within u h Unheard k b = both_zero (Size (2 ^ u)) (within_zero positive_zero)
placed_within u h (Spatial level) k b =
    let heard = factor (Spatial level) in
    both_scaled (Size (2 ^ u)) (record { 0 = heard })
    (λ x v. subst (λ (n : ℕ). Within (mul binary32 x heard) (2 ^ n) 1) (add-zero u) (mul_pow u 0 (omega arith) v (factor_within (Spatial level) k))) b

module _ (c : Chunk) (samples : Recordings) (ok : ChunkOk c samples) (i : ℕ) (inside : i < c.frames)
    (heard : (k : ℕ) → k < c.sound_count → Both (Size 1) (sound_frame samples (sound_row c k) i)) where
  -- a track's sum, before its placing, where the tracks below are within 2 ^ u
  sum_within : (d u line : ℕ) → u ≤ 121 → ((j : ℕ) → j < c.track_count → Both (Size (2 ^ u)) (track_frame d c samples (suc j) i)) → Both (Size (2 ^ (7 + u))) (track_sum d c samples line i)
  unfolding sum_over with_sounds added_sound over_sub_tracks
  sum_within d u line U h =
      let n = c.track_count in
      let m = c.sound_count in
      both_map (Size (2 ^ (7 + u))) (λ x v. raise_count (0 + n + m) 7 u (few n m ok.tracks ok.sounds) v)
      (terms_within (λ k. eqb (sound_row c k).track line) (λ k. sound_frame samples (sound_row c k) i) u m (0 + n) (over_sub_tracks c line (λ below x. added x (track_frame d c samples below i)) zero_frame) U
      (short n m ok.tracks ok.sounds)
      (λ k l. both_map (Size (2 ^ u)) (λ x v. within_weaken (pow_pos u) v) (heard k l))
      (terms_within (λ j. eqb (track_row c j).parent line) (λ j. track_frame d c samples (suc j) i) u n 0 zero_frame U (shorter n ok.tracks) h (both_zero (Size (0 * 2 ^ u)) (within_zero positive_zero))))
    where
      few : (n m : ℕ) → n ≤ track_places → m ≤ sound_lines → 0 + n + m ≤ 128
      few n m a b = omega arith

      short : (n m : ℕ) → n ≤ track_places → m ≤ sound_lines → 0 + n + m < 128
      short n m a b = omega arith

      shorter : (n : ℕ) → n ≤ track_places → 0 + n < 128
      shorter n a = omega arith

  amount : IsAmount (amount_at i c.frames)
  amount = amount_is i c.frames inside ok.short

  pub track_within : (d : ℕ) → d ≤ 4 → (j : ℕ) → j < c.track_count → Both (Size (2 ^ (15 * d))) (track_frame d c samples (suc j) i)
  track_within zero h j l = unfold track_frame in both_zero (Size (2 ^ (15 * 0))) (within_zero positive_zero)
  track_within (suc d) h j l =
      subst (Both (Size (2 ^ (15 * suc d)))) (sym (track_parts d c samples j i))
      (track_holds (Both (Size (2 ^ (15 * suc d)))) (track_row c j) c.frames i (placed (track_row c j).placing (track_sum d c samples (suc j) i))
      (both_scaled (Size (2 ^ (15 * suc d))) (track_amplitude (track_row c j) (amount_at i c.frames))
      (λ x v. subst (λ (k : ℕ). Within (mul binary32 x (track_amplitude (track_row c j) (amount_at i c.frames)).0) (2 ^ k) 1) (deeper d)
      (mul_pow (7 + 15 * d) 8 (room d h) v (track_amplitude_within (track_row c j) (amount_at i c.frames) (ok.volumes j l) (ok.fades j l) amount)))
      (placed_within (7 + 15 * d) (short d h) (track_row c j).placing (ok.placings j l) (sum_within d (15 * d) (suc j) (low d h) (track_within d (omega arith)))))
      (both_zero (Size (2 ^ (15 * suc d))) (within_zero positive_zero)))
    where
      deeper : (d : ℕ) → 7 + 15 * d + 8 ≡ 15 * suc d
      deeper d = omega arith

      room : (d : ℕ) → suc d ≤ track_depth → 7 + 15 * d + 8 ≤ 127
      room d h = omega arith

      short : (d : ℕ) → suc d ≤ track_depth → 7 + 15 * d ≤ 127
      short d h = omega arith

      low : (d : ℕ) → suc d ≤ track_depth → 15 * d ≤ 121
      low d h = omega arith

  -- so whatever is summed in a track is finite, once it is placed
  pub placed_finite : (d : ℕ) → suc d ≤ track_depth → (j : ℕ) → j < c.track_count → Both Finite (placed (track_row c j).placing (track_sum d c samples (suc j) i))
  placed_finite d h j l =
      both_map Finite (λ x v. v.is_finite)
      (placed_within (7 + 15 * d) (omega arith) (track_row c j).placing (ok.placings j l) (sum_within d (15 * d) (suc j) (omega arith) (track_within d (omega arith))))
