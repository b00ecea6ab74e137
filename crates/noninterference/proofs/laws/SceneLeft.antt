-- A scene s, and the scene e that is left of it once what lies inside some silent tracks is removed. Lines are
-- counted from 0; a line that a field names is counted from 1, and 0 is the mixer or the main track. `keep` says which tracks are kept, `chosen` which of
-- them lose what lies inside, and `quiet` which have no route, nor has any track below them. Of e and its samples nothing is asked but that they are what
-- is left.
use mathlib.Core.Path.{◌≡◌}
use mathlib.Core.Logic.{◌⊎◌}
use mathlib.Core.Bool.{Bool, true, cond}
use Prim.Native.Nat.{ℕ, suc, ◌+◌, ◌<◌}
use lib.Dec.{T}
use Rattle.recordings.specs.Recordings.{Recordings, recording}
use Rattle.laws.specs.Kept.{rank}
use Rattle.laws.proofs.laws.DecibelRange.{SilentRange}
use Rattle.tween.specs.declared.start_time.StartTime.TheVariants.{Immediate}
use Rattle.spatial.specs.declared.placing.Placing.TheVariants.{Plain}
use Rattle.scene.specs.declared.scene.Scene.{Scene}
use Rattle.scene.specs.declared.scene.TrackLine.{TrackLine}
use Rattle.scene.specs.declared.scene.RouteLine.{RouteLine}
use Rattle.scene.specs.declared.scene.SoundLine.{SoundLine}
use Rattle.scene.specs.declared.scene.OrderLine.{OrderLine}
use Rattle.scene.specs.declared.scene.OrderKind.{OrderKind}
use Rattle.scene.specs.declared.scene.OrderKind.TheVariants.{MainVolume, TrackVolume, SendVolume, RouteVolume, Pause, Resume}
use Rattle.accepted.specs.Lines.{clock_line, track_line, send_line, route_line, sound_line, placing_at, order_line}
use Rattle.frame.specs.declared.frame.Frame.{Frame}
use Rattle.frame.specs.Frame.{sample_frame}
use Rattle.noninterference.specs.Removed.{new_line}
use Rattle.noninterference.proofs.laws.Lines.{kept_line, open_line}

-- ---- which lines are kept

-- a route is kept where its track is, a sound where its track is kept and not chosen
abbrev pub kept_route_line : (ℕ → Bool) → Scene → ℕ → Bool
kept_route_line keep s r = kept_line keep (route_line s r).track

abbrev pub kept_sound_line : (ℕ → Bool) → (ℕ → Bool) → Scene → ℕ → Bool
kept_sound_line keep chosen s k = open_line keep chosen (sound_line s k).track

-- an order is kept where it names no track and no route, or one that is kept
unfoldable pub kept_index : (ℕ → Bool) → Scene → OrderKind → ℕ → Bool
kept_index keep s MainVolume index = true
kept_index keep s TrackVolume index = kept_line keep index
kept_index keep s SendVolume index = true
kept_index keep s RouteVolume index = kept_line (kept_route_line keep s) index
kept_index keep s Pause index = kept_line keep index
kept_index keep s Resume index = kept_line keep index

abbrev pub kept_order : (ℕ → Bool) → Scene → ℕ → Bool
kept_order keep s i = kept_index keep s (order_line s i).kind (order_line s i).index

-- ---- a line with its references counted among the lines kept

unfoldable pub new_index : (ℕ → Bool) → Scene → OrderKind → ℕ → ℕ
new_index keep s MainVolume index = index
new_index keep s TrackVolume index = new_line keep index
new_index keep s SendVolume index = index
new_index keep s RouteVolume index = new_line (kept_route_line keep s) index
new_index keep s Pause index = new_line keep index
new_index keep s Resume index = new_line keep index

abbrev pub new_track_line : (ℕ → Bool) → TrackLine → TrackLine
new_track_line keep l = record { parent = new_line keep l.parent; volume = l.volume }

abbrev pub new_route_line : (ℕ → Bool) → RouteLine → RouteLine
new_route_line keep l = record { track = new_line keep l.track; send = l.send; volume = l.volume }

abbrev pub new_order_line : (ℕ → Bool) → Scene → OrderLine → OrderLine
new_order_line keep s o =
    record {
      block = o.block;
      kind = o.kind;
      index = new_index keep s o.kind o.index;
      target = o.target;
      start_time = o.start_time;
      millis = o.millis;
      easing = o.easing;
    }

-- ---- silent tracks

-- Muted: the track's volume and every volume that an order gives it are silent, and the tracks right below it are quiet
pub record MutedTrack (quiet : ℕ → Bool) (s : Scene) (t : ℕ) : Type 0 where
  pub volume : SilentRange (track_line s t).volume.0
  pub orders : (i : ℕ) → i < s.order_count → (order_line s i).kind ≡ TrackVolume → (order_line s i).index ≡ suc t → SilentRange (order_line s i).target.0
  pub below : (j : ℕ) → j < s.track_count → (track_line s j).parent ≡ suc t → T (quiet j)

-- Held: the one pause or resume that names the track pauses it at once, before the first block
pub record HeldTrack (s : Scene) (t : ℕ) : Type 0 where
  pub line : ℕ
  pub there : line < s.order_count
  pub pause : (order_line s line).kind ≡ Pause
  pub index : (order_line s line).index ≡ suc t
  pub block : (order_line s line).block ≡ 0
  pub start : (order_line s line).start_time ≡ Immediate
  pub millis : (order_line s line).millis ≡ 0
  pub only : (i : ℕ) → i < s.order_count → ((order_line s i).kind ≡ Pause) ⊎ ((order_line s i).kind ≡ Resume) → (order_line s i).index ≡ suc t → i ≡ line

-- ---- the relation

-- frame i of what a sound plays
abbrev pub line_frame : Recordings → SoundLine → ℕ → Frame
line_frame samples line i = sample_frame (recording samples line.from) (line.first + i)

pub record SceneLeft (keep chosen quiet : ℕ → Bool) (s : Scene) (samples : Recordings) (e : Scene) (samples' : Recordings) : Type 0 where
  -- e is what is left of s
  pub head : e.head ≡ s.head
  pub clock_count : e.clock_count ≡ s.clock_count
  pub clocks : (i : ℕ) → i < s.clock_count → clock_line e i ≡ clock_line s i
  pub send_count : e.send_count ≡ s.send_count
  pub sends : (i : ℕ) → i < s.send_count → send_line e i ≡ send_line s i
  pub track_count : e.track_count ≡ rank keep s.track_count
  pub tracks : (t : ℕ) → t < s.track_count → T (keep t) → track_line e (rank keep t) ≡ new_track_line keep (track_line s t)
  pub route_count : e.route_count ≡ rank (kept_route_line keep s) s.route_count
  pub routes : (r : ℕ) → r < s.route_count → T (kept_route_line keep s r) → route_line e (rank (kept_route_line keep s) r) ≡ new_route_line keep (route_line s r)
  pub sound_count : e.sound_count ≡ rank (kept_sound_line keep chosen s) s.sound_count
  pub sound_tracks : (k : ℕ) → k < s.sound_count → T (kept_sound_line keep chosen s k)
      → (sound_line e (rank (kept_sound_line keep chosen s) k)).track ≡ new_line keep (sound_line s k).track
  pub sound_counts : (k : ℕ) → k < s.sound_count → T (kept_sound_line keep chosen s k) → (sound_line e (rank (kept_sound_line keep chosen s) k)).count ≡ (sound_line s k).count
  -- every frame that a sound plays
  pub sound_frames : (k : ℕ) → k < s.sound_count → T (kept_sound_line keep chosen s k) → (i : ℕ) → i < (sound_line s k).count
      → line_frame samples' (sound_line e (rank (kept_sound_line keep chosen s) k)) i ≡ line_frame samples (sound_line s k) i
  -- a chosen track's placing is removed
  pub placings : (t : ℕ) → t < s.track_count → T (keep t) → placing_at e (rank keep t) ≡ cond (chosen t) Plain (placing_at s t)
  pub order_count : e.order_count ≡ rank (kept_order keep s) s.order_count
  pub orders : (i : ℕ) → i < s.order_count → T (kept_order keep s i) → order_line e (rank (kept_order keep s) i) ≡ new_order_line keep s (order_line s i)
  -- a track is kept where it stands right under the mixer, or under a track that is kept and not chosen
  pub tree : (t : ℕ) → t < s.track_count → keep t ≡ open_line keep chosen (track_line s t).parent
  pub silent : (t : ℕ) → t < s.track_count → T (chosen t) → MutedTrack quiet s t ⊎ HeldTrack s t
  pub quiet_routes : (t : ℕ) → t < s.track_count → T (quiet t) → (r : ℕ) → r < s.route_count → (route_line s r).track ≡ suc t → ⊥
  pub quiet_below : (t : ℕ) → t < s.track_count → T (quiet t) → (j : ℕ) → j < s.track_count → (track_line s j).parent ≡ suc t → T (quiet j)
