-- What the layers above take from an accepted scene: ranges, references and lengths, of the tables themselves.
use Rattle.std.specs.Prelude.{◌≡◌, ℕ, ◌+◌, ◌*◌, ◌≤◌, ◌<◌, T, get_or, length}
use Rattle.std.specs.Float.{nan, binary64}
use Rattle.std.specs.Float.Ieee.{fits}
use Rattle.limits.specs.Limits.{clock_lines, track_lines, send_lines, route_lines, sound_lines, order_lines, block_frames_most, blocks_most, channels_most, chunk_frames_most}
use Rattle.recordings.specs.Recordings.{Recordings, recording}
use Rattle.laws.specs.DecibelRange.{TargetRange}
use Rattle.laws.specs.FloatBounds.{Within}
use Rattle.clock.specs.ClockSpeed.{as_ticks_per_second, allowed_speed}
use Rattle.tween.specs.StartTime.{ClockThere}
use Rattle.spatial.specs.Spatial.{PlacingIn}
use Rattle.scene.specs.declared.scene.Scene.{Scene}
use Rattle.scene.specs.declared.scene.RouteLine.{RouteLine}
use Rattle.scene.specs.declared.scene.OrderLine.{OrderLine}
use Rattle.scene.specs.declared.scene.OrderKind.{OrderKind}
use Rattle.scene.specs.declared.scene.OrderKind.TheVariants.{MainVolume, TrackVolume, SendVolume, RouteVolume, Pause, Resume}
use Rattle.accepted.specs.Lines.{clock_line, track_line, send_line, route_line, sound_line, placing_at, order_line}

-- a line number from 1 on
abbrev pub Names : ℕ → ℕ → Type 0
Names count line = (1 ≤ line) × (line ≤ count)

abbrev pub IndexOk : Scene → OrderKind → ℕ → Type 0
IndexOk s MainVolume index = index ≡ 0
IndexOk s TrackVolume index = Names s.track_count index
IndexOk s SendVolume index = Names s.send_count index
IndexOk s RouteVolume index = Names s.route_count index
IndexOk s Pause index = Names s.track_count index
IndexOk s Resume index = Names s.track_count index

pub record RouteOk (s : Scene) (r : RouteLine) : Type 0 where
  pub track : Names s.track_count r.track
  pub send : Names s.send_count r.send
  pub volume : TargetRange r.volume.0

pub record OrderOk (s : Scene) (o : OrderLine) : Type 0 where
  pub block : o.block < s.head.blocks
  pub index : IndexOk s o.kind o.index
  pub target : TargetRange o.target.0
  pub start : ClockThere s.clock_count o.start_time
  pub millis : o.millis ≤ 3600000

pub record SceneOk (s : Scene) : Type 0 where
  pub rate : (8000 ≤ s.head.rate) × (s.head.rate ≤ 192000)
  pub channels : (1 ≤ s.head.channels) × (s.head.channels ≤ channels_most)
  pub buffer : (1 ≤ s.head.buffer) × (s.head.buffer ≤ chunk_frames_most)
  pub block : (1 ≤ s.head.block) × (s.head.block ≤ block_frames_most)
  pub blocks : (1 ≤ s.head.blocks) × (s.head.blocks ≤ blocks_most)
  pub volume : TargetRange s.head.volume.0
  -- how many lines, and how many places
  pub clock_count : s.clock_count ≤ clock_lines
  pub track_count : s.track_count ≤ track_lines
  pub send_count : s.send_count ≤ send_lines
  pub route_count : s.route_count ≤ route_lines
  pub sound_count : s.sound_count ≤ sound_lines
  pub order_count : s.order_count ≤ order_lines
  pub clock_places : length s.clocks ≡ clock_lines
  pub track_places : length s.tracks ≡ track_lines
  pub send_places : length s.sends ≡ send_lines
  pub route_places : length s.routes ≡ route_lines
  pub sound_places : length s.sounds ≡ sound_lines
  pub placing_places : length s.placings ≡ track_lines
  pub order_places : length s.orders ≡ order_lines
  -- the lines
  pub clocks : (i : ℕ) → i < s.clock_count → T (fits binary64 (as_ticks_per_second (clock_line s i).speed)) × T (allowed_speed (clock_line s i).speed)
  pub tracks : (t : ℕ) → t < s.track_count → TargetRange (track_line s t).volume.0
  -- a parent stands on an earlier line
  pub parents : (t : ℕ) → t < s.track_count → (track_line s t).parent ≤ t
  pub sends : (i : ℕ) → i < s.send_count → TargetRange (send_line s i).volume.0
  pub routes : (r : ℕ) → r < s.route_count → RouteOk s (route_line s r)
  pub sounds : (k : ℕ) → k < s.sound_count → (sound_line s k).track ≤ s.track_count
  pub placings : (t : ℕ) → t < s.track_count → PlacingIn (placing_at s t)
  pub orders : (i : ℕ) → i < s.order_count → OrderOk s (order_line s i)

pub record SamplesOk (s : Scene) (samples : Recordings) : Type 0 where
  -- a sound's frames are there, in the buffer that it is from
  pub sounds : (k : ℕ) → k < s.sound_count → 2 * ((sound_line s k).first + (sound_line s k).count) ≤ length (recording samples (sound_line s k).from)
  -- every sample of both is finite and from -1 to 1
  pub within : (from i : ℕ) → i < length (recording samples from) → Within (get_or (recording samples from) i nan) 1 1
