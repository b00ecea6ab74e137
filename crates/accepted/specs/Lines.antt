-- A scene's lines, counted from 0. Past an array's end stands what the language gives there, which nothing reads.
use Rattle.std.specs.Prelude.{false, ℕ, get_or}
use Rattle.std.specs.Float.{nan}
use Rattle.clock.specs.declared.clock_speed.ClockSpeed.TheVariants.{SecondsPerTick}
use Rattle.tween.specs.declared.tween.Easing.TheVariants.{Linear}
use Rattle.tween.specs.declared.start_time.StartTime.TheVariants.{Immediate}
use Rattle.spatial.specs.declared.placing.Placing.{Placing}
use Rattle.spatial.specs.declared.placing.Placing.TheVariants.{Plain}
use Rattle.scene.specs.declared.scene.Scene.{Scene}
use Rattle.scene.specs.declared.scene.ClockLine.{ClockLine}
use Rattle.scene.specs.declared.scene.TrackLine.{TrackLine}
use Rattle.scene.specs.declared.scene.SendLine.{SendLine}
use Rattle.scene.specs.declared.scene.RouteLine.{RouteLine}
use Rattle.scene.specs.declared.scene.SoundLine.{SoundLine}
use Rattle.scene.specs.declared.scene.TrackPlacing.{TrackPlacing}
use Rattle.scene.specs.declared.scene.OrderLine.{OrderLine}
use Rattle.scene.specs.declared.scene.OrderKind.TheVariants.{MainVolume}

abbrev pub absent_clock_line : ClockLine
absent_clock_line = record { speed = SecondsPerTick nan; ticking = false }

abbrev pub absent_track_line : TrackLine
absent_track_line = record { parent = 0; volume = record { 0 = nan } }

abbrev pub absent_send_line : SendLine
absent_send_line = record { volume = record { 0 = nan } }

abbrev pub absent_route_line : RouteLine
absent_route_line = record { track = 0; send = 0; volume = record { 0 = nan } }

abbrev pub absent_sound_line : SoundLine
absent_sound_line = record { track = 0; first = 0; count = 0; from = 0 }

abbrev pub absent_track_placing : TrackPlacing
absent_track_placing = record { placing = Plain }

abbrev pub absent_order_line : OrderLine
absent_order_line = record { block = 0; kind = MainVolume; index = 0; target = record { 0 = nan }; start_time = Immediate; millis = 0; easing = Linear }

abbrev pub clock_line : Scene → ℕ → ClockLine
clock_line s i = get_or s.clocks i absent_clock_line

abbrev pub track_line : Scene → ℕ → TrackLine
track_line s t = get_or s.tracks t absent_track_line

abbrev pub send_line : Scene → ℕ → SendLine
send_line s i = get_or s.sends i absent_send_line

abbrev pub route_line : Scene → ℕ → RouteLine
route_line s r = get_or s.routes r absent_route_line

abbrev pub sound_line : Scene → ℕ → SoundLine
sound_line s k = get_or s.sounds k absent_sound_line

-- how a track line stands in the room
abbrev pub placing_at : Scene → ℕ → Placing
placing_at s t = (get_or s.placings t absent_track_placing).placing

abbrev pub order_line : Scene → ℕ → OrderLine
order_line s i = get_or s.orders i absent_order_line
