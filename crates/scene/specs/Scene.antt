-- What the tables of an accepted file are: the structs of src/scene.rt, from the numbers of each line.
use Rattle.std.specs.Prelude.{ℕ, ◌-◌, ◌*◌, cond, List, [], ◌∷◌, ◌++◌, map, length, replicate, pos, ◌==◌, slice_index_or, slice_set, Float}
use Rattle.std.specs.Float.{binary32, binary64}
use Rattle.std.specs.Float.Ieee.{of_int, div, minus}
use Rattle.limits.specs.Limits.{clock_lines, track_lines, send_lines, route_lines, sound_lines, order_lines}
use Rattle.laws.specs.Loop.{upto}
use Rattle.decibels.specs.declared.decibels.Decibels.{Decibels}
use Rattle.clock.specs.declared.clock_time.ClockTime.{ClockTime as Time}
use Rattle.tween.specs.declared.tween.Easing.{Easing}
use Rattle.tween.specs.declared.tween.Easing.TheVariants.{Linear, InPowi, OutPowi, InOutPowi}
use Rattle.tween.specs.declared.start_time.StartTime.{StartTime}
use Rattle.tween.specs.declared.start_time.StartTime.TheVariants.{Immediate, Delayed, ClockTime}
use Rattle.spatial.specs.declared.spatial.Position.{Position}
use Rattle.spatial.specs.declared.spatial.Distances.{Distances}
use Rattle.spatial.specs.declared.placing.Placing.{Placing}
use Rattle.spatial.specs.declared.placing.Placing.TheVariants.{Plain, Unheard, Spatial}
use Rattle.spatial.specs.Spatial.{attenuation}
use Rattle.scene.specs.declared.scene.Head.{Head}
use Rattle.scene.specs.declared.scene.ClockLine.{ClockLine}
use Rattle.scene.specs.declared.scene.TrackLine.{TrackLine}
use Rattle.scene.specs.declared.scene.SendLine.{SendLine}
use Rattle.scene.specs.declared.scene.RouteLine.{RouteLine}
use Rattle.scene.specs.declared.scene.SoundLine.{SoundLine}
use Rattle.scene.specs.declared.scene.TrackPlacing.{TrackPlacing}
use Rattle.scene.specs.declared.scene.OrderKind.{OrderKind}
use Rattle.scene.specs.declared.scene.OrderKind.TheVariants.{MainVolume, TrackVolume, SendVolume, RouteVolume, Pause, Resume}
use Rattle.scene.specs.declared.scene.OrderLine.{OrderLine}
use Rattle.scene.specs.declared.scene.Scene.{Scene}
use Rattle.scene_tables.specs.Tables.{natural, head, clocks, tracks, sends, routes, sounds, listener, placings, orders, raised, head_column, clock_column, track_column, send_column, route_column, sound_column, listener_column, placing_column, order_column, order_kind}
use Rattle.scene_questions.specs.Questions.{Tables, rows_at, lines_at, field, cell, speed_of}

-- ---- single values

-- Thousandths are made an f32 by dividing by 1000. A raised number z stands for z - 2^31.
abbrev pub thousandths : ℕ → Float
thousandths z = div binary32 (of_int binary32 (minus z 2147483648)) (of_int binary32 (pos 1000))

-- A volume is thousandths of a decibel.
unfoldable pub volume_of : ℕ → Decibels
volume_of z = record { 0 = thousandths z }

unfoldable pub kind_of : ℕ → OrderKind
kind_of z =
    cond (z == order_kind.main_volume) MainVolume
    (cond (z == order_kind.track_volume) TrackVolume
    (cond (z == order_kind.send_volume) SendVolume (cond (z == order_kind.route_volume) RouteVolume (cond (z == order_kind.pause) Pause Resume))))

-- A clock's tick `when` and fraction `part` / 1000 in f64. Clocks count from 0 here.
unfoldable pub clock_time_of : ℕ → ℕ → ℕ → Time
clock_time_of clock when part =
    record { clock = natural clock - 1; ticks = natural when; fraction = div binary64 (of_int binary64 (pos (natural part))) (of_int binary64 (pos 1000)) }

-- With clock 0 the start is a delay of `when` milliseconds, in nanoseconds, and 0 is immediate; else it is that clock's time.
unfoldable pub start_time_of : ℕ → ℕ → ℕ → StartTime
start_time_of clock when part =
    cond (clock == raised 0) (cond (when == raised 0) Immediate (Delayed (natural when * 1000000)))
    (ClockTime (clock_time_of clock when part))

unfoldable pub easing_of : ℕ → ℕ → Easing
easing_of easing power =
    cond (easing == raised 0) Linear
    (cond (easing == raised 1) (InPowi (natural power))
    (cond (easing == raised 2) (OutPowi (natural power)) (InOutPowi (natural power))))

-- ---- lines

unfoldable pub head_of : List ℕ → Head
head_of row =
    record {
      rate = natural (field row head_column.rate);
      channels = natural (field row head_column.channels);
      buffer = natural (field row head_column.buffer);
      block = natural (field row head_column.block);
      blocks = natural (field row head_column.blocks);
      volume = volume_of (field row head_column.volume);
    }

unfoldable pub clock_of : List ℕ → ClockLine
clock_of row = record { speed = speed_of (field row clock_column.unit) (field row clock_column.speed); ticking = (field row clock_column.ticking == raised 1) }

unfoldable pub track_of : List ℕ → TrackLine
track_of row = record { parent = natural (field row track_column.parent); volume = volume_of (field row track_column.volume) }

unfoldable pub send_of : List ℕ → SendLine
send_of row = record { volume = volume_of (field row send_column.volume) }

unfoldable pub route_of : List ℕ → RouteLine
route_of row = record { track = natural (field row route_column.track); send = natural (field row route_column.send); volume = volume_of (field row route_column.volume) }

unfoldable pub sound_of : List ℕ → SoundLine
sound_of row =
    record {
      track = natural (field row sound_column.track);
      first = natural (field row sound_column.first);
      count = natural (field row sound_column.count);
      from = natural (field row sound_column.from);
    }

unfoldable pub order_of : List ℕ → OrderLine
order_of row =
    record {
      block = natural (field row order_column.block);
      kind = kind_of (field row order_column.kind);
      index = natural (field row order_column.index);
      target = volume_of (field row order_column.volume);
      start_time = start_time_of (field row order_column.clock) (field row order_column.when) (field row order_column.part);
      millis = natural (field row order_column.millis);
      easing = easing_of (field row order_column.easing) (field row order_column.power);
    }

-- the listener's position
unfoldable pub listener_of : List ℕ → Position
listener_of row = record { x = thousandths (field row listener_column.x); y = thousandths (field row listener_column.y); z = thousandths (field row listener_column.z) }

-- a placed track's
unfoldable pub position_of : List ℕ → Position
position_of row = record { x = thousandths (field row placing_column.x); y = thousandths (field row placing_column.y); z = thousandths (field row placing_column.z) }

unfoldable pub distances_of : List ℕ → Distances
distances_of row = record { min_distance = thousandths (field row placing_column.near); max_distance = thousandths (field row placing_column.far) }

-- Without a listener a placed track is not heard.
unfoldable pub placing_of : List (List ℕ) → List ℕ → Placing
placing_of [] row = Unheard
placing_of (listener_row ∷ rest) row = Spatial (attenuation (listener_of listener_row) (position_of row) (distances_of row))

-- ---- the scene

-- A line of the placings places its track.
abbrev pub placing_step : Tables → ℕ → List TrackPlacing → List TrackPlacing
placing_step ts i done =
    slice_set done (natural (cell (rows_at ts placings) i placing_column.track) - 1) (record { placing = placing_of (rows_at ts listener) (slice_index_or (rows_at ts placings) i []) })

abbrev pub all_plain : List TrackPlacing
all_plain = replicate track_lines (record { placing = Plain })

-- of each track line its placing; those that no line places are plain
unfoldable pub placings_of : Tables → List TrackPlacing
placings_of ts = upto (placing_step ts) (lines_at ts placings) all_plain

-- The lines of a table in their order, and then places with no line, which nothing reads: there stands what a line of no fields gives.
unfoldable pub filled : {X : Type 0} → ℕ → (List ℕ → X) → List (List ℕ) → List X
filled places f rows = map f rows ++ replicate (places - length rows) (f [])

unfoldable pub scene_of : Tables → Scene
scene_of ts =
    record {
      head = head_of (slice_index_or (rows_at ts head) 0 []);
      clock_count = lines_at ts clocks;
      clocks = filled clock_lines clock_of (rows_at ts clocks);
      track_count = lines_at ts tracks;
      tracks = filled track_lines track_of (rows_at ts tracks);
      send_count = lines_at ts sends;
      sends = filled send_lines send_of (rows_at ts sends);
      route_count = lines_at ts routes;
      routes = filled route_lines route_of (rows_at ts routes);
      sound_count = lines_at ts sounds;
      sounds = filled sound_lines sound_of (rows_at ts sounds);
      placings = placings_of ts;
      order_count = lines_at ts orders;
      orders = filled order_lines order_of (rows_at ts orders);
    }
