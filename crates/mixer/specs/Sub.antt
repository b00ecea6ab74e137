-- track/sub.rs: the state of a track.
use Rattle.std.specs.Prelude.{Bool, true, false, cond, Float}
use Rattle.decibels.specs.declared.decibels.Decibels.{Decibels}
use Rattle.clock.specs.declared.when_to_start.Clocks.{Clocks}
use Rattle.tween.specs.declared.start_time.StartTime.{StartTime}
use Rattle.tween.specs.declared.tween.Tween.{Tween}
use Rattle.parameter.specs.Parameter.{parameter_new, parameter_set, parameter_update}
use Rattle.playback.specs.PlaybackStateManager.{is_advancing, playback_new, playback_pause, playback_resume, playback_update}
use Rattle.mixer.specs.declared.sub.Track.{Track}

unfoldable pub track_new : Decibels → Track
track_new volume = record { volume = parameter_new volume; playback = playback_new; reached = false; live = false }

-- `process`, down to the test of the playback state: volume and fade move, and the track is live where its state then advances
unfoldable pub track_moved : Track → Float → Clocks → Track
track_moved t dt clocks =
    let playback = (playback_update t.playback dt clocks).manager in
    record { volume = (parameter_update t.volume dt clocks).parameter; playback = playback; reached = true; live = is_advancing playback.state }

-- a track below one that is not live is not asked, and stands still
unfoldable pub track_still : Track → Track
track_still t = record { volume = t.volume; playback = t.playback; reached = false; live = false }

unfoldable pub track_update : Track → Bool → Float → Clocks → Track
track_update t reached dt clocks = cond reached (track_moved t dt clocks) (track_still t)

-- ---- orders

unfoldable pub track_set : Track → Decibels → Tween → Track
track_set t target tween = record { volume = parameter_set t.volume target tween; playback = t.playback; reached = t.reached; live = t.live }

unfoldable pub track_pause : Track → Tween → Track
track_pause t tween = record { volume = t.volume; playback = playback_pause t.playback tween; reached = t.reached; live = t.live }

unfoldable pub track_resume : Track → StartTime → Tween → Track
track_resume t start tween = record { volume = t.volume; playback = playback_resume t.playback start tween; reached = t.reached; live = t.live }
