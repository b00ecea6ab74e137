use mathlib.Core.Path.{◌≡◌}
use mathlib.Core.List.{List}
use Prim.Native.Nat.{ℕ}
use lib.ListN.{get_or, replicate}
use Rattle.limits.specs.Limits.{track_places}
use Rattle.laws.specs.Loop.{changed}
use Rattle.scene.specs.declared.scene.TrackLine.{TrackLine}
use Rattle.mixer.specs.declared.sub.Track.{Track}
use Rattle.mixer.specs.Mixer.{empty_track}
use Rattle.mixer.specs.Sub.{track_new}
use Rattle.accepted.specs.Lines.{absent_track_line}
use Rattle.mixer.proofs.mixer.new_tracks.Given as goal

abbrev pub made : List TrackLine → ℕ → Track → Track
made lines t x = track_new (get_or lines t absent_track_line).volume

abbrev pub invariant-loop-t : goal.invariant-loop-t
invariant-loop-t l = l.tracks ≡ changed (made l.scene.tracks) l.t (replicate track_places empty_track)
