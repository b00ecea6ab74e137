use mathlib.Core.Path.{◌≡◌}
use Rattle.laws.specs.Loop.{changed}
use Rattle.scene_questions.specs.Places.{stored}
use Rattle.silent_tracks.proofs.laws.Silence.{silence_in}
use Rattle.silent_tracks.proofs.tracks.put_silences.Given as goal

abbrev pub invariant-loop-t : goal.invariant-loop-t
invariant-loop-t l = l.numbers ≡ changed (silence_in (stored l.starts l.counts l.values)) l.t l.initial.numbers
