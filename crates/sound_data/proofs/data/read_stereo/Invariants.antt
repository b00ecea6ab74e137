use mathlib.Core.Path.{◌≡◌}
use Rattle.laws.specs.Loop.{changed}
use Rattle.sound_data.proofs.laws.Frames.{stereo_sample}
use Rattle.sound_data.proofs.data.read_stereo.Given as goal

abbrev pub invariant-loop-i : goal.invariant-loop-i
invariant-loop-i l = l.samples ≡ changed (stereo_sample l.encoding l.order l.bytes l.start) l.i l.initial.samples
