use mathlib.Core.Path.{◌≡◌}
use Prim.Native.Nat.{◌*◌}
use Rattle.laws.specs.Loop.{changed}
use Rattle.sound_data.proofs.laws.Frames.{mono_sample}
use Rattle.sound_data.proofs.data.read_mono.Given as goal

abbrev pub invariant-loop-i : goal.invariant-loop-i
invariant-loop-i l = l.samples ≡ changed (mono_sample l.encoding l.order l.bytes l.start) (l.i * 2) l.initial.samples
