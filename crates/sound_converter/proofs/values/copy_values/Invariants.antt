use mathlib.Core.Path.{◌≡◌}
use Rattle.laws.specs.Pieces.{pieces, put_at}
use Rattle.sound_converter.specs.Convert.{value_as16}
use Rattle.sound_converter.proofs.values.copy_values.Given as goal

abbrev pub invariant-loop-i : goal.invariant-loop-i
invariant-loop-i l = l.file ≡ put_at l.place (pieces (value_as16 l.encoding l.order l.bytes l.start l.into) l.i) l.initial.file
