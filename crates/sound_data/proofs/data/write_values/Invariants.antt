use mathlib.Core.Path.{◌≡◌}
use Rattle.laws.specs.Pieces.{pieces, put_at}
use Rattle.sound_data.specs.Data.{encoded_at}
use Rattle.sound_data.proofs.data.write_values.Given as goal

abbrev pub invariant-loop-i : goal.invariant-loop-i
invariant-loop-i l = l.bytes ≡ put_at l.start (pieces (encoded_at l.encoding l.order l.samples l.step) l.i) l.initial.bytes
