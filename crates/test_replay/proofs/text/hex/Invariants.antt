-- The definition at what is left, with the number read so far, is the definition at the whole.
use Rattle.std.proofs.Common.{drop, ◌≡◌}
use Rattle.test_replay.specs.Text.{hex_from}
use Rattle.test_replay.proofs.text.hex.Given as goal

abbrev pub invariant-loop-byte : goal.invariant-loop-byte
invariant-loop-byte l = hex_from l.number (drop l.byte-index l.column) ≡ hex_from 0 l.column
