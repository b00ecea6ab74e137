-- `put_silences` meets its contract: the numbers passed so far are the silences. Assumes nothing.
use mathlib.Core.Path.{sym}
use Rattle.laws.proofs.laws.Loop.{changed_zero, changed_end}
use Rattle.silent_tracks.proofs.laws.Silence.{silence_in, put_turn}
use borrow.Author.Rules.{rules}
use native.Mathlib.Omega.{arith}
use Rattle.silent_tracks.proofs.tracks.put_silences.Goals as goal

pub loop-t-init : goal.loop-t-init
loop-t-init c = sym (changed_zero _ _)

pub silence_of-requires : goal.silence_of-requires
silence_of-requires c = record { tables_in_range = c.requires.tables_in_range; track_in_range = omega (arith, c.requires.numbers_fit) }

pub loop-t-preserved : goal.loop-t-preserved
loop-t-preserved c = put_turn _ c.loop-t.t c.args.numbers.now (search rules) c.silence_of.ensures c.loop-t.invariant

pub returns : goal.returns
returns c = changed_end (silence_in _) _ (omega arith) c.loop-t.invariant
