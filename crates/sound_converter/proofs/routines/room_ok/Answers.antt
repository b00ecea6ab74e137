-- `room_ok` meets its contract. Assumes nothing.
use native.Mathlib.Omega.{arith}
use Rattle.sound_converter.proofs.laws.Convert.{room_above, room_within}
use Rattle.sound_converter.proofs.routines.room_ok.Goals as goal

pub returns-then-size-gt-DATA_MOST : goal.returns-then-size-gt-DATA_MOST
returns-then-size-gt-DATA_MOST c = room_above c.args.head c.args.size c.args.room (omega arith)

pub returns : goal.returns
returns c = room_within c.args.head c.args.size c.args.room (omega arith)
