-- `put_format_rest` meets its contract. Assumes nothing.
use native.Mathlib.Omega.{arith}
use Rattle.wave_writer.proofs.laws.Head.{second_most, rest_put}
use Rattle.wave_writer.proofs.head.put_format_rest.Goals as goal

pub overflow_mul-rate : goal.overflow_mul-rate
overflow_mul-rate c = omega (arith, second_most c.args.rate c.args.frame c.requires.rate_and_frame_in_range.0 c.requires.rate_and_frame_in_range.1)

pub returns : goal.returns
returns c = rest_put c.args.file.now c.requires.room_for_head c.args.rate c.args.frame c.args.bits c.put_number4.ensures c.put_number4-2.ensures c.put_number2.ensures c.put_number2-2.ensures
