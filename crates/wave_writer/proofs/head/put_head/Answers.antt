-- `put_head` meets its contract. Assumes nothing.
use native.Mathlib.Omega.{arith}
use Rattle.wave_writer.proofs.laws.Head.{frame_most, head_put}
use borrow.Author.Rules.{rules}
use Rattle.wave_writer.proofs.head.put_head.Goals as goal

pub overflow_mul-channels : goal.overflow_mul-channels
overflow_mul-channels c = omega (arith, frame_most c.args.channels c.width-width.result c.requires.at_most_two_channels c.width-width.ensures.0)

pub put_format_rest-requires : goal.put_format_rest-requires
put_format_rest-requires c = record { room_for_head = search rules; rate_and_frame_in_range = (c.requires.rate_in_range, frame_most c.args.channels c.width-width.result c.requires.at_most_two_channels c.width-width.ensures.0) }

pub returns : goal.returns
returns c = head_put c.args.file.now c.requires.room_for_head c.args.rate c.args.channels c.args.encoding c.args.size c.width-width.ensures.1 c.put_riff.ensures c.put_format_start.ensures c.put_format_rest.ensures c.put_data.ensures
