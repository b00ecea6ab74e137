-- `put_head` meets its contract. Assumes nothing.
use Rattle.aiff_writer.proofs.laws.Head.{head_put}
use Rattle.aiff_writer.proofs.head.put_head.Goals as goal

pub returns : goal.returns
returns c = head_put c.args.file.now c.requires.room_for_head c.args.rate c.args.channels c.args.frames c.args.size c.put_form.ensures c.put_common_start.ensures c.put_common_rest.ensures c.put_sound.ensures
