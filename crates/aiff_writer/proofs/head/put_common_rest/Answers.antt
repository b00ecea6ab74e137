-- `put_common_rest` meets its contract. Assumes nothing.
use Rattle.aiff_writer.proofs.laws.Head.{rest_put}
use Rattle.aiff_writer.proofs.head.put_common_rest.Goals as goal

pub returns : goal.returns
returns c = rest_put c.args.file.now c.requires.room_for_head c.args.rate c.put_number2.ensures c.put_rate.ensures
