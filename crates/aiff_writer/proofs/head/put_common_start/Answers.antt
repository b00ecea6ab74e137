-- `put_common_start` meets its contract. Assumes nothing.
use Rattle.iff_chunks.specs.Chunks.{identifier, letters_after}
use Rattle.aiff_sound.specs.Sound.{common_chunk}
use Rattle.aiff_writer.proofs.laws.Head.{start_put}
use Rattle.aiff_writer.proofs.head.put_common_start.Goals as goal

pub returns : goal.returns
unfolding common_chunk identifier letters_after
returns c = start_put c.args.file.now c.requires c.args.channels c.args.frames c.put_number4.ensures c.put_number4-2.ensures c.put_number2.ensures c.put_number4-3.ensures
