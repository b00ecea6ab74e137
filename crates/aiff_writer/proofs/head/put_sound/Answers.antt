-- `put_sound` meets its contract. Assumes nothing.
use Rattle.iff_chunks.specs.Chunks.{identifier, letters_after}
use Rattle.aiff_sound.specs.Sound.{sound_chunk}
use Rattle.aiff_writer.proofs.laws.Head.{sound_put}
use Rattle.aiff_writer.proofs.head.put_sound.Goals as goal

pub returns : goal.returns
unfolding sound_chunk identifier letters_after
returns c = sound_put c.args.file.now c.requires.room_for_head c.args.size c.put_number4.ensures c.put_number4-2.ensures c.put_number4-3.ensures c.put_number4-4.ensures
