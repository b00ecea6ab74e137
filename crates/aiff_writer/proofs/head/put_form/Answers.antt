-- `put_form` meets its contract. Assumes nothing.
use Rattle.iff_chunks.specs.Chunks.{identifier, letters_after}
use Rattle.aiff_sound.specs.Sound.{form_chunk, aiff}
use Rattle.aiff_writer.proofs.laws.Head.{form_put}
use Rattle.aiff_writer.proofs.head.put_form.Goals as goal

pub returns : goal.returns
unfolding form_chunk aiff identifier letters_after
returns c = form_put c.args.file.now c.requires.room_for_head c.args.size c.put_number4.ensures c.put_number4-2.ensures c.put_number4-3.ensures
