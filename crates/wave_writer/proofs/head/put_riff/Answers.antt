-- `put_riff` meets its contract. Assumes nothing.
use Rattle.iff_chunks.specs.Chunks.{identifier, letters_after}
use Rattle.wave_sound.specs.Sound.{riff, wave}
use Rattle.wave_writer.proofs.laws.Head.{riff_put}
use Rattle.wave_writer.proofs.head.put_riff.Goals as goal

pub returns : goal.returns
unfolding riff wave identifier letters_after
returns c = riff_put c.args.file.now c.requires.room_for_head c.args.size c.put_number4.ensures c.put_number4-2.ensures c.put_number4-3.ensures
