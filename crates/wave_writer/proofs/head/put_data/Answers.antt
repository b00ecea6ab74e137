-- `put_data` meets its contract. Assumes nothing.
use Rattle.iff_chunks.specs.Chunks.{identifier, letters_after}
use Rattle.wave_sound.specs.Sound.{data_chunk}
use Rattle.wave_writer.proofs.laws.Head.{data_put}
use Rattle.wave_writer.proofs.head.put_data.Goals as goal

pub returns : goal.returns
unfolding data_chunk identifier letters_after
returns c = data_put c.args.file.now c.requires c.args.size c.put_number4.ensures c.put_number4-2.ensures
