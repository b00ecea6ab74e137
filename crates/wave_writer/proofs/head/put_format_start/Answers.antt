-- `put_format_start` meets its contract. Assumes nothing.
use Rattle.iff_chunks.specs.Chunks.{identifier, letters_after}
use Rattle.wave_sound.specs.Sound.{format_chunk}
use Rattle.wave_writer.proofs.laws.Head.{start_put}
use Rattle.wave_writer.proofs.head.put_format_start.Goals as goal

pub returns : goal.returns
unfolding format_chunk identifier letters_after
returns c = start_put c.args.file.now c.requires c.args.channels c.args.encoding c.tag_of.ensures c.put_number4.ensures c.put_number4-2.ensures c.put_number2.ensures c.put_number2-2.ensures
