use borrow.Author.Rules.{rules}
use Rattle.chunk.specs.Chunk.{sound_row}
use Rattle.track_sounds.specs.Owners.{sound_links}
use Rattle.track_sounds.proofs.chunk_links.sound_links.Goals as goal

pub returns : goal.returns
unfolding sound_links
returns c = c.links_of.ensures (λ k. (sound_row c.args.chunk.now k).track) (λ k o b p. search rules)
