-- The marks of sounds, of the tracks above them, and the links of the tracks with marks follow one another.
use borrow.Author.Rules.{rules}
use Rattle.links.specs.Marks.{is_marked}
use Rattle.chunk.specs.Chunk.{track_row, sound_row}
use Rattle.track_sounds.specs.Owners.{used_parent}
use Rattle.track_sounds.proofs.laws.Owners.{links_used}
use Rattle.track_sounds.proofs.chunk_links.sub_track_links.Goals as goal

pub returns : goal.returns
returns c =
    let chunk = c.args.chunk.now in
    links_used chunk
    (c.mark_owners.ensures (λ k. (sound_row chunk k).track) (λ k o b p. search rules))
    (c.mark_above.ensures (λ j. (track_row chunk j).parent) (λ j o b p. search rules))
    (c.links_of.ensures (used_parent chunk (is_marked c.mark_above.new.marks)) (λ j o b p. search rules))
