use Rattle.track_sounds.proofs.laws.Owners.{tracks_linked}
use Rattle.track_sounds.proofs.chunk_links.ChunkLinks.new.Goals as goal

pub returns : goal.returns
returns c =
    record {
      linked = record { sub_tracks = tracks_linked c.args.chunk.now c.requires.lines_fit.0 c.requires.parents_earlier c.sub_track_links.ensures; sounds = c.sound_links.ensures; routes = c.route_links.ensures };
      heard_alone = c.sub_track_links.ensures;
    }
