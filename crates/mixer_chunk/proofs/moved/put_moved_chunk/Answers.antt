-- `put_moved_chunk` meets its contract. Assumes nothing.
use Rattle.mixer_chunk.specs.ChunkOf.{chunk_of, chunk_played}
use Rattle.mixer_chunk.proofs.laws.Follows.{tracks_follow, routes_follow, counts_follow}
use Rattle.mixer_chunk.proofs.moved.put_moved_chunk.Goals as goal

pub put_moved_tracks-requires-clause-follow : goal.put_moved_tracks-requires-clause-follow
put_moved_tracks-requires-clause-follow c = tracks_follow c.args.scene.now c.args.chunk.now c.args.mixer.now c.requires.scene_ok c.requires.follows

pub put_moved_routes-requires-clause-follow : goal.put_moved_routes-requires-clause-follow
put_moved_routes-requires-clause-follow c = routes_follow c.args.scene.now c.args.chunk.now c.args.mixer.now c.requires.scene_ok c.requires.follows

pub returns : goal.returns
unfolding chunk_of chunk_played
returns c =
    let counts = counts_follow c.args.scene.now c.args.chunk.now c.args.mixer.now c.requires.scene_ok c.requires.follows in
    cc (counts.tracks, counts.sends, counts.routes, counts.sounds)
