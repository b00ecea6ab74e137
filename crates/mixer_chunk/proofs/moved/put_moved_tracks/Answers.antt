-- `put_moved_tracks` meets its contract. The invariant: the first t rows are those of the mixer. Assumes nothing.
use Rattle.std.proofs.Common.{ap, ◌∙◌}
use Rattle.laws.proofs.laws.Turns.{turned}
use Rattle.chunk.specs.Chunk.{absent_track_row}
use Rattle.mixer_chunk.specs.Follows.{resting, track_of}
use Rattle.mixer_chunk.proofs.laws.Follows.{still_there}
use Rattle.mixer_chunk.proofs.moved.put_moved_tracks.Goals as goal

pub put_moved_track-requires : goal.put_moved_track-requires
put_moved_track-requires c =
    record {
      rests = λ e.
          ap resting (still_there (λ t x. track_of c.args.scene.now c.args.mixer.now t) c.loop-t.t c.args.rows.now absent_track_row c.loop-t.invariant)
          ∙ c.requires.follow.rests c.loop-t.t c.loop-t-test.true e;
    }

pub loop-t-preserved : goal.loop-t-preserved
loop-t-preserved c = turned (λ t x. track_of c.args.scene.now c.args.mixer.now t) c.args.rows.now absent_track_row c.loop-t.t c.put_moved_track.ensures c.loop-t.invariant
