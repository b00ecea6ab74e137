-- The mix of a chunk by its links: the send tracks' inputs are cleared, and then the four parts of the mix follow one another.
use mathlib.Core.Path.{ap, ◌∙◌}
use Rattle.limits.specs.Limits.{track_depth}
use Rattle.send_track.specs.Send.{on_sends}
use Rattle.track.specs.Sub.{with_sub_sends}
use Rattle.track.proofs.laws.Mix.{chunk_mixed}
use Rattle.track.proofs.laws.RunningSends.{sends_cleared}
use Rattle.track.proofs.mix.process_flat.Goals as goal

pub process_tracks-requires-clause-sends_running : goal.process_tracks-requires-clause-sends_running
process_tracks-requires-clause-sends_running c = sends_cleared c.args.chunk.now c.args.heard.now c.args.sends.now c.requires.chunk_ok.short c.requires.chunk_ok.sends c.requires.sends_sized c.clear_sends.ensures

pub shape_of-sends : goal.shape_of-sends
shape_of-sends c = c.process_tracks.auto.sends ∙ c.clear_sends.auto.sends

pub returns : goal.returns
returns c =
    let chunk = c.args.chunk.now in
    let samples = c.args.heard.now in
    let n = chunk.frames in
    let inputs = c.process_tracks.ensures.sends ∙ ap (on_sends n (with_sub_sends track_depth chunk samples 0)) c.clear_sends.ensures in
    chunk_mixed chunk samples c.args.sends.now c.requires.chunk_ok.short c.requires.chunk_ok.sends c.requires.sends_sized inputs c.args.out.now c.requires.room_for_frames c.process_tracks.ensures.frames c.add_sends.ensures c.add_sounds.ensures c.apply_level.ensures
