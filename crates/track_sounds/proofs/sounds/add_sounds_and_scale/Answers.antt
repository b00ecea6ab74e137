-- The last two sounds with the scaling, or the sounds and then the scaling.
use mathlib.Core.Path.{ap, ◌∙◌}
use native.Mathlib.Omega.{arith}
use Rattle.frame.specs.Layout.{scratch, with_frames}
use Rattle.track_volume.specs.TrackVolume.{track_placed_scaled}
use Rattle.track_sounds.proofs.laws.Sound.{sounds_begin}
use Rattle.track_sounds.proofs.sounds.add_sounds_and_scale.Goals as goal

pub line_before-next-requires : goal.line_before-next-requires
line_before-next-requires c =
    let chunk = c.args.chunk.now in
    let heard = c.args.heard.now in
    let to = c.args.to.now in
    let ok = c.requires.chunk_ok in
    let begun = sounds_begin chunk heard ok c.args.line to c.requires.line_in_range c.requires.sound_links c.last_line-last.ensures in
    (c.if-last-gt0.true, omega (arith, begun.few, c.requires.chunk_ok.sounds))

pub returns : goal.returns
returns c =
    let chunk = c.args.chunk.now in
    c.apply_placing_and_volume.ensures
    ∙ ap (with_frames (scratch 0 chunk.frames) (track_placed_scaled c.args.track chunk.frames)) c.add_sounds.ensures
