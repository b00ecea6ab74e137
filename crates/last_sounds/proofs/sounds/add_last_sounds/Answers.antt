-- One pass, or the passes one after another: each comes to both sounds, then the placing, then the volume (`laws`, Placing).
use mathlib.Core.Path.{sym, ap, ◌∙◌}
use mathlib.Core.List.{List}
use native.Mathlib.Omega.{arith}
use lib.Ieee.{Float}
use Rattle.spatial.specs.declared.placing.Placing.{Placing}
use Rattle.frame.specs.Layout.{scratch, with_frames}
use Rattle.frame.proofs.laws.Layout.{kept}
use Rattle.sound.specs.Part.{added_part}
use Rattle.track_volume.specs.TrackVolume.{track_placed, track_placed_scaled}
use Rattle.track_volume.proofs.laws.Placing.{placed_plain, placed_scaled}
use Rattle.last_sounds.proofs.laws.Sounds.{after_both, both_length}
use Rattle.last_sounds.proofs.sounds.add_last_sounds.Goals as goal

pub add_and_apply_volume-requires : goal.add_and_apply_volume-requires
add_and_apply_volume-requires c = record { gain_table = c.requires.gain_table; room_for_chunk = c.requires.room_for_chunk; frames_in_both = c.both_have.ensures c.if-both_have.true; levels_in_range = c.requires.levels_in_range; parts_of_the_chunk = c.requires.parts_of_the_chunk; steady_fade = sym c.is_steady.ensures ∙ c.if-is_steady.true }

pub returns-then-both_have : goal.returns-then-both_have
returns-then-both_have c =
    let n = c.args.frames in
    let both = after_both c.args.first.now c.args.second.now n c.args.out.now in
    let by : Placing → List Float = λ p. with_frames (scratch 0 n) (track_placed p) both in
    let plain = c.is_plain.ensures c.if-is_plain.true in
    placed_scaled n both c.args.track (omega (arith, both_length c.args.first.now c.args.second.now n c.args.out.now, c.requires.room_for_chunk.1)) (placed_plain n both ∙ ap by (sym plain)) c.add_and_apply_volume.ensures

pub apply_placing_and_volume-requires : goal.apply_placing_and_volume-requires
apply_placing_and_volume-requires c =
    let L = scratch 0 c.args.frames in
    let one = kept L (added_part c.args.first.now) c.args.frames c.args.out.now c.add_sound.ensures in
    let two = kept L (added_part c.args.second.now) c.args.frames _ c.add_sound-2.ensures in
    record { gain_table = c.requires.gain_table; room_for_chunk = (c.requires.room_for_chunk.0, omega (arith, one, two, c.requires.room_for_chunk.1)); levels_in_range = c.requires.levels_in_range; placing_in_range = c.requires.placing_in_range; parts_of_the_chunk = c.requires.parts_of_the_chunk }

pub returns : goal.returns
returns c =
    let L = scratch 0 c.args.frames in
    c.apply_placing_and_volume.ensures
    ∙ ap (with_frames L (track_placed_scaled c.args.track c.args.frames)) (c.add_sound-2.ensures ∙ ap (with_frames L (added_part c.args.second.now)) c.add_sound.ensures)
