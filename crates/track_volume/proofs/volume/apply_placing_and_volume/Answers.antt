-- Each variant comes to the placing's step on the frames, and the volume's on what it leaves (`laws`, Placing).
use mathlib.Core.Path.{sym, ap, ◌∙◌, subst}
use mathlib.Core.List.{List}
use native.Mathlib.Omega.{arith}
use lib.Ieee.{Float}
use Rattle.spatial.specs.declared.placing.Placing.{Placing}
use Rattle.spatial.specs.Spatial.{PlacingIn}
use Rattle.frame.specs.Frame.{cleared}
use Rattle.frame.specs.Layout.{scratch, with_frames}
use Rattle.frame.proofs.laws.Layout.{kept}
use Rattle.track_volume.specs.TrackVolume.{track_placed}
use Rattle.track_volume.proofs.laws.Placing.{placed_plain, placed_unheard, placed_scaled}
use Rattle.track_volume.proofs.volume.apply_placing_and_volume.Goals as goal

pub apply_volume-requires-in-Unheard : goal.apply_volume-requires-in-Unheard
apply_volume-requires-in-Unheard c =
    let n = c.args.frames in
    let placed = kept (scratch 0 n) cleared n c.args.out.now c.clear.ensures in
    record { gain_table = c.requires.gain_table; room_for_chunk = (c.requires.room_for_chunk.0, omega (arith, placed, c.requires.room_for_chunk.1)); levels_in_range = c.requires.levels_in_range; parts_of_the_chunk = c.requires.parts_of_the_chunk }

pub apply_level_and_volume-requires : goal.apply_level_and_volume-requires
apply_level_and_volume-requires c = record { gain_table = c.requires.gain_table; room_for_chunk = c.requires.room_for_chunk; levels_in_range = c.requires.levels_in_range; placing_in_range = subst PlacingIn c.in-Spatial.is c.requires.placing_in_range; parts_of_the_chunk = c.requires.parts_of_the_chunk }

pub returns-in-Plain : goal.returns-in-Plain
returns-in-Plain c =
    let n = c.args.frames in
    let by : Placing → List Float = λ p. with_frames (scratch 0 n) (track_placed p) c.args.out.now in
    placed_scaled n c.args.out.now c.args.track c.requires.room_for_chunk.1 (placed_plain n c.args.out.now ∙ ap by (sym c.in-Plain.is)) c.apply_volume.ensures

pub returns-in-Unheard : goal.returns-in-Unheard
returns-in-Unheard c =
    let n = c.args.frames in
    let by : Placing → List Float = λ p. with_frames (scratch 0 n) (track_placed p) c.args.out.now in
    placed_scaled n c.args.out.now c.args.track c.requires.room_for_chunk.1 (c.clear.ensures ∙ placed_unheard n c.args.out.now ∙ ap by (sym c.in-Unheard.is)) c.apply_volume-in-Unheard.ensures

pub returns-in-Spatial : goal.returns-in-Spatial
returns-in-Spatial c =
    let n = c.args.frames in
    let by : Placing → List Float = λ p. with_frames (scratch 0 n) (track_placed p) c.args.out.now in
    placed_scaled n c.args.out.now c.args.track c.requires.room_for_chunk.1 (ap by (sym c.in-Spatial.is)) c.apply_level_and_volume.ensures
