-- One pass by two factors, or a pass by the level's and then `apply_volume`: each comes to the level's scaling, and then the volume's (`laws`, Placing).
use mathlib.Core.Path.{refl, sym, ◌∙◌}
use native.Mathlib.Omega.{arith}
use Rattle.spatial.proofs.laws.Spatial.{placing_admitted}
use Rattle.frame.specs.Frame.{scaled_by}
use Rattle.frame.specs.Layout.{scratch, with_frames}
use Rattle.frame.proofs.laws.Layout.{kept}
use Rattle.track_volume.proofs.laws.Steady.{track_steady}
use Rattle.track_volume.proofs.laws.Placing.{level_scaled}
use Rattle.track_volume.proofs.volume.apply_level_and_volume.Goals as goal

pub as_amplitude_in-factor-requires : goal.as_amplitude_in-factor-requires
as_amplitude_in-factor-requires c = record { gain_table = c.requires.gain_table; admitted = placing_admitted c.args.level c.requires.placing_in_range }

pub returns-then-is_steady-2 : goal.returns-then-is_steady-2
returns-then-is_steady-2 c =
    let n = c.args.frames in
    let volume = sym c.is_steady-then-is_steady.ensures ∙ c.if-is_steady-2.true in
    let fade = sym c.is_steady.ensures ∙ c.if-is_steady.true in
    let placed = with_frames (scratch 0 n) (scaled_by c.as_amplitude_in-factor.result) c.args.out.now in
    level_scaled n c.args.out.now c.args.track c.args.level c.as_amplitude_in-factor.result c.as_amplitude_in-factor.ensures refl
    (c.scale_twice.ensures ∙ track_steady n c.requires.room_for_chunk.0 c.args.track placed volume fade c.requires.levels_in_range.0 c.requires.levels_in_range.1 c.steady_amplitude-a.ensures c.steady_amplitude-b.ensures)

pub apply_volume-requires : goal.apply_volume-requires
apply_volume-requires c =
    let n = c.args.frames in
    let placed = kept (scratch 0 n) (scaled_by c.as_amplitude_in-factor.result) n c.args.out.now c.scale.ensures in
    record { gain_table = c.requires.gain_table; room_for_chunk = (c.requires.room_for_chunk.0, omega (arith, placed, c.requires.room_for_chunk.1)); levels_in_range = c.requires.levels_in_range; parts_of_the_chunk = c.requires.parts_of_the_chunk }

pub returns : goal.returns
returns c = level_scaled c.args.frames c.args.out.now c.args.track c.args.level c.as_amplitude_in-factor.result c.as_amplitude_in-factor.ensures c.scale.ensures c.apply_volume.ensures
