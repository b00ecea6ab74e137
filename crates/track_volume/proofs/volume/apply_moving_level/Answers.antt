-- Three ways, by how many frames there are and whether the fade stands still. Assumes nothing.
use mathlib.Core.Path.{sym, ◌∙◌}
use Rattle.track_volume.proofs.volume.apply_moving_level.Goals as goal

pub apply_moving_volume-requires : goal.apply_moving_volume-requires
apply_moving_volume-requires c = record { gain_table = c.requires.gain_table; room_for_chunk = c.requires.room_for_chunk; levels_in_range = c.requires.levels_in_range; parts_of_the_chunk = c.requires.parts_of_the_chunk; steady_fade = sym c.is_steady.ensures ∙ c.if-is_steady.true }
