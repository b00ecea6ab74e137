-- `has_level` is safe: only what is in range is asked for its level. Assumes nothing.
use Rattle.test_spatial.proofs.has_level.Goals as goal

pub attenuation-given-requires : goal.attenuation-given-requires
attenuation-given-requires c = record { positions_in_range = (c.is_position.ensures c.if-is_position.true, c.is_position-then-is_position.ensures c.if-is_position-2.true); distances_in_range = c.are_distances.ensures c.if-are_distances.true }
