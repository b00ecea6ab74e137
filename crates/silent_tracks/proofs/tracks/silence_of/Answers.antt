-- `silence_of` meets its contract. Assumes nothing.
use Rattle.silent_tracks.proofs.laws.Silence.{is_1, is_2, is_3, is_0}
use native.Mathlib.Omega.{arith}
use Rattle.silent_tracks.proofs.tracks.silence_of.Goals as goal

pub returns-then-is_muted : goal.returns-then-is_muted
returns-then-is_muted c = is_1 _ _ _ c.is_muted.ensures c.if-is_muted.true

pub returns-then-is_held : goal.returns-then-is_held
returns-then-is_held c = is_2 _ _ _ c.is_muted.ensures c.if-is_muted.false _ c.is_held.ensures c.if-is_held.true

pub overflow_add-track : goal.overflow_add-track
overflow_add-track c = omega (arith, c.requires.track_in_range)

pub returns-then-is_inside_silent : goal.returns-then-is_inside_silent
returns-then-is_inside_silent c = is_3 _ _ _ c.is_muted.ensures c.if-is_muted.false _ c.is_held.ensures c.if-is_held.false _ c.parent_of-parent.ensures _ c.is_inside_silent.ensures c.if-is_inside_silent.true

pub returns : goal.returns
returns c = is_0 _ _ _ c.is_muted.ensures c.if-is_muted.false _ c.is_held.ensures c.if-is_held.false _ c.parent_of-parent.ensures _ c.is_inside_silent.ensures c.if-is_inside_silent.false
