-- One pass by one factor, or one with the factors of the volume: each comes to both sounds, and then the volume's scaling (`laws`, Steady).
use mathlib.Core.Path.{sym, ◌∙◌}
use Rattle.track_volume.proofs.laws.Steady.{track_steady}
use Rattle.last_sounds.proofs.laws.Sounds.{after_both}
use Rattle.last_sounds.proofs.sounds.add_and_apply_volume.Goals as goal

pub returns-then-is_steady : goal.returns-then-is_steady
returns-then-is_steady c =
    let volume = sym c.is_steady.ensures ∙ c.if-is_steady.true in
    c.add_and_scale.ensures
    ∙ track_steady c.args.frames c.requires.room_for_chunk.0 c.args.track (after_both c.args.first.now c.args.second.now c.args.frames c.args.out.now) volume c.requires.steady_fade c.requires.levels_in_range.0 c.requires.levels_in_range.1 c.steady_amplitude-a.ensures c.steady_amplitude-b.ensures
