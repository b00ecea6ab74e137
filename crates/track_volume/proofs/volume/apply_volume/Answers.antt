-- Two ways to scale by volume times fade, by whether both stand still: each comes to `track_scaled` (`laws`, Steady).
use mathlib.Core.Path.{sym, ◌∙◌}
use Rattle.track_volume.proofs.laws.Steady.{track_steady}
use Rattle.track_volume.proofs.volume.apply_volume.Goals as goal

pub returns-then-is_steady-2 : goal.returns-then-is_steady-2
returns-then-is_steady-2 c =
    let volume = sym c.is_steady-then-is_steady.ensures ∙ c.if-is_steady-2.true in
    let fade = sym c.is_steady.ensures ∙ c.if-is_steady.true in
    c.scale.ensures ∙ track_steady c.args.frames c.requires.room_for_chunk.0 c.args.track c.args.out.now volume fade c.requires.levels_in_range.0 c.requires.levels_in_range.1 c.steady_amplitude-a.ensures c.steady_amplitude-b.ensures
