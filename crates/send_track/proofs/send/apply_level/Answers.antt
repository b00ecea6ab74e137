-- A level that stands still scales all frames by one amplitude (`laws`, Steady); one that moves, by factors of their own. Assumes nothing.
use mathlib.Core.Path.{sym, ◌∙◌}
use Rattle.send_track.proofs.laws.Steady.{level_steady}
use Rattle.send_track.proofs.send.apply_level.Goals as goal

pub returns-then-is_steady : goal.returns-then-is_steady
returns-then-is_steady c = c.scale.ensures ∙ level_steady c.args.frames c.requires.room_for_chunk.0 c.args.level c.args.out.now (sym c.is_steady.ensures ∙ c.if-is_steady.true) c.requires.level_in_range c.steady_amplitude-factor.ensures
