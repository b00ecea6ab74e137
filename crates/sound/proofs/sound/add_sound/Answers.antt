use native.Mathlib.Omega.{arith}
use Rattle.sound.proofs.laws.Part.{part_ends}
use Rattle.sound.proofs.sound.add_sound.Goals as goal

pub returns : goal.returns
returns c = part_ends c.args.part.now c.args.frames c.args.to.now c.requires (omega (arith, c.if-frames-left.false)) c.add_played-2.ensures c.add_silence.ensures
