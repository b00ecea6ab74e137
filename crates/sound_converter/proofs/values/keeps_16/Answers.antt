-- `keeps_16` meets its contract. Assumes nothing.
use mathlib.Core.Path.{◌∙◌}
use lib.ListN.{length}
use Rattle.sound_data.proofs.laws.Frames.{known_room}
use Rattle.sound_converter.proofs.laws.Values.{keeps_pcm, keeps_float}
use borrow.Author.Rules.{rules}
use Rattle.sound_converter.proofs.values.keeps_16.Goals as goal

pub floats_whole-requires : goal.floats_whole-requires
floats_whole-requires c = known_room c.args.encoding c.args.start c.args.count (length c.args.bytes.now) (search rules) c.requires

pub returns-in-Pcm16 : goal.returns-in-Pcm16
returns-in-Pcm16 c = keeps_pcm c.args.order c.args.bytes.now c.args.start c.args.count c.args.encoding (search rules)

pub returns-in-Float32 : goal.returns-in-Float32
returns-in-Float32 c = c.floats_whole.ensures ∙ keeps_float c.args.order c.args.bytes.now c.args.start c.args.count c.args.encoding (search rules)
