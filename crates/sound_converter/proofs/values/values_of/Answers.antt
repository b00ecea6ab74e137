-- `values_of` meets its contract. Assumes nothing.
use mathlib.Core.Path.{refl}
use native.Mathlib.Omega.{arith}
use Rattle.sound_converter.specs.Convert.{values_of}
use Rattle.sound_converter.proofs.laws.Values.{values_most_lem}
use borrow.Author.Rules.{rules}
use Rattle.sound_converter.proofs.values.values_of.Goals as goal

pub overflow_mul-result : goal.overflow_mul-result
overflow_mul-result c = omega (arith, values_most_lem c.args.sound.frames c.args.sound.channels (search rules) c.requires)

pub returns : goal.returns
unfolding values_of
returns c = (values_most_lem c.args.sound.frames c.args.sound.channels (search rules) c.requires, refl)
