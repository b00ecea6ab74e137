-- `data_length` meets its contract. Assumes nothing.
use mathlib.Core.Path.{ap}
use Prim.Native.Nat.{ℕ, ◌*◌, ◌/◌}
use native.Mathlib.Omega.{arith}
use Rattle.wave_writer.specs.Write.{data_length}
use Rattle.wave_writer.proofs.laws.Write.{values_most, size_most}
use Rattle.wave_writer.proofs.questions.data_length.Goals as goal

pub overflow_mul-result : goal.overflow_mul-result
overflow_mul-result c = omega (arith, values_most c.args.samples c.args.channels c.args.encoding c.requires.one_or_two_channels, c.requires.sample_count_in_range)

pub overflow_mul-result-2 : goal.overflow_mul-result-2
overflow_mul-result-2 c = omega (arith, size_most c.args.samples c.args.channels c.args.encoding c.requires.one_or_two_channels, c.requires.sample_count_in_range, ap (λ (w : ℕ). c.args.samples / 2 * c.args.channels * w) c.width.ensures.1)

pub returns : goal.returns
unfolding data_length
returns c = ap (λ (w : ℕ). c.args.samples / 2 * c.args.channels * w) c.width.ensures.1
