-- `nearest_is` meets its contract. Assumes nothing.
use native.Mathlib.Omega.{arith}
use Rattle.pcm.specs.Sample.{pattern_of}
use Rattle.pcm.proofs.laws.Sixteen.{from_raised}
use Rattle.pcm.proofs.laws.Whole.{own_told}
use Rattle.pcm.proofs.sample.nearest_is.Goals as goal

pub sample_16-y-requires : goal.sample_16-y-requires
unfolding pattern_of
sample_16-y-requires c = omega (arith, (from_raised c.args.x).bits, c.pattern_16.ensures)

pub returns : goal.returns
returns c = own_told c.args.x c.pattern_16.ensures c.sample_16-y.ensures c.f32_bits.ensures c.f32_bits-2.ensures
