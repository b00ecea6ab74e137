-- `pattern_16` meets its contract. Assumes nothing.
use native.Mathlib.Omega.{arith}
use Rattle.pcm.specs.Sample.{pattern_of}
use Rattle.pcm.proofs.laws.Sixteen.{from_raised}
use Rattle.pcm.proofs.sample.pattern_16.Goals as goal

pub returns : goal.returns
unfolding pattern_of
returns c = omega (arith, (from_raised c.args.x).bits)
