-- `sample_16` meets its contract. Assumes nothing.
use mathlib.Core.Path.{ap}
use lib.IntN.{ℤ}
use lib.Ieee.{binary32, div, of_int, of_bits}
use Rattle.pcm.specs.Sample.{sample_of, sample_of16}
use Rattle.pcm.proofs.laws.Signed.{lowered_fits, loaded, loaded_float}
use Rattle.pcm.proofs.sample.sample_16.Goals as goal

pub overflow_sub-v : goal.overflow_sub-v
overflow_sub-v c = lowered_fits c.args.bits c.requires

pub int_to_float-result : goal.int_to_float-result
int_to_float-result c = loaded_float c.args.bits c.requires

pub returns : goal.returns
unfolding sample_of sample_of16 of_bits of_int
returns c = ap (λ (v : ℤ). div binary32 (of_int binary32 v) (of_bits binary32 1191182336)) (loaded c.args.bits c.requires)
