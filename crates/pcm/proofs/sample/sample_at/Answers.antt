-- `sample_at` meets its contract. Assumes nothing.
use native.Mathlib.Omega.{arith}
use Rattle.pcm.proofs.laws.Encodings.{pcm_width, float_width, pcm_read, float_read}
use Rattle.pcm.proofs.sample.sample_at.Goals as goal

pub number2_at-requires : goal.number2_at-requires
number2_at-requires c = omega (arith, pcm_width c.args.encoding c.in-Pcm16.is)

pub number4_at-requires : goal.number4_at-requires
number4_at-requires c = omega (arith, float_width c.args.encoding c.in-Float32.is)

pub returns-in-Pcm16 : goal.returns-in-Pcm16
returns-in-Pcm16 c = pcm_read c.args.order c.args.bytes.now c.args.at c.in-Pcm16.is c.number2_at.ensures.1 c.sample_16.ensures

pub returns-in-Float32 : goal.returns-in-Float32
returns-in-Float32 c = float_read c.args.order c.args.bytes.now c.args.at c.in-Float32.is c.number4_at.ensures c.f32_from_bits.ensures
