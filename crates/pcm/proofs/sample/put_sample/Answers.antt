-- `put_sample` meets its contract. Assumes nothing.
use native.Mathlib.Omega.{arith}
use Rattle.pcm.proofs.laws.Encodings.{pcm_width, float_width, pcm_put, float_put}
use Rattle.pcm.proofs.sample.put_sample.Goals as goal

pub put_number2-requires : goal.put_number2-requires
put_number2-requires c = omega (arith, pcm_width c.args.encoding c.in-Pcm16.is)

pub put_number4-requires : goal.put_number4-requires
put_number4-requires c = omega (arith, float_width c.args.encoding c.in-Float32.is)

pub returns-in-Pcm16 : goal.returns-in-Pcm16
returns-in-Pcm16 c = pcm_put c.args.order c.args.bytes.now c.args.at c.args.x c.in-Pcm16.is c.pattern_16.ensures c.put_number2.ensures

pub returns-in-Float32 : goal.returns-in-Float32
returns-in-Float32 c = float_put c.args.order c.args.bytes.now c.args.at c.args.x c.in-Float32.is c.pattern_32.ensures c.put_number4.ensures
