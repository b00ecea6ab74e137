-- `whole_at` meets its contract. Assumes nothing.
use native.Mathlib.Omega.{arith}
use Rattle.aiff_rate.proofs.laws.Bytes.{endless_none, number_whole}
use Rattle.aiff_rate.proofs.rate.whole_at.Goals as goal

pub returns-then-power-ge-ENDLESS : goal.returns-then-power-ge-ENDLESS
returns-then-power-ge-ENDLESS c = endless_none c.args.bytes.now c.args.at (omega (arith, c.number2_at-power.ensures.1))

pub returns : goal.returns
returns c = cc (number_whole c.args.bytes.now c.args.at (omega (arith, c.number2_at-power.ensures.1)))
