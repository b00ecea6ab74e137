-- `channels_at` meets its contract. Assumes nothing.
use native.Mathlib.Omega.{arith}
use Rattle.month_files.proofs.laws.Lines.{channels_at}
use Rattle.month_files.proofs.lines.channels_at.Goals as goal

pub overflow_sub-result : goal.overflow_sub-result
overflow_sub-result c = omega (arith, (channels_at c.args.text.now c.args.i c.requires.0 c.requires.1).least)

pub overflow_cast-result : goal.overflow_cast-result
overflow_cast-result c = omega (arith, (channels_at c.args.text.now c.args.i c.requires.0 c.requires.1).most)

pub returns : goal.returns
returns c =
    let r = channels_at c.args.text.now c.args.i c.requires.0 c.requires.1 in
    (omega (arith, r.least), r.is)
