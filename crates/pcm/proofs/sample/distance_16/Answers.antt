-- `distance_16` meets its contract. Assumes nothing.
use native.Mathlib.Omega.{arith}
use Rattle.pcm.proofs.laws.Sixteen.{from_raised}
use borrow.Author.Rules.{rules}
use Rattle.pcm.proofs.sample.distance_16.Goals as goal

pub returns-then-raised-lt-HALF : goal.returns-then-raised-lt-HALF
returns-then-raised-lt-HALF c =
    let v = from_raised c.args.x in
    (search rules, omega (arith, c.raised_16-raised.ensures.1, v.lower (omega (arith, c.raised_16-raised.ensures.1))))

pub returns-else-raised-lt-HALF : goal.returns-else-raised-lt-HALF
returns-else-raised-lt-HALF c =
    let v = from_raised c.args.x in
    (search rules, omega (arith, c.raised_16-raised.ensures.1, v.upper (omega (arith, c.raised_16-raised.ensures.1))))
