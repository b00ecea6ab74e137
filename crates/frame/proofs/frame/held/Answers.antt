use mathlib.Core.Path.{sym, ◌∙◌}
use mathlib.Core.Bool.{cond}
use lib.Ieee.{neg, lt, of_int, of_bits}
use Rattle.laws.proofs.laws.Choice.{cond-true, cond-false}
use Rattle.frame.specs.Frame.{clamp, full_scale}
use Rattle.frame.proofs.frame.held.Goals as goal

pub returns-then-x : goal.returns-then-x
unfolding clamp of_int of_bits
returns-then-x c = let x = c.args.x in sym (cond-true (lt x (neg full_scale)) (neg full_scale) (cond (lt full_scale x) full_scale x) c.if-x.true)

pub returns-then-x-2 : goal.returns-then-x-2
unfolding clamp of_int of_bits
returns-then-x-2 c =
    let x = c.args.x in
    sym (cond-false (lt x (neg full_scale)) (neg full_scale) (cond (lt full_scale x) full_scale x) c.if-x.false ∙ cond-true (lt full_scale x) full_scale x c.if-x-2.true)

pub returns : goal.returns
unfolding clamp of_int of_bits
returns c =
    let x = c.args.x in
    sym (cond-false (lt x (neg full_scale)) (neg full_scale) (cond (lt full_scale x) full_scale x) c.if-x.false ∙ cond-false (lt full_scale x) full_scale x c.if-x-2.false)
