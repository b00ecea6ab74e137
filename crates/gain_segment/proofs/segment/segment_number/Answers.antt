-- `segment::segment_number` meets its contract: each test of the code picks the definition's case. Assumes nothing.
use mathlib.Core.Path.{◌≡◌, sym, ◌∙◌}
use mathlib.Core.Bool.{true, false, cond}
use lib.Ieee.{Float, eq, le, neg, of_int, of_bits}
use Rattle.laws.specs.Float.{whole}
use Rattle.laws.proofs.laws.Choice.{cond-true, cond-false, false-T}
use Rattle.decibels.specs.Decibels.{silence, entry_below}
use Rattle.gain_segment.specs.Segment.{segment_of}
use Rattle.gain_segment.proofs.segment.segment_number.Goals as goal

at_zero : (n : Float) → eq n (whole 0) ≡ true → 960 ≡ segment_of n
unfolding segment_of
at_zero n e = sym (cond-true (eq n (whole 0)) 960 (cond (le n silence) 0 (entry_below n)) e)

silent : (n : Float) → eq n (whole 0) ≡ false → le n silence ≡ true → 0 ≡ segment_of n
unfolding segment_of
silent n e l = sym (cond-false (eq n (whole 0)) 960 (cond (le n silence) 0 (entry_below n)) e ∙ cond-true (le n silence) 0 (entry_below n) l)

sounding : (n : Float) → eq n (whole 0) ≡ false → le n silence ≡ false → segment_of n ≡ entry_below n
unfolding segment_of
sounding n e l = cond-false (eq n (whole 0)) 960 (cond (le n silence) 0 (entry_below n)) e ∙ cond-false (le n silence) 0 (entry_below n) l

pub returns-then-n : goal.returns-then-n
unfolding of_int of_bits
returns-then-n c = at_zero c.args.level.0 c.if-n.true

pub returns-then-n-2 : goal.returns-then-n-2
unfolding of_int of_bits neg
returns-then-n-2 c = silent c.args.level.0 c.if-n.false c.if-n-2.true

pub position_of-position-requires : goal.position_of-position-requires
unfolding of_int of_bits neg
position_of-position-requires c =
    let n = c.args.level.0 in
    record { admitted = c.requires; above_silence = false-T (le n silence) c.if-n-2.false; not_zero = false-T (eq n (whole 0)) c.if-n.false }

pub returns : goal.returns
unfolding of_int of_bits neg
returns c =
    let n = c.args.level.0 in
    c.position_of-position.ensures.0 ∙ sym (sounding n c.if-n.false c.if-n-2.false)
