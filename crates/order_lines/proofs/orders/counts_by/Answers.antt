-- `orders::counts_by` meets its contract: the tests are the definition's. Assumes nothing.
use mathlib.Core.Path.{ap, ◌∙◌}
use mathlib.Core.Bool.{not}
use Prim.Native.Nat.{◌+◌}
use native.Mathlib.Omega.{arith}
use borrow.Author.Tests.{eq-eqb, ne_eqb}
use Rattle.laws.proofs.laws.Choice.{first_no, first_yes}
use Rattle.order_lines.specs.Orders.{counts_by}
use Rattle.order_lines.proofs.laws.Orders.{same_test}
use Rattle.order_lines.proofs.laws.Marks.{place_fits, bytes_fit, mark_test, mark_after, mark_not_after}
use Rattle.order_lines.proofs.orders.counts_by.Goals as goal

pub offset_bounds-marks-own : goal.offset_bounds-marks-own
offset_bounds-marks-own c = record { fits = bytes_fit (place_fits c.args.order.kind c.args.order.index c.key-own.ensures c.requires.index_in_range) }

pub bounds-marks-own : goal.bounds-marks-own
bounds-marks-own c = place_fits c.args.order.kind c.args.order.index c.key-own.ensures c.requires.index_in_range

-- a later line is alike
pub returns-then-line-marks : goal.returns-then-line-marks
unfolding counts_by
returns-then-line-marks c = first_no _ _ (ap not (mark_after c.args.marks.now (c.args.i + 1) c.key-own.ensures (omega (arith, c.if-line-marks.true))))

-- it is the last, and no resume
pub returns-then-kind_number : goal.returns-then-kind_number
unfolding counts_by
returns-then-kind_number c =
    ap not (first_no _ _ (same_test c.kind_number.ensures c.kind_number-2.ensures (ne_eqb _ _ c.if-kind_number.true)))
    ∙ first_yes _ _ (ap not (mark_not_after c.args.marks.now (c.args.i + 1) c.key-own.ensures (omega (arith, c.if-line-marks.false))))

pub offset_bounds-marks-pause : goal.offset_bounds-marks-pause
offset_bounds-marks-pause c = record { fits = bytes_fit (place_fits _ c.args.order.index c.key-pause.ensures c.requires.index_in_range) }

pub bounds-marks-pause : goal.bounds-marks-pause
bounds-marks-pause c = place_fits _ c.args.order.index c.key-pause.ensures c.requires.index_in_range

-- a resume, the last: pauses are compared
pub returns : goal.returns
unfolding counts_by
returns c =
    ap not (mark_test c.args.marks.now (c.args.i + 1) c.key-pause.ensures ∙ first_yes _ _ (same_test c.kind_number.ensures c.kind_number-2.ensures (eq-eqb _ _ c.if-kind_number.false)))
    ∙ first_yes _ _ (ap not (mark_not_after c.args.marks.now (c.args.i + 1) c.key-own.ensures (omega (arith, c.if-line-marks.false))))
