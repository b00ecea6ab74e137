-- `segment::segment_of` meets its contract: what it reads of the table are the three entries, which an f64 holds. Assumes nothing.
use mathlib.Core.Path.{◌≡◌, ap, ◌∙◌}
use mathlib.Core.List.{List}
use Prim.Native.Nat.{ℕ, suc, ◌+◌, ◌≤◌}
use native.Mathlib.Nat.{le_trans, le_of_eq}
use native.Mathlib.Numerals.{add-one}
use native.Mathlib.Omega.{arith}
use lib.ListN.{get_or}
use lib.Ieee.{Float, binary32, binary64, add, sub, mul, fits, of_int, of_bits}
use Rattle.laws.specs.Float.{whole}
use Rattle.laws.proofs.laws.Choice.{true-T}
use Rattle.gain_table.specs.GainTable.{entry, IsGainTable}
use Rattle.gain_table.proofs.laws.GainTable.{table_entry, entry_in_float}
use Rattle.gain_segment.specs.declared.segment.Segment.{Segment}
use Rattle.decibels.specs.Decibels.{last_entry, second_difference}
use Rattle.gain_segment.specs.Segment.{steps_at, decibels_at, segment}
use Rattle.gain_segment.proofs.laws.Segment.{segment_few}
use Rattle.gain_segment.proofs.segment.segment_of.Goals as goal

-- the segment from its parts
made : (l : List ℕ) → IsGainTable l → (k : ℕ) → k ≤ last_entry → (lo hi at : Float) → lo ≡ decibels_at k → hi ≡ decibels_at (k + 1) → at ≡ steps_at k
    → ◌≡◌ {A = Segment}
    (record {
      low = lo;
      high = hi;
      from = at;
      first = whole (get_or l k 0);
      rise = sub binary64 (whole (get_or l (k + 1) 0)) (whole (get_or l k 0));
      second = add binary64 (sub binary64 (whole (get_or l (k + 2) 0)) (mul binary64 (whole 2) (whole (get_or l (k + 1) 0)))) (whole (get_or l k 0));
    })
    (segment k)
unfolding segment second_difference
made l t k h lo hi at a b d =
    let this : get_or l k 0 ≡ entry k = table_entry l t k (omega arith) in
    let next : get_or l (k + 1) 0 ≡ entry (suc k) = table_entry l t (k + 1) (omega arith) ∙ ap entry (add-one k) in
    let after : get_or l (k + 2) 0 ≡ entry (suc (suc k)) = table_entry l t (k + 2) (omega arith) ∙ ap entry {x = k + 2} {y = suc (suc k)} (omega arith) in
    let high : hi ≡ decibels_at (suc k) = b ∙ ap decibels_at (add-one k) in
    cc

pub offset_bounds-table-entry : goal.offset_bounds-table-entry
offset_bounds-table-entry c = omega (arith, (let n = c.args.level.0 in le_trans (le_of_eq c.segment_number-entry.ensures) (segment_few n (true-T (fits binary32 n) c.well_formed.0.1.1.0.1) c.requires.admitted)))

pub bounds-table-entry : goal.bounds-table-entry
bounds-table-entry c = omega (arith, (let n = c.args.level.0 in le_trans (le_of_eq c.segment_number-entry.ensures) (segment_few n (true-T (fits binary32 n) c.well_formed.0.1.1.0.1) c.requires.admitted)))

pub int_to_float-first : goal.int_to_float-first
int_to_float-first c = entry_in_float c.args.table.now c.requires.gain_table c.segment_number-entry.result (omega (arith, (let n = c.args.level.0 in le_trans (le_of_eq c.segment_number-entry.ensures) (segment_few n (true-T (fits binary32 n) c.well_formed.0.1.1.0.1) c.requires.admitted))))

pub overflow_add-next : goal.overflow_add-next
overflow_add-next c = omega (arith, (let n = c.args.level.0 in le_trans (le_of_eq c.segment_number-entry.ensures) (segment_few n (true-T (fits binary32 n) c.well_formed.0.1.1.0.1) c.requires.admitted)))

pub offset_bounds-table-entry-2 : goal.offset_bounds-table-entry-2
offset_bounds-table-entry-2 c = omega (arith, (let n = c.args.level.0 in le_trans (le_of_eq c.segment_number-entry.ensures) (segment_few n (true-T (fits binary32 n) c.well_formed.0.1.1.0.1) c.requires.admitted)))

pub bounds-table-entry-2 : goal.bounds-table-entry-2
bounds-table-entry-2 c = omega (arith, (let n = c.args.level.0 in le_trans (le_of_eq c.segment_number-entry.ensures) (segment_few n (true-T (fits binary32 n) c.well_formed.0.1.1.0.1) c.requires.admitted)))

pub int_to_float-next : goal.int_to_float-next
int_to_float-next c = entry_in_float c.args.table.now c.requires.gain_table _ (omega (arith, (let n = c.args.level.0 in le_trans (le_of_eq c.segment_number-entry.ensures) (segment_few n (true-T (fits binary32 n) c.well_formed.0.1.1.0.1) c.requires.admitted))))

pub overflow_add-after : goal.overflow_add-after
overflow_add-after c = omega (arith, (let n = c.args.level.0 in le_trans (le_of_eq c.segment_number-entry.ensures) (segment_few n (true-T (fits binary32 n) c.well_formed.0.1.1.0.1) c.requires.admitted)))

pub offset_bounds-table-entry-3 : goal.offset_bounds-table-entry-3
offset_bounds-table-entry-3 c = omega (arith, (let n = c.args.level.0 in le_trans (le_of_eq c.segment_number-entry.ensures) (segment_few n (true-T (fits binary32 n) c.well_formed.0.1.1.0.1) c.requires.admitted)))

pub bounds-table-entry-3 : goal.bounds-table-entry-3
bounds-table-entry-3 c = omega (arith, (let n = c.args.level.0 in le_trans (le_of_eq c.segment_number-entry.ensures) (segment_few n (true-T (fits binary32 n) c.well_formed.0.1.1.0.1) c.requires.admitted)))

pub int_to_float-after : goal.int_to_float-after
int_to_float-after c = entry_in_float c.args.table.now c.requires.gain_table _ (omega (arith, (let n = c.args.level.0 in le_trans (le_of_eq c.segment_number-entry.ensures) (segment_few n (true-T (fits binary32 n) c.well_formed.0.1.1.0.1) c.requires.admitted))))

pub decibels_at-requires : goal.decibels_at-requires
decibels_at-requires c = omega (arith, (let n = c.args.level.0 in le_trans (le_of_eq c.segment_number-entry.ensures) (segment_few n (true-T (fits binary32 n) c.well_formed.0.1.1.0.1) c.requires.admitted)))

pub overflow_add-entry : goal.overflow_add-entry
overflow_add-entry c = omega (arith, (let n = c.args.level.0 in le_trans (le_of_eq c.segment_number-entry.ensures) (segment_few n (true-T (fits binary32 n) c.well_formed.0.1.1.0.1) c.requires.admitted)))

pub decibels_at-requires-2 : goal.decibels_at-requires-2
decibels_at-requires-2 c = omega (arith, (let n = c.args.level.0 in le_trans (le_of_eq c.segment_number-entry.ensures) (segment_few n (true-T (fits binary32 n) c.well_formed.0.1.1.0.1) c.requires.admitted)))

pub steps_at-requires : goal.steps_at-requires
steps_at-requires c = omega (arith, (let n = c.args.level.0 in le_trans (le_of_eq c.segment_number-entry.ensures) (segment_few n (true-T (fits binary32 n) c.well_formed.0.1.1.0.1) c.requires.admitted)))

pub returns : goal.returns
unfolding of_int of_bits
returns c =
    made c.args.table.now c.requires.gain_table c.segment_number-entry.result (let n = c.args.level.0 in le_trans (le_of_eq c.segment_number-entry.ensures) (segment_few n (true-T (fits binary32 n) c.well_formed.0.1.1.0.1) c.requires.admitted)) c.decibels_at.result c.decibels_at-2.result c.steps_at.result
    c.decibels_at.ensures c.decibels_at-2.ensures c.steps_at.ensures
    ∙ ap segment c.segment_number-entry.ensures
