-- `decibels::curve_at` meets its contract: what it reads of the table are the entries, which an f64 holds.
-- Assumes nothing.
use mathlib.Core.Path.{◌≡◌, sym, ap, ◌∙◌}
use mathlib.Core.Bool.{true, false}
use mathlib.Core.List.{List}
use Prim.Native.Nat.{ℕ, suc, ◌+◌, ◌≤◌, ◌<◌}
use native.Mathlib.Numerals.{add-one}
use native.Mathlib.Omega.{arith}
use lib.ListN.{get_or}
use lib.Ieee.{Float, binary64, add, sub, mul, div, eq, of_int, of_bits}
use Rattle.laws.specs.Float.{whole}
use Rattle.laws.proofs.laws.Choice.{cond-true, cond-false}
use Rattle.gain_table.specs.GainTable.{entry, entries, IsGainTable}
use Rattle.gain_table.proofs.laws.GainTable.{table_entry, entry_in_float}
use Rattle.decibels.specs.Decibels.{last_entry, line_at, second_difference, correction_at, curve_at}
use Rattle.decibels.proofs.decibels.curve_at.Goals as goal

-- the curve from the list's entries
curve_of : (this next after rest : Float) → Float
curve_of this next after rest =
    add binary64 (add binary64 this (mul binary64 (sub binary64 next this) rest))
    (mul binary64 (div binary64 (mul binary64 rest (sub binary64 rest (whole 1))) (whole 2)) (add binary64 (sub binary64 after (mul binary64 (whole 2) next)) this))

no_rest : (l : List ℕ) (n : ℕ) (rest : Float) → IsGainTable l → n < entries → eq rest (whole 0) ≡ true → whole (get_or l n 0) ≡ curve_at n rest
unfolding curve_at
no_rest l n rest t h e = ap whole (table_entry l t n h) ∙ sym (cond-true (eq rest (whole 0)) (whole (entry n)) (add binary64 (line_at n rest) (correction_at n rest)) e)

some_rest : (l : List ℕ) (n : ℕ) (rest : Float) → IsGainTable l → n ≤ last_entry → eq rest (whole 0) ≡ false
    → curve_of (whole (get_or l n 0)) (whole (get_or l (n + 1) 0)) (whole (get_or l (n + 2) 0)) rest ≡ curve_at n rest
unfolding curve_at line_at correction_at second_difference curve_of
some_rest l n rest t h e =
    let this : get_or l n 0 ≡ entry n = table_entry l t n (omega arith) in
    let next : get_or l (n + 1) 0 ≡ entry (suc n) = table_entry l t (n + 1) (omega arith) ∙ ap entry (add-one n) in
    let after : get_or l (n + 2) 0 ≡ entry (suc (suc n)) = table_entry l t (n + 2) (omega arith) ∙ ap entry {x = n + 2} {y = suc (suc n)} (omega arith) in
    ap (λ (z : ℕ). curve_of (whole z) (whole (get_or l (n + 1) 0)) (whole (get_or l (n + 2) 0)) rest) this
    ∙ ap (λ (z : ℕ). curve_of (whole (entry n)) (whole z) (whole (get_or l (n + 2) 0)) rest) next
    ∙ ap (λ (z : ℕ). curve_of (whole (entry n)) (whole (entry (suc n))) (whole z) rest) after
    ∙ sym (cond-false (eq rest (whole 0)) (whole (entry n)) (curve_of (whole (entry n)) (whole (entry (suc n))) (whole (entry (suc (suc n)))) rest) e)

pub int_to_float-this : goal.int_to_float-this
int_to_float-this c = entry_in_float c.args.table.now c.requires.gain_table c.args.entry (omega (arith, c.requires.entry_in_table))

pub returns-then-rest : goal.returns-then-rest
unfolding of_int of_bits
returns-then-rest c = no_rest c.args.table.now c.args.entry c.args.rest c.requires.gain_table (omega (arith, c.requires.entry_in_table)) c.if-rest.true

pub int_to_float-next : goal.int_to_float-next
int_to_float-next c = entry_in_float c.args.table.now c.requires.gain_table _ (omega (arith, c.requires.entry_in_table))

pub int_to_float-after : goal.int_to_float-after
int_to_float-after c = entry_in_float c.args.table.now c.requires.gain_table _ (omega (arith, c.requires.entry_in_table))

pub returns : goal.returns
unfolding curve_of of_int of_bits
returns c = some_rest c.args.table.now c.args.entry c.args.rest c.requires.gain_table c.requires.entry_in_table c.if-rest.false
