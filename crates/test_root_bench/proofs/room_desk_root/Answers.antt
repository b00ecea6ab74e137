-- `room_desk_root` meets its contract: its two tests are those of `has_root`. Assumes nothing.
use mathlib.Core.Path.{◌≡◌, sym, ap, ap₂, ◌∙◌}
use mathlib.Core.Bool.{Bool, true, false, cond, ◌&&◌}
use native.Mathlib.Omega.{arith}
use lib.Ieee.{Float, binary32, le, fits, of_bits}
use Rattle.laws.specs.Float.{pos_zero}
use Rattle.laws.proofs.laws.Choice.{true-T}
use Rattle.root.specs.Root.{FromZero, root}
use Rattle.root.proofs.laws.Patterns.{pattern_number}
use Rattle.root.proofs.laws.Root.{between_from_zero}
use Rattle.test_root_bench.specs.RootOver.{largest, has_root, root_number, root_over}
use Rattle.test_root_bench.proofs.room_desk_root.Goals as goal

-- the answer, where the tests come to b
answers : (x old : Float) (b : Bool) → has_root x ≡ b → (cond b 0 11 ≡ root_number x) × (cond b (root x) old ≡ root_over x old)
unfolding root_number root_over
answers x old b e = (ap (λ (t : Bool). cond t 0 11) (sym e), ap (λ (t : Bool). cond t (root x) old) (sym e))

tests : (x : Float) (a b : Bool) → le pos_zero x ≡ a → le x largest ≡ b → has_root x ≡ (a && b)
unfolding has_root
tests x a b e f = ap₂ (λ (s t : Bool). s && t) e f

not_above : (x : Float) → le pos_zero x ≡ false → has_root x ≡ false
unfolding has_root
not_above x e = ap (λ (s : Bool). s && le x largest) e

from_zero : (x : Float) → fits binary32 x ≡ true → le pos_zero x ≡ true → le x largest ≡ true → FromZero x
from_zero x f e l =
    between_from_zero largest x (pattern_number 0x7f7f_ffff (omega arith)).is_finite (record { held = true-T (fits binary32 x) f; least = true-T (le pos_zero x) e; most = true-T (le x largest) l })

pub root-requires : goal.root-requires
unfolding of_bits
root-requires c = from_zero c.args.x c.well_formed.0.1 c.if-x.true c.if-x-2.true

pub returns-then-x-2 : goal.returns-then-x-2
unfolding of_bits
returns-then-x-2 c =
    let x = c.args.x in
    let a = answers x c.args.root.now true (tests x true true c.if-x.true c.if-x-2.true) in
    record { number = a.0; written = c.root.ensures ∙ a.1 }

pub returns-else-x-2 : goal.returns-else-x-2
unfolding of_bits
returns-else-x-2 c =
    let x = c.args.x in
    let whole = answers x c.args.root.now false (tests x true false c.if-x.true c.if-x-2.false) in record { number = whole.0; written = whole.1 }

pub returns-else-x : goal.returns-else-x
unfolding of_bits
returns-else-x c = let whole = answers c.args.x c.args.root.now false (not_above c.args.x c.if-x.false) in record { number = whole.0; written = whole.1 }
