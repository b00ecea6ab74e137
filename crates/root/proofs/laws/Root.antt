-- Laws of the root: it is a finite f32 from 0 up, and no f32 is nearer. Assumes nothing.
use mathlib.Core.Path.{◌≡◌, refl, sym, ap, ◌∙◌, subst}
use mathlib.Core.Logic.{inl, inr}
use mathlib.Core.Bool.{true}
use Prim.Native.Nat.{ℕ, suc, ◌+◌, ◌-◌, ◌*◌, ◌^◌, ◌≤◌, ◌<◌}
use native.Mathlib.Nat.{le_trans, le_refl, le_of_lt, le_antisymm, not-le_of_lt, add-le-add, mul-le-mul, lt_of_lt_of_le, lt_of_le_of_lt, eq-or-lt_of_le}
use native.Mathlib.Omega.{arith}
use lib.Dec.{T, lit<, lit≤}
use lib.Ieee.{Float, binary32, lt, of_bits}
use lib.Ieee.Scale.{finite}
use borrow.Author.Tests.{leb-true, leb-false, le-leb}
use Rattle.laws.specs.Float.{pos_zero}
use Rattle.laws.specs.FloatOrder.{plus, minus}
use Rattle.laws.specs.FloatRound.{Between}
use Rattle.laws.proofs.laws.FloatOrder.{OnGrid, plus_on_grid, lt→units, units→lt}
use Rattle.laws.proofs.laws.FloatRound.{below_or_not, between_number}
use Rattle.root.specs.Root.{FromZero, infinity, units, twice_middle, reaches, last, root}
use Rattle.root.proofs.laws.Patterns.{next, units_le, units_before, pattern_from_zero, pattern_of, from_zero_minus}
use Rattle.root.specs.NearestRoot.{IsNearestRoot}
use Rattle.root.proofs.laws.NoTie.{no_tie}
use Rattle.root.proofs.laws.Last.{IsLast, Holds, last_is, last_unique}

-- ---- the pattern of the root is the last that reaches

-- 0 does
reaches_zero : (v : ℕ) → reaches v 0 ≡ true
unfolding reaches units plus of_bits
reaches_zero v = le-leb 0 (4 * (v * 2 ^ 149)) (least (v * 2 ^ 149))
  where
    least : (n : ℕ) → 0 ≤ 4 * n
    least n = omega arith

pub holds_all : (v : ℕ) → Holds (reaches v) infinity 0 infinity
holds_all v = record { apart = lit< tt; most = le_refl infinity; passes = reaches_zero v; fails = λ h. absurd (never infinity h) }
  where
    never : (n : ℕ) → n < n → ⊥
    never n h = omega arith

reaches_down : (v j k : ℕ) → j ≤ k → k < infinity → reaches v k ≡ true → reaches v j ≡ true
unfolding reaches
reaches_down v j k l h e =
    let m : twice_middle j ≤ twice_middle k = add-le-add (units_le _ _ (omega arith) (omega arith)) (units_le j k l h) in
    le-leb (twice_middle j * twice_middle j) (4 * (v * 2 ^ 149)) (le_trans (mul-le-mul m m) (leb-true (twice_middle k * twice_middle k) (4 * (v * 2 ^ 149)) e))

abbrev pattern : Float → ℕ
pattern x = last (reaches (plus binary32 x)) 31 0 infinity

pattern_last : (x : Float) → IsLast (reaches (plus binary32 x)) infinity (pattern x)
pattern_last x = last_is (reaches (plus binary32 x)) infinity 31 0 infinity (holds_all (plus binary32 x)) (lit≤ tt)

pub root_unique : (x : Float) (k : ℕ) → IsLast (reaches (plus binary32 x)) infinity k → of_bits binary32 k ≡ root x
unfolding root
root_unique x k h = ap (of_bits binary32) (last_unique (reaches (plus binary32 x)) infinity (reaches_down (plus binary32 x)) k (pattern x) h (pattern_last x))

-- ---- the laws

-- a pattern that reaches has no tie with the one below
strictly : (v k : ℕ) → OnGrid binary32 v → 0 < k → k < infinity → reaches v k ≡ true → twice_middle k * twice_middle k < 4 * (v * 2 ^ 149)
unfolding reaches
strictly v k g p h e =
    let s : suc (k - 1) ≡ k = omega arith in
    elim (eq-or-lt_of_le (leb-true (twice_middle k * twice_middle k) (4 * (v * 2 ^ 149)) e)) [
      | inl t ↦ absurd (no_tie v (k - 1) g (next (k - 1) (omega arith)) (ap (λ (z : ℕ). (units (k - 1) + units z) * (units (k - 1) + units z)) s ∙ t))
      | inr l ↦ l
    ]

-- in patterns
module _ (v k : ℕ) (g : OnGrid binary32 v) (L : IsLast (reaches v) infinity k) where
  pattern_below : (j : ℕ) → j < k → (units j + units k) * (units j + units k) < 4 * (v * 2 ^ 149)
  pattern_below j l =
      let h : k < infinity = L.below in
      let m : units j + units k ≤ twice_middle k = add-le-add (units_le j (k - 1) (omega arith) (omega arith)) (le_refl (units k)) in
      lt_of_le_of_lt (mul-le-mul m m) (strictly v k g (omega arith) h L.passes)

  pattern_above : (j : ℕ) → j < infinity → k < j → 4 * (v * 2 ^ 149) < (units k + units j) * (units k + units j)
  unfolding reaches
  pattern_above j h l =
      let b = twice_middle (suc k) in
      let m : b ≤ units k + units j = add-le-add (units_le (suc k - 1) k (omega arith) L.below) (units_le (suc k) j l h) in
      lt_of_lt_of_le (leb-false (b * b) (4 * (v * 2 ^ 149)) (L.next (omega arith))) (mul-le-mul m m)

units_order : (t r : Float) → FromZero t → FromZero r → T (lt t r) → plus binary32 t < plus binary32 r
units_order t r A B h =
    plain (plus binary32 t) (minus binary32 t) (plus binary32 r) (minus binary32 r) (from_zero_minus t A) (from_zero_minus r B) (lt→units binary32 t r A.number B.number h)
  where
    plain : (p m q n : ℕ) → m ≡ 0 → n ≡ 0 → p + n < q + m → p < q
    plain p m q n a b l = omega arith

-- it is a finite f32 from 0 up
pub root_from_zero : (x : Float) → FromZero (root x)
unfolding root
root_from_zero x = pattern_from_zero (pattern x) (pattern_last x).below

-- no f32 is as near
pub root_nearest : (x : Float) → FromZero x → IsNearestRoot x (root x)
unfolding root units
root_nearest x X =
    let v = plus binary32 x in
    let k = pattern x in
    let L = pattern_last x in
    let g : OnGrid binary32 v = plus_on_grid binary32 x X.number in
    let r = of_bits binary32 k in
    let R : FromZero r = pattern_from_zero k L.below in
    record {
      number = R;
      below = λ t A h.
          let j = pattern_of t A in
          let l : j.0 < k = units_before j.0 k j.1 L.below (subst (λ (z : ℕ). z < units k) j.2 (units_order t r A R h)) in
          subst (λ (z : ℕ). (z + units k) * (z + units k) < 4 * (v * 2 ^ 149)) (sym j.2) (pattern_below v k g L j.0 l);
      above = λ t A h.
          let j = pattern_of t A in
          let l : k < j.0 = units_before k j.0 L.below j.1 (subst (λ (z : ℕ). units k < z) j.2 (units_order r t R A h)) in
          subst (λ (z : ℕ). 4 * (v * 2 ^ 149) < (units k + z) * (units k + z)) (sym j.2) (pattern_above v k g L j.0 j.1 l);
    }

-- so nothing else is the nearest, but for the sign of a zero
pub nearest_root_unique : (x r s : Float) → IsNearestRoot x r → IsNearestRoot x s → plus binary32 r ≡ plus binary32 s
nearest_root_unique x r s R S = elim (below_or_not (plus binary32 r) (plus binary32 s)) [
  | inl l ↦ absurd (not_both x r s R S l)
  | inr g ↦ elim (below_or_not (plus binary32 s) (plus binary32 r)) [ inl l ↦ absurd (not_both x s r S R l) | inr h ↦ le_antisymm h g ]
]
  where
    order : (t r : Float) → FromZero t → FromZero r → plus binary32 t < plus binary32 r → T (lt t r)
    order t r A B l =
        units→lt binary32 t r A.number B.number (signed (plus binary32 t) (minus binary32 t) (plus binary32 r) (minus binary32 r) (from_zero_minus t A) (from_zero_minus r B) l)
      where
        signed : (p m q n : ℕ) → m ≡ 0 → n ≡ 0 → p < q → p + n < q + m
        signed p m q n a b l = omega arith

    not_both : (x r s : Float) → IsNearestRoot x r → IsNearestRoot x s → plus binary32 r < plus binary32 s → ⊥
    not_both x r s R S l =
        let h : T (lt r s) = order r s R.number S.number l in
        not-le_of_lt (R.above s S.number h) (le_of_lt (S.below r R.number h))

-- what lies between 0 and a number is from 0 up
pub between_from_zero : (hi x : Float) → T (finite hi) → Between binary32 pos_zero hi x → FromZero x
between_from_zero hi x h b = record { number = between_number binary32 pos_zero hi x tt h b; least = b.least }

pub root_zero : root pos_zero ≡ pos_zero
unfolding root last reaches units plus of_bits
root_zero = refl
