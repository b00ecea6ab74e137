-- Laws of the part of a list that is left from a place on.
use mathlib.Core.Path.{◌≡◌, refl, sym, ◌∙◌, ap}
use mathlib.Core.Bool.{Bool, true, false}
use mathlib.Core.List.{List, ◌∷◌}
use Prim.Native.Nat.{ℕ, ◌+◌, ◌-◌, ◌<◌, ◌≤◌}
use native.Mathlib.Numerals.{add-one}
use native.Mathlib.Omega.{arith}
use borrow.Author.Tests.{leb-true, leb-false}
use lib.Dec.{leb}
use lib.ListN.{length, get_or, take, drop, get_or-eq_default, length-drop}
use lib.Seq.{drop-cons, take_all, length-take-le}
use Rattle.scene_file.specs.Readings.{tail_of}

-- two comparisons are the same test where each holds with the other
pub leb_same : (a b c d : ℕ) → (a ≤ b → c ≤ d) → (c ≤ d → a ≤ b) → leb a b ≡ leb c d
leb_same a b c d f g = go (leb a b) refl (leb c d) refl
  where
    go : (p : Bool) → leb a b ≡ p → (q : Bool) → leb c d ≡ q → p ≡ q
    go true e true k = refl
    go true e false k = let h : c ≤ d = f (leb-true a b e) in let n : d < c = leb-false c d k in absurd (omega arith)
    go false e true k = let h : a ≤ b = g (leb-true c d k) in let n : b < a = leb-false a b e in absurd (omega arith)
    go false e false k = refl

-- the rest of a list, one element on
pub rest : {A : Type 0} (l : List A) (i : ℕ) (d : A) → i < length l → drop i l ≡ get_or l i d ∷ drop (i + 1) l
rest l i d h = drop-cons l i d h ∙ ap (λ (k : ℕ). get_or l i d ∷ drop k l) (sym (add-one i))

pub tail_is : (l : List ℕ) (i : ℕ) → tail_of l i ≡ drop i l
tail_is l i = take_all (length l - i) (drop i l) (omega (arith, length-drop i l))

pub tail_length : (l : List ℕ) (i : ℕ) → length (tail_of l i) ≡ length l - i
tail_length l i = ap length (tail_is l i) ∙ length-drop i l

-- a part of a slice has as many elements as it was asked for
pub prefix_count : (n : ℕ) (l : List ℕ) → n ≤ length l → n ≡ length (take n l)
prefix_count n l h = sym (length-take-le n l h)

pub beyond : (l : List ℕ) (a j : ℕ) → length l ≤ a → 0 ≡ get_or l (a + j) 0
beyond l a j h = sym (get_or-eq_default l 0 {n = a + j} (omega arith))

pub beyond_rest : (l : List ℕ) (a j : ℕ) → length l - a ≤ j → 0 ≡ get_or l (a + j) 0
beyond_rest l a j h = sym (get_or-eq_default l 0 {n = a + j} (omega arith))
