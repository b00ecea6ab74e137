-- Laws of the leaves of the grammar, bytes, digits and numbers: what each definition gives at the part of a list that is left.
use mathlib.Core.Path.{◌≡◌, refl, sym, ◌∙◌, ap}
use mathlib.Core.Bool.{Bool, true, false, cond, ◌&&◌}
use mathlib.Core.List.{List, [], ◌∷◌}
use Rattle.std.specs.Prelude.{Option, Some, None}
use Prim.Native.Nat.{ℕ, suc, ◌+◌, ◌-◌, ◌*◌, ◌<◌, ◌≤◌, zero-le, suc-le-suc}
use native.Mathlib.Nat.{le_refl}
use native.Mathlib.Omega.{arith}
use borrow.Author.Tests.{eq-eqb, ne_eqb, le-leb, lt-leb, le-ltb, lt-ltb, leb-true, leb-false}
use lib.Pointwise.{pointwise}
use lib.Dec.{eqb, leb, ltb}
use lib.ListN.{length, get_or, take, drop, drop_of_length-le}
use lib.Seq.{take_all}
use Rattle.laws.proofs.laws.Choice.{and_false, and_true}
use Rattle.scene_tables.specs.Bytes.{all, same_bytes}
use Rattle.scene_file.specs.Grammar.{is_digit, digits_after, leading_zero, is_whole, is_number, value_of}
use Rattle.scene_file.specs.Readings.{position_of, magnitude_of, positive_of, negative_of, number_of}
use Rattle.scene_file.proofs.laws.Tails.{rest, prefix_count}

-- ---- `position_of`

pub position_end : (b : ℕ) (l : List ℕ) (i : ℕ) → length l ≤ i → position_of b (drop i l) ≡ 0
unfolding position_of
position_end b l i h = rw (drop_of_length-le l h)

pub position_here : (b : ℕ) (l : List ℕ) (i : ℕ) → i < length l → get_or l i 0 ≡ b → position_of b (drop i l) ≡ 0
unfolding position_of
position_here b l i h e = rw (rest l i 0 h, eq-eqb (get_or l i 0) b e)

pub position_next : (b : ℕ) (l : List ℕ) (i : ℕ) → i < length l → (get_or l i 0 ≡ b → ⊥) → position_of b (drop i l) ≡ suc (position_of b (drop (i + 1) l))
unfolding position_of
position_next b l i h e = rw (rest l i 0 h, ne_eqb (get_or l i 0) b e)

pub position_within : (b : ℕ) (l : List ℕ) → position_of b l ≤ length l
unfolding position_of
position_within b [] = zero-le
position_within b (x ∷ l) = go (eqb x b) (position_within b l)
  where
    go : (t : Bool) → position_of b l ≤ length l → cond t 0 (suc (position_of b l)) ≤ suc (length l)
    go true h = zero-le
    go false h = suc-le-suc h

pub position_count : (b n : ℕ) (l : List ℕ) → n ≡ position_of b l → n ≡ length (take n l)
position_count b n l e = prefix_count n l (omega (arith, position_within b l))

-- the place that a search comes to, from the part of the list that is left
pub position_found : (b : ℕ) (l : List ℕ) (i : ℕ) → i < length l → get_or l i 0 ≡ b → i + position_of b (drop i l) ≡ position_of b l → i ≡ position_of b l
position_found b l i h e inv = omega (arith, position_here b l i h e)

pub position_passed : (b : ℕ) (l : List ℕ) (i : ℕ) → i < length l → (get_or l i 0 ≡ b → ⊥) → i + position_of b (drop i l) ≡ position_of b l
    → i + 1 + position_of b (drop (i + 1) l) ≡ position_of b l
position_passed b l i h e inv = omega (arith, position_next b l i h e)

pub position_none : (b : ℕ) (l : List ℕ) (i : ℕ) → length l ≤ i → i + position_of b (drop i l) ≡ position_of b l → i ≡ position_of b l
position_none b l i h inv = omega (arith, position_end b l i h)

-- ---- `same`

pub same_pointwise : (a b : List ℕ) → pointwise eqb a b ≡ same_bytes a b
unfolding same_bytes
same_pointwise [] [] = refl
same_pointwise [] (y ∷ b) = refl
same_pointwise (x ∷ a) [] = refl
same_pointwise (x ∷ a) (y ∷ b) = ap (λ t. eqb x y && t) (same_pointwise a b)

-- ---- digits

pub all_end : {A : Type 0} (f : A → Bool) (l : List A) (i : ℕ) → length l ≤ i → all f (drop i l) ≡ true
unfolding all
all_end f l i h = rw (drop_of_length-le l h)

pub all_next : {A : Type 0} (f : A → Bool) (l : List A) (i : ℕ) (d : A) → i < length l → all f (drop i l) ≡ (f (get_or l i d) && all f (drop (i + 1) l))
unfolding all
all_next f l i d h = rw (rest l i d h)

pub digits_end : (m : ℕ) (l : List ℕ) (i : ℕ) → length l ≤ i → digits_after m (drop i l) ≡ m
unfolding digits_after
digits_end m l i h = rw (drop_of_length-le l h)

pub digits_next : (m : ℕ) (l : List ℕ) (i : ℕ) → i < length l → digits_after m (drop i l) ≡ digits_after (m * 10 + (get_or l i 0 - 48)) (drop (i + 1) l)
unfolding digits_after
digits_next m l i h = rw (rest l i 0 h)

-- more digits make no smaller number
pub digits_grow : (m : ℕ) (l : List ℕ) → m ≤ digits_after m l
unfolding digits_after
digits_grow m [] = le_refl m
digits_grow m (b ∷ l) = let h : m * 10 + (b - 48) ≤ digits_after (m * 10 + (b - 48)) l = digits_grow (m * 10 + (b - 48)) l in omega arith

-- what `magnitude_of` is where a byte is no digit, where the number is too large, and else
pub magnitude_no_digit : (l : List ℕ) → all is_digit l ≡ false → magnitude_of l ≡ None
unfolding magnitude_of
magnitude_no_digit l h = rw h

pub magnitude_too_large : (l : List ℕ) → 2147483648 < digits_after 0 l → magnitude_of l ≡ None
unfolding magnitude_of
magnitude_too_large l h = rw (lt-leb (digits_after 0 l) 2147483648 h, and_false (all is_digit l))

pub magnitude_is : (l : List ℕ) (m : ℕ) → all is_digit l ≡ true → digits_after 0 l ≡ m → m ≤ 2147483648 → magnitude_of l ≡ Some m
unfolding magnitude_of
magnitude_is l m h e k = rw (h, e, le-leb m 2147483648 k)

-- digits read from the front on: a byte that is none, a number that grows too large, one digit more, the end
digit_low : (b : ℕ) → b < 48 → is_digit b ≡ false
digit_low b h = rw (lt-leb 48 b h)

digit_high : (b : ℕ) → 57 < b → is_digit b ≡ false
digit_high b h = rw (lt-leb b 57 h, and_false (leb 48 b))

digit_is : (b : ℕ) → 48 ≤ b → b ≤ 57 → is_digit b ≡ true
digit_is b h k = rw (le-leb 48 b h, le-leb b 57 k)

digit_none : (l : List ℕ) (i : ℕ) → i < length l → is_digit (get_or l i 0) ≡ false → all is_digit (drop i l) ≡ all is_digit l → None ≡ magnitude_of l
digit_none l i h e inv = sym (magnitude_no_digit l (sym inv ∙ all_next is_digit l i 0 h ∙ ap (λ (b : Bool). b && all is_digit (drop (i + 1) l)) e))

pub magnitude_low : (l : List ℕ) (i : ℕ) → i < length l → get_or l i 0 < 48 → all is_digit (drop i l) ≡ all is_digit l → None ≡ magnitude_of l
magnitude_low l i h e inv = digit_none l i h (digit_low (get_or l i 0) e) inv

pub magnitude_high : (l : List ℕ) (i : ℕ) → i < length l → 57 < get_or l i 0 → all is_digit (drop i l) ≡ all is_digit l → None ≡ magnitude_of l
magnitude_high l i h e inv = digit_none l i h (digit_high (get_or l i 0) e) inv

pub digits_passed : (l : List ℕ) (i m w : ℕ) → i < length l → w ≡ get_or l i 0 → digits_after m (drop i l) ≡ digits_after 0 l
    → digits_after (m * 10 + (w - 48)) (drop (i + 1) l) ≡ digits_after 0 l
digits_passed l i m w h e inv = rw e (sym (digits_next m l i h) ∙ inv)

pub all_passed : (l : List ℕ) (i : ℕ) → i < length l → 48 ≤ get_or l i 0 → get_or l i 0 ≤ 57 → all is_digit (drop i l) ≡ all is_digit l
    → all is_digit (drop (i + 1) l) ≡ all is_digit l
all_passed l i h a b inv = sym (sym inv ∙ all_next is_digit l i 0 h ∙ rw (digit_is (get_or l i 0) a b))

pub magnitude_large : (l : List ℕ) (i m w : ℕ) → i < length l → w ≡ get_or l i 0 → 2147483648 < m * 10 + (w - 48) → digits_after m (drop i l) ≡ digits_after 0 l
    → None ≡ magnitude_of l
magnitude_large l i m w h e k inv =
    let g : m * 10 + (w - 48) ≤ digits_after (m * 10 + (w - 48)) (drop (i + 1) l) = digits_grow (m * 10 + (w - 48)) (drop (i + 1) l) in
    sym (magnitude_too_large l (omega (arith, digits_passed l i m w h e inv)))

pub magnitude_done : (l : List ℕ) (i m : ℕ) → length l ≤ i → m ≤ 2147483648 → all is_digit (drop i l) ≡ all is_digit l → digits_after m (drop i l) ≡ digits_after 0 l
    → Some m ≡ magnitude_of l
magnitude_done l i m h k a d = sym (magnitude_is l m (sym a ∙ all_end is_digit l i h) (sym d ∙ digits_end m l i h) k)

-- a magnitude or a number that is not there
pub none_of : {A : Type 0} (r : Option A) → ((x : A) → r ≡ Some x → ⊥) → r ≡ None
none_of None h = refl
none_of (Some x) h = absurd (h x refl)

-- ---- numbers

pub no_leading_zero : (l : List ℕ) → length l ≤ 1 → false ≡ leading_zero l
unfolding leading_zero
no_leading_zero l h = sym (rw (le-ltb 1 (length l) h) (and_false (eqb (get_or l 0 0) 48)))

pub leading_zero_lem : (l : List ℕ) → 1 < length l → eqb (get_or l 0 0) 48 ≡ leading_zero l
unfolding leading_zero
leading_zero_lem l h = sym (rw (lt-ltb 1 (length l) h) (and_true (eqb (get_or l 0 0) 48)))

whole_empty : (l : List ℕ) → length l ≡ 0 → is_whole l ≡ false
unfolding is_whole
whole_empty l h = rw h

whole_zero : (l : List ℕ) → leading_zero l ≡ true → is_whole l ≡ false
unfolding is_whole
whole_zero l h = rw (h, and_false (ltb 0 (length l)))

whole_digits : (l : List ℕ) → (length l ≡ 0 → ⊥) → leading_zero l ≡ false → is_whole l ≡ all is_digit l
unfolding is_whole
whole_digits l h k = rw (lt-ltb 0 (length l) (omega arith), k)

mag_cases : (a b : Bool) (n m : ℕ) → cond (a && b) (Some n) None ≡ Some m → (a ≡ true) × (b ≡ true) × (n ≡ m)
mag_cases true true n m e = (refl, refl, cc)
mag_cases true false n m e = let z : ◌≡◌ {A = ℕ} 0 1 = cc in absurd (omega arith)
mag_cases false b n m e = let z : ◌≡◌ {A = ℕ} 0 1 = cc in absurd (omega arith)

mag_not : (a b : Bool) (n : ℕ) → cond (a && b) (Some n) None ≡ None → (a && b) ≡ false
mag_not true true n e = let z : ◌≡◌ {A = ℕ} 0 1 = cc in absurd (omega arith)
mag_not true false n e = refl
mag_not false b n e = refl

-- what a magnitude says of the digits
mag_is : (l : List ℕ) (r : Option ℕ) (m : ℕ) → r ≡ magnitude_of l → r ≡ Some m → (all is_digit l ≡ true) × (leb (digits_after 0 l) 2147483648 ≡ true) × (digits_after 0 l ≡ m)
unfolding magnitude_of
mag_is l r m e k = mag_cases (all is_digit l) (leb (digits_after 0 l) 2147483648) (digits_after 0 l) m (sym e ∙ k)

mag_none : (l : List ℕ) (r : Option ℕ) → r ≡ magnitude_of l → r ≡ None → (all is_digit l && leb (digits_after 0 l) 2147483648) ≡ false
unfolding magnitude_of
mag_none l r e k = mag_not (all is_digit l) (leb (digits_after 0 l) 2147483648) (digits_after 0 l) (sym e ∙ k)

pub positive_empty : (l : List ℕ) → length l ≡ 0 → None ≡ positive_of l
unfolding positive_of
positive_empty l h = sym (rw (whole_empty l h))

pub positive_zero : (l : List ℕ) (z : Bool) → z ≡ leading_zero l → z ≡ true → None ≡ positive_of l
unfolding positive_of
positive_zero l z p h = sym (rw (whole_zero l (sym p ∙ h)))

pub positive_is : (l : List ℕ) (z : Bool) (r : Option ℕ) (m : ℕ) → (length l ≡ 0 → ⊥) → z ≡ leading_zero l → z ≡ false → r ≡ magnitude_of l → r ≡ Some m → m < 2147483648
    → Some (2147483648 + m) ≡ positive_of l
unfolding positive_of
positive_is l z r m h p k e f b =
    let q = mag_is l r m e f in
    sym (rw (whole_digits l h (sym p ∙ k), q.0, q.2, le-leb m 2147483647 (omega arith)))

pub positive_large : (l : List ℕ) (z : Bool) (r : Option ℕ) (m : ℕ) → (length l ≡ 0 → ⊥) → z ≡ leading_zero l → z ≡ false → r ≡ magnitude_of l → r ≡ Some m → 2147483648 ≤ m
    → None ≡ positive_of l
unfolding positive_of
positive_large l z r m h p k e f b =
    let q = mag_is l r m e f in
    sym (rw (q.2, lt-leb m 2147483647 (omega arith), and_false (is_whole l)))

small_false : (a : Bool) (n : ℕ) → (a && leb n 2147483648) ≡ false → (a && leb n 2147483647) ≡ false
small_false true n h = lt-leb n 2147483647 (omega (arith, leb-false n 2147483648 h))
small_false false n h = refl

pub positive_none : (l : List ℕ) (z : Bool) (r : Option ℕ) → (length l ≡ 0 → ⊥) → z ≡ leading_zero l → z ≡ false → r ≡ magnitude_of l → r ≡ None → None ≡ positive_of l
unfolding positive_of
positive_none l z r h p k e f = sym (rw (whole_digits l h (sym p ∙ k), small_false (all is_digit l) (digits_after 0 l) (mag_none l r e f)))

pub negative_empty : (l : List ℕ) → length l ≡ 0 → None ≡ negative_of l
unfolding negative_of
negative_empty l h = sym (rw (whole_empty l h))

pub negative_zero : (l : List ℕ) (z : Bool) → z ≡ leading_zero l → z ≡ true → None ≡ negative_of l
unfolding negative_of
negative_zero l z p h = sym (rw (whole_zero l (sym p ∙ h)))

pub negative_is : (l : List ℕ) (z : Bool) (r : Option ℕ) (m : ℕ) → (length l ≡ 0 → ⊥) → z ≡ leading_zero l → z ≡ false → r ≡ magnitude_of l → r ≡ Some m → 0 < m → m ≤ 2147483648
    → Some (2147483648 - m) ≡ negative_of l
unfolding negative_of
negative_is l z r m h p k e f b u =
    let q = mag_is l r m e f in
    sym (rw (whole_digits l h (sym p ∙ k), q.0, q.2, le-leb 1 m b, le-leb m 2147483648 u))

pub negative_large : (l : List ℕ) (r : Option ℕ) (m : ℕ) → r ≡ magnitude_of l → r ≡ Some m → 2147483648 < m → None ≡ negative_of l
negative_large l r m e f b = let q = mag_is l r m e f in absurd (omega (arith, leb-true (digits_after 0 l) 2147483648 q.1, q.2))

pub negative_naught : (l : List ℕ) (r : Option ℕ) (m : ℕ) → r ≡ magnitude_of l → r ≡ Some m → m ≤ 0 → None ≡ negative_of l
unfolding negative_of
negative_naught l r m e f b =
    let q = mag_is l r m e f in
    sym (rw (q.2, lt-leb 1 m (omega arith), and_false (is_whole l)))

weaker_false : (a b c : Bool) → (a && c) ≡ false → (a && b && c) ≡ false
weaker_false true true c h = h
weaker_false true false c h = refl
weaker_false false b c h = refl

pub negative_none : (l : List ℕ) (z : Bool) (r : Option ℕ) → (length l ≡ 0 → ⊥) → z ≡ leading_zero l → z ≡ false → r ≡ magnitude_of l → r ≡ None → None ≡ negative_of l
unfolding negative_of
negative_none l z r h p k e f =
    sym (rw (whole_digits l h (sym p ∙ k), weaker_false (all is_digit l) (leb 1 (digits_after 0 l)) (leb (digits_after 0 l) 2147483648) (mag_none l r e f)))

pub number_empty : (l : List ℕ) → length l ≡ 0 → None ≡ number_of l
unfolding number_of is_number
number_empty [] h = refl
number_empty (b ∷ l) h = absurd (omega arith)

cond-cond : (b : Bool) (p q : Bool) (m n : ℕ) → cond (cond b p q) (Some (cond b m n)) None ≡ cond b (cond p (Some m) None) (cond q (Some n) None)
cond-cond true p q m n = refl
cond-cond false p q m n = refl

number_cons : (b : ℕ) (l : List ℕ) → number_of (b ∷ l) ≡ cond (eqb b 45) (negative_of l) (positive_of (b ∷ l))
unfolding number_of is_number value_of negative_of positive_of
number_cons b l =
    cond-cond (eqb b 45) (is_whole l && leb 1 (digits_after 0 l) && leb (digits_after 0 l) 2147483648) (is_whole (b ∷ l) && leb (digits_after 0 (b ∷ l)) 2147483647)
    (2147483648 - digits_after 0 l)
    (2147483648 + digits_after 0 (b ∷ l))

pub number_negative : (l : List ℕ) (r : Option ℕ) → (length l ≡ 0 → ⊥) → get_or l 0 0 ≡ 45 → r ≡ negative_of (take (length l - 1) (drop 1 l)) → r ≡ number_of l
number_negative [] r h e p = absurd (h refl)
number_negative (b ∷ l) r h e p = p ∙ ap negative_of (take_all (length (b ∷ l) - 1) l (omega arith)) ∙ sym (number_cons b l ∙ rw (eq-eqb b 45 e))

pub number_positive : (l : List ℕ) (r : Option ℕ) → (length l ≡ 0 → ⊥) → (get_or l 0 0 ≡ 45 → ⊥) → r ≡ positive_of l → r ≡ number_of l
number_positive [] r h e p = absurd (h refl)
number_positive (b ∷ l) r h e p = p ∙ sym (number_cons b l ∙ rw (ne_eqb b 45 e))
