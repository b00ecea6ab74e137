-- The rule of the gain table: `entry n` meets it, no other number does, the entries rise and stay below 2^44, and none is more than a 32nd above the one before.
use mathlib.Core.Path.{◌≡◌, sym, ap, ◌∙◌, subst}
use mathlib.Core.Bool.{Bool, true, false, cond, not}
use mathlib.Core.List.{List}
use Prim.Native.Nat.{ℕ, zero, suc, ◌+◌, ◌-◌, ◌*◌, ◌^◌, ◌≤◌, ◌<◌, zero-le}
use native.Mathlib.Nat.{le_trans, le_of_eq, lt_of_le_of_lt, lt_of_lt_of_le, le_antisymm, le_of_suc-le-suc, lt_of_not-le, mul-le-mul_left, mul-le-mul_right, mul-lt-mul_of_pos_left, mul-lt-mul_of_pos_right, mul-one, mul_assoc, mul-mul-mul_comm, pow-zero, pow-succ', pow-le-pow_left, pow-le-pow_right, zero-mul, two-pow-succ, add_assoc, lt_irrefl, le_of_lt}
use native.Mathlib.Numerals.{add-one}
use native.Mathlib.Omega.{arith}
use lib.Dec.{T, leb→le, le→leb, nleb→lt, T_not, lit<, lit≤}
use lib.Arith.{lt→nleb}
use lib.Pow.{pow-add}
use lib.IntN.{pos}
use lib.ListN.{get_or}
use lib.Ieee.{binary64, in_float}
use Rattle.gain_table.specs.GainTable.{at_most, IsEntry, digits, entry, entries, IsGainTable}

-- ---- the test

-- a number below one that passes passes
at_most_below : (n r s : ℕ) → r ≤ s → T (at_most n s) → T (at_most n r)
unfolding at_most
at_most_below n r s h t =
    le→leb (r ^ 320 * 10 ^ (960 - n)) (2 ^ 12800 * 10 ^ (n - 960))
    (le_trans (mul-le-mul_right (10 ^ (960 - n)) (pow-le-pow_left h 320)) (leb→le (s ^ 320 * 10 ^ (960 - n)) (2 ^ 12800 * 10 ^ (n - 960)) t))

-- what passes lies below what does not
at_most_lt : (n r s : ℕ) → T (at_most n r) → T (not (at_most n s)) → r < s
at_most_lt n r s t u = lt_of_not-le (λ (h : s ≤ r). T_not (at_most n s) u (at_most_below n s r h t))

zero_passes : (n : ℕ) → T (at_most n 0)
unfolding at_most
zero_passes n = le→leb (0 ^ 320 * 10 ^ (960 - n)) (2 ^ 12800 * 10 ^ (n - 960)) (le_trans (le_of_eq (zero-mul (10 ^ (960 - n)))) zero-le)

-- ---- the rule

-- it determines the entry
pub is_entry_unique : (n r s : ℕ) → IsEntry n r → IsEntry n s → r ≡ s
is_entry_unique n r s p q =
    le_antisymm (le_of_suc-le-suc (at_most_lt n r (suc s) p.not_above q.largest)) (le_of_suc-le-suc (at_most_lt n s (suc r) q.not_above p.largest))

digit : (n b r : ℕ) (t : Bool) → (T t → T (at_most n (r + 2 ^ b))) → (T (not t) → T (not (at_most n (r + 2 ^ b))))
    → T (at_most n r) → T (not (at_most n (r + 2 ^ suc b)))
    → T (at_most n (cond t (r + 2 ^ b) r)) × T (not (at_most n (cond t (r + 2 ^ b) r + 2 ^ b)))
digit n b r true passed failed low high =
    (passed tt, subst (λ (x : ℕ). T (not (at_most n x))) (ap (λ (x : ℕ). r + x) (two-pow-succ b) ∙ sym (add_assoc r (2 ^ b) (2 ^ b))) high)
digit n b r false passed failed low high = (low, failed tt)

id_T : (b : Bool) → T b → T b
id_T b t = t

digits_rule : (n b r : ℕ) → T (at_most n r) → T (not (at_most n (r + 2 ^ b))) → IsEntry n (digits n b r)
unfolding digits
digits_rule n zero r low high = record { not_above = low; largest = subst (λ (x : ℕ). T (not (at_most n x))) (add-one r) high }
digits_rule n (suc b) r low high =
    let t = at_most n (r + 2 ^ b) in
    let both = digit n b r t (id_T t) (id_T (not t)) low high in
    digits_rule n b (cond t (r + 2 ^ b) r) both.0 both.1

-- what is above 2^40 * 10^(k / 320) is above every entry up to the place of k
passes_none : (n k r : ℕ) → n ≤ 960 + k → 2 ^ 12800 * 10 ^ k < r ^ 320 → T (not (at_most n r))
unfolding at_most
passes_none n k r h l =
    lt→nleb (r ^ 320 * 10 ^ (960 - n)) (2 ^ 12800 * 10 ^ (n - 960))
    (lt_of_le_of_lt (mul-le-mul_left (2 ^ 12800) (pow-le-pow_right {n = 10} (lit< tt) {i = n - 960} {j = k} (omega arith)))
    (lt_of_lt_of_le l (le_trans (le_of_eq (sym (mul-one (r ^ 320)))) (mul-le-mul_left (r ^ 320) (pow-le-pow_right {n = 10} (lit< tt) {i = 0} {j = 960 - n} (omega arith))))))

-- 10 ^ 384 is below 2 ^ 1280, so 2 ^ 44 is above every entry
ceiling : (n : ℕ) → n < entries → T (not (at_most n (2 ^ 44)))
ceiling n h = passes_none n 384 (2 ^ 44) (omega arith) (lit< tt)

pub entry_rule : (n : ℕ) → n < entries → IsEntry n (entry n)
unfolding entry
entry_rule n h = digits_rule n 44 0 (zero_passes n) (ceiling n h)

-- ---- the entries

pub entry_below_lem : (n : ℕ) → n < entries → entry n < 2 ^ 44
entry_below_lem n h = at_most_lt n (entry n) (2 ^ 44) (entry_rule n h).not_above (ceiling n h)

pub entry_under : (n k r : ℕ) → n < entries → n ≤ 960 + k → 2 ^ 12800 * 10 ^ k < r ^ 320 → entry n < r
entry_under n k r h l u = at_most_lt n (entry n) r (entry_rule n h).not_above (passes_none n k r l u)

-- ten times as much is allowed at the next place
next_passes : (n r : ℕ) → T (at_most n r) → T (at_most (suc n) r)
unfolding at_most
next_passes n r t =
    le→leb (r ^ 320 * 10 ^ (960 - suc n)) (2 ^ 12800 * 10 ^ (suc n - 960))
    (le_trans (mul-le-mul_left (r ^ 320) (pow-le-pow_right {n = 10} (lit< tt) {i = 960 - suc n} {j = 960 - n} (omega arith)))
    (le_trans (leb→le (r ^ 320 * 10 ^ (960 - n)) (2 ^ 12800 * 10 ^ (n - 960)) t)
    (mul-le-mul_left (2 ^ 12800) (pow-le-pow_right {n = 10} (lit< tt) {i = n - 960} {j = suc n - 960} (omega arith)))))

pub entry_rises : (n : ℕ) → suc n < entries → entry n ≤ entry (suc n)
entry_rises n h =
    le_of_suc-le-suc
    (at_most_lt (suc n) (entry n) (suc (entry (suc n))) (next_passes n (entry n) (entry_rule n (omega arith)).not_above) (entry_rule (suc n) h).largest)

-- ---- from one entry to the next: at most a 32nd more, but for what is cut off, since (33/32)^320 is above 10

mul_pow : (a b n : ℕ) → (a * b) ^ n ≡ a ^ n * b ^ n
mul_pow a b zero = simp pow-zero
mul_pow a b (suc n) =
    pow-succ' (a * b) n
    ∙ ap (λ (z : ℕ). a * b * z) (mul_pow a b n)
    ∙ mul-mul-mul_comm a b (a ^ n) (b ^ n)
    ∙ sym (ap (λ (z : ℕ). z * b ^ suc n) (pow-succ' a n) ∙ ap (λ (z : ℕ). a * a ^ n * z) (pow-succ' b n))

-- P and Q are the powers of ten at a place, P' and Q' those at the next; A and B are powers of the two numbers, L and H of 32 and 33
short : (A B L H C P Q P' Q' : ℕ) → 0 < L * 10 → 0 < P' → L * 10 ≤ H → P * Q' ≡ 10 * (Q * P') → A * P' ≤ C * Q' → C * Q < B * P → H * B ≤ L * A → ⊥
short A B L H C P Q P' Q' l p t e h u k =
    lt_irrefl (H * B * (P * P'))
    (lt_of_le_of_lt (le_trans (mul-le-mul_right (P * P') k) (le_trans (le_of_eq (mul-mul-mul_comm L A P P')) (le_trans (mul-le-mul_left (L * P) h) (le_of_eq moved))))
    (lt_of_lt_of_le (mul-lt-mul_of_pos_left (mul-lt-mul_of_pos_right u p) l) (le_trans (mul-le-mul_right (B * P * P') t) (le_of_eq (ap (λ (z : ℕ). H * z) (mul_assoc B P P') ∙ sym (mul_assoc H B (P * P')))))))
  where
    moved : L * P * (C * Q') ≡ L * 10 * (C * Q * P')
    moved =
        mul-mul-mul_comm L P C Q'
        ∙ ap (λ (z : ℕ). L * C * z) e
        ∙ mul-mul-mul_comm L C 10 (Q * P')
        ∙ ap (λ (z : ℕ). L * 10 * z) (sym (mul_assoc C Q P'))

powers_meet : (n : ℕ) → 10 ^ (960 - n) * 10 ^ (suc n - 960) ≡ 10 * (10 ^ (n - 960) * 10 ^ (960 - suc n))
powers_meet n =
    sym (pow-add 10 (960 - n) (suc n - 960))
    ∙ ap (λ (z : ℕ). 10 ^ z) {x = 960 - n + (suc n - 960)} {y = suc (n - 960 + (960 - suc n))} (omega arith)
    ∙ pow-succ' 10 (n - 960 + (960 - suc n))
    ∙ ap (λ (z : ℕ). 10 * z) (pow-add 10 (n - 960) (960 - suc n))

grows : (n a b : ℕ) → T (at_most (suc n) a) → T (not (at_most n b)) → 32 * a < 33 * b
unfolding at_most
grows n a b t u =
    lt_of_not-le
    (λ (h : 33 * b ≤ 32 * a).
    short (a ^ 320) (b ^ 320) (32 ^ 320) (33 ^ 320) (2 ^ 12800) (10 ^ (960 - n)) (10 ^ (n - 960)) (10 ^ (960 - suc n)) (10 ^ (suc n - 960)) (lit< tt) (pow_pos_ten (960 - suc n)) (lit≤ tt) (powers_meet n)
    (leb→le (a ^ 320 * 10 ^ (960 - suc n)) (2 ^ 12800 * 10 ^ (suc n - 960)) t)
    (nleb→lt (b ^ 320 * 10 ^ (960 - n)) (2 ^ 12800 * 10 ^ (n - 960)) u)
    (le_trans (le_of_eq (sym (mul_pow 33 b 320))) (le_trans (pow-le-pow_left h 320) (le_of_eq (mul_pow 32 a 320)))))
  where
    pow_pos_ten : (k : ℕ) → 0 < 10 ^ k
    pow_pos_ten k = pow-le-pow_right {n = 10} (lit< tt) {i = 0} {j = k} (omega arith)

pub entry_grows : (n : ℕ) → suc n < entries → 32 * entry (suc n) ≤ 33 * entry n + 33
entry_grows n h =
    let least : 32 * entry (suc n) < 33 * suc (entry n) = grows n (entry (suc n)) (suc (entry n)) (entry_rule (suc n) h).not_above (entry_rule n (omega arith)).largest in
    omega arith

-- a gain table has the entries
pub table_entry : (l : List ℕ) → IsGainTable l → (n : ℕ) → n < entries → get_or l n 0 ≡ entry n
table_entry l t n h = is_entry_unique n (get_or l n 0) (entry n) (t.rule n h) (entry_rule n h)

-- an entry is a whole number that f64 holds
pub entry_in_float : (l : List ℕ) → IsGainTable l → (n : ℕ) → n < entries → T (in_float binary64 (pos (get_or l n 0)))
unfolding in_float
entry_in_float l t n h = le→leb (get_or l n 0) (2 ^ 53) (le_trans (le_of_eq (table_entry l t n h)) (le_trans (le_of_lt (entry_below_lem n h)) (lit≤ tt)))
