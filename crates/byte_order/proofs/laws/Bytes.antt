-- Numbers in bytes: how many there are, and back from the bytes. Assumes nothing.
use mathlib.Core.Path.{◌≡◌, refl, sym, ap, ap₂, ◌∙◌, subst}
use mathlib.Core.List.{List, [], ◌∷◌, ◌++◌}
use Prim.Native.Nat.{ℕ, zero, suc, ◌+◌, ◌*◌, ◌/◌, ◌%◌, ◌^◌, ◌<◌}
use native.Mathlib.Nat.{zero-add, add_comm, mul-pos, pow-suc, mod-eq_of_lt, mul_comm, le_trans, le-suc, le_refl, mod-one}
use native.Mathlib.Numerals.{add-one}
use native.Mathlib.Omega.{arith}
use lib.Arith.{mod-mul}
use lib.ListN.{length, get_or, length-append, get_or-append}
use lib.Seq.{get_or-append_seam}
use Rattle.byte_order.specs.declared.bytes.ByteOrder.{ByteOrder}
use Rattle.byte_order.specs.declared.bytes.ByteOrder.TheVariants.{Little, Big}
use Rattle.byte_order.specs.Bytes.{number_at, bytes_of}

pub length_bytes : (order : ByteOrder) (n number : ℕ) → length (bytes_of order n number) ≡ n
unfolding bytes_of
length_bytes Little zero number = refl
length_bytes Little (suc n) number = length-append (bytes_of Little n number) _ ∙ ap (λ (x : ℕ). x + 1) (length_bytes Little n number) ∙ add-one n
length_bytes Big zero number = refl
length_bytes Big (suc n) number = length-append (bytes_of Big n (number / 256)) _ ∙ ap (λ (x : ℕ). x + 1) (length_bytes Big n (number / 256)) ∙ add-one n

-- ---- back from the bytes

-- bytes that agree from two places on are one number
pub number_same : (order : ByteOrder) (l m : List ℕ) (at to n : ℕ) → ((i : ℕ) → i < n → get_or l (at + i) 0 ≡ get_or m (to + i) 0) → number_at order l at n ≡ number_at order m to n
unfolding number_at
number_same Little l m at to zero h = refl
number_same Little l m at to (suc n) h =
    ap₂ (λ (x y : ℕ). x + y * 256 ^ n) (number_same Little l m at to n (λ i k. h i (le_trans k (le-suc n)))) (h n (le_refl (suc n)))
number_same Big l m at to zero h = refl
number_same Big l m at to (suc n) h =
    ap₂ (λ (x y : ℕ). x * 256 + y) (number_same Big l m at to n (λ i k. h i (le_trans k (le-suc n)))) (h n (le_refl (suc n)))

-- one byte more behind n others
last_byte : (l : List ℕ) (x n : ℕ) → length l ≡ n → get_or (l ++ (x ∷ [])) (0 + n) 0 ≡ x
last_byte l x n e = ap (λ (k : ℕ). get_or (l ++ (x ∷ [])) k 0) (zero-add n ∙ sym e) ∙ get_or-append_seam l x [] 0

first_bytes : (order : ByteOrder) (l : List ℕ) (x n : ℕ) → length l ≡ n → number_at order (l ++ (x ∷ [])) 0 n ≡ number_at order l 0 n
first_bytes order l x n e =
    number_same order (l ++ (x ∷ [])) l 0 0 n
    (λ i h. get_or-append l (x ∷ []) 0 (0 + i) (subst (λ (k : ℕ). 0 + i < k) (sym e) (subst (λ (k : ℕ). k < n) (sym (zero-add i)) h)))

weight_pos : (n : ℕ) → 0 < 256 ^ n
weight_pos zero = omega arith
weight_pos (suc n) = subst (λ (x : ℕ). 0 < x) (sym (pow-suc 256 n)) (mul-pos (weight_pos n) (omega arith))

kept_digits : (order : ByteOrder) (n number : ℕ) → number_at order (bytes_of order n number) 0 n ≡ number % 256 ^ n
unfolding number_at bytes_of
kept_digits Little zero number = sym (mod-one number)
kept_digits Little (suc n) number =
    let l = bytes_of Little n number in
    let x = number / 256 ^ n % 256 in
    ap₂ (λ (a b : ℕ). a + b * 256 ^ n) (first_bytes Little l x n (length_bytes Little n number) ∙ kept_digits Little n number) (last_byte l x n (length_bytes Little n number))
    ∙ add_comm (number % 256 ^ n) (x * 256 ^ n)
    ∙ sym (mod-mul number (omega arith) (weight_pos n))
    ∙ ap (λ (w : ℕ). number % w) (mul_comm 256 (256 ^ n) ∙ sym (pow-suc 256 n))
kept_digits Big zero number = sym (mod-one number)
kept_digits Big (suc n) number =
    let l = bytes_of Big n (number / 256) in
    let x = number % 256 in
    ap₂ (λ (a b : ℕ). a * 256 + b) (first_bytes Big l x n (length_bytes Big n (number / 256)) ∙ kept_digits Big n (number / 256)) (last_byte l x n (length_bytes Big n (number / 256)))
    ∙ sym (mod-mul number (weight_pos n) (omega arith))
    ∙ ap (λ (w : ℕ). number % w) (sym (pow-suc 256 n))

pub number_of_bytes : (order : ByteOrder) (n number : ℕ) → number < 256 ^ n → number_at order (bytes_of order n number) 0 n ≡ number
number_of_bytes order n number h = kept_digits order n number ∙ mod-eq_of_lt h
