-- Samples one after another: sums, the largest, the first of a magnitude, and all in range. Assumes nothing.
use mathlib.Core.Path.{◌≡◌, refl, sym, ap, ◌∙◌}
use mathlib.Core.Bool.{Bool, true, false, cond, ◌&&◌}
use mathlib.Core.List.{List, [], ◌∷◌, ◌++◌}
use Prim.Native.Nat.{ℕ, zero, suc, ◌+◌, ◌*◌, ◌/◌, ◌≤◌, ◌<◌, max}
use native.Mathlib.Numerals.{add-one}
use native.Mathlib.Omega.{arith}
use native.Mathlib.Decide.{dec_lt}
use borrow.Author.Tests.{eq-eqb, ne_eqb}
use lib.ListN.{length, drop, get_or, drop_of_length-le, get_or-append}
use lib.Seq.{drop-cons, get_or_at}
use Rattle.laws.specs.Pieces.{pieces}
use Rattle.laws.proofs.laws.Pieces.{pieces_zero, pieces-suc, pieces_next, length_elements}
use Rattle.laws.proofs.laws.Choice.{and_left, and_right}
use Rattle.month.specs.Month.{sample_in, magnitude, all_in, sum_of}
use Rattle.month.specs.Piece.{words_of, largest, first_of}
use Rattle.byte_order.specs.declared.bytes.ByteOrder.TheVariants.{Little}
use Rattle.byte_order.specs.Bytes.{number_at}

pub and_assoc : (a b c : Bool) → a && (b && c) ≡ (a && b) && c
and_assoc true b c = refl
and_assoc false b c = refl

-- ---- two lists

pub sum_append : (f : ℕ → ℕ) (a b : List ℕ) → sum_of f (a ++ b) ≡ sum_of f a + sum_of f b
unfolding sum_of
sum_append f [] b = omega arith
sum_append f (w ∷ a) b = omega (arith, sum_append f a b)

pub sum_most : (f : ℕ → ℕ) (k : ℕ) (a : List ℕ) → ((w : ℕ) → f w ≤ k) → sum_of f a ≤ length a * k
unfolding sum_of
sum_most f k [] h = omega arith
sum_most f k (w ∷ a) h = omega (arith, sum_most f k a h, h w)

pub largest_append : (a b : List ℕ) → largest (a ++ b) ≡ max (largest a) (largest b)
unfolding largest
largest_append [] b = omega arith
largest_append (w ∷ a) b = omega (arith, largest_append a b)

pub in_append : (a b : List ℕ) → all_in (a ++ b) ≡ all_in a && all_in b
unfolding all_in
in_append [] b = refl
in_append (w ∷ a) b = ap (λ (t : Bool). sample_in w && t) (in_append a b) ∙ and_assoc (sample_in w) (all_in a) (all_in b)

-- ---- elements in turn

elements_at : (h : ℕ → ℕ) (n i : ℕ) → i < n → get_or (pieces (λ j. h j ∷ []) n) i 0 ≡ h i
elements_at h zero i l = absurd (omega arith)
elements_at h (suc n) i l =
    ap (λ (s : List ℕ). get_or s i 0) (pieces-suc (λ j. h j ∷ []) n)
    ∙ elim (dec_lt i n) [
      | yes k ↦ get_or-append (pieces (λ j. h j ∷ []) n) (h n ∷ []) 0 i (omega (arith, length_elements h n)) ∙ elements_at h n i k
      | no k ↦ get_or_at (pieces (λ j. h j ∷ []) n) (h n) [] 0 i (omega (arith, length_elements h n)) ∙ ap h (omega arith)
    ]

module _ (h : ℕ → ℕ) where
  pub sum_zero : (f : ℕ → ℕ) → 0 ≡ sum_of f (pieces (λ j. h j ∷ []) 0)
  unfolding sum_of
  sum_zero f = sym (ap (sum_of f) (pieces_zero (λ j. h j ∷ [])))

  pub sum_next : (f : ℕ → ℕ) (i : ℕ) {s x : ℕ} → s ≡ sum_of f (pieces (λ j. h j ∷ []) i) → x ≡ f (h i) → s + x ≡ sum_of f (pieces (λ j. h j ∷ []) (i + 1))
  unfolding sum_of
  sum_next f i e g = omega (arith, e, g, ap (sum_of f) (pieces_next (λ j. h j ∷ []) i), sum_append f (pieces (λ j. h j ∷ []) i) (h i ∷ []))

  pub largest_zero : 0 ≡ largest (pieces (λ j. h j ∷ []) 0)
  unfolding largest
  largest_zero = sym (ap largest (pieces_zero (λ j. h j ∷ [])))

  pub largest_next : (i : ℕ) {s x r : ℕ} → s ≡ largest (pieces (λ j. h j ∷ []) i) → x ≡ magnitude (h i) → r ≡ max s x → r ≡ largest (pieces (λ j. h j ∷ []) (i + 1))
  unfolding largest
  largest_next i e g k = omega (arith, e, g, k, ap largest (pieces_next (λ j. h j ∷ []) i), largest_append (pieces (λ j. h j ∷ []) i) (h i ∷ []))

  -- the first of a magnitude, by what is left
  module _ (n m : ℕ) where
    pub first_zero : first_of m (pieces (λ j. h j ∷ []) n) ≡ 0 + first_of m (drop 0 (pieces (λ j. h j ∷ []) n))
    first_zero = omega arith

    left : (i : ℕ) → i < n → drop i (pieces (λ j. h j ∷ []) n) ≡ h i ∷ drop (suc i) (pieces (λ j. h j ∷ []) n)
    left i l = drop-cons (pieces (λ j. h j ∷ []) n) i 0 (omega (arith, length_elements h n)) ∙ ap (λ (w : ℕ). w ∷ drop (suc i) (pieces (λ j. h j ∷ []) n)) (elements_at h n i l)

    pub first_here : (i : ℕ) {x : ℕ} → i < n → x ≡ magnitude (h i) → x ≡ m → first_of m (pieces (λ j. h j ∷ []) n) ≡ i + first_of m (drop i (pieces (λ j. h j ∷ []) n)) → i ≡ first_of m (pieces (λ j. h j ∷ []) n)
    unfolding first_of
    first_here i l e g inv =
        omega (arith, inv, ap (first_of m) (left i l), ap (λ (b : Bool). cond b 0 (suc (first_of m (drop (suc i) (pieces (λ j. h j ∷ []) n))))) (eq-eqb (magnitude (h i)) m (sym e ∙ g)))

    pub first_later : (i : ℕ) {x : ℕ} → i < n → x ≡ magnitude (h i) → (x ≡ m → ⊥) → first_of m (pieces (λ j. h j ∷ []) n) ≡ i + first_of m (drop i (pieces (λ j. h j ∷ []) n))
        → first_of m (pieces (λ j. h j ∷ []) n) ≡ (i + 1) + first_of m (drop (i + 1) (pieces (λ j. h j ∷ []) n))
    unfolding first_of
    first_later i l e g inv =
        omega (arith, inv, ap (first_of m) (left i l), ap (λ (b : Bool). cond b 0 (suc (first_of m (drop (suc i) (pieces (λ j. h j ∷ []) n))))) (ne_eqb (magnitude (h i)) m (λ k. g (e ∙ k))), ap (λ (k : ℕ). first_of m (drop k (pieces (λ j. h j ∷ []) n))) (add-one i))

    pub first_none : (i : ℕ) → i ≡ n → first_of m (pieces (λ j. h j ∷ []) n) ≡ i + first_of m (drop i (pieces (λ j. h j ∷ []) n)) → i ≡ first_of m (pieces (λ j. h j ∷ []) n)
    unfolding first_of
    first_none i e inv = omega (arith, inv, ap (first_of m) (drop_of_length-le (pieces (λ j. h j ∷ []) n) {i = i} (omega (arith, length_elements h n))))

  -- each of them is in range, where all are
  pub in_at : (n i : ℕ) → i < n → all_in (pieces (λ j. h j ∷ []) n) ≡ true → sample_in (h i) ≡ true
  unfolding all_in
  in_at zero i l e = absurd (omega arith)
  in_at (suc n) i l e =
      let both = sym (in_append (pieces (λ j. h j ∷ []) n) (h n ∷ [])) ∙ ap all_in (sym (pieces-suc (λ j. h j ∷ []) n)) ∙ e in
      elim (dec_lt i n) [
        | yes k ↦ in_at n i k (and_left _ _ both)
        | no k ↦ ap (λ (j : ℕ). sample_in (h j)) (omega arith) ∙ and_left _ _ (and_right (all_in (pieces (λ j. h j ∷ []) n)) _ both)
      ]

-- ---- the samples of some bytes

pub words_count : (bytes : List ℕ) → length (words_of bytes) ≡ length bytes / 4
unfolding words_of
words_count bytes = length_elements (λ i. number_at Little bytes (4 * i) 4) (length bytes / 4)
