-- Lists put together piece by piece, and a buffer whose pieces are written in turn: `done` holds what is written, and the rest is what stood there.
--   a buffer written from its start on:     the invariant is `now ≡ begun (pieces f i) l`, with `begun_zero`, `begun_next` and `begun_end`
--   elements written from a place on:       the invariant is `now ≡ put_at at (pieces (λ j. f j ∷ []) i) l`, with `put_zero` and `put_next`
-- Assumes nothing.
use mathlib.Core.Path.{◌≡◌, refl, sym, ap, ap₂, ◌∙◌, subst}
use mathlib.Core.List.{List, [], ◌∷◌, ◌++◌, append_assoc, append-nil}
use Prim.Native.Nat.{ℕ, zero, suc, ◌+◌, ◌-◌, ◌*◌, ◌≤◌, ◌<◌}
use native.Mathlib.Nat.{le_refl, le_trans, le-suc, add-zero, mul-one}
use native.Mathlib.Numerals.{add-one}
use native.Mathlib.Omega.{arith}
use lib.ListN.{length, take, drop, set, length-append, length-take, length-drop, drop_of_length-le, take-append-drop}
use lib.Seq.{length-take-le, take-append_seam, drop-append-add, drop-drop, set_split}
use Rattle.laws.proofs.laws.Loop.{upto_zero, upto-suc, upto_next, upto_cong}
use Rattle.laws.specs.Pieces.{pieces, put_at, begun}

-- ---- pieces

module _ {ℓ} {A : Type ℓ} where
  pub pieces_zero : (f : ℕ → List A) → pieces f 0 ≡ []
  unfolding pieces
  pieces_zero f = upto_zero (λ i l. l ++ f i) []

  pub pieces-suc : (f : ℕ → List A) (n : ℕ) → pieces f (suc n) ≡ pieces f n ++ f n
  unfolding pieces
  pieces-suc f n = upto-suc (λ i l. l ++ f i) n []

  pub pieces_next : (f : ℕ → List A) (n : ℕ) → pieces f (n + 1) ≡ pieces f n ++ f n
  unfolding pieces
  pieces_next f n = upto_next (λ i l. l ++ f i) n []

  pub pieces_cong : (f g : ℕ → List A) (n : ℕ) → ((i : ℕ) → i < n → f i ≡ g i) → pieces f n ≡ pieces g n
  unfolding pieces
  pieces_cong f g n h = upto_cong (λ i l. l ++ f i) (λ i l. l ++ g i) n [] (λ i k x. ap (λ (p : List A). x ++ p) (h i k))

  -- n pieces of m elements each
  pub length-pieces : (f : ℕ → List A) (m n : ℕ) → ((i : ℕ) → i < n → length (f i) ≡ m) → length (pieces f n) ≡ n * m
  length-pieces f m zero h = ap length (pieces_zero f) ∙ omega arith
  length-pieces f m (suc n) h =
      ap length (pieces-suc f n)
      ∙ length-append (pieces f n) (f n)
      ∙ ap₂ ◌+◌ (length-pieces f m n (λ i k. h i (le_trans k (le-suc n)))) (h n (le_refl (suc n)))
      ∙ omega arith

  pub length_elements : (f : ℕ → A) (n : ℕ) → length (pieces (λ j. f j ∷ []) n) ≡ n
  length_elements f n = length-pieces (λ j. f j ∷ []) 1 n (λ i h. refl) ∙ mul-one n

-- ---- a piece put in

module _ {ℓ} {A : Type ℓ} where
  pub put_nil : (at : ℕ) (l : List A) → put_at at [] l ≡ l
  unfolding put_at
  put_nil at l = ap (λ (k : ℕ). take at l ++ drop k l) (add-zero at) ∙ take-append-drop at l

  pub length_put : (at : ℕ) (p l : List A) → at + length p ≤ length l → length (put_at at p l) ≡ length l
  unfolding put_at
  length_put at p l h = simp (length-append, length-take, length-drop) (omega arith)

  -- one element is a piece
  pub set_put : (l : List A) (i : ℕ) (x : A) → i < length l → set l i x ≡ put_at i (x ∷ []) l
  unfolding put_at
  set_put l i x h = set_split l i x h ∙ ap (λ (k : ℕ). take i l ++ (x ∷ drop k l)) (sym (add-one i))

  -- a part that is lent and comes back, as the language has it (`put_mid`): k elements from a place on
  pub part_put : (at k : ℕ) (p l : List A) → length p ≡ k → take at l ++ (p ++ drop k (drop at l)) ≡ put_at at p l
  unfolding put_at
  part_put at k p l h = ap (λ (r : List A). take at l ++ (p ++ r)) (drop-drop k at l ∙ ap (λ (n : ℕ). drop (at + n) l) (sym h))

  pub length_part : (at n : ℕ) (l : List A) → at + n ≤ length l → length (take (at + n - at) (drop at l)) ≡ n
  length_part at n l h = simp (length-take, length-drop) (omega arith)

-- ---- a buffer that is begun

module _ {ℓ} {A : Type ℓ} where
  pub begun_nil : (l : List A) → begun [] l ≡ l
  unfolding begun
  begun_nil l = refl

  -- all of it is written
  pub begun_all : (done l : List A) → length done ≡ length l → begun done l ≡ done
  unfolding begun
  begun_all done l h = ap (λ (r : List A). done ++ r) (drop_of_length-le l {i = length done} (omega arith)) ∙ append-nil done

  pub length-begun : (done l : List A) → length done ≤ length l → length (begun done l) ≡ length l
  unfolding begun
  length-begun done l h = simp (length-append, length-drop) (omega arith)

  begun_put : (done piece l : List A) → put_at (length done) piece (begun done l) ≡ begun (done ++ piece) l
  unfolding begun put_at
  begun_put done piece l =
      ap₂ ◌++◌ (take-append_seam done (drop (length done) l))
      (ap (λ (r : List A). piece ++ r)
      (drop-append-add done (drop (length done) l) (length piece) ∙ drop-drop (length piece) (length done) l ∙ ap (λ (k : ℕ). drop k l) (sym (length-append done piece))))
      ∙ sym (append_assoc done piece (drop (length (done ++ piece)) l))

  -- the next piece
  pub begun_turn : (done piece l : List A) {at : ℕ} {now : List A} → now ≡ begun done l → at ≡ length done → put_at at piece now ≡ begun (done ++ piece) l
  begun_turn done piece l e h = ap₂ (λ (k : ℕ) (r : List A). put_at k piece r) h e ∙ begun_put done piece l

  -- a piece that is itself written bit by bit
  length_placed : (at : ℕ) (p l : List A) → at ≤ length l → length (take at l ++ p) ≡ at + length p
  length_placed at p l h = length-append (take at l) p ∙ ap (λ (k : ℕ). k + length p) (length-take-le at l h)

  put_begun : (at : ℕ) (p l : List A) → at ≤ length l → put_at at p l ≡ begun (take at l ++ p) l
  unfolding put_at begun
  put_begun at p l h = sym (append_assoc (take at l) p (drop (at + length p) l)) ∙ ap (λ (k : ℕ). (take at l ++ p) ++ drop k l) (sym (length_placed at p l h))

  pub put_turn : (at : ℕ) (p q l : List A) {place : ℕ} {now : List A} → at ≤ length l → now ≡ put_at at p l → place ≡ at + length p → put_at place q now ≡ put_at at (p ++ q) l
  put_turn at p q l h e r =
      begun_turn (take at l ++ p) q l (e ∙ put_begun at p l h) (r ∙ sym (length_placed at p l h))
      ∙ ap (λ (d : List A). begun d l) (append_assoc (take at l) p q)
      ∙ sym (put_begun at (p ++ q) l h)

-- ---- loops: before the first turn, from one turn to the next, and after the last

module _ {ℓ} {A : Type ℓ} where
  pub begun_zero : (f : ℕ → List A) (l : List A) → l ≡ begun (pieces f 0) l
  begun_zero f l = sym (ap (λ (d : List A). begun d l) (pieces_zero f) ∙ begun_nil l)

  pub begun_next : (f : ℕ → List A) (i : ℕ) (l : List A) {at : ℕ} {p now last : List A} → now ≡ begun (pieces f i) l → at ≡ length (pieces f i) → p ≡ f i → last ≡ put_at at p now → last ≡ begun (pieces f (i + 1)) l
  begun_next f i l {at} {p} {now} e h is q =
      q
      ∙ ap (λ (x : List A). put_at at x now) is
      ∙ begun_turn (pieces f i) (f i) l e h
      ∙ ap (λ (d : List A). begun d l) (sym (pieces_next f i))

  pub begun_end : (f : ℕ → List A) (l : List A) {i n : ℕ} {now : List A} → i ≡ n → length (pieces f n) ≡ length l → now ≡ begun (pieces f i) l → now ≡ pieces f n
  begun_end f l {i} {n} h len e = e ∙ ap (λ (k : ℕ). begun (pieces f k) l) h ∙ begun_all (pieces f n) l len

  pub put_zero : (f : ℕ → List A) (at : ℕ) (l : List A) → l ≡ put_at at (pieces f 0) l
  put_zero f at l = sym (ap (λ (p : List A). put_at at p l) (pieces_zero f) ∙ put_nil at l)

  pub put_next : (f : ℕ → A) (at i : ℕ) (l : List A) {x : A} {now : List A} → at + i < length l → length now ≡ length l → now ≡ put_at at (pieces (λ j. f j ∷ []) i) l → x ≡ f i → set now (at + i) x ≡ put_at at (pieces (λ j. f j ∷ []) (i + 1)) l
  put_next f at i l {x} {now} h len e is =
      set_put now (at + i) x (subst (λ (n : ℕ). at + i < n) (sym len) h)
      ∙ ap (λ (y : A). put_at (at + i) (y ∷ []) now) is
      ∙ put_turn at (pieces (λ j. f j ∷ []) i) (f i ∷ []) l (omega arith) e (ap (λ (k : ℕ). at + k) (sym (length_elements f i)))
      ∙ ap (λ (p : List A). put_at at p l) (sym (pieces_next (λ j. f j ∷ []) i))
