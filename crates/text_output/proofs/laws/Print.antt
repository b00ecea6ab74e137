-- Laws of printing: how long each piece is, and one piece put after another. Assumes nothing.
use mathlib.Core.Path.{◌≡◌, refl, sym, ap, ◌∙◌, subst}
use mathlib.Core.Bool.{Bool, true, false, cond}
use mathlib.Core.List.{List, [], ◌∷◌, ◌++◌}
use Prim.Native.Nat.{ℕ, zero, suc, ◌+◌, ◌-◌, ◌*◌, ◌/◌, ◌%◌, ◌≤◌, ◌<◌}
use native.Mathlib.Omega.{arith}
use borrow.Author.Tests.{lt-ltb, le-ltb}
use lib.Dec.{ltb}
use lib.ListN.{length, take, drop, set, length-append}
use lib.Seq.{length-take-le}
use Rattle.laws.proofs.laws.Choice.{cond-true}
use Rattle.laws.specs.Pieces.{pieces, begun, put_at}
use Rattle.laws.proofs.laws.Pieces.{pieces_zero, pieces-suc, pieces_next, set_put, put_turn, begun_nil, begun_turn}
use Rattle.text_output.specs.Text.{decimal_within}

-- ---- one piece after another

module _ {ℓ} {A : Type ℓ} where
  pub put_then : (at : ℕ) (p q l : List A) {a r : ℕ} {now last : List A} → at ≤ length l → a ≡ at + length p → now ≡ put_at at p l → r ≡ a + length q → last ≡ put_at a q now
      → (r ≡ at + length (p ++ q)) × (last ≡ put_at at (p ++ q) l)
  put_then at p q l h e t f u = (omega (arith, e, f, length-append p q), u ∙ put_turn at p q l h t e)

  -- and one element
  pub put_last : (at : ℕ) (p l : List A) (x : A) {a : ℕ} {now : List A} → at ≤ length l → a < length now → a ≡ at + length p → now ≡ put_at at p l
      → (a + 1 ≡ at + length (p ++ (x ∷ []))) × (set now a x ≡ put_at at (p ++ (x ∷ [])) l)
  put_last at p l x {a} {now} h k e t = put_then at p (x ∷ []) l h e t refl (set_put now a x k)

  pub put_one : (at : ℕ) (l : List A) (x : A) {p : List A} → at < length l → p ≡ x ∷ [] → (at + 1 ≡ at + length p) × (set l at x ≡ put_at at p l)
  put_one at l x h e = (ap (λ (q : List A). at + length q) (sym e), set_put l at x h ∙ ap (λ (q : List A). put_at at q l) (sym e))

  -- the next of many pieces
  pub put_piece : (f : ℕ → List A) (at i : ℕ) (l : List A) {a r : ℕ} {now last : List A} → at ≤ length l → a ≡ at + length (pieces f i) → now ≡ put_at at (pieces f i) l
      → (r ≡ a + length (f i)) × (last ≡ put_at a (f i) now) → (r ≡ at + length (pieces f (i + 1))) × (last ≡ put_at at (pieces f (i + 1)) l)
  put_piece f at i l {r = r} {last = last} h e t u =
      subst (λ (p : List A). (r ≡ at + length p) × (last ≡ put_at at p l)) (sym (pieces_next f i)) (put_then at (pieces f i) (f i) l h e t u.0 u.1)

  pub pieces_most : (f : ℕ → List A) (m n : ℕ) → ((i : ℕ) → length (f i) ≤ m) → length (pieces f n) ≤ n * m
  pieces_most f m zero h = omega (arith, ap length (pieces_zero f))
  pieces_most f m (suc n) h = omega (arith, ap length (pieces-suc f n), length-append (pieces f n) (f n), pieces_most f m n h, h n)

  -- from the start on
  pub put_start : (p l : List A) → put_at 0 p l ≡ begun p l
  put_start p l = begun_turn [] p l (sym (begun_nil l)) refl

-- ---- a decimal number

pub decimal_zero : (steps n : ℕ) → steps ≡ 0 → decimal_within steps n ≡ (48 + n % 10) ∷ []
unfolding decimal_within
decimal_zero steps n e = ap (λ (s : ℕ). decimal_within s n) e

pub decimal_short : (steps n : ℕ) → (steps ≡ 0 → ⊥) → n < 10 → decimal_within steps n ≡ (48 + n) ∷ []
unfolding decimal_within
decimal_short zero n h l = absurd (h refl)
decimal_short (suc steps) n h l = cond-true (ltb n 10) _ _ (lt-ltb n 10 l)

pub decimal_long : (steps n : ℕ) → (steps ≡ 0 → ⊥) → 10 ≤ n → decimal_within steps n ≡ decimal_within (steps - 1) (n / 10) ++ ((48 + n % 10) ∷ [])
unfolding decimal_within
decimal_long zero n h l = absurd (h refl)
decimal_long (suc steps) n h l =
    ap (λ (b : Bool). cond b ((48 + n) ∷ []) (decimal_within steps (n / 10) ++ ((48 + n % 10) ∷ []))) (le-ltb n 10 l)
    ∙ ap (λ (k : ℕ). decimal_within k (n / 10) ++ ((48 + n % 10) ∷ [])) (less steps)
  where
    less : (k : ℕ) → k ≡ suc k - 1
    less k = omega arith

pub decimal_length : (steps n : ℕ) → length (decimal_within steps n) ≤ steps + 1
unfolding decimal_within
decimal_length zero n = omega arith
decimal_length (suc steps) n = go (ltb n 10) (decimal_within steps (n / 10)) (decimal_length steps (n / 10))
  where
    go : (b : Bool) (l : List ℕ) → length l ≤ steps + 1 → length (cond b ((48 + n) ∷ []) (l ++ ((48 + n % 10) ∷ []))) ≤ suc steps + 1
    go true l h = omega arith
    go false l h = omega (arith, length-append l ((48 + n % 10) ∷ []))

pub number_length : (steps n after : ℕ) → length (decimal_within steps n ++ (after ∷ [])) ≤ steps + 2
number_length steps n after = omega (arith, length-append (decimal_within steps n) (after ∷ []), decimal_length steps n)

-- ---- the whole text

-- a piece from the start on, and one after it
pub begun_then : (p q l : List ℕ) {a r : ℕ} {now last : List ℕ} → (a ≡ 0 + length p) × (now ≡ put_at 0 p l) → (r ≡ a + length q) × (last ≡ put_at a q now)
    → (r ≡ length (p ++ q)) × (last ≡ begun (p ++ q) l)
begun_then p q l e f =
    let both = put_then 0 p q l (omega arith) e.0 e.1 f.0 f.1 in
    (omega (arith, both.0), both.1 ∙ put_start (p ++ q) l)

-- what is printed, by another name
pub same_text : (l : List ℕ) {p q last : List ℕ} {r : ℕ} → p ≡ q → (r ≡ length p) × (last ≡ begun p l) → (r ≡ length q) × (last ≡ begun q l)
same_text l {last = last} {r = r} e f = subst (λ (t : List ℕ). (r ≡ length t) × (last ≡ begun t l)) e f

-- what was put to the start of a buffer is within it
pub begun_within : (p l : List ℕ) {last : List ℕ} {r : ℕ} → (r ≡ length p) × (last ≡ begun p l) → (r ≤ length last) × (r ≡ length (take r last))
unfolding begun
begun_within p l {last} {r} e =
    let inside : r ≤ length last = omega (arith, e.0, ap length e.1, length-append p (drop (length p) l)) in
    (inside, sym (length-take-le r last inside))
