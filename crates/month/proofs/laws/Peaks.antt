-- The first of the largest: of a piece, and of two pieces one after the other. Assumes nothing.
use mathlib.Core.Path.{◌≡◌, refl, sym, ap, ◌∙◌}
use mathlib.Core.Bool.{Bool, true, false, cond, ◌&&◌, ◌||◌}
use mathlib.Core.Logic.{◌⊎◌, inl, inr}
use mathlib.Core.List.{List, [], ◌∷◌}
use Prim.Native.Nat.{ℕ, suc, ◌+◌, ◌≤◌, ◌<◌, max}
use native.Mathlib.Decide.{dec_le, dec_lt}
use native.Mathlib.Omega.{arith}
use borrow.Author.Tests.{lt-ltb, le-ltb, le-leb, lt-leb, eq-eqb, ne_eqb}
use lib.Dec.{eqb, leb, ltb}
use lib.ListN.{length}
use Rattle.laws.specs.Count.{if_picked}
use Rattle.month.specs.declared.totals.Peak.{Peak}
use Rattle.month.specs.Month.{magnitude, one_bits, is_full, all_in, sum_of, full, no_peak, higher, peak_in}
use Rattle.month.specs.Piece.{largest, first_of}
use Rattle.month.proofs.laws.Range.{in_by_magnitude}

-- ---- two peaks

pub kept_peak : (p q : Peak) → (p.mix ≡ 0 → ⊥) → q.bits ≤ p.bits → p ≡ higher p q
unfolding higher
kept_peak p q h k = rw (ne_eqb p.mix 0 h, le-ltb p.bits q.bits k)

pub new_peak : (p q : Peak) → (p.mix ≡ 0) ⊎ (p.bits < q.bits) → q ≡ higher p q
unfolding higher
new_peak p q (inl e) = rw (eq-eqb p.mix 0 e)
new_peak p q (inr k) = go (eqb p.mix 0)
  where
    go : (t : Bool) → q ≡ cond (t || ltb p.bits q.bits) q p
    go true = refl
    go false = rw (lt-ltb p.bits q.bits k)

pub same_peak : (b m s b' m' s' : ℕ) → b ≡ b' → m ≡ m' → s ≡ s' → ◌≡◌ {A = Peak} (record { bits = b; mix = m; sample = s }) (record { bits = b'; mix = m'; sample = s' })
same_peak b m s b' m' s' e f g = cc

-- ---- a piece

full_below : (w : ℕ) → magnitude w < one_bits → is_full w ≡ false
unfolding is_full
full_below w h = ne_eqb (magnitude w) one_bits (λ e. omega arith)

abbrev pub peak_of : ℕ → ℕ → List ℕ → Peak
peak_of mix before ws = record { bits = largest ws; mix = mix; sample = before + first_of (largest ws) ws + 1 }

first_head : (w m : ℕ) (ws : List ℕ) → magnitude w ≡ m → first_of m (w ∷ ws) ≡ 0
unfolding first_of
first_head w m ws e = rw (eq-eqb (magnitude w) m e)

first_tail : (w m : ℕ) (ws : List ℕ) → (magnitude w ≡ m → ⊥) → first_of m (w ∷ ws) ≡ suc (first_of m ws)
unfolding first_of
first_tail w m ws e = rw (ne_eqb (magnitude w) m e)

max_left : (a b : ℕ) → b ≤ a → max a b ≡ a
max_left a b h = omega arith

max_right : (a b : ℕ) → a < b → max a b ≡ b
max_right a b h = omega arith

module _ (mix before w : ℕ) (ws : List ℕ) (M : 1 ≤ mix) where
  abbrev here : Peak
  here = record { bits = magnitude w; mix = mix; sample = suc before }

  step : {q : Peak} → peak_in mix (suc before) ws ≡ q → peak_in mix before (w ∷ ws) ≡ higher here q
  unfolding peak_in
  step e = ap (higher here) e

  -- a later one is larger
  later_peak : peak_in mix (suc before) ws ≡ peak_of mix (suc before) ws → magnitude w < largest ws → peak_in mix before (w ∷ ws) ≡ peak_of mix before (w ∷ ws)
  unfolding largest
  later_peak e k =
      let m = max_right (magnitude w) (largest ws) k in
      let f = ap (λ (x : ℕ). first_of x (w ∷ ws)) m ∙ first_tail w (largest ws) ws (λ g. omega arith) in
      step e
      ∙ sym (new_peak here (peak_of mix (suc before) ws) (inr k))
      ∙ same_peak (largest ws) mix (suc before + first_of (largest ws) ws + 1) (largest (w ∷ ws)) mix (before + first_of (largest (w ∷ ws)) (w ∷ ws) + 1) (sym m) refl (omega (arith, f))

  -- none is
  first_peak : {q : Peak} → peak_in mix (suc before) ws ≡ q → q.bits ≤ magnitude w → largest ws ≤ magnitude w → peak_in mix before (w ∷ ws) ≡ peak_of mix before (w ∷ ws)
  unfolding largest
  first_peak {q} e k l =
      let m = max_left (magnitude w) (largest ws) l in
      let f = ap (λ (x : ℕ). first_of x (w ∷ ws)) m ∙ first_head w (magnitude w) ws refl in
      step e
      ∙ sym (kept_peak here q (λ g. omega arith) k)
      ∙ same_peak (magnitude w) mix (suc before) (largest (w ∷ ws)) mix (before + first_of (largest (w ∷ ws)) (w ∷ ws) + 1) (sym m) refl (omega (arith, f))

pub none_in : (mix before : ℕ) → peak_in mix before [] ≡ no_peak
unfolding peak_in
none_in mix before = refl

largest_nil : largest [] ≡ 0
unfolding largest
largest_nil = refl

pub piece_peak : (mix before : ℕ) (ws : List ℕ) → 1 ≤ mix → 1 ≤ length ws → peak_in mix before ws ≡ peak_of mix before ws
piece_peak mix before [] M h = absurd (omega arith)
piece_peak mix before (w ∷ []) M h = first_peak mix before w [] M (none_in mix (suc before)) (omega arith) (omega (arith, largest_nil))
piece_peak mix before (w ∷ (v ∷ vs)) M h =
    let rest = piece_peak mix (suc before) (v ∷ vs) M (omega arith) in
    elim (dec_lt (magnitude w) (largest (v ∷ vs))) [
      | yes k ↦ later_peak mix before w (v ∷ vs) M rest k
      | no k ↦ first_peak mix before w (v ∷ vs) M rest (omega arith) (omega arith)
    ]

-- ---- by the largest of a piece

leb-max : (a b c : ℕ) → leb (max a b) c ≡ leb a c && leb b c
leb-max a b c = elim (dec_le a c) [
  | yes h ↦
      elim (dec_le b c) [
        | yes k ↦ rw (le-leb a c h, le-leb b c k, le-leb (max a b) c (omega arith))
        | no k ↦ rw (le-leb a c h, lt-leb b c (omega arith), lt-leb (max a b) c (omega arith))
      ]
  | no h ↦ rw (lt-leb a c (omega arith), lt-leb (max a b) c (omega arith))
]

pub in_by_largest : (ws : List ℕ) → all_in ws ≡ leb (largest ws) one_bits
unfolding all_in largest
in_by_largest [] = sym (le-leb 0 one_bits (omega arith))
in_by_largest (w ∷ ws) = ap (λ (b : Bool). b && all_in ws) (in_by_magnitude w) ∙ ap (λ (b : Bool). leb (magnitude w) one_bits && b) (in_by_largest ws) ∙ sym (leb-max (magnitude w) (largest ws) one_bits)

pub none_full : (ws : List ℕ) → largest ws < one_bits → full ws ≡ 0
unfolding full sum_of largest
none_full [] h = refl
none_full (w ∷ ws) h =
    let e : is_full w ≡ false = full_below w (omega arith) in
    omega (arith, ap if_picked e, none_full ws (omega arith))
