-- Elements that a loop changes run by run: a run is changed from an element on, and runs side by side are one change of all. Assumes nothing.
use mathlib.Core.Path.{◌≡◌, refl, sym, ap, ◌∙◌}
use mathlib.Core.Bool.{cond}
use mathlib.Core.Logic.{inl, inr}
use mathlib.Core.List.{List, [], ◌∷◌}
use Prim.Native.Nat.{ℕ, zero, suc, ◌+◌, ◌≤◌, ◌<◌}
use native.Mathlib.Nat.{le_trans}
use native.Mathlib.Omega.{arith}
use borrow.Author.Tests.{le-leb, lt-leb}
use lib.Dec.{leb}
use lib.ListN.{length, get_or, set}
use lib.Seq.{ext_get_or}
use Rattle.laws.specs.Loop.{changed}
use Rattle.laws.proofs.laws.Choice.{cond-true, cond-false}
use Rattle.laws.proofs.laws.Loop.{changed-length, changed_below, changed_from, changed_turn_any, changed_cong}
use Rattle.laws.proofs.laws.FloatRound.{below_or_not}

-- a change that leaves each element leaves the list
unchanged : {A : Type 0} (n : ℕ) (l : List A) → changed (λ i x. x) n l ≡ l
unfolding changed
unchanged zero l = refl
unchanged (suc n) [] = refl
unchanged (suc n) (x ∷ l) = ap (λ (r : List _). x ∷ r) (unchanged n l)

module _ {A : Type 0} (f : ℕ → A → A) where
  -- f from element `first` on
  abbrev pub from : ℕ → ℕ → A → A
  from first i x = cond (leb first i) (f i x) x

  from_on : (first i : ℕ) (x : A) → first ≤ i → from first i x ≡ f i x
  from_on first i x h = cond-true (leb first i) (f i x) x (le-leb first i h)

  from_before : (first i : ℕ) (x : A) → i < first → from first i x ≡ x
  from_before first i x h = cond-false (leb first i) (f i x) x (lt-leb first i h)

  -- an empty run
  pub run_none : (first : ℕ) (l : List A) (d : A) → changed (from first) first l ≡ l
  run_none first l d =
      changed_cong (from first) (λ i x. x) first l d (λ k h b. from_before first k (get_or l k d) h)
      ∙ unchanged first l

  -- one turn of a loop over a run
  pub run_turn : (first i : ℕ) (l : List A) (d x : A) {now : List A} → first ≤ i → now ≡ changed (from first) i l → x ≡ f i (get_or now i d) → set now i x ≡ changed (from first) (i + 1) l
  run_turn first i l d x {now} h e v = ap (set now i) (v ∙ sym (from_on first i (get_or now i d) h)) ∙ changed_turn_any (from first) i l d e

  -- a run after the elements before it: what stands at k
  run_at : (first : ℕ) (l : List A) (d : A) (k : ℕ) → k < length l → from first k (get_or (changed f first l) k d) ≡ f k (get_or l k d)
  run_at first l d k b = elim (below_or_not k first) [
    | inl h ↦ from_before first k (get_or (changed f first l) k d) h ∙ changed_below f first l k d h b
    | inr h ↦ from_on first k (get_or (changed f first l) k d) h ∙ ap (f k) (changed_from f first l k d h)
  ]

  run_after_at : (first to : ℕ) (l : List A) (d : A) (k : ℕ) → first ≤ to → k < length l → get_or (changed (from first) to (changed f first l)) k d ≡ get_or (changed f to l) k d
  run_after_at first to l d k h b = elim (below_or_not k to) [
    | inl t ↦ changed_below (from first) to (changed f first l) k d t (omega (arith, b, changed-length f first l)) ∙ run_at first l d k b ∙ sym (changed_below f to l k d t b)
    | inr t ↦ changed_from (from first) to (changed f first l) k d t ∙ changed_from f first l k d (le_trans h t) ∙ sym (changed_from f to l k d t)
  ]

  -- a run after the elements before it is one change of them all
  pub run_after : (first to : ℕ) (l : List A) (d : A) → first ≤ to → changed (from first) to (changed f first l) ≡ changed f to l
  run_after first to l d h =
      let e : length (changed (from first) to (changed f first l)) ≡ length l = changed-length (from first) to (changed f first l) ∙ changed-length f first l in
      ext_get_or d (changed (from first) to (changed f first l)) (changed f to l) (e ∙ sym (changed-length f to l)) (λ k b. run_after_at first to l d k h (omega (arith, b, e)))
