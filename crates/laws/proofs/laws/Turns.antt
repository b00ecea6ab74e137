-- A loop's turn that stores an element of an array. Assumes nothing.
use mathlib.Core.Path.{◌≡◌, sym, ap, ◌∙◌}
use mathlib.Core.List.{List}
use Prim.Native.Nat.{ℕ, ◌+◌}
use lib.ListN.{get_or, set}
use Rattle.laws.specs.Loop.{changed}
use Rattle.laws.proofs.laws.Loop.{changed_here, changed_turn_any}

module _ {A : Type 0} (f : ℕ → A → A) (l : List A) (d : A) {now : List A} where
  -- a turn that stores what f gives
  pub turned : (i : ℕ) {x : A} → x ≡ f i (get_or now i d) → now ≡ changed f i l → set now i x ≡ changed f (i + 1) l
  turned i h e = ap (λ (z : A). set now i z) h ∙ changed_turn_any f i l d e

  -- the same where f was given the element that stood there at first
  pub turned_old : (i : ℕ) {x : A} → x ≡ f i (get_or l i d) → now ≡ changed f i l → set now i x ≡ changed f (i + 1) l
  turned_old i h e = turned i (h ∙ ap (f i) (sym (ap (λ (r : List A). get_or r i d) e ∙ changed_here f i l d))) e
