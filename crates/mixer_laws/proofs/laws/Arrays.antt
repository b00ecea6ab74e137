-- What holds of every line of an array, and of each new value, holds once lines are set or changed. Assumes nothing.
use mathlib.Core.Path.{◌≡◌, sym, ◌∙◌, subst}
use mathlib.Core.List.{List}
use Prim.Native.Nat.{ℕ, ◌≤◌, ◌<◌}
use native.Mathlib.Nat.{le_trans, le_of_eq}
use lib.ListN.{length, get_or, set, length-set}
use Rattle.laws.specs.Loop.{changed}
use Rattle.laws.proofs.laws.Loop.{changed-length, changed_below}
use Rattle.laws.proofs.laws.Sets.{set_line}

-- an array of so many places, and what holds of its first n lines; d stands past its end
pub record ArrayOk {A : Type 0} (P : ℕ → A → Type 0) (n size : ℕ) (d : A) (l : List A) : Type 0 where
  pub places : length l ≡ size
  pub each : (j : ℕ) → j < n → P j (get_or l j d)

module _ {A : Type 0} {P : ℕ → A → Type 0} {n size : ℕ} {d : A} (l : List A) where
  pub set_array : (i : ℕ) (x : A) → ArrayOk P n size d l → (i < n → P i x) → ArrayOk P n size d (set l i x)
  set_array i x h k =
      record {
        places = length-set l i x ∙ h.places;
        each = λ j b. set_line (P j) l i j x d (h.each j b) (λ e. subst (λ (u : ℕ). P u x) e (k (subst (λ (u : ℕ). u < n) (sym e) b)));
      }

  pub changed_array : (f : ℕ → A → A) → n ≤ size → length l ≡ size → ((j : ℕ) → j < n → P j (f j (get_or l j d))) → ArrayOk P n size d (changed f n l)
  changed_array f room e h =
      record {
        places = changed-length f n l ∙ e;
        each = λ j b. subst (P j) (sym (changed_below f n l j d b (le_trans b (le_trans room (le_of_eq (sym e)))))) (h j b);
      }
