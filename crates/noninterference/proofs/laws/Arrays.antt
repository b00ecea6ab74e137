-- Two arrays of a fixed number of places, of which the second has the lines that are kept of the first: a kept line stands at its rank. Assumes nothing.
use mathlib.Core.Path.{◌≡◌, refl, sym, ap, ◌∙◌, subst}
use mathlib.Core.Logic.{◌≢◌, inl, inr}
use mathlib.Core.Bool.{Bool, not}
use mathlib.Core.List.{List, [], ◌∷◌}
use Prim.Native.Nat.{ℕ, zero, suc, ◌-◌, ◌≤◌, ◌<◌}
use native.Mathlib.Nat.{lt_of_le_of_lt}
use native.Mathlib.Numerals.{sub-one}
use native.Mathlib.Omega.{arith}
use lib.Dec.{T, T_not, eqb, eqb→eq, eqb_refl}
use lib.ListN.{length, get_or, set, replicate, length-set}
use lib.Seq.{get_or-set_same, get_or-set_other}
use Rattle.laws.specs.Loop.{changed}
use Rattle.laws.proofs.laws.Loop.{changed-length, changed_below}
use Rattle.laws.specs.Kept.{rank}
use Rattle.laws.proofs.laws.Kept.{rank_lt, rank_le, rank_inj, kept_or_removed}
use Rattle.noninterference.specs.Removed.{new_line}
use Rattle.noninterference.proofs.laws.Lines.{kept_line}

pub record ArrayLeft (A : Type 0) (keep : ℕ → Bool) (n size : ℕ) (d : A) (l l' : List A) : Type 0 where
  pub places : length l ≡ size
  pub places' : length l' ≡ size
  pub same : (i : ℕ) → i < n → T (keep i) → get_or l' (rank keep i) d ≡ get_or l i d

-- line p, counted from 0, is named p + 1
pub line_of : (p : ℕ) → suc p - 1 ≡ p
line_of p = sub-one (suc p)

-- a kept line and a removed one are not the same
differ : (keep : ℕ → Bool) (j i : ℕ) → T (keep j) → T (not (keep i)) → j ≢ i
differ keep j i t u e = T_not (keep i) u (subst (λ (k : ℕ). T (keep k)) e t)

pub unequal : (j i : ℕ) → T (not (eqb j i)) → j ≢ i
unequal j i u e = T_not (eqb j i) u (subst (λ (k : ℕ). T (eqb j k)) e (eqb_refl j))

-- what holds of a line, and of a new value of it, holds of it once a line is set
pub set_holds : {A : Type 0} (P : A → Type 0) (l : List A) (i j : ℕ) (x d : A) → P (get_or l j d) → (i ≡ j → P x) → P (get_or (set l i x) j d)
set_holds P [] i j x d p h = p
set_holds P (y ∷ l) zero zero x d p h = h refl
set_holds P (y ∷ l) zero (suc j) x d p h = p
set_holds P (y ∷ l) (suc i) zero x d p h = p
set_holds P (y ∷ l) (suc i) (suc j) x d p h = set_holds P l i j x d p (λ e. h (ap suc e))

-- an array of one value
pub all_same : {A : Type 0} (n i : ℕ) (x : A) → get_or (replicate n x) i x ≡ x
all_same zero i x = refl
all_same (suc n) zero x = refl
all_same (suc n) (suc i) x = all_same n i x

-- an array has room for a line, and for its rank
module _ (n size : ℕ) (room : n ≤ size) (i : ℕ) (b : i < n) {len : ℕ} (places : len ≡ size) where
  pub at_line : i < len
  at_line = omega arith

  pub at_rank : (keep : ℕ → Bool) → rank keep i < len
  at_rank keep = lt_of_le_of_lt (rank_le keep i) at_line

module _ {A : Type 0} (keep : ℕ → Bool) (n size : ℕ) (d : A) (room : n ≤ size) where
  pub set_kept : {l l' : List A} (i : ℕ) → i < n → T (keep i) → {x x' : A} → x' ≡ x → ArrayLeft A keep n size d l l' → ArrayLeft A keep n size d (set l i x) (set l' (rank keep i) x')
  set_kept {l} {l'} i b t {x} {x'} e r =
      record {
        places = length-set l i x ∙ r.places;
        places' = length-set l' (rank keep i) x' ∙ r.places';
        same = λ j c u. elim (kept_or_removed (eqb j i)) [
          | inl p ↦ here j (eqb→eq j i p)
          | inr q ↦ get_or-set_other l' (rank keep i) (rank keep j) x' d (λ h. unequal j i q (rank_inj keep j i u t h)) ∙ r.same j c u ∙ sym (get_or-set_other l i j x d (unequal j i q))
        ];
      }
    where
      here : (j : ℕ) → j ≡ i → get_or (set l' (rank keep i) x') (rank keep j) d ≡ get_or (set l i x) j d
      here j h =
          ap (λ (k : ℕ). get_or (set l' (rank keep i) x') (rank keep k) d) h
          ∙ get_or-set_same l' (rank keep i) x' d (at_rank n size room i b r.places' keep)
          ∙ e
          ∙ sym (ap (λ (k : ℕ). get_or (set l i x) k d) h ∙ get_or-set_same l i x d (at_line n size room i b r.places))

  pub set_removed : {l l' : List A} (i : ℕ) → T (not (keep i)) → (x : A) → ArrayLeft A keep n size d l l' → ArrayLeft A keep n size d (set l i x) l'
  set_removed {l} {l'} i t x r =
      record {
        places = length-set l i x ∙ r.places;
        places' = r.places';
        same = λ j c u. r.same j c u ∙ sym (get_or-set_other l i j x d (differ keep j i u t));
      }

  pub changed_left : (l l' : List A) (f g : ℕ → A → A) → length l ≡ size → length l' ≡ size
      → ((i : ℕ) → i < n → T (keep i) → g (rank keep i) (get_or l' (rank keep i) d) ≡ f i (get_or l i d)) → ArrayLeft A keep n size d (changed f n l) (changed g (rank keep n) l')
  changed_left l l' f g p q h =
      record {
        places = changed-length f n l ∙ p;
        places' = changed-length g (rank keep n) l' ∙ q;
        same = λ i b t.
            changed_below g (rank keep n) l' (rank keep i) d (rank_lt keep i n t b) (at_rank n size room i b q keep)
            ∙ h i b t
            ∙ sym (changed_below f n l i d b (at_line n size room i b p));
      }

  -- ---- a line by its number, counted from 1

  pub line_set_kept : {l l' : List A} (line : ℕ) → 1 ≤ line → line ≤ n → T (kept_line keep line) → (f : A → A) → ArrayLeft A keep n size d l l'
      → ArrayLeft A keep n size d (set l (line - 1) (f (get_or l (line - 1) d))) (set l' (new_line keep line - 1) (f (get_or l' (new_line keep line - 1) d)))
  unfolding new_line kept_line
  line_set_kept zero a b t f r = absurd (omega arith)
  line_set_kept {l} {l'} (suc p) a b t f r =
      subst (λ (k : ℕ). ArrayLeft A keep n size d (set l k (f (get_or l k d))) (set l' (suc (rank keep p) - 1) (f (get_or l' (suc (rank keep p) - 1) d)))) (sym (line_of p))
      (subst (λ (k : ℕ). ArrayLeft A keep n size d (set l p (f (get_or l p d))) (set l' k (f (get_or l' k d)))) (sym (line_of (rank keep p))) (set_kept p b t (ap f (r.same p b t)) r))

  pub line_set_removed : {l l' : List A} (line : ℕ) → T (not (kept_line keep line)) → (x : A) → ArrayLeft A keep n size d l l' → ArrayLeft A keep n size d (set l (line - 1) x) l'
  unfolding kept_line
  line_set_removed zero t x r = absurd t
  line_set_removed {l} {l'} (suc p) t x r = subst (λ (k : ℕ). ArrayLeft A keep n size d (set l k x) l') (sym (line_of p)) (set_removed p t x r)
