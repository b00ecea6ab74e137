-- A table from which some lines are removed. `keep i` says whether line i stays, counted from 0; `rank keep n` is
-- how many lines below n stay, which is the new place of line n where it stays itself; `kept_of keep l` is the table that is left.
-- The two lemmas at the end relate a loop over n lines to the loop over the lines that are left: if a turn at a kept line keeps a relation
-- between the two states, and a turn at a removed line keeps it while the other side stands still, the two loops' results are related.
-- Assumes nothing.
use mathlib.Core.Path.{◌≡◌, refl, sym, ap, ap₂, ◌∙◌, subst}
use mathlib.Core.Logic.{◌⊎◌, inl, inr}
use Prim.Native.Nat.{ℕ, zero, suc, ◌≤◌, ◌<◌, suc-le-suc}
use native.Mathlib.Nat.{le_refl, le_trans, le-suc, le_of_suc-le-suc, not-suc-le-zero, eq-or-lt_of_le}
use native.Mathlib.Omega.{arith}
use mathlib.Core.Bool.{Bool, true, false, not, cond}
use mathlib.Core.List.{List, [], ◌∷◌}
use lib.Dec.{T}
use lib.ListN.{length, get_or}
use Rattle.laws.specs.Loop.{upto, downto}
use Rattle.laws.specs.Kept.{rank, kept_of}

-- ---- the rank of one line more

pub rank_kept : (keep : ℕ → Bool) (n : ℕ) → T (keep n) → rank keep (suc n) ≡ suc (rank keep n)
unfolding rank
rank_kept keep n = go (keep n)
  where
    go : (b : Bool) → T b → cond b (suc (rank keep n)) (rank keep n) ≡ suc (rank keep n)
    go true t = refl
    go false t = absurd t

pub rank_removed : (keep : ℕ → Bool) (n : ℕ) → T (not (keep n)) → rank keep (suc n) ≡ rank keep n
unfolding rank
rank_removed keep n = go (keep n)
  where
    go : (b : Bool) → T (not b) → cond b (suc (rank keep n)) (rank keep n) ≡ rank keep n
    go true t = absurd t
    go false t = refl

-- either line n is kept or it is removed
pub kept_or_removed : (b : Bool) → T b ⊎ T (not b)
kept_or_removed true = inl tt
kept_or_removed false = inr tt

-- ---- ranks are in the lines' order

rank_step : (keep : ℕ → Bool) (n : ℕ) → rank keep n ≤ rank keep (suc n)
rank_step keep n =
    elim (kept_or_removed (keep n)) [
      | inl t ↦ subst (λ (x : ℕ). rank keep n ≤ x) (sym (rank_kept keep n t)) (le-suc (rank keep n))
      | inr t ↦ subst (λ (x : ℕ). rank keep n ≤ x) (sym (rank_removed keep n t)) (le_refl (rank keep n))
    ]

pub rank_mono : (keep : ℕ → Bool) (a b : ℕ) → a ≤ b → rank keep a ≤ rank keep b
rank_mono keep a zero h = subst (λ (x : ℕ). rank keep a ≤ rank keep x) (none a h) (le_refl (rank keep a))
  where
    none : (k : ℕ) → k ≤ 0 → k ≡ 0
    none k l = omega arith
rank_mono keep a (suc b) h =
    elim (eq-or-lt_of_le h) [
      | inl e ↦ subst (λ (x : ℕ). rank keep a ≤ rank keep x) e (le_refl (rank keep a))
      | inr l ↦ le_trans (rank_mono keep a b (le_of_suc-le-suc l)) (rank_step keep b)
    ]

-- a kept line's rank is below the rank of every later line
pub rank_lt : (keep : ℕ → Bool) (a b : ℕ) → T (keep a) → a < b → rank keep a < rank keep b
rank_lt keep a b t h = le_trans (subst (λ (x : ℕ). suc (rank keep a) ≤ x) (sym (rank_kept keep a t)) (le_refl (suc (rank keep a)))) (rank_mono keep (suc a) b h)

pub rank_le : (keep : ℕ → Bool) (n : ℕ) → rank keep n ≤ n
unfolding rank
rank_le keep zero = le_refl 0
rank_le keep (suc n) = go (keep n) (rank keep n) (rank_le keep n)
  where
    go : (b : Bool) (r : ℕ) → r ≤ n → cond b (suc r) r ≤ suc n
    go true r h = suc-le-suc h
    go false r h = le_trans h (le-suc n)

-- two kept lines of one rank are the same line
pub rank_inj : (keep : ℕ → Bool) (a b : ℕ) → T (keep a) → T (keep b) → rank keep a ≡ rank keep b → a ≡ b
rank_inj keep a b s t e = apart a b (λ l. below l e (rank_lt keep a b s l)) (λ l. below l (sym e) (rank_lt keep b a t l))
  where
    apart : (x y : ℕ) → (x < y → ⊥) → (y < x → ⊥) → x ≡ y
    apart zero zero p q = refl
    apart zero (suc y) p q = absurd (p (omega arith))
    apart (suc x) zero p q = absurd (q (omega arith))
    apart (suc x) (suc y) p q = ap suc (apart x y (λ l. p (suc-le-suc l)) (λ l. q (suc-le-suc l)))

    below : {x y u v : ℕ} → x < y → u ≡ v → u < v → ⊥
    below l p h = omega arith

-- tests that agree below n count the same lines
pub rank_cong : (keep keep' : ℕ → Bool) (n : ℕ) → ((i : ℕ) → i < n → keep i ≡ keep' i) → rank keep n ≡ rank keep' n
unfolding rank
rank_cong keep keep' zero h = refl
rank_cong keep keep' (suc n) h = ap₂ (λ (b : Bool) (r : ℕ). cond b (suc r) r) (h n (le_refl (suc n))) (rank_cong keep keep' n (λ i l. h i (le_trans l (le-suc n))))

-- ---- the table of the kept lines

-- the rank by the first line and the others
rank_first : (keep : ℕ → Bool) (n : ℕ) → rank keep (suc n) ≡ cond (keep 0) (suc (rank (λ i. keep (suc i)) n)) (rank (λ i. keep (suc i)) n)
unfolding rank
rank_first keep zero = refl
rank_first keep (suc n) = ap (λ (r : ℕ). cond (keep (suc n)) (suc r) r) (rank_first keep n) ∙ swap (keep (suc n)) (keep 0) (rank (λ i. keep (suc i)) n)
  where
    swap : (b c : Bool) (r : ℕ) → cond b (suc (cond c (suc r) r)) (cond c (suc r) r) ≡ cond c (suc (cond b (suc r) r)) (cond b (suc r) r)
    swap true true r = refl
    swap true false r = refl
    swap false true r = refl
    swap false false r = refl

module _ {ℓ} {A : Type ℓ} where
  pub kept_of-length : (keep : ℕ → Bool) (l : List A) → length (kept_of keep l) ≡ rank keep (length l)
  unfolding kept_of
  kept_of-length keep [] = unfold rank in refl
  kept_of-length keep (x ∷ l) = go (keep 0) (kept_of (λ i. keep (suc i)) l) (kept_of-length (λ i. keep (suc i)) l) ∙ sym (rank_first keep (length l))
    where
      go : (b : Bool) (k : List A) {r : ℕ} → length k ≡ r → length (cond b (x ∷ k) k) ≡ cond b (suc r) r
      go true k e = ap suc e
      go false k e = e

  -- a kept line stands at its rank
  pub kept_of_at : (keep : ℕ → Bool) (l : List A) (i : ℕ) (d : A) → T (keep i) → i < length l → get_or (kept_of keep l) (rank keep i) d ≡ get_or l i d
  unfolding kept_of
  kept_of_at keep [] i d t h = absurd (not-suc-le-zero h)
  kept_of_at keep (x ∷ l) zero d t h = first (keep 0) t
    where
      first : (b : Bool) → T b → get_or (cond b (x ∷ kept_of (λ i. keep (suc i)) l) (kept_of (λ i. keep (suc i)) l)) (rank keep 0) d ≡ x
      first true t = unfold rank in refl
      first false t = absurd t
  kept_of_at keep (x ∷ l) (suc i) d t h =
      ap (λ (k : ℕ). get_or (kept_of keep (x ∷ l)) k d) (rank_first keep i)
      ∙ later (keep 0) (kept_of (λ i. keep (suc i)) l) (rank (λ i. keep (suc i)) i)
      ∙ kept_of_at (λ i. keep (suc i)) l i d t (le_of_suc-le-suc h)
    where
      later : (b : Bool) (k : List A) (r : ℕ) → get_or (cond b (x ∷ k) k) (cond b (suc r) r) d ≡ get_or k r d
      later true k r = refl
      later false k r = refl

-- ---- the two loops. R i relates the states before line i where the loops count up, and once line i is done where they count down:
-- for a relation that does not look at i, hand over `λ i. R`

module _ {ℓ κ ρ} {S : Type ℓ} {S' : Type κ} (R : ℕ → S → S' → Type ρ) (keep : ℕ → Bool) (f : ℕ → S → S) (g : ℕ → S' → S') where
  pub upto_kept : (n : ℕ) (s : S) (s' : S')
      → ((i : ℕ) → i < n → T (keep i) → (x : S) (y : S') → R i x y → R (suc i) (f i x) (g (rank keep i) y))
      → ((i : ℕ) → i < n → T (not (keep i)) → (x : S) (y : S') → R i x y → R (suc i) (f i x) y)
      → R 0 s s' → R n (upto f n s) (upto g (rank keep n) s')
  unfolding upto rank
  upto_kept zero s s' k d r = r
  upto_kept (suc n) s s' k d r =
      go (keep n) (k n (le_refl (suc n))) (d n (le_refl (suc n)))
      (upto_kept n s s' (λ i l. k i (le_trans l (le-suc n))) (λ i l. d i (le_trans l (le-suc n))) r)
    where
      go : (b : Bool) → (T b → (x : S) (y : S') → R n x y → R (suc n) (f n x) (g (rank keep n) y)) → (T (not b) → (x : S) (y : S') → R n x y → R (suc n) (f n x) y)
          → R n (upto f n s) (upto g (rank keep n) s') → R (suc n) (f n (upto f n s)) (upto g (cond b (suc (rank keep n)) (rank keep n)) s')
      go true a c h = a tt (upto f n s) (upto g (rank keep n) s') h
      go false a c h = c tt (upto f n s) (upto g (rank keep n) s') h

  pub downto_kept : (n : ℕ) (s : S) (s' : S')
      → ((i : ℕ) → i < n → T (keep i) → (x : S) (y : S') → R (suc i) x y → R i (f i x) (g (rank keep i) y))
      → ((i : ℕ) → i < n → T (not (keep i)) → (x : S) (y : S') → R (suc i) x y → R i (f i x) y)
      → R n s s' → R 0 (downto f n s) (downto g (rank keep n) s')
  unfolding downto rank
  downto_kept zero s s' k d r = r
  downto_kept (suc n) s s' k d r =
      go (keep n) (k n (le_refl (suc n))) (d n (le_refl (suc n)))
      (λ x y. downto_kept n x y (λ i l. k i (le_trans l (le-suc n))) (λ i l. d i (le_trans l (le-suc n))))
    where
      go : (b : Bool) → (T b → (x : S) (y : S') → R (suc n) x y → R n (f n x) (g (rank keep n) y)) → (T (not b) → (x : S) (y : S') → R (suc n) x y → R n (f n x) y)
          → ((x : S) (y : S') → R n x y → R 0 (downto f n x) (downto g (rank keep n) y)) → R 0 (downto f n (f n s)) (downto g (cond b (suc (rank keep n)) (rank keep n)) s')
      go true a c h = h (f n s) (g (rank keep n) s') (a tt s s' r)
      go false a c h = h (f n s) s' (c tt s s' r)
