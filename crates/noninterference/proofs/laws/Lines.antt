-- Line numbers once tracks are removed. `keep p` and `chosen p` speak of track p, counted from 0. A line number counts from 1: it is 0 (the mixer, or
-- the main track), or `suc p` for track p. A chosen track is kept, and what lies inside it is removed. Assumes nothing.
use mathlib.Core.Path.{◌≡◌, refl, sym, ap, ◌∙◌}
use mathlib.Core.Bool.{Bool, true, false, not, ◌&&◌, true≢false}
use Prim.Native.Nat.{ℕ, zero, suc}
use native.Mathlib.Omega.{arith}
use lib.Dec.{T, eqb, eqb→eq, not_T}
use lib.Ieee.Bits.{is_true, is_false}
use lib.Ieee.Fits.{and_l, and_i, eq→eqb}
use Rattle.laws.proofs.laws.Arithmetic.{both_ways}
use Rattle.laws.specs.Kept.{rank}
use Rattle.laws.proofs.laws.Kept.{rank_inj}
use Rattle.noninterference.specs.Removed.{new_line}

-- the line is kept
unfoldable pub kept_line : (ℕ → Bool) → ℕ → Bool
kept_line keep zero = true
kept_line keep (suc p) = keep p

-- the line is kept, and so are the tracks right below it and its sounds
unfoldable pub open_line : (ℕ → Bool) → (ℕ → Bool) → ℕ → Bool
open_line keep chosen zero = true
open_line keep chosen (suc p) = keep p && not (chosen p)

module _ (keep : ℕ → Bool) where
  pub new_line_zero : new_line keep 0 ≡ 0
  unfolding new_line
  new_line_zero = refl

  pub new_line-suc : (p : ℕ) → new_line keep (suc p) ≡ suc (rank keep p)
  unfolding new_line
  new_line-suc p = refl

  pub kept_line-suc : (p : ℕ) → T (keep p) → T (kept_line keep (suc p))
  unfolding kept_line
  kept_line-suc p t = t

  pub new_line_inj : (a b : ℕ) → T (kept_line keep a) → T (kept_line keep b) → new_line keep a ≡ new_line keep b → a ≡ b
  unfolding new_line kept_line
  new_line_inj zero zero s t e = refl
  new_line_inj zero (suc b) s t e = absurd (omega arith)
  new_line_inj (suc a) zero s t e = absurd (omega arith)
  new_line_inj (suc a) (suc b) s t e = ap suc (rank_inj keep a b s t (omega arith))

-- two lines kept are the same line exactly if their new numbers are the same
pub same_test : (keep : ℕ → Bool) (a b : ℕ) → T (kept_line keep a) → T (kept_line keep b) → eqb (new_line keep a) (new_line keep b) ≡ eqb a b
same_test keep a b s t =
    both_ways (eqb (new_line keep a) (new_line keep b)) (eqb a b)
    (λ h. eq→eqb (new_line_inj keep a b s t (eqb→eq (new_line keep a) (new_line keep b) h)))
    (λ h. eq→eqb (ap (new_line keep) (eqb→eq a b h)))

-- lines that a test tells apart are not the same
pub apart : (test : ℕ → Bool) (a b : ℕ) → T (not (test a)) → T (test b) → eqb a b ≡ false
apart test a b s t =
    is_false (eqb a b) (not_T (eqb a b) (λ h. true≢false (sym (is_true (test b) t) ∙ sym (ap test (eqb→eq a b h)) ∙ is_false (test a) s)))

pub apart_back : (test : ℕ → Bool) (a b : ℕ) → T (test a) → T (not (test b)) → eqb a b ≡ false
apart_back test a b s t =
    is_false (eqb a b) (not_T (eqb a b) (λ h. true≢false (sym (is_true (test a) s) ∙ ap test (eqb→eq a b h) ∙ is_false (test b) t)))

module _ (keep chosen : ℕ → Bool) where
  pub open_zero : T (open_line keep chosen 0)
  unfolding open_line
  open_zero = tt

  pub open_suc : (p : ℕ) → T (keep p) → T (not (chosen p)) → T (open_line keep chosen (suc p))
  unfolding open_line
  open_suc p s t = and_i (keep p) (not (chosen p)) s t

  -- nothing is kept inside a chosen track
  pub chosen_shut : (p : ℕ) → T (chosen p) → T (not (open_line keep chosen (suc p)))
  unfolding open_line
  chosen_shut p t = go (keep p) (chosen p) t
    where
      go : (a b : Bool) → T b → T (not (a && not b))
      go true true t = tt
      go true false t = absurd t
      go false b t = tt

  pub open_kept : (a : ℕ) → T (open_line keep chosen a) → T (kept_line keep a)
  unfolding open_line kept_line
  open_kept zero t = tt
  open_kept (suc p) t = and_l (keep p) (not (chosen p)) t
