-- What lies inside chosen tracks, as the tree of tracks has it. Parents stand on earlier lines, so that the steps of `inside_within` are enough. Assumes
-- nothing.
use mathlib.Core.Path.{◌≡◌, refl, ap, ◌∙◌}
use mathlib.Core.Bool.{Bool, true, false, not, ◌&&◌, ◌||◌, false≢true}
use Prim.Native.Nat.{ℕ, zero, suc, ◌≤◌}
use native.Mathlib.Nat.{le_refl, le_trans, le_of_suc-le-suc}
use native.Mathlib.Omega.{arith}
use borrow.Author.Tests.{eq-eqb}
use lib.Dec.{eqb}
use Rattle.scene_tables.specs.Tables.{tracks}
use Rattle.scene_questions.specs.Questions.{Tables, rows_at, parent_of}
use Rattle.noninterference.proofs.laws.Lines.{kept_line, open_line}
use Rattle.noninterference.specs.Removed.{Choice, inside_within, inside, removed_track, names_removed, kept_tracks}

-- every parent stands on an earlier line
abbrev pub Early : Tables → Type 0
Early ts = (t : ℕ) → parent_of (rows_at ts tracks) (suc t) ≤ t

-- a line that names no removed line is kept
pub names_kept : (removed : ℕ → Bool) (line : ℕ) → not (names_removed removed line) ≡ kept_line (λ t. not (removed t)) line
unfolding names_removed kept_line
names_kept removed zero = refl
names_kept removed (suc t) = refl

module _ (ts : Tables) (early : Early ts) (chosen : Choice) where
  steps_enough : (a b line : ℕ) → line ≤ a → line ≤ b → inside_within a ts chosen line ≡ inside_within b ts chosen line
  unfolding inside_within
  steps_enough zero zero line h k = refl
  steps_enough zero (suc b) zero h k = refl
  steps_enough zero (suc b) (suc t) h k = absurd (omega arith)
  steps_enough (suc a) zero zero h k = refl
  steps_enough (suc a) zero (suc t) h k = absurd (omega arith)
  steps_enough (suc a) (suc b) zero h k = refl
  steps_enough (suc a) (suc b) (suc t) h k =
      ap (λ (x : Bool). chosen t || x)
      (steps_enough a b (parent_of (rows_at ts tracks) (suc t)) (le_trans (early t) (le_of_suc-le-suc h)) (le_trans (early t) (le_of_suc-le-suc k)))

  -- inside a track is what is chosen or lies below what is chosen
  pub inside-suc : (t : ℕ) → inside ts chosen (suc t) ≡ (chosen t || removed_track ts chosen t)
  unfolding inside inside_within removed_track
  inside-suc t =
      let p = parent_of (rows_at ts tracks) (suc t) in
      ap (λ (x : Bool). chosen t || x) (steps_enough t p p (early t) (le_refl p))

  -- a line that does not lie inside chosen tracks is the mixer, or a track that is kept and not chosen
  pub open_line_lem : (line : ℕ) → not (inside ts chosen line) ≡ open_line (kept_tracks ts chosen) chosen line
  unfolding open_line
  open_line_lem zero = unfold inside inside_within in refl
  open_line_lem (suc t) = ap not (inside-suc t) ∙ swap (chosen t) (removed_track ts chosen t)
    where
      swap : (a b : Bool) → not (a || b) ≡ (not b && not a)
      swap true true = refl
      swap true false = refl
      swap false true = refl
      swap false false = refl

  -- what stands right below a line that lies inside, does too
  pub removed_below : (t j : ℕ) → parent_of (rows_at ts tracks) (suc j) ≡ suc t → (chosen t || removed_track ts chosen t) ≡ true → removed_track ts chosen j ≡ true
  unfolding removed_track
  removed_below t j e h = ap (inside ts chosen) e ∙ inside-suc t ∙ h

-- ---- what lies inside some chosen track lies inside one of them

pub or_true : (a b : Bool) {X : Type 0} → (a || b) ≡ true → (a ≡ true → X) → (b ≡ true → X) → X
or_true true b e f g = f refl
or_true false b e f g = g e

pub or_left : (a b : Bool) → a ≡ true → (a || b) ≡ true
or_left true b e = refl
or_left false b e = absurd (false≢true e)

pub or_right : (a b : Bool) → b ≡ true → (a || b) ≡ true
or_right true b e = refl
or_right false b e = e

module _ (ts : Tables) (chosen : Choice) where
  within_one : (steps line : ℕ) → inside_within steps ts chosen line ≡ true → (t : ℕ) × (chosen t ≡ true) × (inside_within steps ts (eqb t) line ≡ true)
  unfolding inside_within
  within_one zero line e = absurd (false≢true e)
  within_one (suc steps) zero e = absurd (false≢true e)
  within_one (suc steps) (suc t) e =
      let p = parent_of (rows_at ts tracks) (suc t) in
      or_true (chosen t) (inside_within steps ts chosen p) e
      (λ h. (t, h, or_left (eqb t t) (inside_within steps ts (eqb t) p) (eq-eqb t t refl)))
      (λ h. let w = within_one steps p h in (w.0, w.1, or_right (eqb w.0 t) (inside_within steps ts (eqb w.0) p) w.2))

  pub removed_by_one : (j : ℕ) → removed_track ts chosen j ≡ true → (t : ℕ) × (chosen t ≡ true) × (removed_track ts (eqb t) j ≡ true)
  unfolding removed_track inside
  removed_by_one j e = let p = parent_of (rows_at ts tracks) (suc j) in within_one p p e
