-- Sides apart: sides in turn and sides apart stand for the same frames at each step of mixing. Every such step is `with_frames` of what it makes of a
-- frame, on one part of a buffer; where it reads other buffers, f and g are what it makes with those of the one layout and of the other. Assumes
-- nothing.
use mathlib.Core.Path.{◌≡◌, sym, ap, ◌∙◌, subst}
use mathlib.Core.Logic.{inl, inr}
use mathlib.Core.List.{List}
use Prim.Native.Nat.{ℕ, suc, ◌+◌, ◌*◌, ◌≤◌, ◌<◌}
use native.Mathlib.Nat.{le_refl, le_trans, eq-or-lt_of_le, suc-mul, mul-le-mul_right}
use native.Mathlib.Omega.{arith}
use lib.ListN.{length}
use lib.Ieee.{Float}
use Rattle.laws.proofs.laws.FloatRound.{below_or_not}
use Rattle.frame.specs.declared.frame.Frame.{Frame}
use Rattle.frame.specs.Layout.{Layout, interleaved, scratch, frame_at, with_frames, SameFrames, SameParts, SidesApart}
use Rattle.frame.proofs.laws.Places.{interleaved_apart, scratch_apart}
use Rattle.frame.proofs.laws.Layout.{Step, first_at, first_across, Apart, apart_before, apart_swap}

-- a part ends before the next begins
part_ends : (s t width n : ℕ) → s < t → 2 * n ≤ width → s * width + 2 * n ≤ t * width
part_ends s t width n h r = fits (s * width) (t * width) (suc s * width) (suc-mul s width) (mul-le-mul_right width h)
  where
    fits : (a b c : ℕ) → c ≡ a + width → c ≤ b → a + 2 * n ≤ b
    fits a b c e k = omega (arith, e, k, r)

module _ {n : ℕ} (f g : Step) (agree : (i : ℕ) → i < n → (a : Frame) → f i a ≡ g i a) (l m : List Float) where
  -- the part that is stepped on
  same_own : {first : ℕ} (L M : Layout first n) → SidesApart L → SidesApart M → first + 2 * n ≤ length l → first + 2 * n ≤ length m → SameFrames L M l m → SameFrames L M (with_frames L f l) (with_frames M g m)
  same_own L M D E x y same i b = first_at L D f n l i (le_refl n) x b ∙ ap (f i) (same i b) ∙ agree i b (frame_at M m i) ∙ sym (first_at M E g n m i (le_refl n) y b)

  -- another
  same_other : {first second : ℕ} (L M : Layout first n) (L' M' : Layout second n) → Apart L L' → Apart M M' → SameFrames L M l m → SameFrames L M (with_frames L' f l) (with_frames M' g m)
  same_other L M L' M' d e same i b = first_across L L' d f n l i (le_refl n) b ∙ same i b ∙ sym (first_across M M' e g n m i (le_refl n) b)

-- the part from place k * width on, in each layout
abbrev turns : (width n k : ℕ) → Layout (k * width) n
turns width n k = interleaved (k * width) n

abbrev apart : (width n k : ℕ) → Layout (k * width) n
apart width n k = scratch (k * width) n

abbrev turns_apart : (width n k : ℕ) → SidesApart (turns width n k)
turns_apart width n k = interleaved_apart (k * width) n

abbrev apart_apart : (width n k : ℕ) → SidesApart (apart width n k)
apart_apart width n k = scratch_apart (k * width) n

pub same_step : (parts width n t : ℕ) (f g : Step) (l m : List Float) → 2 * n ≤ width → parts * width ≤ length l → parts * width ≤ length m → ((i : ℕ) → i < n → (a : Frame) → f i a ≡ g i a) → SameParts parts width n l m → SameParts parts width n (with_frames (interleaved (t * width) n) f l) (with_frames (scratch (t * width) n) g m)
same_step parts width n t f g l m r x y agree same s q = elim (below_or_not s t) [
  | inl h ↦ same_other f g agree l m (turns width n s) (apart width n s) (turns width n t) (apart width n t) (apart_before (turns width n s) (turns width n t) (turns_apart width n s) (turns_apart width n t) (part_ends s t width n h r)) (apart_before (apart width n s) (apart width n t) (apart_apart width n s) (apart_apart width n t) (part_ends s t width n h r)) (same s q)
  | inr h ↦ elim (eq-or-lt_of_le h) [
    | inl e ↦
        subst (λ (k : ℕ). SameFrames (turns width n s) (apart width n s) (with_frames (turns width n k) f l) (with_frames (apart width n k) g m)) (sym e)
        (same_own f g agree l m (turns width n s) (apart width n s) (turns_apart width n s) (apart_apart width n s) (le_trans (part_ends s parts width n q r) x) (le_trans (part_ends s parts width n q r) y) (same s q))
    | inr b ↦
        same_other f g agree l m (turns width n s) (apart width n s) (turns width n t) (apart width n t)
        (apart_swap (turns width n t) (turns width n s) (apart_before (turns width n t) (turns width n s) (turns_apart width n t) (turns_apart width n s) (part_ends t s width n b r)))
        (apart_swap (apart width n t) (apart width n s) (apart_before (apart width n t) (apart width n s) (apart_apart width n t) (apart_apart width n s) (part_ends t s width n b r)))
        (same s q)
  ]
]
