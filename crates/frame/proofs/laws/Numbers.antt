-- Sides that stand side by side as one run of numbers: a step that does the same to each number of a chunk, place by place, is one on its frames.
-- Then two such runs in one buffer. Assumes nothing.
use mathlib.Core.Path.{◌≡◌, sym, ap, ap₂, ◌∙◌}
use mathlib.Core.Logic.{◌≢◌, ◌⊎◌, ⊎_elim}
use mathlib.Core.List.{List}
use Prim.Native.Nat.{ℕ, zero, suc, ◌+◌, ◌*◌, ◌≤◌, ◌<◌}
use native.Mathlib.Nat.{zero-add, le_refl, le_trans, le-suc}
use native.Mathlib.Omega.{arith}
use lib.ListN.{get_or, set}
use lib.Seq.{get_or-set_other}
use lib.Ieee.{Float, nan, binary32, add, mul}
use Rattle.laws.specs.Loop.{upto}
use Rattle.laws.proofs.laws.Sets.{set_comm}
use Rattle.laws.proofs.laws.Loop.{upto_zero, upto-suc, upto_add, upto_cong, upto_turn}
use Rattle.decibels.specs.declared.decibels.Amplitude.{Amplitude}
use Rattle.frame.specs.declared.frame.Frame.{Frame}
use Rattle.frame.specs.Frame.{added, scaled, added_from, added_scaled}
use Rattle.frame.specs.Layout.{planar, scratch, frame_at, put_frame, with_first, with_frames}
use Rattle.frame.proofs.laws.Layout.{Step}

-- ---- two loops as one

module _ {S : Type 0} (g : ℕ → S → S) where
  -- a turn past turns that it may change places with
  upto_past : (f : S → S) (n : ℕ) (s : S) → ((j : ℕ) → j < n → (x : S) → f (g j x) ≡ g j (f x)) → f (upto g n s) ≡ upto g n (f s)
  upto_past f zero s h = ap f (upto_zero g s) ∙ sym (upto_zero g (f s))
  upto_past f (suc n) s h =
      ap f (upto-suc g n s)
      ∙ h n (le_refl (suc n)) (upto g n s)
      ∙ ap (g n) (upto_past f n s (λ j l. h j (le_trans l (le-suc n))))
      ∙ sym (upto-suc g n (f s))

  -- all turns of f, and then all of g, where those of f may come after earlier ones of g
  upto_both : (f : ℕ → S → S) (n : ℕ) (s : S) → ((i j : ℕ) → i < n → j < i → (x : S) → f i (g j x) ≡ g j (f i x)) → upto (λ i x. g i (f i x)) n s ≡ upto g n (upto f n s)
  upto_both f zero s h = upto_zero (λ i x. g i (f i x)) s ∙ sym (upto_zero f s) ∙ sym (upto_zero g (upto f 0 s))
  upto_both f (suc n) s h =
      upto-suc (λ i x. g i (f i x)) n s
      ∙ ap (λ (x : S). g n (f n x)) (upto_both f n s (λ i j l. h i j (le_trans l (le-suc n))))
      ∙ ap (g n) (upto_past (f n) n (upto f n s) (λ j l. h n j (le_refl (suc n)) l))
      ∙ sym (upto-suc g n (f n (upto f n s)))
      ∙ ap (upto g (suc n)) (sym (upto-suc f n s))

-- ---- one number of a buffer changed

abbrev pub number_step : ℕ → (Float → Float) → List Float → List Float
number_step a h l = set l a (h (get_or l a nan))

step_comm : (a b : ℕ) (h k : Float → Float) (l : List Float) → a ≢ b → number_step a h (number_step b k l) ≡ number_step b k (number_step a h l)
step_comm a b h k l d =
    ap (λ (x : Float). set (number_step b k l) a (h x)) (get_or-set_other l b a (k (get_or l b nan)) nan d)
    ∙ set_comm l b a (k (get_or l b nan)) (h (get_or l a nan)) (λ e. d (sym e))
    ∙ ap (λ (x : Float). set (number_step a h l) b (k x)) (sym (get_or-set_other l a b (h (get_or l a nan)) nan (λ e. d (sym e))))

-- ---- a run of numbers

-- number i of those from `first` on by h
abbrev pub run_turn : ℕ → (ℕ → Float → Float) → ℕ → List Float → List Float
run_turn first h i l = number_step (first + i) (h i) l

-- a turn of a loop from the buffer's start
pub run_turn_lem : (h : ℕ → Float → Float) (i : ℕ) (l : List Float) {now : List Float} → now ≡ upto (run_turn 0 h) i l → number_step i (h i) now ≡ upto (run_turn 0 h) (i + 1) l
run_turn_lem h i l {now} e = ap (λ (k : ℕ). number_step k (h i) now) (sym (zero-add i)) ∙ upto_turn (run_turn 0 h) i l e

-- a step on frames that does h to each number, left sides first
abbrev Sidewise : ℕ → (ℕ → Float → Float) → Step → Type 0
Sidewise n h f = (i : ℕ) (a : Frame) → f i a ≡ record { left = h i a.left; right = h (n + i) a.right }

module _ (first n : ℕ) (h : ℕ → Float → Float) (f : Step) (is : Sidewise n h f) where
  -- left sides, and right sides
  lefts : ℕ → List Float → List Float
  lefts i l = run_turn first h i l

  rights : ℕ → List Float → List Float
  rights i l = number_step (first + n + i) (h (n + i)) l

  -- a frame's turn is that of its left side and that of its right one
  turn_sides : (i : ℕ) (l : List Float) → i < n → put_frame (scratch first n) l i (f i (frame_at (scratch first n) l i)) ≡ rights i (lefts i l)
  unfolding planar frame_at put_frame lefts rights
  turn_sides i l p =
      ap (put_frame (scratch first n) l i) (is i (frame_at (scratch first n) l i))
      ∙ ap (λ (x : Float). set (lefts i l) (first + n + i) (h (n + i) x)) (sym (get_or-set_other l (first + i) (first + n + i) (h i (get_or l (first + i) nan)) nan (λ e. absurd (omega (arith, p, e)))))

  sides_comm : (i j : ℕ) → i < n → j < i → (l : List Float) → lefts i (rights j l) ≡ rights j (lefts i l)
  unfolding lefts rights
  sides_comm i j p q l = step_comm (first + i) (first + n + j) (h i) (h (n + j)) l (λ e. absurd (omega (arith, p, q, e)))

  rights_run : (i : ℕ) (l : List Float) → rights i l ≡ run_turn first h (n + i) l
  unfolding rights
  rights_run i l = ap (λ (a : ℕ). number_step a (h (n + i)) l) (omega arith)

  -- the frames one by one are the run of both sides
  run_frames : (l : List Float) → upto (run_turn first h) (2 * n) l ≡ with_frames (scratch first n) f l
  unfolding with_first lefts
  run_frames l =
      ap (λ (m : ℕ). upto (run_turn first h) m l) (omega arith)
      ∙ upto_add (run_turn first h) n n l
      ∙ upto_cong (λ i. run_turn first h (n + i)) rights n (upto (run_turn first h) n l) (λ i p x. sym (rights_run i x))
      ∙ sym (upto_both rights lefts n l sides_comm)
      ∙ sym (upto_cong (λ i r. put_frame (scratch first n) r i (f i (frame_at (scratch first n) r i))) (λ i r. rights i (lefts i r)) n l (λ i p x. turn_sides i x p))

-- ---- the numbers of another buffer added

abbrev pub plus_number : List Float → ℕ → Float → Float
plus_number from i y = add binary32 y (get_or from i nan)

abbrev pub plus_scaled : List Float → Amplitude → ℕ → Float → Float
plus_scaled from factor i y = add binary32 y (mul binary32 (get_or from i nan) factor.0)

module _ (from : List Float) (n : ℕ) where
  -- its frame i
  given_frame : (i : ℕ) → frame_at (scratch 0 n) from i ≡ record { left = get_or from i nan; right = get_or from (n + i) nan }
  unfolding planar frame_at
  given_frame i = ap₂ (λ (a b : ℕ). record { left = get_or from a nan; right = get_or from b nan }) (zero-add i) (ap (λ (k : ℕ). k + i) (zero-add n))

  plus_sides : Sidewise n (plus_number from) (added_from (frame_at (scratch 0 n) from))
  unfolding added_from added
  plus_sides i a = ap (added a) (given_frame i)

  scaled_sides : (factor : Amplitude) → Sidewise n (plus_scaled from factor) (added_scaled (frame_at (scratch 0 n) from) factor)
  unfolding added_scaled added scaled
  scaled_sides factor i a = ap (λ (b : Frame). added a (scaled b factor)) (given_frame i)

  pub plus_run : (l : List Float) → upto (run_turn 0 (plus_number from)) (2 * n) l ≡ with_frames (scratch 0 n) (added_from (frame_at (scratch 0 n) from)) l
  plus_run l = run_frames 0 n (plus_number from) (added_from (frame_at (scratch 0 n) from)) plus_sides l

-- ---- two runs in one buffer

abbrev pub two_turns : (first second : ℕ) → (ℕ → Float → Float) → (ℕ → Float → Float) → ℕ → List Float → List Float
two_turns first second h k i l = run_turn second k i (run_turn first h i l)

-- a number of the first run and an earlier one of the second stand apart
places_apart : (first second n i j : ℕ) → (second ≤ first) ⊎ (first + 2 * n ≤ second) → i < 2 * n → j < i → first + i ≢ second + j
places_apart first second n i j d p q e = ⊎_elim (λ (b : second ≤ first). absurd (omega (arith, b, q, e))) (λ (b : first + 2 * n ≤ second). absurd (omega (arith, b, p, e))) d

pub both_runs : (from : List Float) (n first second : ℕ) (factor then : Amplitude) (l : List Float) → (second ≤ first) ⊎ (first + 2 * n ≤ second) → upto (two_turns first second (plus_scaled from factor) (plus_scaled from then)) (2 * n) l ≡ with_frames (scratch second n) (added_scaled (frame_at (scratch 0 n) from) then) (with_frames (scratch first n) (added_scaled (frame_at (scratch 0 n) from) factor) l)
both_runs from n first second factor then l d =
    let h : ℕ → Float → Float = plus_scaled from factor in
    let k : ℕ → Float → Float = plus_scaled from then in
    let once : Step = added_scaled (frame_at (scratch 0 n) from) factor in
    let more : Step = added_scaled (frame_at (scratch 0 n) from) then in
    upto_both (run_turn second k) (run_turn first h) (2 * n) l (λ i j p q x. step_comm (first + i) (second + j) (h i) (k j) x (places_apart first second n i j d p q))
    ∙ run_frames second n k more (scaled_sides from n then) (upto (run_turn first h) (2 * n) l)
    ∙ ap (with_frames (scratch second n) more) (run_frames first n h once (scaled_sides from n factor) l)
