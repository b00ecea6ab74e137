-- The buffer of all send tracks' inputs: a step on each send track's frames, one step after another, a loop of steps, and a step on one send track
-- alone. Parts of the buffer lie apart where a chunk is no longer than the longest, so that steps on two parts may change places. Assumes nothing.
use mathlib.Core.Path.{◌≡◌, refl, sym, ap, ◌∙◌, subst}
use mathlib.Core.Logic.{inl, inr}
use mathlib.Core.Bool.{cond}
use mathlib.Core.List.{List}
use Prim.Native.Nat.{ℕ, zero, suc, ◌+◌, ◌-◌, ◌*◌, ◌≤◌, ◌<◌}
use native.Mathlib.Nat.{le_refl, le_trans, le-suc, le_of_suc-le-suc, eq-or-lt_of_le}
use native.Mathlib.Omega.{arith}
use lib.Dec.{eqb}
use lib.ListN.{length}
use lib.Ieee.{Float}
use Rattle.limits.specs.Limits.{send_lines, chunk_frames_most}
use Rattle.laws.specs.Loop.{upto}
use Rattle.laws.proofs.laws.Choice.{picks_eq, leaves_eq}
use Rattle.laws.proofs.laws.Loop.{upto-suc, upto_cong, upto_zero, upto_turn}
use Rattle.frame.specs.declared.frame.Frame.{Frame}
use Rattle.frame.specs.Frame.{zero_frame, cleared}
use Rattle.frame.specs.Layout.{frame_at, with_frames, SidesApart}
use Rattle.frame.proofs.laws.Places.{scratch_apart}
use Rattle.frame.proofs.laws.Layout.{Step, first_length, first_at, first_cong, first_same, first_held, first_twice, first_across, first_either, Apart, apart_before, apart_swap}
use Rattle.frame.proofs.laws.Turn.{Steps}
use Rattle.send_track.specs.Send.{send_part, send_places, send_layout, on_sends, cleared_sends}

-- a step on each send track's frames
abbrev pub SendStep : Type 0
SendStep = ℕ → ℕ → Frame → Frame

-- no two sides of a send track's frames stand in one place
abbrev send_apart : (s n : ℕ) → SidesApart (send_layout s n)
send_apart s n = scratch_apart (s * send_part) n

-- on the first k send tracks
abbrev part : ℕ → SendStep → ℕ → List Float → List Float
part n f s r = with_frames (send_layout s n) (f (suc s)) r

module _ (n : ℕ) where
  parts_length : (f : SendStep) (k : ℕ) (l : List Float) → length (upto (part n f) k l) ≡ length l
  parts_length f zero l = ap length (upto_zero (part n f) l)
  parts_length f (suc k) l = ap length (upto-suc (part n f) k l) ∙ first_length (send_layout k n) (f (suc k)) n (upto (part n f) k l) ∙ parts_length f k l

  pub on_sends-length : (f : SendStep) (l : List Float) → length (on_sends n f l) ≡ length l
  unfolding on_sends
  on_sends-length f l = parts_length f send_lines l

  -- steps that agree on the chunk's frames
  pub on_sends_cong : (f g : SendStep) (l : List Float) → ((s i : ℕ) → i < n → (a : Frame) → f s i a ≡ g s i a) → on_sends n f l ≡ on_sends n g l
  unfolding on_sends
  on_sends_cong f g l h = upto_cong (part n f) (part n g) send_lines l (λ s p r. first_cong (send_layout s n) (f (suc s)) (g (suc s)) n r (λ i q a. h (suc s) i q a))

  -- frames of all send tracks, by send track and number
  abbrev pub all_sends : (ℕ × ℕ → Frame → Frame) → List Float → List Float
  all_sends f l = on_sends n (λ s i. f (s, i)) l

  parts_same : (f : SendStep) (k : ℕ) (l : List Float) → ((s i : ℕ) (a : Frame) → s < k → f (suc s) i a ≡ a) → upto (part n f) k l ≡ l
  parts_same f zero l h = upto_zero (part n f) l
  parts_same f (suc k) l h =
      upto-suc (part n f) k l
      ∙ first_same (send_layout k n) (f (suc k)) n (upto (part n f) k l) (λ i p a. h k i a (le_refl (suc k)))
      ∙ parts_same f k l (λ s i a p. h s i a (le_trans p (le-suc k)))

  pub on_sends_same : (f : SendStep) (l : List Float) → ((s i : ℕ) (a : Frame) → f s i a ≡ a) → on_sends n f l ≡ l
  unfolding on_sends
  on_sends_same f l h = parts_same f send_lines l (λ s i a p. h (suc s) i a)

  -- steps that hold the frames that are there
  parts_held : (f : SendStep) (k : ℕ) (l : List Float) → ((s i : ℕ) → s < k → i < n → f (suc s) i (frame_at (send_layout s n) l i) ≡ frame_at (send_layout s n) l i) → upto (part n f) k l ≡ l
  parts_held f zero l h = upto_zero (part n f) l
  parts_held f (suc k) l h =
      upto-suc (part n f) k l
      ∙ ap (part n f k) (parts_held f k l (λ s i p q. h s i (le_trans p (le-suc k)) q))
      ∙ first_held (send_layout k n) (f (suc k)) n l (λ i q. h k i (le_refl (suc k)) q)

  pub on_sends_held : (f : SendStep) (l : List Float) → ((s i : ℕ) → s < send_lines → i < n → f (suc s) i (frame_at (send_layout s n) l i) ≡ frame_at (send_layout s n) l i) → on_sends n f l ≡ l
  unfolding on_sends
  on_sends_held f l h = parts_held f send_lines l h

module _ (n : ℕ) (short : n ≤ chunk_frames_most) where
  -- two parts
  part_after : (s t : ℕ) → s < t → Apart (send_layout s n) (send_layout t n)
  part_after s t h = apart_before (send_layout s n) (send_layout t n) (send_apart s n) (send_apart t n) (omega (arith, short, h))

  parts_apart : (s t : ℕ) → s < t → Apart (send_layout t n) (send_layout s n)
  parts_apart s t h = apart_swap (send_layout s n) (send_layout t n) (part_after s t h)

  -- a step on part k after those on the first j ≤ k parts
  part_through : (f g : SendStep) (j k : ℕ) (l : List Float) → j ≤ k → upto (part n g) j (part n f k l) ≡ part n f k (upto (part n g) j l)
  part_through f g zero k l h = upto_zero (part n g) (part n f k l) ∙ ap (part n f k) (sym (upto_zero (part n g) l))
  part_through f g (suc j) k l h =
      upto-suc (part n g) j (part n f k l)
      ∙ ap (part n g j) (part_through f g j k l (le_trans (le-suc j) h))
      ∙ first_either (send_layout j n) (send_layout k n) (part_after j k h) (g (suc j)) (f (suc k)) n n (upto (part n g) j l) (le_refl n) (le_refl n)
      ∙ ap (part n f k) (sym (upto-suc (part n g) j l))

  room : (k m : ℕ) → k < send_lines → send_places ≤ m → k * send_part + 2 * n ≤ m
  room k m h r = omega (arith, short, h, r)

  parts_twice : (f g : SendStep) (k : ℕ) (l : List Float) → k ≤ send_lines → send_places ≤ length l → upto (part n g) k (upto (part n f) k l) ≡ upto (part n (λ s i a. g s i (f s i a))) k l
  parts_twice f g zero l w r = upto_zero (part n g) (upto (part n f) 0 l) ∙ upto_zero (part n f) l ∙ sym (upto_zero (part n (λ s i a. g s i (f s i a))) l)
  parts_twice f g (suc k) l w r =
      let h : SendStep = λ s i a. g s i (f s i a) in
      let old = upto (part n f) k l in
      upto-suc (part n g) k (upto (part n f) (suc k) l)
      ∙ ap (λ (x : List Float). part n g k (upto (part n g) k x)) (upto-suc (part n f) k l)
      ∙ ap (part n g k) (part_through f g k k old (le_refl k) ∙ ap (part n f k) (parts_twice f g k l (le_trans (le-suc k) w) r))
      ∙ first_twice (send_layout k n) (send_apart k n) (f (suc k)) (g (suc k)) n (upto (part n h) k l) (le_refl n) (room k (length (upto (part n h) k l)) w (subst (λ (m : ℕ). send_places ≤ m) (sym (parts_length n h k l)) r))
      ∙ sym (upto-suc (part n h) k l)

  pub on_sends_twice : (f g : SendStep) (l : List Float) → send_places ≤ length l → on_sends n g (on_sends n f l) ≡ on_sends n (λ s i a. g s i (f s i a)) l
  unfolding on_sends
  on_sends_twice f g l r = parts_twice f g send_lines l (le_refl send_lines) r

  pub sends_steps : Steps (ℕ × ℕ) (all_sends n) send_places
  sends_steps =
      record {
        long = λ f l. on_sends-length n (λ s i. f (s, i)) l;
        same = λ l. on_sends_same n (λ s i a. a) l (λ s i a. refl);
        twice = λ f g l r. on_sends_twice (λ s i. f (s, i)) (λ s i. g (s, i)) l r;
      }

  -- frame i of send track s + 1
  parts_from : (f : SendStep) (k s i : ℕ) (l : List Float) → k ≤ s → i < n → frame_at (send_layout s n) (upto (part n f) k l) i ≡ frame_at (send_layout s n) l i
  parts_from f zero s i l h p = ap (λ (r : List Float). frame_at (send_layout s n) r i) (upto_zero (part n f) l)
  parts_from f (suc k) s i l h p =
      ap (λ (r : List Float). frame_at (send_layout s n) r i) (upto-suc (part n f) k l)
      ∙ first_across (send_layout s n) (send_layout k n) (parts_apart k s h) (f (suc k)) n (upto (part n f) k l) i (le_refl n) p
      ∙ parts_from f k s i l (le_trans (le-suc k) h) p

  parts_at : (f : SendStep) (k s i : ℕ) (l : List Float) → s < k → k ≤ send_lines → i < n → send_places ≤ length l → frame_at (send_layout s n) (upto (part n f) k l) i ≡ f (suc s) i (frame_at (send_layout s n) l i)
  parts_at f zero s i l h w p r = absurd (omega (arith, h))
  parts_at f (suc k) s i l h w p r =
      let old = upto (part n f) k l in
      ap (λ (x : List Float). frame_at (send_layout s n) x i) (upto-suc (part n f) k l)
      ∙ elim (eq-or-lt_of_le (le_of_suc-le-suc h)) [
        | inl e ↦
            subst (λ (t : ℕ). frame_at (send_layout s n) (part n f t old) i ≡ f (suc s) i (frame_at (send_layout s n) l i)) e
            (first_at (send_layout s n) (send_apart s n) (f (suc s)) n old i (le_refl n) (room s (length old) (le_trans h w) (subst (λ (m : ℕ). send_places ≤ m) (sym (parts_length n f k l)) r)) p
            ∙ ap (f (suc s) i) (parts_from f k s i l (reach k s e) p))
        | inr b ↦
            first_across (send_layout s n) (send_layout k n) (part_after s k b) (f (suc k)) n old i (le_refl n) p
            ∙ parts_at f k s i l b (le_trans (le-suc k) w) p r
      ]
    where
      reach : (k s : ℕ) → s ≡ k → k ≤ s
      reach k s e = omega arith

  pub on_sends_at : (f : SendStep) (s i : ℕ) (l : List Float) → s < send_lines → i < n → send_places ≤ length l → frame_at (send_layout s n) (on_sends n f l) i ≡ f (suc s) i (frame_at (send_layout s n) l i)
  unfolding on_sends
  on_sends_at f s i l h p r = parts_at f send_lines s i l h (le_refl send_lines) p r

-- ---- the first inputs cleared

module _ (n : ℕ) where
  clearing : ℕ → List Float → List Float
  clearing s r = with_frames (send_layout s n) cleared r

  pub cleared_zero : (l : List Float) → cleared_sends n 0 l ≡ l
  unfolding cleared_sends clearing
  cleared_zero l = upto_zero clearing l

  pub cleared_turn : (s : ℕ) (l : List Float) {now last : List Float} → now ≡ cleared_sends n s l → last ≡ with_frames (send_layout s n) cleared now → last ≡ cleared_sends n (s + 1) l
  unfolding cleared_sends clearing
  cleared_turn s l e q = q ∙ upto_turn clearing s l e

  pub cleared_end : (l : List Float) {s count : ℕ} {now : List Float} → s ≡ count → now ≡ cleared_sends n s l → now ≡ cleared_sends n count l
  cleared_end l h e = e ∙ ap (λ (k : ℕ). cleared_sends n k l) h

  pub cleared_length : (count : ℕ) (l : List Float) → length (cleared_sends n count l) ≡ length l
  unfolding cleared_sends
  cleared_length count l = parts_length n (λ t. cleared) count l

pub cleared_at : (n : ℕ) → n ≤ chunk_frames_most → (count s i : ℕ) (l : List Float) → s < count → count ≤ send_lines → i < n → send_places ≤ length l → frame_at (send_layout s n) (cleared_sends n count l) i ≡ zero_frame
unfolding cleared_sends
cleared_at n short count s i l h w p r = parts_at n short (λ t. cleared) count s i l h w p r

-- ---- a step on one send track

-- send track t alone
abbrev only : ℕ → Step → SendStep
only t f s i x = cond (eqb t s) (f i x) x

module _ (n t : ℕ) (f : Step) where
  only_others : (k : ℕ) (l : List Float) → k ≤ t → upto (part n (only (suc t) f)) k l ≡ l
  only_others k l h = parts_same n (only (suc t) f) k l (λ s i a p. leaves_eq (suc t) (suc s) (f i a) a (λ e. absurd (omega (arith, p, h, e))))

  only_this : (l : List Float) → part n (only (suc t) f) t l ≡ with_frames (send_layout t n) f l
  only_this l = first_cong (send_layout t n) (only (suc t) f (suc t)) f n l (λ i p a. picks_eq (suc t) (suc t) (f i a) a refl)

  only_to : (k : ℕ) (l : List Float) → t < k → upto (part n (only (suc t) f)) k l ≡ with_frames (send_layout t n) f l
  only_to zero l h = absurd (omega (arith, h))
  only_to (suc k) l h =
      upto-suc (part n (only (suc t) f)) k l
      ∙ elim (eq-or-lt_of_le (le_of_suc-le-suc h)) [
        | inl e ↦
            subst (λ (j : ℕ). part n (only (suc t) f) j (upto (part n (only (suc t) f)) j l) ≡ with_frames (send_layout t n) f l) e
            (ap (part n (only (suc t) f) t) (only_others t l (le_refl t)) ∙ only_this l)
        | inr b ↦
            first_same (send_layout k n) (only (suc t) f (suc k)) n (upto (part n (only (suc t) f)) k l) (λ i p a. leaves_eq (suc t) (suc k) (f i a) a (λ e. absurd (omega (arith, b, e))))
            ∙ only_to k l b
      ]

-- send track s, counted from 1
pub one_send : (n s : ℕ) (f : Step) (l : List Float) → 1 ≤ s → s ≤ send_lines → with_frames (send_layout (s - 1) n) f l ≡ on_sends n (λ t i x. cond (eqb s t) (f i x) x) l
unfolding on_sends
one_send n s f l low high =
    let e : suc (s - 1) ≡ s = omega arith in
    sym (only_to n (s - 1) f send_lines l (omega arith)) ∙ ap (λ (t : ℕ). upto (part n (only t f)) send_lines l) e
