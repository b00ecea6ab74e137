-- Loops over a table whose turns are steps on the frames of a buffer. `turns` is such a turn; the loop's invariant is that of `downto` or `upto`
-- (`laws`, Loop) with it, and the laws named `-done` take the last turn to a loop at each frame. Frames have an index I: a number in one chunk's
-- frames, a send track and a number in a buffer of several. Assumes nothing.
use mathlib.Core.Path.{◌≡◌, refl, sym, ap, ◌∙◌, subst}
use mathlib.Core.Bool.{Bool, cond}
use mathlib.Core.List.{List}
use Prim.Native.Nat.{ℕ, zero, suc, ◌+◌, ◌-◌, ◌*◌, ◌≤◌, ◌<◌}
use native.Mathlib.Nat.{le_refl}
use borrow.Author.Tests.{eq-eqb, ne_eqb}
use lib.Dec.{eqb}
use lib.ListN.{length}
use lib.Ieee.{Float}
use Rattle.laws.specs.Loop.{upto, downto}
use Rattle.laws.proofs.laws.Loop.{downto_turn, downto_end, upto_turn, upto_end}
use Rattle.frame.specs.declared.frame.Frame.{Frame}
use Rattle.frame.specs.Layout.{Layout, with_frames, SidesApart}
use Rattle.frame.proofs.laws.Layout.{first_length, first_same, first_twice}

-- a way to take a step on each frame of a buffer that has at least so much room
pub record Steps (I : Type 0) (with : (I → Frame → Frame) → List Float → List Float) (room : ℕ) : Type 0 where
  pub long : (f : I → Frame → Frame) (l : List Float) → length (with f l) ≡ length l
  pub same : (l : List Float) → with (λ i a. a) l ≡ l
  pub twice : (f g : I → Frame → Frame) (l : List Float) → room ≤ length l → with g (with f l) ≡ with (λ i a. g i (f i a)) l

-- the frames of a layout
pub frames_steps : {first n : ℕ} (L : Layout first n) → SidesApart L → Steps ℕ (with_frames L) (first + 2 * n)
frames_steps {first} {n} L D =
    record {
      long = λ f l. first_length L f n l;
      same = λ l. first_same L (λ i a. a) n l (λ k p a. refl);
      twice = λ f g l r. first_twice L D f g n l (le_refl n) r;
    }

module _ {I : Type 0} (with : (I → Frame → Frame) → List Float → List Float) where
  abbrev pub turns : (ℕ → I → Frame → Frame) → ℕ → List Float → List Float
  turns g j r = with (g j) r

  -- a step behind a test of numbers
  module _ (p q : ℕ) (g : I → Frame → Frame) (l : List Float) where
    pub step_picked : p ≡ q → with (λ i a. cond (eqb p q) (g i a) a) l ≡ with g l
    step_picked h = ap (λ (b : Bool). with (λ i a. cond b (g i a) a) l) (eq-eqb p q h)

    pub step_left : {room : ℕ} → Steps I with room → (p ≡ q → ⊥) → with (λ i a. cond (eqb p q) (g i a) a) l ≡ l
    step_left S h = ap (λ (b : Bool). with (λ i a. cond b (g i a) a) l) (ne_eqb p q h) ∙ S.same l

  module _ (g : ℕ → I → Frame → Frame) (l now : List Float) {last : List Float} where
    pub down_turn : (k : ℕ) {end : List Float} → 0 < k → downto (turns g) k now ≡ end → last ≡ with (g (k - 1)) now → downto (turns g) (k - 1) last ≡ end
    down_turn k h inv e = ap (downto (turns g) (k - 1)) e ∙ downto_turn (turns g) k now h inv

    pub up_turn : (k : ℕ) → now ≡ upto (turns g) k l → last ≡ with (g k) now → last ≡ upto (turns g) (k + 1) l
    up_turn k inv e = e ∙ upto_turn (turns g) k l inv

  module _ {room : ℕ} (S : Steps I with room) where
    -- a turn keeps the length
    pub turn_length : (g : I → Frame → Frame) (l now : List Float) {last : List Float} → length now ≡ length l → last ≡ with g now → length last ≡ length l
    turn_length g l now h e = ap length e ∙ S.long g now ∙ h

    -- a loop whose turns are steps on a buffer is a loop at each frame
    downto_frames : (g : ℕ → I → Frame → Frame) (m : ℕ) (l : List Float) → room ≤ length l → downto (turns g) m l ≡ with (λ i a. downto (λ j x. g j i x) m a) l
    unfolding downto
    downto_frames g zero l r = sym (S.same l)
    downto_frames g (suc m) l r =
        downto_frames g m (with (g m) l) (subst (λ (k : ℕ). room ≤ k) (sym (S.long (g m) l)) r)
        ∙ S.twice (g m) (λ i a. downto (λ j x. g j i x) m a) l r

    upto_frames : (g : ℕ → I → Frame → Frame) (m : ℕ) (l : List Float) → room ≤ length l → upto (turns g) m l ≡ with (λ i a. upto (λ j x. g j i x) m a) l
    unfolding upto
    upto_frames g zero l r = sym (S.same l)
    upto_frames g (suc m) l r = ap (with (g m)) (upto_frames g m l r) ∙ S.twice (λ i a. upto (λ j x. g j i x) m a) (g m) l r

    module _ (g : ℕ → I → Frame → Frame) (m : ℕ) (l : List Float) (r : room ≤ length l) {k : ℕ} {now : List Float} where
      pub down_done : k ≡ 0 → downto (turns g) k now ≡ downto (turns g) m l → now ≡ with (λ i a. downto (λ j x. g j i x) m a) l
      down_done h inv = downto_end (turns g) now h inv ∙ downto_frames g m l r

      pub up_done : k ≡ m → now ≡ upto (turns g) k l → now ≡ with (λ i a. upto (λ j x. g j i x) m a) l
      up_done h inv = upto_end (turns g) l h inv ∙ upto_frames g m l r
