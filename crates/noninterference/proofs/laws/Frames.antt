-- Frames in sums: what holds of both sides of a frame, and the two running sums of a loop over all lines and of the loop over the lines kept.
-- A running sum fits f32 and is not -0, so that it absorbs zeros. Assumes nothing.
use mathlib.Core.Path.{◌≡◌, refl, sym, ap, ap₂, ◌∙◌, subst}
use mathlib.Core.Logic.{◌⊎◌, inl, inr}
use mathlib.Core.Bool.{Bool, true, false, cond, true≢false}
use Prim.Native.Nat.{ℕ, ◌<◌}
use lib.Dec.{T}
use lib.Ieee.{Float, binary32, mul}
use lib.Ieee.Scale.{finite}
use Rattle.decibels.specs.declared.decibels.Amplitude.{Amplitude}
use Rattle.laws.specs.Loop.{downto}
use Rattle.laws.specs.Kept.{rank}
use Rattle.laws.proofs.laws.Kept.{downto_kept}
use Rattle.laws.proofs.laws.Float.{Zero}
use Rattle.laws.proofs.laws.FloatZero.{mul_zero_left}
use Rattle.frame.specs.declared.frame.Frame.{Frame}
use Rattle.frame.specs.Frame.{zero_frame, added, scaled}
use Rattle.frame.specs.Running.{Both, Running}
use Rattle.track.proofs.laws.Running.{Fits, running_zero, absorbed, running_added}

-- ---- both sides of a frame

abbrev pub Finite : Float → Type 0
Finite x = T (finite x)

module _ {P : Float → Type 0} {a : Frame} where
  pub both_map : (R : Float → Type 0) → ((x : Float) → P x → R x) → Both P a → Both R a
  both_map R h p = record { left = h a.left p.left; right = h a.right p.right }

  pub both_scaled : (R : Float → Type 0) (k : Amplitude) → ((x : Float) → P x → R (mul binary32 x k.0)) → Both P a → Both R (scaled a k)
  unfolding scaled
  both_scaled R k h p = record { left = h a.left p.left; right = h a.right p.right }

-- ---- a frame with all lines and the one with the lines kept: they are equal, or both are zeros

abbrev pub Alike : Frame → Frame → Type 0
Alike a b = (a ≡ b) ⊎ (Both Zero a × Both Zero b)

zeros_scaled : {a : Frame} (k : Amplitude) → T (finite k.0) → Both Zero a → Both Zero (scaled a k)
zeros_scaled k h z = both_scaled Zero k (λ x p. mul_zero_left binary32 k.0 p h) z

pub alike_scaled : {a b : Frame} (k : Amplitude) → T (finite k.0) → Alike a b → Alike (scaled a k) (scaled b k)
alike_scaled k h r =
    elim r [
      | inl e ↦ inl (ap₂ scaled e refl)
      | inr z ↦ inr (zeros_scaled k h z.0, zeros_scaled k h z.1)
    ]

-- ---- the two running sums

pub record Same (x y : Frame) : Type 0 where
  pub same : x ≡ y
  pub running : Both Running x

pub same_start : Same zero_frame zero_frame
same_start = record { same = refl; running = running_zero }

pub same_added : {x y t u : Frame} → Same x y → Both Fits t → Alike t u → Same (added x t) (added y u)
same_added {x} {y} {t} {u} r f a =
    record {
      same = elim a [ inl e ↦ ap₂ added r.same e | inr z ↦ absorbed r.running z.0 ∙ r.same ∙ sym (absorbed (subst (Both Running) r.same r.running) z.1) ];
      running = running_added r.running f;
    }

-- two frames and what they are equal to
pub at_equal : (R : Frame → Frame → Type 0) {x x' y y' : Frame} → x ≡ x' → y ≡ y' → R x' y' → R x y
at_equal R {x} {x'} {y} {y'} p q r = subst (λ (a : Frame). R a y) (sym p) (subst (R x') (sym q) r)

-- ---- turns of the two loops. A line kept is tested alike on both sides; a removed line is not picked, and the other side stands still

module _ {X : Type 0} (R : X → X → Type 0) {x y : X} where
  pub turn_kept : {u v : X} (b b' : Bool) → b' ≡ b → R x y → (T b → R u v) → R (cond b u x) (cond b' v y)
  turn_kept {u} {v} b b' e r s = subst (λ (z : Bool). R (cond b u x) (cond z v y)) (sym e) (go b s)
    where
      go : (z : Bool) → (T z → R u v) → R (cond z u x) (cond z v y)
      go true s = s tt
      go false s = r

  pub turn_removed : (b : Bool) (u : X) → b ≡ false → R x y → R (cond b u x) y
  turn_removed true u e r = absurd (true≢false e)
  turn_removed false u e r = r

-- a loop over the lines kept, none of which is picked
pub none_picked : (keep : ℕ → Bool) (g : ℕ → Frame → Frame) (n : ℕ) (x : Frame) → ((i : ℕ) → i < n → T (keep i) → g (rank keep i) x ≡ x) → downto g (rank keep n) x ≡ x
none_picked keep g n x h = downto_kept (λ i (a b : Frame). b ≡ x) keep (λ i a. a) g n x x (λ i l t a b e. ap (g (rank keep i)) e ∙ h i l t) (λ i l t a b e. e) refl
