-- What a channel gets, case by case, and a frame's piece of one channel, of two and of more. Assumes nothing.
use mathlib.Core.Path.{◌≡◌, refl, sym, ap, ap₂, ◌∙◌}
use mathlib.Core.List.{List, [], ◌∷◌, ◌++◌, append_assoc, append-nil}
use Prim.Native.Nat.{ℕ, zero, suc, ◌+◌, ◌-◌, ◌*◌, ◌≤◌, ◌<◌}
use native.Mathlib.Nat.{zero-add, suc-add, zero-mul}
use native.Mathlib.Omega.{arith}
use lib.Dec.{eqb}
use lib.IntN.{pos}
use lib.ListN.{length, set, replicate, length-set, length-append}
use lib.Seq.{set-append_seam}
use lib.Ieee.{Float, binary32, add, div, of_int}
use borrow.Author.Tests.{eq-eqb, ne_eqb}
use Rattle.laws.proofs.laws.Choice.{cond-true, cond-false}
use Rattle.laws.specs.Pieces.{pieces, put_at}
use Rattle.laws.proofs.laws.Pieces.{pieces_zero, pieces-suc, set_put, put_turn}
use Rattle.frame.specs.declared.frame.Frame.{Frame}
use Rattle.frame.specs.Frame.{zero_sample}
use Rattle.renderer.specs.Renderer.{channel_at, channels_of}

module _ (channels : ℕ) (a : Frame) (c : ℕ) where
  pub channel_folded : channels ≡ 1 → channel_at channels a c ≡ div binary32 (add binary32 a.left a.right) (of_int binary32 (pos 2))
  unfolding channel_at
  channel_folded h = cond-true (eqb channels 1) _ _ (eq-eqb channels 1 h)

  pub channel_left : (channels ≡ 1 → ⊥) → c ≡ 0 → channel_at channels a c ≡ a.left
  unfolding channel_at
  channel_left h k = cond-false (eqb channels 1) _ _ (ne_eqb channels 1 h) ∙ cond-true (eqb c 0) _ _ (eq-eqb c 0 k)

  pub channel_right : (channels ≡ 1 → ⊥) → (c ≡ 0 → ⊥) → c ≡ 1 → channel_at channels a c ≡ a.right
  unfolding channel_at
  channel_right h k l = cond-false (eqb channels 1) _ _ (ne_eqb channels 1 h) ∙ cond-false (eqb c 0) _ _ (ne_eqb c 0 k) ∙ cond-true (eqb c 1) _ _ (eq-eqb c 1 l)

  pub channel_silent : (channels ≡ 1 → ⊥) → (c ≡ 0 → ⊥) → (c ≡ 1 → ⊥) → channel_at channels a c ≡ of_int binary32 (pos 0)
  unfolding channel_at
  channel_silent h k l = cond-false (eqb channels 1) _ _ (ne_eqb channels 1 h) ∙ cond-false (eqb c 0) _ _ (ne_eqb c 0 k) ∙ cond-false (eqb c 1) _ _ (ne_eqb c 1 l)

-- ---- one channel

abbrev pub folded : Frame → Float
folded a = div binary32 (add binary32 a.left a.right) (of_int binary32 (pos 2))

mono : (a : Frame) → channels_of 1 a ≡ folded a ∷ []
unfolding channels_of
mono a =
    let f : ℕ → List Float = λ c. channel_at 1 a c ∷ [] in
    pieces-suc f 0 ∙ ap (λ (l : List Float). l ++ f 0) (pieces_zero f) ∙ ap (λ (x : Float). x ∷ []) (channel_folded 1 a 0 refl)

pub mono_put : (l : List Float) (i : ℕ) (a : Frame) → i < length l → set l i (folded a) ≡ put_at (i * 1) (channels_of 1 a) l
mono_put l i a h = set_put l i (folded a) h ∙ ap₂ (λ (k : ℕ) (p : List Float). put_at k p l) (once i) (sym (mono a))
  where
    once : (i : ℕ) → i ≡ i * 1
    once i = omega arith

-- ---- two channels

-- they are the two sides
stereo : (a : Frame) → channels_of 2 a ≡ a.left ∷ a.right ∷ []
unfolding channels_of
stereo a =
    let f : ℕ → List Float = λ c. channel_at 2 a c ∷ [] in
    pieces-suc f 1
    ∙ ap (λ (l : List Float). l ++ f 1) (pieces-suc f 0 ∙ ap (λ (l : List Float). l ++ f 0) (pieces_zero f))
    ∙ ap₂ (λ (x y : Float). x ∷ y ∷ []) (channel_left 2 a 0 (λ e. absurd (omega arith)) refl) (channel_right 2 a 1 (λ e. absurd (omega arith)) (λ e. absurd (omega arith)) refl)

pub stereo_put : (l : List Float) (i : ℕ) (a : Frame) → 2 * i + 1 < length l → set (set l (2 * i) a.left) (2 * i + 1) a.right ≡ put_at (i * 2) (channels_of 2 a) l
stereo_put l i a h =
    set_put (set l (2 * i) a.left) (2 * i + 1) a.right (rw (length-set l (2 * i) a.left) h)
    ∙ put_turn (2 * i) (a.left ∷ []) (a.right ∷ []) l (omega arith) (set_put l (2 * i) a.left (omega arith)) refl
    ∙ ap₂ (λ (k : ℕ) (p : List Float). put_at k p l) (turned i) (sym (stereo a))
  where
    turned : (i : ℕ) → 2 * i ≡ i * 2
    turned i = omega arith

-- ---- more channels

silent : ℕ → List Float
silent n = replicate n zero_sample

silent_next : (n : ℕ) → silent n ++ (zero_sample ∷ []) ≡ silent (suc n)
unfolding silent
silent_next zero = refl
silent_next (suc n) = ap (λ (l : List Float). zero_sample ∷ l) (silent_next n)

silent_add : (n m : ℕ) → silent (n + m) ≡ silent n ++ silent m
unfolding silent
silent_add zero m = ap silent (zero-add m)
silent_add (suc n) m = ap silent (suc-add n m) ∙ ap (λ (l : List Float). zero_sample ∷ l) (silent_add n m)

-- the sides come first, and the others are silent
sides : (channels : ℕ) (a : Frame) (k : ℕ) → (channels ≡ 1 → ⊥) → pieces (λ c. channel_at channels a c ∷ []) (suc (suc k)) ≡ a.left ∷ a.right ∷ silent k
unfolding silent
sides channels a zero more =
    let f : ℕ → List Float = λ c. channel_at channels a c ∷ [] in
    pieces-suc f 1
    ∙ ap (λ (l : List Float). l ++ f 1) (pieces-suc f 0 ∙ ap (λ (l : List Float). l ++ f 0) (pieces_zero f))
    ∙ ap₂ (λ (x y : Float). x ∷ y ∷ []) (channel_left channels a 0 more refl) (channel_right channels a 1 more (λ e. absurd (omega arith)) refl)
sides channels a (suc k) more =
    let f : ℕ → List Float = λ c. channel_at channels a c ∷ [] in
    pieces-suc f (suc (suc k))
    ∙ ap₂ (λ (l : List Float) (x : Float). l ++ (x ∷ [])) (sides channels a k more) (channel_silent channels a (suc (suc k)) more (λ e. absurd (omega arith)) (λ e. absurd (omega arith)))
    ∙ ap (λ (l : List Float). a.left ∷ a.right ∷ l) (silent_next k)

-- two stores where nothing but silence follows
seam_twice : (done rest : List Float) (x y : Float) → set (set (done ++ zero_sample ∷ zero_sample ∷ rest) (length done) x) (length done + 1) y ≡ done ++ x ∷ y ∷ rest
seam_twice done rest x y =
    ap (λ (l : List Float). set l (length done + 1) y) (set-append_seam done zero_sample (zero_sample ∷ rest) x ∙ sym (append_assoc done (x ∷ []) (zero_sample ∷ rest)))
    ∙ ap (λ (n : ℕ). set ((done ++ (x ∷ [])) ++ zero_sample ∷ rest) n y) (sym (length-append done (x ∷ [])))
    ∙ set-append_seam (done ++ (x ∷ [])) zero_sample rest y
    ∙ append_assoc done (x ∷ []) (y ∷ rest)

wide_put_at : (k m : ℕ) (a : Frame) (done : List Float) → set (set (done ++ silent (suc (suc k) + m)) (length done) a.left) (length done + 1) a.right ≡ (done ++ channels_of (suc (suc k)) a) ++ silent m
unfolding silent channels_of
wide_put_at k m a done =
    ap (λ (l : List Float). set (set (done ++ l) (length done) a.left) (length done + 1) a.right) (silent_add (suc (suc k)) m)
    ∙ seam_twice done (silent k ++ silent m) a.left a.right
    ∙ sym (ap (λ (l : List Float). done ++ (l ++ silent m)) (sides (suc (suc k)) a k (λ e. absurd (omega arith))))
    ∙ sym (append_assoc done (channels_of (suc (suc k)) a) (silent m))

-- Behind the frames that are written all is silent: a turn of the loop that writes the next one.
pub wide_put : (channels m at : ℕ) (a : Frame) (done : List Float) {now : List Float} → 2 ≤ channels → at ≡ length done → now ≡ done ++ replicate (channels + m) zero_sample → set (set now at a.left) (at + 1) a.right ≡ (done ++ channels_of channels a) ++ replicate m zero_sample
unfolding silent
wide_put channels m at a done more e is =
    let k = channels - 2 in
    let c : channels ≡ suc (suc k) = omega arith in
    ap₂ (λ (l : List Float) (n : ℕ). set (set l n a.left) (n + 1) a.right) (is ∙ ap (λ (n : ℕ). done ++ replicate (n + m) zero_sample) c) e
    ∙ wide_put_at k m a done
    ∙ sym (ap (λ (n : ℕ). (done ++ channels_of n a) ++ replicate m zero_sample) c)

-- the loop's turns by numbers: what is silent yet of n frames
pub silent_left : (n i c : ℕ) → i < n → (n - i) * c ≡ c + (n - (i + 1)) * c
silent_left n i c h = ap (λ (k : ℕ). k * c) (less n i h) ∙ more (n - (i + 1)) c
  where
    less : (n i : ℕ) → i < n → n - i ≡ suc (n - (i + 1))
    less n i h = omega arith

    more : (k c : ℕ) → suc k * c ≡ c + k * c
    more k c = omega arith

pub silent_first : (f : ℕ → List Float) (n c : ℕ) {l : List Float} → l ≡ replicate (n * c) zero_sample → l ≡ pieces f 0 ++ replicate ((n - 0) * c) zero_sample
silent_first f n c e = e ∙ sym (ap₂ (λ (p : List Float) (k : ℕ). p ++ replicate (k * c) zero_sample) (pieces_zero f) (whole n))
  where
    whole : (n : ℕ) → n - 0 ≡ n
    whole n = omega arith

pub silent_none : (f : ℕ → List Float) (n c : ℕ) {i : ℕ} {l : List Float} → i ≡ n → l ≡ pieces f i ++ replicate ((n - i) * c) zero_sample → l ≡ pieces f n
silent_none f n c {i} done e =
    e ∙ ap₂ (λ (j k : ℕ). pieces f j ++ replicate k zero_sample) done (none (n - i) c (omega (arith, done))) ∙ append-nil (pieces f n)
  where
    none : (k c : ℕ) → k ≡ 0 → k * c ≡ 0
    none k c h = ap (λ (j : ℕ). j * c) h ∙ zero-mul c
