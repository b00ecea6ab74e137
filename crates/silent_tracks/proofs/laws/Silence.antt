-- Laws of a track's silence: as the code asks for it, and what it says of the claim about silence. Assumes nothing.
use mathlib.Core.Path.{◌≡◌, refl, sym, ◌∙◌, ap}
use mathlib.Core.Bool.{Bool, true, false, cond, ◌||◌}
use mathlib.Core.List.{List}
use Prim.Native.Nat.{ℕ, ◌+◌, ◌<◌}
use native.Mathlib.Numerals.{add-one}
use lib.ListN.{length, set}
use Rattle.laws.specs.Loop.{changed}
use Rattle.laws.proofs.laws.Loop.{changed_turn}
use Rattle.scene_tables.specs.Tables.{tracks}
use Rattle.scene_questions.specs.Questions.{Tables, rows_at, lines_at, parent_of}
use Rattle.noninterference.specs.Removed.{inside, removed_track}
use Rattle.noninterference.specs.Silent.{muted, held}
use Rattle.noninterference.specs.Alike.{silent_choice}
use Rattle.scene_tables.proofs.laws.Every.{every_all}
use Rattle.silent_tracks.specs.Silence.{muted_or_held, silence_of}

module _ (ts : Tables) (t : ℕ) (m : Bool) (ism : m ≡ muted ts t) where
  pub either_muted : m ≡ true → true ≡ muted_or_held ts t
  unfolding muted_or_held
  either_muted e = rw (← ism, e)

  pub either_held : m ≡ false → (h : Bool) → h ≡ held ts t → h ≡ muted_or_held ts t
  unfolding muted_or_held
  either_held e h ish = rw (← ism, e) ish

  pub is_1 : m ≡ true → 1 ≡ silence_of ts t
  unfolding silence_of
  is_1 e = rw (← ism, e)

  module _ (no_m : m ≡ false) (h : Bool) (ish : h ≡ held ts t) where
    pub is_2 : h ≡ true → 2 ≡ silence_of ts t
    unfolding silence_of
    is_2 e = rw (← ism, no_m, ← ish, e)

    module _ (no_h : h ≡ false) (p : ℕ) (isp : p ≡ parent_of (rows_at ts tracks) (t + 1)) (b : Bool) (isb : b ≡ inside ts (muted_or_held ts) p) where
      removed_is : removed_track ts (muted_or_held ts) t ≡ b
      unfolding removed_track
      removed_is = sym (isb ∙ ap (inside ts (muted_or_held ts)) (isp ∙ ap (parent_of (rows_at ts tracks)) (add-one t)))

      pub is_3 : b ≡ true → 3 ≡ silence_of ts t
      unfolding silence_of
      is_3 e = rw (← ism, no_m, ← ish, no_h, removed_is, e)

      pub is_0 : b ≡ false → 0 ≡ silence_of ts t
      unfolding silence_of
      is_0 e = rw (← ism, no_m, ← ish, no_h, removed_is, e)

-- ---- one after the other

abbrev pub silence_in : Tables → ℕ → ℕ → ℕ
silence_in ts t z = silence_of ts t

pub put_turn : (ts : Tables) (t : ℕ) (l : List ℕ) {now : List ℕ} {r : ℕ} → t < length l → r ≡ silence_of ts t → now ≡ changed (silence_in ts) t l → set now t r ≡ changed (silence_in ts) (t + 1) l
put_turn ts t l {now} h e inv = ap (set now t) e ∙ changed_turn (silence_in ts) t l 0 h inv

-- ---- what the numbers say of the claim about silence

-- The muted and held tracks may be chosen, all at once.
pub all_may_be_chosen : (ts : Tables) → silent_choice ts (muted_or_held ts) ≡ true
unfolding silent_choice muted_or_held
all_may_be_chosen ts = every_all (lines_at ts tracks) (λ t. cond (muted_or_held ts t) (muted ts t || held ts t) true) (λ t h. go (muted ts t || held ts t))
  where
    go : (b : Bool) → cond b b true ≡ true
    go true = refl
    go false = refl

-- A track whose number is not 0 is one of them, or is removed with what lies inside them.
pub silent_or_removed : (ts : Tables) (t : ℕ) → (silence_of ts t ≡ 0 → ⊥) → (muted_or_held ts t || removed_track ts (muted_or_held ts) t) ≡ true
unfolding silence_of muted_or_held
silent_or_removed ts t h = go (muted ts t) (held ts t) (removed_track ts (muted_or_held ts) t) h
  where
    go : (a b d : Bool) → (◌≡◌ {A = ℕ} (cond a 1 (cond b 2 (cond d 3 0))) 0 → ⊥) → ((a || b) || d) ≡ true
    go true b d h = refl
    go false true d h = refl
    go false false true h = refl
    go false false false h = absurd (h refl)
