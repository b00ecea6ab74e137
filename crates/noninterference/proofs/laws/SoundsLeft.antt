-- The sounds left, and the frames that they play: in which buffer these stand, and where there, may differ, and nothing else. Assumes nothing.
use mathlib.Core.Path.{◌≡◌, sym, ap, ap₂, ◌∙◌}
use mathlib.Core.Logic.{◌≢◌, ◌⊎◌, inl, inr}
use mathlib.Core.Bool.{true, not}
use mathlib.Core.List.{List, [], map}
use Prim.Native.Nat.{ℕ, ◌+◌, ◌*◌, ◌<◌}
use native.Mathlib.Omega.{arith}
use lib.Dec.{T, ltb, ltb→lt, nltb→le}
use lib.ListN.{length, get_or, set, drop, length-map, get_or-map, get_or-eq_default}
use lib.Seq.{get_or-take, get_or-drop, get_or-set_other}
use lib.Ieee.{Float, nan, binary32, fits}
use Rattle.recordings.specs.Recordings.{Recordings, recording}
use Rattle.recordings.proofs.laws.Recordings.{of_both}
use Rattle.laws.specs.Float.{AreF32}
use Rattle.laws.proofs.laws.Kept.{kept_or_removed}
use Rattle.laws.specs.Kept.{kept_of}
use Rattle.scene_tables.specs.Tables.{natural, sounds, sound_column}
use Rattle.scene_questions.specs.Questions.{Tables, rows_at, field}
use Rattle.frame.specs.Frame.{sample_frame}
use Rattle.noninterference.specs.Removed.{Choice, kept_tracks, kept_sounds, left_tables, renumbered}
use Rattle.noninterference.specs.Alike.{same, unplaced, played_samples, frames_left, AreSamples, same_bits}
use Rattle.noninterference.proofs.laws.Same.{same_at, bits_refl, bits_eq}
use Rattle.noninterference.proofs.laws.LeftLines.{left_map}

-- ---- lines: all but where the frames stand

-- rows that are the same once fields p and q are put to 0
module _ (p q : ℕ) (rows rows' : List (List ℕ)) (e : map (λ row. set (set row p 0) q 0) rows ≡ map (λ row. set (set row p 0) q 0) rows') where
  other : (row : List ℕ) (j : ℕ) → j ≢ p → j ≢ q → field (set (set row p 0) q 0) j ≡ field row j
  other row j h k = get_or-set_other (set row p 0) q j 0 0 k ∙ get_or-set_other row p j 0 0 h

  other_field : (r j : ℕ) → j ≢ p → j ≢ q → field (get_or rows' r []) j ≡ field (get_or rows r []) j
  other_field r j h k =
      sym (other (get_or rows' r []) j h k)
      ∙ ap (λ (row : List ℕ). field row j)
      (sym (get_or-map (λ row. set (set row p 0) q 0) rows' r []) ∙ ap (λ (l : List (List ℕ)). get_or l r []) (sym e) ∙ get_or-map (λ row. set (set row p 0) q 0) rows r [])
      ∙ other (get_or rows r []) j h k

  same_count : length rows' ≡ length rows
  same_count = sym (length-map rows' (λ row. set (set row p 0) q 0)) ∙ ap length (sym e) ∙ length-map rows (λ row. set (set row p 0) q 0)

module _ (rows rows' : List (List ℕ)) (e : unplaced rows ≡ unplaced rows') where
  pub unplaced_field : (r j : ℕ) → j ≢ sound_column.first → j ≢ sound_column.from → field (get_or rows' r []) j ≡ field (get_or rows r []) j
  unfolding unplaced
  unplaced_field = other_field _ _ rows rows' e

  pub unplaced_length : length rows' ≡ length rows
  unfolding unplaced
  unplaced_length = same_count _ _ rows rows' e

module _ (ts : Tables) (chosen : Choice) where
  abbrev pub sounds_left : List (List ℕ)
  sounds_left = kept_of (kept_sounds ts chosen) (rows_at ts sounds)

  pub sound_row : (r : ℕ) → get_or (rows_at (left_tables ts chosen) sounds) r [] ≡ renumbered (kept_tracks ts chosen) sound_column.track (get_or sounds_left r [])
  unfolding left_tables renumbered
  sound_row r =
      ap (λ (l : List (List ℕ)). get_or l r []) (left_map (kept_sounds ts chosen) (renumbered (kept_tracks ts chosen) sound_column.track) (rows_at ts sounds))
      ∙ get_or-map (renumbered (kept_tracks ts chosen) sound_column.track) sounds_left r []

-- ---- samples

pub played_at : (ts : Tables) (chosen : Choice) (samples : Recordings) (r : ℕ) → get_or (frames_left ts chosen samples) r [] ≡ played_samples samples (get_or (sounds_left ts chosen) r [])
unfolding frames_left
played_at ts chosen samples r = get_or-map (played_samples samples) (sounds_left ts chosen) r []

-- also past the end, where a NaN stands
fits_anywhere : (samples : List Float) → AreF32 samples → (i : ℕ) → T (fits binary32 (get_or samples i nan))
fits_anywhere samples h i = go (kept_or_removed (ltb i (length samples)))
  where
    go : T (ltb i (length samples)) ⊎ T (not (ltb i (length samples))) → T (fits binary32 (get_or samples i nan))
    go (inl k) = h i (ltb→lt i (length samples) k)
    go (inr k) = rw (get_or-eq_default samples nan (nltb→le i (length samples) k)) (unfold fits in tt)

two_more : (f i : ℕ) → (2 * (f + i) ≡ 2 * f + 2 * i) × (2 * (f + i) + 1 ≡ 2 * f + (2 * i + 1))
two_more f i = (omega arith, omega arith)

in_frame : (i n : ℕ) → i < n → (2 * i < 2 * n) × (2 * i + 1 < 2 * n)
in_frame i n h = (omega arith, omega arith)

-- frames whose samples have the same bits
module _ (samples samples' : Recordings) (fit : AreSamples samples) (fit' : AreSamples samples') (row row' : List ℕ) (counts : natural (field row' sound_column.count) ≡ natural (field row sound_column.count))
    (bits : same same_bits (played_samples samples row) (played_samples samples' row') ≡ true) where
  abbrev own : List Float
  own = recording samples (natural (field row sound_column.from))

  abbrev own' : List Float
  own' = recording samples' (natural (field row' sound_column.from))

  own_fits : AreF32 own
  own_fits = of_both AreF32 samples (natural (field row sound_column.from)) fit.0 fit.1

  own_fits' : AreF32 own'
  own_fits' = of_both AreF32 samples' (natural (field row' sound_column.from)) fit'.0 fit'.1

  sample_same : (n : ℕ) → n < 2 * natural (field row sound_column.count) → get_or own' (2 * natural (field row' sound_column.first) + n) nan ≡ get_or own (2 * natural (field row sound_column.first) + n) nan
  sample_same n h =
      let x = get_or-take (2 * natural (field row sound_column.count)) (drop (2 * natural (field row sound_column.first)) own) n nan h ∙ get_or-drop (2 * natural (field row sound_column.first)) own n nan in
      let y = get_or-take (2 * natural (field row' sound_column.count)) (drop (2 * natural (field row' sound_column.first)) own') n nan (rw counts h) ∙ get_or-drop (2 * natural (field row' sound_column.first)) own' n nan in
      let equal = ap₂ same_bits (sym x) (sym y) ∙ same_at same_bits (played_samples samples row) (played_samples samples' row') nan (bits_refl nan) bits n in
      sym (bits_eq _ _ (fits_anywhere own own_fits (2 * natural (field row sound_column.first) + n)) (fits_anywhere own' own_fits' (2 * natural (field row' sound_column.first) + n)) equal)

  pub frame_same : (i : ℕ) → i < natural (field row sound_column.count) → sample_frame own' (natural (field row' sound_column.first) + i) ≡ sample_frame own (natural (field row sound_column.first) + i)
  unfolding sample_frame
  frame_same i h =
      let first = natural (field row sound_column.first) in
      let first' = natural (field row' sound_column.first) in
      let at = in_frame i (natural (field row sound_column.count)) h in
      rw
      ((two_more first i).1, (two_more first' i).1, (two_more first i).0, (two_more first' i).0, sample_same (2 * i) at.0, sample_same (2 * i + 1) at.1)
