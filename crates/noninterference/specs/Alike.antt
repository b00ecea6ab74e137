-- When two scenes are alike but for what lies inside chosen tracks. A scene is its tables and its samples.
use Rattle.std.specs.Prelude.{Bool, true, false, cond, ◌&&◌, ◌||◌, List, [], ◌∷◌, map, ℕ, ◌*◌, eqb, set, take, drop, Float}
use Rattle.std.specs.Float.{binary32}
use Rattle.std.specs.Float.Ieee.{to_bits}
use Rattle.recordings.specs.Recordings.{Recordings, recording}
use Rattle.laws.specs.Float.{AreF32}
use Rattle.laws.specs.Kept.{kept_of}
use Rattle.scene_tables.specs.Bytes.{every}
use Rattle.scene_tables.specs.Tables.{natural, tracks, sounds, sound_column}
use Rattle.scene_questions.specs.Questions.{Tables, rows_at, lines_at, field}
use Rattle.noninterference.specs.Removed.{Choice, kept_tracks, kept_sounds, left_tables, lines_left}
use Rattle.noninterference.specs.Silent.{muted, held}

-- two lists whose elements are the same, one by one
unfoldable pub same : {X : Type 0} → (X → X → Bool) → List X → List X → Bool
same test [] [] = true
same test [] (y ∷ m) = false
same test (x ∷ l) [] = false
same test (x ∷ l) (y ∷ m) = test x y && same test l m

-- Which buffer a sound is from, and where its frames stand there, may differ: its frames are compared below.
unfoldable pub unplaced : List (List ℕ) → List (List ℕ)
unplaced rows = map (λ row. set (set row sound_column.first 0) sound_column.from 0) rows

-- The lines left are the same in the same order.
unfoldable pub same_tables : Tables → Tables → Bool
same_tables left₁ left₂ =
    same (same (same eqb)) (set left₁ sounds (unplaced (rows_at left₁ sounds))) (set left₂ sounds (unplaced (rows_at left₂ sounds)))

-- which of the tracks left are chosen
unfoldable pub chosen_left : Tables → Choice → List (List ℕ)
chosen_left ts chosen = lines_left (kept_tracks ts chosen) (λ t row. cond (chosen t) (1 ∷ []) (0 ∷ [])) (rows_at ts tracks)

-- the samples of the frames that a sound plays: count frames from first on, of the buffer that it is from
abbrev pub played_samples : Recordings → List ℕ → List Float
played_samples samples row =
    take (2 * natural (field row sound_column.count)) (drop (2 * natural (field row sound_column.first)) (recording samples (natural (field row sound_column.from))))

-- those of each sound left
unfoldable pub frames_left : Tables → Choice → Recordings → List (List Float)
frames_left ts chosen samples = map (played_samples samples) (kept_of (kept_sounds ts chosen) (rows_at ts sounds))

-- all samples of both buffers are f32 numbers
abbrev pub AreSamples : Recordings → Type 0
AreSamples samples = AreF32 samples.house × AreF32 samples.visitor

unfoldable pub same_bits : Float → Float → Bool
same_bits x y = eqb (to_bits binary32 x) (to_bits binary32 y)

-- each chosen track is silent
unfoldable pub silent_choice : Tables → Choice → Bool
silent_choice ts chosen = every (lines_at ts tracks) (λ t. cond (chosen t) (muted ts t || held ts t) true)

unfoldable pub alike : Tables → Recordings → Choice → Tables → Recordings → Choice → Bool
alike ts₁ samples₁ chosen₁ ts₂ samples₂ chosen₂ =
    same_tables (left_tables ts₁ chosen₁) (left_tables ts₂ chosen₂)
    && (same (same eqb) (chosen_left ts₁ chosen₁) (chosen_left ts₂ chosen₂)
    && (same (same same_bits) (frames_left ts₁ chosen₁ samples₁) (frames_left ts₂ chosen₂ samples₂)
    && (silent_choice ts₁ chosen₁ && silent_choice ts₂ chosen₂)))
