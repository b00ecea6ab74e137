-- A pair of scenes, each with the lines of its tracks table that are chosen, counted from 0.
use Rattle.std.specs.Prelude.{Bool, false, ◌||◌, List, [], ◌∷◌, map, ℕ, eqb}
use Rattle.std.specs.Float.{binary32}
use Rattle.std.specs.Float.Ieee.{of_bits}
use Rattle.recordings.specs.Recordings.{Recordings, recordings}
use Rattle.scene_questions.specs.Questions.{Tables}
use Rattle.noninterference.specs.Removed.{Choice}
use Rattle.noninterference.specs.Alike.{alike}

pub record Side : Type 0 where
  pub tables : Tables
  -- the bits of the house's samples, and of the visitor's
  pub bits : List ℕ
  pub visiting : List ℕ
  pub chosen : List ℕ

pub record Pair : Type 0 where
  pub one : Side
  pub other : Side

unfoldable pub choice_of : List ℕ → Choice
choice_of [] t = false
choice_of (x ∷ l) t = eqb x t || choice_of l t

abbrev pub samples_of : Side → Recordings
samples_of s = recordings (map (of_bits binary32) s.bits) (map (of_bits binary32) s.visiting)

unfoldable pub alike_pair : Pair → Bool
alike_pair p =
    alike p.one.tables (samples_of p.one) (choice_of p.one.chosen) p.other.tables (samples_of p.other) (choice_of p.other.chosen)
