-- Two accepted scenes that are alike but for what lies inside, and scenes that are not: the definitions of Removed.antt, Silent.antt and Alike.antt on
-- numbers. Of the first scene's tracks line 1 is muted and line 5 is held, and both are chosen; lines 2 and 4 lie inside the one, line 6 inside the other.
-- Assumes nothing.
use mathlib.Core.Path.{◌≡◌, refl, ap}
use mathlib.Core.Bool.{Bool, true, false, ◌||◌}
use mathlib.Core.List.{List, [], ◌∷◌, ◌++◌, map}
use Prim.Native.Nat.{ℕ, zero, suc}
use lib.Dec.{eqb}
use lib.ListN.{get_or}
use lib.Ieee.{Float, to_bits, fits, le, neg, of_int, round}
use Rattle.recordings.specs.Recordings.{Recordings, recordings, recording}
use Rattle.laws.specs.Float.{AreF32, pos_zero, one}
use Rattle.laws.specs.Loop.{upto, changed}
use Rattle.laws.specs.Kept.{rank, kept_of}
use Rattle.scene_tables.specs.Bytes.{every}
use Rattle.scene_tables.specs.Tables.{raised, raised_minus}
use Rattle.scene_questions.specs.Questions.{Tables, lines_ok, every_line, in_range, volume_fits, part_fits, millis_fit, power_fits, order_fits, distances_apart, line_in_range, ranges_ok, names_line, index_table, index_names_line, line_names_line, references_ok, parent_of, within_depth, depths_fit, same_pair, new_pair, routes_fit, new_placing, placings_fit, sound_fits, sounds_fit, sample_ok, samples_ok, output_length, first_no, table_questions}
use Rattle.scene.specs.Scene.{scene_of}
use Rattle.accepted.proofs.laws.Passed.{tables_pass}
use Rattle.noninterference.specs.Removed.{new_line, Choice, inside_within, inside, removed_track, names_removed, removed_route, removed_sound, removed_placing, removed_order, kept_tracks, left_tables, renumbered, renumbered_order, lines_left}
use Rattle.noninterference.specs.Silent.{silent_volume, names, muted, held, pauses_or_resumes, is_holding}
use Rattle.noninterference.specs.Alike.{same, unplaced, same_tables, chosen_left, frames_left, same_bits, silent_choice, alike}
use Rattle.noninterference.proofs.laws.SceneLeft.{SceneLeft}
use Rattle.noninterference.proofs.laws.Silent.{quiet}
use Rattle.noninterference.proofs.laws.FromAlike.{first_left}

-- ---- lines of numbers not below 0, and volumes at most 0

abbrev row : List ℕ → List ℕ
row = map raised

abbrev track : ℕ → ℕ → List ℕ
track parent below = raised parent ∷ raised_minus below ∷ []

abbrev order : ℕ → ℕ → ℕ → ℕ → List ℕ
order kind index below millis = raised 0 ∷ raised kind ∷ raised index ∷ raised_minus below ∷ row (0 ∷ 0 ∷ 0 ∷ millis ∷ 0 ∷ 0 ∷ [])

abbrev head_rows : List (List ℕ)
head_rows = row (8192 ∷ 2 ∷ 128 ∷ 2 ∷ 1 ∷ 0 ∷ []) ∷ []

abbrev send_rows : List (List ℕ)
send_rows = row (0 ∷ []) ∷ []

-- ---- the first scene

abbrev tracks_with : ℕ → List (List ℕ)
tracks_with volume = track 0 volume ∷ track 1 0 ∷ track 0 7 ∷ track 2 0 ∷ track 3 0 ∷ track 5 0 ∷ []

-- a route of line 6, which is removed, and one of line 3
abbrev route_rows : List (List ℕ)
route_rows = row (6 ∷ 1 ∷ 0 ∷ []) ∷ row (3 ∷ 1 ∷ 0 ∷ []) ∷ []

abbrev sound_rows : List (List ℕ)
sound_rows = row (1 ∷ 0 ∷ 1 ∷ 0 ∷ []) ∷ row (4 ∷ 0 ∷ 2 ∷ 0 ∷ []) ∷ row (3 ∷ 1 ∷ 1 ∷ 0 ∷ []) ∷ []

-- the pause that holds line 5; a volume of each of the two routes; a volume of line 1, and one of line 4, which is removed
abbrev order_rows : List (List ℕ)
order_rows = order 4 5 0 0 ∷ order 3 1 3 5 ∷ order 3 2 4 5 ∷ order 1 1 70000 5 ∷ order 1 4 0 5 ∷ []

abbrev listener_rows : List (List ℕ)
listener_rows = row (5 ∷ 6 ∷ 7 ∷ []) ∷ []

abbrev placing : ℕ → ℕ → List ℕ
placing line x = row (line ∷ x ∷ 0 ∷ 0 ∷ 1000 ∷ 2000 ∷ [])

-- of line 1, which is chosen, of line 3, and of line 4, which is removed
abbrev placing_rows : List (List ℕ)
placing_rows = placing 1 10 ∷ placing 3 20 ∷ placing 4 30 ∷ []

abbrev scene_with : List (List ℕ) → List (List ℕ) → List (List ℕ) → List (List ℕ) → List (List ℕ) → Tables
scene_with listeners placings tracks routes orders = head_rows ∷ [] ∷ tracks ∷ send_rows ∷ routes ∷ sound_rows ∷ listeners ∷ placings ∷ orders ∷ []

abbrev scene : List (List ℕ) → List (List ℕ) → List (List ℕ) → Tables
scene = scene_with listener_rows placing_rows

abbrev first : Tables
first = scene (tracks_with 60000) route_rows order_rows

abbrev first_samples : Recordings
first_samples = recordings (pos_zero ∷ one ∷ one ∷ pos_zero ∷ []) []

abbrev first_choice : Choice
first_choice t = eqb t 0 || eqb t 4

-- ---- what is left: lines 1, 3 and 5 of the tracks, the second route, the third sound, from the visitor, line 3's placing, and three orders. Line 5 is placed

abbrev second : Tables
second =
    head_rows
    ∷ []
    ∷ (track 0 60000 ∷ track 0 7 ∷ track 2 0 ∷ [])
    ∷ send_rows
    ∷ (row (2 ∷ 1 ∷ 0 ∷ []) ∷ [])
    ∷ (row (2 ∷ 0 ∷ 1 ∷ 1 ∷ []) ∷ [])
    ∷ listener_rows
    ∷ (placing 3 40 ∷ placing 2 20 ∷ [])
    ∷ (order 4 3 0 0 ∷ order 3 1 4 5 ∷ order 1 1 70000 5 ∷ [])
    ∷ []

abbrev visiting : List Float → Recordings
visiting visitor = recordings (one ∷ pos_zero ∷ []) visitor

abbrev second_samples : Recordings
second_samples = visiting (one ∷ pos_zero ∷ [])

abbrev second_choice : Choice
second_choice t = eqb t 0 || eqb t 2

-- ---- the tests

abbrev alike_first : Tables → Recordings → Choice → Bool
alike_first = alike first first_samples first_choice

abbrev with_orders : List (List ℕ) → Tables
with_orders = scene (tracks_with 60000) route_rows

abbrev with_placings : List (List ℕ) → List (List ℕ) → Tables
with_placings listeners placings = scene_with listeners placings (tracks_with 60000) route_rows order_rows

abbrev silent_with : ℕ → List (List ℕ) → List (List ℕ) → Bool
silent_with volume routes orders = silent_choice (scene (tracks_with volume) routes orders) first_choice

-- the two scenes; fewer orders, and fewer placings, that are removed; a route of line 1, which is chosen
abbrev passing : List Bool
passing =
    alike_first second second_samples second_choice
    ∷ alike_first (with_orders (order 4 5 0 0 ∷ order 3 2 4 5 ∷ order 1 1 70000 5 ∷ [])) first_samples first_choice
    ∷ alike_first (with_placings listener_rows (placing 3 20 ∷ [])) first_samples first_choice
    ∷ silent_with 60000 (row (1 ∷ 1 ∷ 0 ∷ []) ∷ []) order_rows
    ∷ []

-- another frame where the sound is from; another choice; another order; orders turned about. Line 3 elsewhere, or nowhere; no listener.
-- Line 1 at -59.999 dB, by its line or by an order; a route of line 4, below it. Line 5 resumed; paused a second time, with a length, or not at all
abbrev failing : List Bool
failing =
    alike_first second (visiting (one ∷ one ∷ [])) second_choice
    ∷ alike_first second second_samples (eqb 0)
    ∷ alike_first (with_orders (order 4 5 0 0 ∷ order 3 2 5 5 ∷ order 1 1 70000 5 ∷ [])) first_samples first_choice
    ∷ alike_first (with_orders (order 3 2 4 5 ∷ order 4 5 0 0 ∷ order 1 1 70000 5 ∷ [])) first_samples first_choice
    ∷ alike_first (with_placings listener_rows (placing 3 21 ∷ [])) first_samples first_choice
    ∷ alike_first (with_placings listener_rows []) first_samples first_choice
    ∷ alike_first (with_placings [] placing_rows) first_samples first_choice
    ∷ silent_with 59999 route_rows order_rows
    ∷ silent_with 60000 route_rows (order 1 1 59999 5 ∷ order_rows)
    ∷ silent_with 60000 (row (4 ∷ 1 ∷ 0 ∷ []) ∷ []) order_rows
    ∷ silent_with 60000 route_rows (order 5 5 0 0 ∷ order_rows)
    ∷ silent_with 60000 route_rows (order 4 5 0 0 ∷ order_rows)
    ∷ silent_with 60000 route_rows (order 4 5 0 5 ∷ [])
    ∷ silent_with 60000 route_rows []
    ∷ []

pub tests : (passing ≡ map (λ b. true) passing) × (failing ≡ map (λ b. false) failing)
unfolding recording alike same_tables same unplaced chosen_left frames_left same_bits silent_choice to_bits left_tables lines_left kept_of changed renumbered renumbered_order new_line rank inside_within inside removed_track removed_route removed_sound removed_placing removed_order names_removed parent_of muted silent_volume names held pauses_or_resumes is_holding every upto
tests = (refl, refl)

pub alike_example : alike_first second second_samples second_choice ≡ true
alike_example = ap (λ (l : List Bool). get_or l 0 false) tests.0

-- ---- both are accepted, so that the relation has members

pub accepted_example : (first_no (table_questions first first_samples ++ ((10, eqb 4 (output_length first)) ∷ [])) ≡ 0) × (first_no (table_questions second second_samples ++ ((10, eqb 4 (output_length second)) ∷ [])) ≡ 0)
unfolding first_no table_questions lines_ok ranges_ok every_line in_range line_in_range distances_apart order_fits volume_fits part_fits millis_fit power_fits references_ok names_line line_names_line index_names_line index_table depths_fit within_depth parent_of routes_fit new_pair same_pair placings_fit new_placing sounds_fit sound_fits samples_ok sample_ok output_length every le neg of_int round
accepted_example = (refl, refl)

none_fits : AreF32 []
unfolding fits
none_fits i h = tt

four_fits : AreF32 (pos_zero ∷ one ∷ one ∷ pos_zero ∷ [])
unfolding fits
four_fits zero h = tt
four_fits (suc zero) h = tt
four_fits (suc (suc zero)) h = tt
four_fits (suc (suc (suc zero))) h = tt
four_fits (suc (suc (suc (suc i)))) h = tt

two_fit : AreF32 (one ∷ pos_zero ∷ [])
unfolding fits
two_fit zero h = tt
two_fit (suc zero) h = tt
two_fit (suc (suc i)) h = tt

pub left_example : SceneLeft (kept_tracks first first_choice) first_choice (quiet first first_choice) (scene_of first) first_samples (scene_of (left_tables second second_choice)) second_samples
left_example =
    first_left first first_samples first_choice second second_samples second_choice alike_example (two_fit, two_fit) 4 (tables_pass first first_samples 4 accepted_example.0) (four_fits, none_fits)
