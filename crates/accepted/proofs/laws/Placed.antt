-- The placings of an accepted file: its lines are as `scene` asks (Placed.antt there), and each track's level lies in its range. Assumes nothing.
use mathlib.Core.Path.{◌≡◌, refl, ◌∙◌}
use mathlib.Core.Bool.{true}
use mathlib.Core.List.{List, [], ◌∷◌}
use Prim.Native.Nat.{ℕ, zero, suc, ◌<◌, ◌≤◌}
use native.Mathlib.Nat.{le_refl}
use native.Mathlib.Omega.{arith}
use lib.Dec.{lit<}
use lib.ListN.{length, get_or, set, replicate, length-set}
use Rattle.limits.specs.Limits.{track_lines}
use Rattle.laws.specs.Loop.{upto}
use Rattle.spatial.specs.declared.placing.Placing.TheVariants.{Plain}
use Rattle.spatial.specs.Spatial.{PlacingIn}
use Rattle.spatial.proofs.laws.Spatial.{attenuation_in}
use Rattle.spatial.proofs.laws.Thousandths.{thousandths_apart}
use Rattle.scene_tables.specs.Tables.{natural, raised, tracks, listener, placings, listener_column, placing_column}
use Rattle.scene_questions.specs.Questions.{Tables, rows_at, lines_at, lines_ok, ranges_ok, references_ok}
use Rattle.scene.specs.declared.scene.TrackPlacing.{TrackPlacing}
use Rattle.scene.specs.Scene.{listener_of, position_of, distances_of, placing_of, placing_step, all_plain, placings_of}
use Rattle.scene.specs.Placed.{ListenersOk, PlacingOk, PlacingsOk}
use Rattle.accepted.specs.Lines.{absent_track_placing}
use Rattle.accepted.proofs.laws.Line.{count_ok, line_ok}
use Rattle.accepted.proofs.laws.Values.{coordinate_in, distance_in}

-- ---- the lines

module _ (ts : Tables) (lines : lines_ok ts ≡ true) (ranges : ranges_ok ts ≡ true) (references : references_ok ts ≡ true) where
  listener_line : ListenersOk (rows_at ts listener)
  unfolding listener_of
  listener_line i h =
      let ok = (line_ok ts ranges references listener i (lit< tt) h).fields in
      record {
        x = coordinate_in _ (ok listener_column.x (lit< tt));
        y = coordinate_in _ (ok listener_column.y (lit< tt));
        z = coordinate_in _ (ok listener_column.z (lit< tt));
      }

  placing_line : (i : ℕ) → i < lines_at ts placings → PlacingOk (get_or (rows_at ts placings) i [])
  unfolding position_of distances_of
  placing_line i h =
      let line = line_ok ts ranges references placings i (lit< tt) h in
      let ok = line.fields in
      record {
        track = named _ _ (ok placing_column.track (lit< tt)) (count_ok ts lines tracks (lit< tt)).1;
        position = record {
          x = coordinate_in _ (ok placing_column.x (lit< tt));
          y = coordinate_in _ (ok placing_column.y (lit< tt));
          z = coordinate_in _ (ok placing_column.z (lit< tt));
        };
        distances = record {
          min = distance_in _ (ok placing_column.near (lit< tt));
          max = distance_in _ (ok placing_column.far (lit< tt));
          apart = thousandths_apart _ _ (ok placing_column.near (lit< tt)).0 line.whole (ok placing_column.far (lit< tt)).1;
        };
      }
    where
      named : (z n : ℕ) → (raised 1 ≤ z) × (natural z ≤ n) → n ≤ track_lines → (1 ≤ natural z) × (natural z ≤ track_lines)
      named z n h k = (omega arith, omega arith)

  pub placings_ok : PlacingsOk ts
  placings_ok = record { listeners = listener_line; lines = placing_line }

-- ---- each track's placing

abbrev In : TrackPlacing → Type 0
In p = PlacingIn p.placing

-- what holds of every element, where one is set and where all are the same
set_every : {X : Type 0} (P : X → Type 0) (absent : X) (l : List X) (k : ℕ) (x : X) → P x → ((t : ℕ) → P (get_or l t absent)) → (t : ℕ) → P (get_or (set l k x) t absent)
set_every P absent [] k x h all t = all t
set_every P absent (y ∷ l) zero x h all zero = h
set_every P absent (y ∷ l) zero x h all (suc t) = all (suc t)
set_every P absent (y ∷ l) (suc k) x h all zero = all zero
set_every P absent (y ∷ l) (suc k) x h all (suc t) = set_every P absent l k x h (λ i. all (suc i)) t

same_every : {X : Type 0} (P : X → Type 0) (absent : X) (n : ℕ) (x : X) → P x → P absent → (t : ℕ) → P (get_or (replicate n x) t absent)
same_every P absent zero x h a t = a
same_every P absent (suc n) x h a zero = h
same_every P absent (suc n) x h a (suc t) = same_every P absent n x h a t

row_in : (heard : List (List ℕ)) (row : List ℕ) → ListenersOk heard → PlacingOk row → PlacingIn (placing_of heard row)
unfolding placing_of
row_in [] row l ok = tt
row_in (first ∷ rest) row l ok = attenuation_in _ _ _ (l 0 (omega arith)) ok.position ok.distances

module _ (ts : Tables) where
  set_so_far : ℕ → List TrackPlacing
  set_so_far n = upto (placing_step ts) n all_plain

  pub placings_length : length (placings_of ts) ≡ track_lines
  unfolding placings_of upto set_so_far
  placings_length = go (lines_at ts placings)
    where
      go : (n : ℕ) → length (set_so_far n) ≡ track_lines
      go zero = refl
      go (suc n) = length-set (set_so_far n) _ _ ∙ go n

  pub placings_in : lines_ok ts ≡ true → ranges_ok ts ≡ true → references_ok ts ≡ true → (t : ℕ) → PlacingIn (get_or (placings_of ts) t absent_track_placing).placing
  unfolding placings_of upto set_so_far
  placings_in lines ranges references t =
      go (placings_ok ts lines ranges references) (lines_at ts placings) (le_refl _) t
    where
      go : PlacingsOk ts → (n : ℕ) → n ≤ lines_at ts placings → (t : ℕ) → In (get_or (set_so_far n) t absent_track_placing)
      go ok zero h = same_every In absent_track_placing track_lines (record { placing = Plain }) tt tt
      go ok (suc n) h =
          set_every In absent_track_placing (set_so_far n) _ _ (row_in (rows_at ts listener) (get_or (rows_at ts placings) n []) ok.listeners (ok.lines n (omega arith))) (go ok n (omega arith))
