-- Laws of the placings, as the code makes them: one line's, and the loop that sets each track's.
use Rattle.std.proofs.Common.{◌≡◌, ℕ, zero, suc, ◌+◌, ◌-◌, ◌*◌, ◌<◌, ◌≤◌, List, [], get_or, take, drop, set, sym, refl, ap, ◌∙◌, subst, arith, lit<}
use Rattle.limits.specs.Limits.{track_lines}
use Rattle.laws.specs.Loop.{upto}
use Rattle.laws.proofs.laws.Loop.{upto_zero, upto_turn, upto_end}
use Rattle.decibels.specs.declared.decibels.Decibels.{Decibels}
use Rattle.spatial.specs.declared.spatial.Position.{Position}
use Rattle.spatial.specs.declared.spatial.Distances.{Distances}
use Rattle.spatial.specs.declared.placing.Placing.{Placing}
use Rattle.spatial.specs.declared.placing.Placing.TheVariants.{Unheard, Spatial}
use Rattle.spatial.specs.Spatial.{attenuation, PositionIn, DistancesIn}
use Rattle.scene.specs.declared.scene.TrackPlacing.{TrackPlacing}
use Rattle.scene_tables.specs.Tables.{natural, table_at, width, listener, placings, placing_column}
use Rattle.scene_questions.specs.Questions.{Tables, rows_at, lines_at, field}
use Rattle.scene_questions.specs.Places.{cut, rows_in, stored}
use Rattle.scene.specs.Scene.{listener_of, position_of, distances_of, placing_of, placing_step, all_plain, placings_of}
use Rattle.scene.specs.Placed.{ListenersOk, PlacingOk, PlacingsOk}
use Rattle.scene_questions.proofs.laws.Places.{rows_length, row_at}
use Rattle.scene.proofs.laws.LineValues.{field_at}
use Rattle.scene.proofs.laws.TablesInPlaces.{rows_placed, lines_placed}

-- ---- one line

module _ {row : List ℕ} (ok : PlacingOk row) where
  pub position_in : (p : Position) → p ≡ position_of row → PositionIn p
  position_in p e = subst PositionIn (sym e) ok.position

  pub distances_in : (d : Distances) → d ≡ distances_of row → DistancesIn d
  distances_in d e = subst DistancesIn (sym e) ok.distances

module _ (v : List ℕ) (s n : ℕ) where
  -- the listener's table
  abbrev heard : List (List ℕ)
  heard = rows_in v s (width (table_at listener)) n

  first_is : (n ≡ 0 → ⊥) → get_or heard 0 [] ≡ take (width (table_at listener)) (drop s v)
  first_is h =
      let k : 0 < n = omega arith in
      let z : s + 0 * width (table_at listener) ≡ s = omega arith in
      row_at v s (width (table_at listener)) n 0 k ∙ ap (λ (j : ℕ). take (width (table_at listener)) (drop j v)) z

  pub listener_in : (n ≡ 0 → ⊥) → ListenersOk heard → (l : Position) → l ≡ listener_of (take (width (table_at listener)) (drop s v)) → PositionIn l
  listener_in h ok l e =
      subst PositionIn (ap listener_of (first_is h) ∙ sym e) (ok 0 (omega (arith, rows_length v s (width (table_at listener)) n)))

  module _ (row : List ℕ) where
    pub placing_unheard : n ≡ 0 → Unheard ≡ placing_of heard row
    unfolding placing_of rows_in cut
    placing_unheard h = rw h

    pub placing_heard : (l p : Position) (d : Distances) (r : Decibels) → (n ≡ 0 → ⊥) → l ≡ listener_of (take (width (table_at listener)) (drop s v)) → p ≡ position_of row
        → d ≡ distances_of row → r ≡ attenuation l p d → Spatial r ≡ placing_of heard row
    unfolding placing_of rows_in cut
    placing_heard l p d r h el ep ed er = go n h
      where
        go : (m : ℕ) → (m ≡ 0 → ⊥) → Spatial r ≡ placing_of (rows_in v s (width (table_at listener)) m) row
        go zero k = absurd (k refl)
        go (suc m) k = rw (er, el, ep, ed)

-- ---- line after line

module _ (starts counts v : List ℕ) where
  abbrev ts : Tables
  ts = stored starts counts v

  abbrev start : ℕ
  start = get_or starts placings 0

  abbrev lines : ℕ
  lines = get_or counts placings 0

  pub placings_none : all_plain ≡ upto (placing_step ts) 0 all_plain
  placings_none = sym (upto_zero (placing_step ts) all_plain)

  pub placings_done : (i : ℕ) (out : List TrackPlacing) → lines ≤ i → i ≤ lines → out ≡ upto (placing_step ts) i all_plain → out ≡ placings_of ts
  unfolding placings_of
  placings_done i out h k e =
      let q : i ≡ lines_at ts placings = omega (arith, lines_placed starts counts v placings (lit< tt)) in
      upto_end (placing_step ts) all_plain q e

  pub listeners_in : PlacingsOk ts → ListenersOk (rows_in v (get_or starts listener 0) (width (table_at listener)) (get_or counts listener 0))
  listeners_in ok = subst ListenersOk (rows_placed starts counts v listener (lit< tt)) ok.listeners

  module _ (i : ℕ) (more : i < lines) where
    -- the line at its place
    abbrev pub line_in : List ℕ
    line_in = take (width (table_at placings)) (drop (start + i * width (table_at placings)) v)

    line_is : get_or (rows_at ts placings) i [] ≡ line_in
    line_is =
        ap (λ (R : List (List ℕ)). get_or R i []) (rows_placed starts counts v placings (lit< tt)) ∙ row_at v start (width (table_at placings)) lines i more

    pub line_in_lem : PlacingsOk ts → PlacingOk line_in
    line_in_lem ok = subst PlacingOk line_is (ok.lines i (omega (arith, lines_placed starts counts v placings (lit< tt))))

    module _ (z n : ℕ) (isz : z ≡ get_or v (start + i * width (table_at placings) + placing_column.track) 0) (isn : n ≡ natural z) where
      track_is : natural (field line_in placing_column.track) ≡ n
      track_is = rw (field_at v (start + i * width (table_at placings)) (width (table_at placings)) placing_column.track (lit< tt), ← isz, ← isn)

      pub track_in : PlacingsOk ts → (1 ≤ n) × (n ≤ track_lines)
      track_in ok = rw (← track_is) (line_in_lem ok).track

      pub placings_next : (p : Placing) (out : List TrackPlacing) → p ≡ placing_of (rows_in v (get_or starts listener 0) (width (table_at listener)) (get_or counts listener 0)) line_in
          → out ≡ upto (placing_step ts) i all_plain → set out (n - 1) (record { placing = p }) ≡ upto (placing_step ts) (i + 1) all_plain
      placings_next p out isp e =
          rw (← track_is, isp, ← line_is, ← rows_placed starts counts v listener (lit< tt)) (upto_turn (placing_step ts) i all_plain e)
