-- Tables that are alike but for what lies inside silent tracks: what is left of the one is what is left of the other, as SceneLeft.antt says it of their
-- scenes. Assumes nothing.
use mathlib.Core.Path.{◌≡◌, refl, sym, ap, ap₂, ◌∙◌, subst}
use mathlib.Core.Logic.{◌≢◌}
use mathlib.Core.Bool.{Bool, true}
use mathlib.Core.List.{List, []}
use Prim.Native.Nat.{ℕ, ◌+◌, ◌<◌}
use native.Mathlib.Nat.{lt_trans}
use lib.Dec.{T, eqb, lit<}
use lib.ListN.{length, get_or}
use Rattle.recordings.specs.Recordings.{Recordings, recording}
use Rattle.limits.specs.Limits.{clock_lines, track_lines, send_lines, route_lines, order_lines}
use Rattle.laws.proofs.laws.Choice.{and_left, and_right}
use Rattle.laws.specs.Kept.{rank}
use Rattle.laws.proofs.laws.Kept.{rank_cong, rank_lt, kept_of_at}
use Rattle.scene_tables.specs.Tables.{natural, tracks, routes, sounds, orders, track_column, route_column, sound_column}
use Rattle.scene.specs.declared.scene.Scene.{Scene}
use Rattle.scene.specs.declared.scene.SoundLine.{SoundLine}
use Rattle.scene_questions.specs.Questions.{Tables, rows_at, lines_at, field, cell}
use Rattle.scene.specs.Scene.{head_of, clock_of, track_of, send_of, route_of, sound_of, order_of, filled, scene_of}
use Rattle.accepted.specs.Lines.{track_line, route_line, sound_line, order_line, absent_track_line, absent_route_line, absent_order_line, absent_clock_line, absent_send_line}
use Rattle.accepted.proofs.laws.Passed.{TablesPass}
use Rattle.frame.specs.Frame.{sample_frame}
use Rattle.noninterference.specs.Removed.{new_line, Choice, kept_tracks, kept_routes, kept_sounds, kept_orders, left_tables, renumbered, renumbered_order}
use Rattle.noninterference.specs.Alike.{same, same_tables, chosen_left, played_samples, frames_left, AreSamples, same_bits, silent_choice, alike}
use Rattle.noninterference.proofs.laws.SceneLeft.{kept_order, new_track_line, new_route_line, new_order_line, line_frame, SceneLeft}
use Rattle.noninterference.proofs.laws.Same.{same_at, SameTables, same_tables_lem, tables_self, frames_self}
use Rattle.noninterference.proofs.laws.LeftLines.{differ, counted_field, counted_other, left_length, left_count, place_left}
use Rattle.noninterference.proofs.laws.SceneLines.{sound_at, sound_track_at}
use Rattle.noninterference.proofs.laws.Silent.{quiet, silent_track, quiet_below, quiet_unrouted}
use Rattle.noninterference.proofs.laws.KeptLines.{track_new, route_new, order_new, track_kept, routes_kept, sounds_kept, order_kept}
use Rattle.noninterference.proofs.laws.PlacingsLeft.{placings_left}
use Rattle.noninterference.proofs.laws.SoundsLeft.{unplaced_field, unplaced_length, sounds_left, sound_row, played_at, frame_same}

-- ---- the lines of the scene left

module _ (ts ts' : Tables) (chosen chosen' : Choice) (tables : SameTables (left_tables ts chosen) (left_tables ts' chosen')) where
  abbrev keep : ℕ → Bool
  keep = kept_tracks ts chosen

  abbrev e : Scene
  e = scene_of (left_tables ts' chosen')

  -- ---- tracks, routes and orders

  tracks_left : (t : ℕ) → t < lines_at ts tracks → T (keep t) → track_line e (rank keep t) ≡ new_track_line keep (track_line (scene_of ts) t)
  unfolding scene_of left_tables
  tracks_left =
      place_left track_lines track_of absent_track_line keep (λ t row. renumbered keep track_column.parent row) (new_track_line keep) (rows_at ts tracks) (rows_at (left_tables ts' chosen') tracks) tables.tracks
      (λ t h. track_new keep (get_or (rows_at ts tracks) t []))

  routes_left : (r : ℕ) → r < lines_at ts routes → T (kept_routes ts chosen r) → route_line e (rank (kept_routes ts chosen) r) ≡ new_route_line keep (route_line (scene_of ts) r)
  unfolding scene_of left_tables
  routes_left =
      place_left route_lines route_of absent_route_line (kept_routes ts chosen) (λ r row. renumbered keep route_column.track row) (new_route_line keep) (rows_at ts routes) (rows_at (left_tables ts' chosen') routes) tables.routes
      (λ r h. route_new keep (get_or (rows_at ts routes) r []))

  orders_left : (samples : Recordings) (output : ℕ) → TablesPass ts samples output → (i : ℕ) → i < lines_at ts orders → T (kept_orders ts chosen i)
      → order_line e (rank (kept_orders ts chosen) i) ≡ new_order_line keep (scene_of ts) (order_line (scene_of ts) i)
  unfolding scene_of left_tables
  orders_left samples output passed =
      place_left order_lines order_of absent_order_line (kept_orders ts chosen) (λ i row. renumbered_order ts chosen row) (new_order_line keep (scene_of ts)) (rows_at ts orders)
      (rows_at (left_tables ts' chosen') orders) tables.orders (order_new ts chosen samples output passed)

  -- ---- sounds

  sounds_count : lines_at (left_tables ts' chosen') sounds ≡ rank (kept_sounds ts chosen) (lines_at ts sounds)
  unfolding left_tables
  sounds_count =
      unplaced_length (rows_at (left_tables ts chosen) sounds) (rows_at (left_tables ts' chosen') sounds) tables.sounds
      ∙ left_length (kept_sounds ts chosen) (λ k row. renumbered keep sound_column.track row) (rows_at ts sounds)

  module _ (k : ℕ) (h : k < lines_at ts sounds) (t : T (kept_sounds ts chosen k)) where
    abbrev new_place : ℕ
    new_place = rank (kept_sounds ts chosen) k

    sound_new : sound_line e new_place ≡ sound_of (get_or (rows_at (left_tables ts' chosen') sounds) new_place [])
    sound_new = sound_at (left_tables ts' chosen') new_place (subst (λ (n : ℕ). new_place < n) (sym sounds_count) (rank_lt (kept_sounds ts chosen) k (lines_at ts sounds) t h))

    -- fields other than where the frames stand, before references are counted anew
    sound_field : (j : ℕ) → j ≢ sound_column.first → j ≢ sound_column.from → field (get_or (rows_at (left_tables ts' chosen') sounds) new_place []) j ≡ field (renumbered keep sound_column.track (get_or (rows_at ts sounds) k [])) j
    sound_field j n o =
        unplaced_field (rows_at (left_tables ts chosen) sounds) (rows_at (left_tables ts' chosen') sounds) tables.sounds new_place j n o
        ∙ ap (λ (row : List ℕ). field row j) (sound_row ts chosen new_place ∙ ap (renumbered keep sound_column.track) (kept_of_at (kept_sounds ts chosen) (rows_at ts sounds) k [] t h))

    sound_track : (sound_line e new_place).track ≡ new_line keep (sound_line (scene_of ts) k).track
    unfolding sound_of
    sound_track =
        ap (λ (x : SoundLine). x.track) sound_new
        ∙ ap natural (sound_field 0 (differ tt) (differ tt))
        ∙ counted_field keep 0 (get_or (rows_at ts sounds) k [])
        ∙ ap (new_line keep) (sym (sound_track_at ts k))

    count_same : natural (field (get_or (rows_at (left_tables ts' chosen') sounds) new_place []) sound_column.count) ≡ natural (cell (rows_at ts sounds) k sound_column.count)
    count_same = ap natural (sound_field 2 (differ tt) (differ tt) ∙ counted_other keep 0 (get_or (rows_at ts sounds) k []) 2 (differ tt))

    sound_count : (sound_line e new_place).count ≡ (sound_line (scene_of ts) k).count
    unfolding sound_of
    sound_count = ap (λ (x : SoundLine). x.count) sound_new ∙ count_same ∙ ap (λ (x : SoundLine). x.count) (sym (sound_at ts k h))

    module _ (samples samples' : Recordings) (fit : AreSamples samples) (fit' : AreSamples samples')
        (frames : same (same same_bits) (frames_left ts chosen samples) (frames_left ts' chosen' samples') ≡ true) where
      abbrev row' : List ℕ
      row' = get_or (sounds_left ts' chosen') new_place []

      field_new : (j : ℕ) → j ≢ 0 → field (get_or (rows_at (left_tables ts' chosen') sounds) new_place []) j ≡ field row' j
      field_new j n = ap (λ (row : List ℕ). field row j) (sound_row ts' chosen' new_place) ∙ counted_other (kept_tracks ts' chosen') 0 row' j n

      played_same : same same_bits (played_samples samples (get_or (rows_at ts sounds) k [])) (played_samples samples' row') ≡ true
      unfolding same
      played_same =
          ap₂ (same same_bits) (ap (played_samples samples) (sym (kept_of_at (kept_sounds ts chosen) (rows_at ts sounds) k [] t h)) ∙ sym (played_at ts chosen samples new_place)) (sym (played_at ts' chosen' samples' new_place))
          ∙ same_at (same same_bits) (frames_left ts chosen samples) (frames_left ts' chosen' samples') [] refl frames new_place

      sound_frames : (i : ℕ) → i < (sound_line (scene_of ts) k).count → line_frame samples' (sound_line e new_place) i ≡ line_frame samples (sound_line (scene_of ts) k) i
      unfolding sound_of
      sound_frames i l =
          let old = sound_at ts k h in
          let first' = ap natural (field_new 1 (differ tt)) in
          let from' = ap natural (field_new 3 (differ tt)) in
          ap (λ (x : SoundLine). line_frame samples' x i) sound_new
          ∙ ap₂ (λ (n f : ℕ). sample_frame (recording samples' f) (n + i)) first' from'
          ∙ frame_same samples samples' fit fit' (get_or (rows_at ts sounds) k []) row' (ap natural (sym (field_new 2 (differ tt))) ∙ count_same) played_same i
          (subst (λ (x : SoundLine). i < x.count) old l)
          ∙ sym (ap (λ (x : SoundLine). line_frame samples x i) old)

-- ---- the relation

nine : (ts : Tables) (chosen : Choice) → sounds < length (left_tables ts chosen)
unfolding left_tables
nine ts chosen = lit< tt

-- What is left of one scene, with the samples of another whose tables and frames left are the same. Nothing else is asked of the other.
pub left_of : (ts ts' : Tables) (samples samples' : Recordings) (output : ℕ) (chosen chosen' : Choice) → TablesPass ts samples output → AreSamples samples → AreSamples samples'
    → same_tables (left_tables ts chosen) (left_tables ts' chosen') ≡ true
    → same (same same_bits) (frames_left ts chosen samples) (frames_left ts' chosen' samples') ≡ true
    → silent_choice ts chosen ≡ true
    → SceneLeft (kept_tracks ts chosen) chosen (quiet ts chosen) (scene_of ts) samples (scene_of (left_tables ts' chosen')) samples'
unfolding scene_of left_tables
left_of ts ts' samples samples' output chosen chosen' passed fit fit' tables frames silent =
    let keep = kept_tracks ts chosen in
    let s = scene_of ts in
    let e = scene_of (left_tables ts' chosen') in
    let eq = same_tables_lem (left_tables ts chosen) (left_tables ts' chosen') (nine ts chosen) (nine ts' chosen') tables in
    let routes_now = routes_kept ts chosen in
    let sounds_now = sounds_kept ts chosen samples output passed in
    let orders_now = order_kept ts chosen samples output passed in
    record {
      head = ap (λ (rows : List (List ℕ)). head_of (get_or rows 0 [])) (sym eq.head);
      clock_count = ap length (sym eq.clocks);
      clocks = λ i h. ap (λ (rows : List (List ℕ)). get_or (filled clock_lines clock_of rows) i absent_clock_line) (sym eq.clocks);
      send_count = ap length (sym eq.sends);
      sends = λ i h. ap (λ (rows : List (List ℕ)). get_or (filled send_lines send_of rows) i absent_send_line) (sym eq.sends);
      track_count = left_count keep (λ t row. renumbered keep track_column.parent row) (rows_at ts tracks) eq.tracks;
      tracks = tracks_left ts ts' chosen chosen' eq;
      route_count =
          left_count (kept_routes ts chosen) (λ t row. renumbered keep route_column.track row) (rows_at ts routes) eq.routes ∙ ap (λ (kept : ℕ → Bool). rank kept (lines_at ts routes)) routes_now;
      routes =
          subst (λ (kept : ℕ → Bool). (r : ℕ) → r < lines_at ts routes → T (kept r) → route_line e (rank kept r) ≡ new_route_line keep (route_line s r)) routes_now
          (routes_left ts ts' chosen chosen' eq);
      sound_count = sounds_count ts ts' chosen chosen' eq ∙ ap (λ (kept : ℕ → Bool). rank kept (lines_at ts sounds)) sounds_now;
      sound_tracks =
          subst (λ (kept : ℕ → Bool). (k : ℕ) → k < lines_at ts sounds → T (kept k) → (sound_line e (rank kept k)).track ≡ new_line keep (sound_line s k).track) sounds_now
          (sound_track ts ts' chosen chosen' eq);
      sound_counts =
          subst (λ (kept : ℕ → Bool). (k : ℕ) → k < lines_at ts sounds → T (kept k) → (sound_line e (rank kept k)).count ≡ (sound_line s k).count) sounds_now
          (sound_count ts ts' chosen chosen' eq);
      sound_frames =
          subst
          (λ (kept : ℕ → Bool). (k : ℕ) → k < lines_at ts sounds → T (kept k) → (i : ℕ) → i < (sound_line s k).count
          → line_frame samples' (sound_line e (rank kept k)) i ≡ line_frame samples (sound_line s k) i)
          sounds_now (λ k h t. sound_frames ts ts' chosen chosen' eq k h t samples samples' fit fit' frames);
      placings = placings_left ts samples output passed chosen (left_tables ts' chosen') (sym eq.listener) (sym eq.placings);
      order_count =
          left_count (kept_orders ts chosen) (λ i row. renumbered_order ts chosen row) (rows_at ts orders) eq.orders
          ∙ rank_cong (kept_orders ts chosen) (kept_order keep s) (lines_at ts orders) orders_now;
      orders = λ i h t.
          ap (order_line e) (sym (rank_cong (kept_orders ts chosen) (kept_order keep s) i (λ j k. orders_now j (lt_trans k h))))
          ∙ orders_left ts ts' chosen chosen' eq samples output passed i h (subst T (sym (orders_now i h)) t);
      tree = λ t h. track_kept ts chosen samples output passed t;
      silent = silent_track ts samples output passed chosen silent;
      quiet_routes = λ t h q r k. quiet_unrouted ts samples output passed chosen t r q k;
      quiet_below = λ t h q j k. quiet_below ts samples output passed chosen t j q;
    }

-- a scene, and what is left of itself
pub left_of_self : (ts : Tables) (samples : Recordings) (output : ℕ) (chosen : Choice) → TablesPass ts samples output → AreSamples samples → silent_choice ts chosen ≡ true
    → SceneLeft (kept_tracks ts chosen) chosen (quiet ts chosen) (scene_of ts) samples (scene_of (left_tables ts chosen)) samples
left_of_self ts samples output chosen passed fit silent =
    left_of ts ts samples samples output chosen chosen passed fit fit (tables_self (left_tables ts chosen)) (frames_self ts chosen samples) silent

-- ---- two scenes that are alike have one scene left

module _ (ts₁ : Tables) (samples₁ : Recordings) (chosen₁ : Choice) (ts₂ : Tables) (samples₂ : Recordings) (chosen₂ : Choice)
    (h : alike ts₁ samples₁ chosen₁ ts₂ samples₂ chosen₂ ≡ true) (fit₂ : AreSamples samples₂) where
  tests : (same_tables (left_tables ts₁ chosen₁) (left_tables ts₂ chosen₂) ≡ true)
      × (same (same same_bits) (frames_left ts₁ chosen₁ samples₁) (frames_left ts₂ chosen₂ samples₂) ≡ true)
      × (silent_choice ts₁ chosen₁ ≡ true)
      × (silent_choice ts₂ chosen₂ ≡ true)
  unfolding alike
  tests =
      let tables = same_tables (left_tables ts₁ chosen₁) (left_tables ts₂ chosen₂) in
      let chosen = same (same eqb) (chosen_left ts₁ chosen₁) (chosen_left ts₂ chosen₂) in
      let frames = same (same same_bits) (frames_left ts₁ chosen₁ samples₁) (frames_left ts₂ chosen₂ samples₂) in
      let rest = and_right frames _ (and_right chosen _ (and_right tables _ h)) in
      (and_left tables _ h, and_left frames _ (and_right chosen _ (and_right tables _ h)), and_left (silent_choice ts₁ chosen₁) _ rest, and_right (silent_choice ts₁ chosen₁) _ rest)

  pub first_left : (output : ℕ) → TablesPass ts₁ samples₁ output → AreSamples samples₁
      → SceneLeft (kept_tracks ts₁ chosen₁) chosen₁ (quiet ts₁ chosen₁) (scene_of ts₁) samples₁ (scene_of (left_tables ts₂ chosen₂)) samples₂
  first_left output passed fit = left_of ts₁ ts₂ samples₁ samples₂ output chosen₁ chosen₂ passed fit fit₂ tests.0 tests.1 tests.2

  pub second_left : (output : ℕ) → TablesPass ts₂ samples₂ output
      → SceneLeft (kept_tracks ts₂ chosen₂) chosen₂ (quiet ts₂ chosen₂) (scene_of ts₂) samples₂ (scene_of (left_tables ts₂ chosen₂)) samples₂
  second_left output passed = left_of_self ts₂ samples₂ output chosen₂ passed fit₂ tests.3
