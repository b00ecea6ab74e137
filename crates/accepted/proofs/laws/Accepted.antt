-- An accepted scene is as the layers above need it (SceneOk.antt), and its output has block times blocks times channels samples. Assumes nothing.
use mathlib.Core.Path.{◌≡◌}
use mathlib.Core.Bool.{true}
use mathlib.Core.List.{List, []}
use Prim.Native.Nat.{ℕ, ◌+◌, ◌*◌, ◌%◌, ◌≤◌, ◌<◌}
use borrow.Author.Tests.{eqb-true}
use lib.Dec.{T, eqb, lit<}
use lib.ListN.{length, get_or}
use lib.Ieee.{Float, nan, binary64, fits}
use Rattle.recordings.specs.Recordings.{Recordings, from_house, from_visitor, recording}
use Rattle.recordings.proofs.laws.Recordings.{of_both}
use Rattle.limits.specs.Limits.{clock_lines, track_lines, send_lines, route_lines, sound_lines, order_lines, block_frames_most, blocks_most, channels_most, chunk_frames_most}
use Rattle.laws.proofs.laws.Choice.{true-T, and_right}
use Rattle.laws.specs.DecibelRange.{TargetRange}
use Rattle.laws.specs.FloatBounds.{Within}
use Rattle.clock.specs.ClockSpeed.{as_ticks_per_second, allowed_speed}
use Rattle.scene_tables.specs.Tables.{tables, table_at, width, no_field, head, clocks, tracks, sends, routes, sounds, orders, head_column, clock_column, track_column, send_column, route_column, sound_column, order_column}
use Rattle.scene_file.specs.Grammar.{tables_of}
use Rattle.scene_questions.specs.Questions.{Tables, rows_at, lines_at, cell, sound_fits, sounds_fit, samples_ok, output_length, answer}
use Rattle.scene.specs.Scene.{head_of, clock_of, track_of, send_of, route_of, sound_of, order_of, scene_of}
use Rattle.scene_tables.proofs.laws.Every.{every_at}
use Rattle.accepted.specs.SceneOk.{RouteOk, OrderOk, SceneOk, SamplesOk}
use Rattle.accepted.proofs.laws.Passed.{TablesPass, file_passes}
use Rattle.accepted.proofs.laws.Line.{count_ok, FieldOk, LineOk, line_ok, filled-length, every_place}
use Rattle.accepted.proofs.laws.Values.{natural_between, natural_line, natural_below, volume_target, speed_fits, start_there, index_ok, sample_within, sound_held}
use Rattle.accepted.proofs.laws.Placed.{placings_length, placings_in}
use Rattle.accepted.specs.Lines.{absent_clock_line, absent_track_line, absent_send_line, absent_route_line, absent_sound_line, absent_order_line}

module _ (ts : Tables) (samples : Recordings) (output : ℕ) (passed : TablesPass ts samples output) where
  most : (t : ℕ) → t < length tables → lines_at ts t ≤ (table_at t).most
  most t h = (count_ok ts passed.lines t h).1

  line : (t i : ℕ) → t < length tables → i < lines_at ts t → LineOk ts t i
  line = line_ok ts passed.ranges passed.references

  head_field : (j : ℕ) → j < width (table_at head) → FieldOk (lines_at ts) (get_or (table_at head).fields j no_field) 0 (cell (rows_at ts head) 0 j)
  head_field j h = (line head 0 (lit< tt) (count_ok ts passed.lines head (lit< tt)).0).fields j h

  -- ---- lines, as the scene has them

  clock_line : (i : ℕ) → i < lines_at ts clocks
      → T (fits binary64 (as_ticks_per_second (clock_of (get_or (rows_at ts clocks) i [])).speed)) × T (allowed_speed (clock_of (get_or (rows_at ts clocks) i [])).speed)
  unfolding clock_of
  clock_line i h = (speed_fits (cell (rows_at ts clocks) i clock_column.unit) (cell (rows_at ts clocks) i clock_column.speed), true-T _ (line clocks i (lit< tt) h).whole)

  track_volume : (j : ℕ) → j < lines_at ts tracks → TargetRange (track_of (get_or (rows_at ts tracks) j [])).volume.0
  unfolding track_of
  track_volume j h = volume_target _ ((line tracks j (lit< tt) h).fields track_column.volume (lit< tt))

  track_parent : (j : ℕ) → j < lines_at ts tracks → (track_of (get_or (rows_at ts tracks) j [])).parent ≤ j
  unfolding track_of
  track_parent j h = (line tracks j (lit< tt) h).fields track_column.parent (lit< tt)

  send_volume : (j : ℕ) → j < lines_at ts sends → TargetRange (send_of (get_or (rows_at ts sends) j [])).volume.0
  unfolding send_of
  send_volume j h = volume_target _ ((line sends j (lit< tt) h).fields send_column.volume (lit< tt))

  route_line : (r : ℕ) → r < lines_at ts routes → RouteOk (scene_of ts) (route_of (get_or (rows_at ts routes) r []))
  unfolding route_of scene_of
  route_line r h =
      let ok = (line routes r (lit< tt) h).fields in
      record {
        track = natural_line 1 (lines_at ts tracks) _ (ok route_column.track (lit< tt));
        send = natural_line 1 (lines_at ts sends) _ (ok route_column.send (lit< tt));
        volume = volume_target _ (ok route_column.volume (lit< tt));
      }

  sound_line : (k : ℕ) → k < lines_at ts sounds
      → ((sound_of (get_or (rows_at ts sounds) k [])).track ≤ lines_at ts tracks)
      × (2 * ((sound_of (get_or (rows_at ts sounds) k [])).first + (sound_of (get_or (rows_at ts sounds) k [])).count) ≤ length (recording samples (sound_of (get_or (rows_at ts sounds) k [])).from))
  unfolding sound_of sounds_fit sound_fits
  sound_line k h =
      let ok = (line sounds k (lit< tt) h).fields in
      let house = every_at (lines_at ts sounds) _ k h (and_right (eqb (length samples.house % 2) 0) _ passed.house_sounds) in
      let visitor = every_at (lines_at ts sounds) _ k h (and_right (eqb (length samples.visitor % 2) 0) _ passed.visitor_sounds) in
      ((ok sound_column.track (lit< tt)).1, sound_held samples _ _ (natural_between from_house from_visitor _ (ok sound_column.from (lit< tt))).1 house visitor)

  order_line : (i : ℕ) → i < lines_at ts orders → OrderOk (scene_of ts) (order_of (get_or (rows_at ts orders) i []))
  unfolding order_of head_of scene_of
  order_line i h =
      let ok = line orders i (lit< tt) h in
      record {
        block = natural_below _ _ (ok.fields order_column.block (lit< tt)).0 ok.whole.0;
        index = index_ok ts _ _ ok.whole.1;
        target = volume_target _ (ok.fields order_column.volume (lit< tt));
        start = start_there (lines_at ts clocks) _ _ _ (ok.fields order_column.clock (lit< tt));
        millis = (natural_between 0 3600000 _ (ok.fields order_column.millis (lit< tt))).1;
      }

  -- ---- the scene

  scene_ok : SceneOk (scene_of ts)
  unfolding head_of scene_of
  scene_ok =
      record {
        rate = natural_between 8000 192000 _ (head_field head_column.rate (lit< tt));
        channels = natural_between 1 channels_most _ (head_field head_column.channels (lit< tt));
        buffer = natural_between 1 chunk_frames_most _ (head_field head_column.buffer (lit< tt));
        block = natural_between 1 block_frames_most _ (head_field head_column.block (lit< tt));
        blocks = natural_between 1 blocks_most _ (head_field head_column.blocks (lit< tt));
        volume = volume_target _ (head_field head_column.volume (lit< tt));
        clock_count = most clocks (lit< tt);
        track_count = most tracks (lit< tt);
        send_count = most sends (lit< tt);
        route_count = most routes (lit< tt);
        sound_count = most sounds (lit< tt);
        order_count = most orders (lit< tt);
        clock_places = filled-length clock_lines clock_of (rows_at ts clocks) (most clocks (lit< tt));
        track_places = filled-length track_lines track_of (rows_at ts tracks) (most tracks (lit< tt));
        send_places = filled-length send_lines send_of (rows_at ts sends) (most sends (lit< tt));
        route_places = filled-length route_lines route_of (rows_at ts routes) (most routes (lit< tt));
        sound_places = filled-length sound_lines sound_of (rows_at ts sounds) (most sounds (lit< tt));
        placing_places = placings_length ts;
        order_places = filled-length order_lines order_of (rows_at ts orders) (most orders (lit< tt));
        clocks = every_place clock_lines clock_of (rows_at ts clocks) absent_clock_line (λ i c. T (fits binary64 (as_ticks_per_second c.speed)) × T (allowed_speed c.speed)) clock_line;
        tracks = every_place track_lines track_of (rows_at ts tracks) absent_track_line (λ j t. TargetRange t.volume.0) track_volume;
        parents = every_place track_lines track_of (rows_at ts tracks) absent_track_line (λ j t. t.parent ≤ j) track_parent;
        sends = every_place send_lines send_of (rows_at ts sends) absent_send_line (λ j x. TargetRange x.volume.0) send_volume;
        routes = every_place route_lines route_of (rows_at ts routes) absent_route_line (λ r x. RouteOk (scene_of ts) x) route_line;
        sounds = every_place sound_lines sound_of (rows_at ts sounds) absent_sound_line (λ k x. x.track ≤ lines_at ts tracks) (λ k h. (sound_line k h).0);
        placings = λ t h. placings_in ts passed.lines passed.ranges passed.references t;
        orders = every_place order_lines order_of (rows_at ts orders) absent_order_line (λ i o. OrderOk (scene_of ts) o) order_line;
      }

  all_within : (l : List Float) → samples_ok l ≡ true → (i : ℕ) → i < length l → Within (get_or l i nan) 1 1
  unfolding samples_ok
  all_within l e i h = sample_within (get_or l i nan) (every_at (length l) _ i h e)

  samples_ok_lem : SamplesOk (scene_of ts) samples
  unfolding scene_of
  samples_ok_lem =
      record {
        sounds = every_place sound_lines sound_of (rows_at ts sounds) absent_sound_line (λ k x. 2 * (x.first + x.count) ≤ length (recording samples x.from)) (λ k h. (sound_line k h).1);
        within = λ from. of_both (λ l. (i : ℕ) → i < length l → Within (get_or l i nan) 1 1) samples from (all_within samples.house passed.house_inside) (all_within samples.visitor passed.visitor_inside);
      }

  output_length_lem : output ≡ (scene_of ts).head.block * (scene_of ts).head.blocks * (scene_of ts).head.channels
  unfolding output_length head_of scene_of
  output_length_lem = eqb-true output _ passed.long

pub accepted_ok : (file : List ℕ) (samples : Recordings) (output : ℕ) → answer file samples output ≡ 0 → SceneOk (scene_of (tables_of file))
accepted_ok file samples output e = scene_ok (tables_of file) samples output (file_passes file samples output e).tables

pub accepted_samples : (file : List ℕ) (samples : Recordings) (output : ℕ) → answer file samples output ≡ 0 → SamplesOk (scene_of (tables_of file)) samples
accepted_samples file samples output e = samples_ok_lem (tables_of file) samples output (file_passes file samples output e).tables

-- block times blocks times channels
pub accepted_length : (file : List ℕ) (samples : Recordings) (output : ℕ) → answer file samples output ≡ 0
    → output ≡ (scene_of (tables_of file)).head.block * (scene_of (tables_of file)).head.blocks * (scene_of (tables_of file)).head.channels
accepted_length file samples output e = output_length_lem (tables_of file) samples output (file_passes file samples output e).tables
