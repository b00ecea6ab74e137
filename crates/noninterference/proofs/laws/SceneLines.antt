-- The lines of the scene of some tables, by the numbers of the tables. Assumes nothing.
use mathlib.Core.Path.{◌≡◌, refl, sym, ap, ◌∙◌}
use mathlib.Core.Bool.{true, not}
use mathlib.Core.Logic.{◌⊎◌, inl, inr}
use mathlib.Core.List.{[]}
use Prim.Native.Nat.{ℕ, suc, ◌≤◌, ◌<◌, zero-le}
use native.Mathlib.Omega.{arith}
use borrow.Author.Tests.{eq-eqb}
use lib.Dec.{T, ltb, ltb→lt, nltb→le, lit<}
use lib.ListN.{get_or, get_or-eq_default}
use Rattle.recordings.specs.Recordings.{Recordings}
use Rattle.limits.specs.Limits.{track_lines, route_lines, sound_lines, order_lines}
use Rattle.laws.proofs.laws.Choice.{and_same}
use Rattle.laws.proofs.laws.Kept.{kept_or_removed}
use Rattle.scene_tables.specs.Tables.{natural, tracks, routes, sounds, orders, raised, track_column, route_column, sound_column, order_column}
use Rattle.scene.specs.declared.scene.OrderKind.{OrderKind}
use Rattle.scene.specs.declared.scene.OrderLine.{OrderLine}
use Rattle.scene_questions.specs.Questions.{Tables, rows_at, lines_at, field, cell, parent_of}
use Rattle.scene.specs.Scene.{track_of, route_of, sound_of, order_of, scene_of}
use Rattle.accepted.specs.Lines.{track_line, route_line, sound_line, order_line, absent_track_line, absent_route_line, absent_sound_line, absent_order_line}
use Rattle.accepted.proofs.laws.Passed.{TablesPass}
use Rattle.accepted.proofs.laws.Line.{line_ok}
use Rattle.order_lines.specs.Orders.{kind_number}
use Rattle.noninterference.specs.Silent.{names}
use Rattle.noninterference.proofs.laws.Inside.{Early}
use Rattle.noninterference.proofs.laws.LeftLines.{place, place_number}
use Rattle.noninterference.proofs.laws.OrderLines.{kind_number_lem}

module _ (ts : Tables) where
  pub track_at : (t : ℕ) → t < lines_at ts tracks → track_line (scene_of ts) t ≡ track_of (get_or (rows_at ts tracks) t [])
  unfolding scene_of
  track_at = place track_lines track_of absent_track_line (rows_at ts tracks)

  pub sound_at : (k : ℕ) → k < lines_at ts sounds → sound_line (scene_of ts) k ≡ sound_of (get_or (rows_at ts sounds) k [])
  unfolding scene_of
  sound_at = place sound_lines sound_of absent_sound_line (rows_at ts sounds)

  pub order_at : (i : ℕ) → i < lines_at ts orders → order_line (scene_of ts) i ≡ order_of (get_or (rows_at ts orders) i [])
  unfolding scene_of
  order_at = place order_lines order_of absent_order_line (rows_at ts orders)

  -- the track that a line names; where no line stands it is 0
  pub parent_at : (t : ℕ) → (track_line (scene_of ts) t).parent ≡ parent_of (rows_at ts tracks) (suc t)
  unfolding scene_of track_of parent_of
  parent_at = place_number track_lines track_of absent_track_line (λ x. x.parent) refl (rows_at ts tracks)

  pub route_track_at : (r : ℕ) → (route_line (scene_of ts) r).track ≡ natural (cell (rows_at ts routes) r route_column.track)
  unfolding scene_of route_of
  route_track_at = place_number route_lines route_of absent_route_line (λ x. x.track) refl (rows_at ts routes)

  pub sound_track_at : (k : ℕ) → (sound_line (scene_of ts) k).track ≡ natural (cell (rows_at ts sounds) k sound_column.track)
  unfolding scene_of sound_of
  sound_track_at = place_number sound_lines sound_of absent_sound_line (λ x. x.track) refl (rows_at ts sounds)

module _ (ts : Tables) (samples : Recordings) (output : ℕ) (passed : TablesPass ts samples output) where
  pub passed_early : Early ts
  unfolding parent_of
  passed_early t = go (kept_or_removed (ltb t (lines_at ts tracks)))
    where
      go : T (ltb t (lines_at ts tracks)) ⊎ T (not (ltb t (lines_at ts tracks))) → natural (cell (rows_at ts tracks) t track_column.parent) ≤ t
      go (inl h) = (line_ok ts passed.ranges passed.references tracks t (lit< tt) (ltb→lt t (lines_at ts tracks) h)).fields track_column.parent (lit< tt)
      go (inr h) = rw (get_or-eq_default (rows_at ts tracks) [] (nltb→le t (lines_at ts tracks) h)) zero-le

  -- an order of a kind for track t, as the tests of Silent.antt see it
  pub named : (k : OrderKind) (t i : ℕ) → i < lines_at ts orders → (order_line (scene_of ts) i).kind ≡ k → (order_line (scene_of ts) i).index ≡ suc t → names ts (raised (kind_number k)) t i ≡ true
  unfolding names order_of
  named k t i h e g =
      let o = order_at ts i h in
      let row = get_or (rows_at ts orders) i [] in
      let range = (line_ok ts passed.ranges passed.references orders i (lit< tt) h).fields order_column.kind (lit< tt) in
      let kind : field row order_column.kind ≡ raised (kind_number k) =
      kind_number_lem (field row order_column.kind) range ∙ ap (λ (x : OrderKind). raised (kind_number x)) (sym (ap (λ (x : OrderLine). x.kind) o) ∙ e) in
      let index : natural (field row order_column.index) ≡ suc t = sym (ap (λ (x : OrderLine). x.index) o) ∙ g in
      and_same (eq-eqb (field row order_column.kind) (raised (kind_number k)) kind) (eq-eqb (field row order_column.index) (raised (suc t)) (back (field row order_column.index) t index))
    where
      back : (z t : ℕ) → natural z ≡ suc t → z ≡ raised (suc t)
      back z t e = omega arith
