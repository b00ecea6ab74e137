-- The placings left: a track that is kept stands where it stood, but a chosen one is plain. Where several lines place a track the last one counts, on both
-- sides, so nothing is asked of that. Assumes nothing.
use mathlib.Core.Path.{◌≡◌, refl, sym, ap, ap₂, ◌∙◌, subst}
use mathlib.Core.Logic.{◌≢◌, inl, inr}
use mathlib.Core.Bool.{Bool, true, false, not, cond}
use mathlib.Core.List.{List, [], ◌∷◌}
use Prim.Native.Nat.{ℕ, zero, suc, ◌-◌, ◌≤◌, ◌<◌}
use native.Mathlib.Omega.{arith}
use lib.Dec.{T, T_not, eqb, eqb→eq, lit<}
use lib.ListN.{length, get_or, set, replicate, length-set, length-replicate}
use lib.Seq.{get_or-set_same, get_or-set_other}
use lib.Ieee.Bits.{is_true, is_false}
use lib.Ieee.Fits.{and_l, and_r}
use Rattle.recordings.specs.Recordings.{Recordings}
use Rattle.limits.specs.Limits.{track_lines}
use Rattle.laws.specs.Loop.{upto}
use Rattle.laws.specs.Kept.{rank}
use Rattle.laws.proofs.laws.Kept.{rank_inj, kept_or_removed, upto_kept}
use Rattle.laws.proofs.laws.Choice.{cond-true, cond-false}
use Rattle.spatial.specs.declared.placing.Placing.{Placing}
use Rattle.spatial.specs.declared.placing.Placing.TheVariants.{Plain}
use Rattle.scene_tables.specs.Tables.{natural, tracks, listener, placings, raised, placing_column}
use Rattle.scene_questions.specs.Questions.{Tables, rows_at, lines_at, field, cell}
use Rattle.scene.specs.declared.scene.TrackPlacing.{TrackPlacing}
use Rattle.scene.specs.Scene.{position_of, distances_of, placing_of, placings_of}
use Rattle.accepted.specs.Lines.{absent_track_placing as plain}
use Rattle.accepted.proofs.laws.Passed.{TablesPass}
use Rattle.accepted.proofs.laws.Line.{count_ok, line_ok}
use Rattle.noninterference.specs.Removed.{new_line, Choice, kept_tracks, kept_placings, renumbered, lines_left}
use Rattle.noninterference.proofs.laws.Lines.{open_line, open_suc}
use Rattle.noninterference.proofs.laws.Arrays.{line_of, unequal, all_same, at_line, at_rank}
use Rattle.noninterference.proofs.laws.LeftLines.{differ, counted_field, counted_other, left_length, left_at}
use Rattle.noninterference.proofs.laws.KeptLines.{placing_kept}

-- ---- the placings of n tracks, and those left

pub record PlacingsLeft (keep chosen : ℕ → Bool) (n : ℕ) (l l' : List TrackPlacing) : Type 0 where
  pub places : length l ≡ track_lines
  pub places' : length l' ≡ track_lines
  pub left : (t : ℕ) → t < n → T (keep t) → get_or l' (rank keep t) plain ≡ cond (chosen t) plain (get_or l t plain)

-- no track is placed
plain_left : (keep chosen : ℕ → Bool) (n : ℕ) → PlacingsLeft keep chosen n (replicate track_lines plain) (replicate track_lines plain)
plain_left keep chosen n =
    record {
      places = length-replicate track_lines plain;
      places' = length-replicate track_lines plain;
      left = λ t b k. all_same track_lines (rank keep t) plain ∙ sym (ap (cond (chosen t) plain) (all_same track_lines t plain) ∙ either (chosen t));
    }
  where
    either : (c : Bool) → cond c plain plain ≡ plain
    either true = refl
    either false = refl

module _ (keep chosen : ℕ → Bool) (n : ℕ) (room : n ≤ track_lines) {l l' : List TrackPlacing} (r : PlacingsLeft keep chosen n l l') where
  -- a track that is kept and not chosen is placed on both sides
  set_open : (p : ℕ) → p < n → T (keep p) → T (not (chosen p)) → (x : TrackPlacing) → PlacingsLeft keep chosen n (set l p x) (set l' (rank keep p) x)
  set_open p b t u x =
      record {
        places = length-set l p x ∙ r.places;
        places' = length-set l' (rank keep p) x ∙ r.places';
        left = λ j c k. elim (kept_or_removed (eqb j p)) [
          | inl e ↦ here j (eqb→eq j p e)
          | inr q ↦ get_or-set_other l' (rank keep p) (rank keep j) x plain (λ e. unequal j p q (rank_inj keep j p k t e))
              ∙ r.left j c k
              ∙ ap (cond (chosen j) plain) (sym (get_or-set_other l p j x plain (unequal j p q)))
        ];
      }
    where
      here : (j : ℕ) → j ≡ p → get_or (set l' (rank keep p) x) (rank keep j) plain ≡ cond (chosen j) plain (get_or (set l p x) j plain)
      here j e =
          subst (λ (k : ℕ). get_or (set l' (rank keep p) x) (rank keep k) plain ≡ cond (chosen k) plain (get_or (set l p x) k plain)) (sym e)
          (get_or-set_same l' (rank keep p) x plain (at_rank n track_lines room p b r.places' keep)
          ∙ sym (cond-false (chosen p) plain (get_or (set l p x) p plain) (is_false (chosen p) u) ∙ get_or-set_same l p x plain (at_line n track_lines room p b r.places)))

  -- any other track is placed on the one side alone
  set_shut : (p : ℕ) (x : TrackPlacing) → ((t : ℕ) → T (keep t) → T (not (chosen t)) → t ≢ p) → PlacingsLeft keep chosen n (set l p x) l'
  set_shut p x h =
      record {
        places = length-set l p x ∙ r.places;
        places' = r.places';
        left = λ j c k. elim (kept_or_removed (chosen j)) [
          | inl t ↦ r.left j c k
              ∙ cond-true (chosen j) plain (get_or l j plain) (is_true (chosen j) t)
              ∙ sym (cond-true (chosen j) plain (get_or (set l p x) j plain) (is_true (chosen j) t))
          | inr u ↦ r.left j c k ∙ ap (cond (chosen j) plain) (sym (get_or-set_other l p j x plain (h j k u)))
        ];
      }

  -- ---- a track by its line number, counted from 1

  line_open : (line : ℕ) → 1 ≤ line → line ≤ n → T (open_line keep chosen line) → (x : TrackPlacing) → PlacingsLeft keep chosen n (set l (line - 1) x) (set l' (new_line keep line - 1) x)
  unfolding new_line open_line
  line_open zero a b t x = absurd (omega arith)
  line_open (suc p) a b t x =
      subst (λ (k : ℕ). PlacingsLeft keep chosen n (set l k x) (set l' (suc (rank keep p) - 1) x)) (sym (line_of p))
      (subst (λ (k : ℕ). PlacingsLeft keep chosen n (set l p x) (set l' k x)) (sym (line_of (rank keep p)))
      (set_open p b (and_l (keep p) (not (chosen p)) t) (and_r (keep p) (not (chosen p)) t) x))

  line_shut : (line : ℕ) → 1 ≤ line → T (not (open_line keep chosen line)) → (x : TrackPlacing) → PlacingsLeft keep chosen n (set l (line - 1) x) l'
  line_shut zero a t x = absurd (omega arith)
  line_shut (suc p) a t x =
      subst (λ (k : ℕ). PlacingsLeft keep chosen n (set l k x) l') (sym (line_of p))
      (set_shut p x (λ j k u e. T_not (open_line keep chosen (suc p)) t (subst (λ (q : ℕ). T (open_line keep chosen (suc q))) e (open_suc keep chosen j k u))))

-- ---- the lines of the placings

-- a line's turn: its track is placed
turn : List (List ℕ) → List (List ℕ) → ℕ → List TrackPlacing → List TrackPlacing
turn listeners rows i done = set done (natural (cell rows i placing_column.track) - 1) (record { placing = placing_of listeners (get_or rows i []) })

placed_by : List (List ℕ) → List (List ℕ) → List TrackPlacing
placed_by listeners rows = upto (turn listeners rows) (length rows) (replicate track_lines plain)

by_turns : (ts : Tables) → placings_of ts ≡ placed_by (rows_at ts listener) (rows_at ts placings)
unfolding placings_of placed_by turn
by_turns ts = refl

-- how a line places its track does not depend on the track's number
placing_new : (keep : ℕ → Bool) (listeners : List (List ℕ)) (row : List ℕ) → placing_of listeners (renumbered keep placing_column.track row) ≡ placing_of listeners row
unfolding placing_of position_of distances_of
placing_new keep [] row = refl
placing_new keep (first ∷ rest) row =
    rw
    (counted_other keep 0 row 1 (differ tt), counted_other keep 0 row 2 (differ tt), counted_other keep 0 row 3 (differ tt), counted_other keep 0 row 4 (differ tt), counted_other keep 0 row 5 (differ tt))

module _ (ts : Tables) (samples : Recordings) (output : ℕ) (passed : TablesPass ts samples output) (chosen : Choice) where
  abbrev keep : ℕ → Bool
  keep = kept_tracks ts chosen

  abbrev rows : List (List ℕ)
  rows = rows_at ts placings

  abbrev rows_left : List (List ℕ)
  rows_left = lines_left (kept_placings ts chosen) (λ p row. renumbered keep placing_column.track row) rows

  -- the track that a line names
  abbrev named : ℕ → ℕ
  named i = natural (cell rows i placing_column.track)

  abbrev Left : List TrackPlacing → List TrackPlacing → Type 0
  Left = PlacingsLeft keep chosen (lines_at ts tracks)

  is_named : (i : ℕ) → i < length rows → (1 ≤ named i) × (named i ≤ lines_at ts tracks)
  is_named i h =
      let ok = (line_ok ts passed.ranges passed.references placings i (lit< tt) h).fields placing_column.track (lit< tt) in
      (from_one (cell rows i placing_column.track) ok.0, ok.1)
    where
      from_one : (z : ℕ) → raised 1 ≤ z → 1 ≤ natural z
      from_one z k = omega arith

  room : lines_at ts tracks ≤ track_lines
  room = (count_ok ts passed.lines tracks (lit< tt)).1

  module _ (listeners : List (List ℕ)) (i : ℕ) (h : i < length rows) where
    abbrev value : TrackPlacing
    value = record { placing = placing_of listeners (get_or rows i []) }

    new_turn : T (kept_placings ts chosen i) → (m : List TrackPlacing) → turn listeners rows_left (rank (kept_placings ts chosen) i) m ≡ set m (new_line keep (named i) - 1) value
    unfolding turn
    new_turn t m =
        ap (λ (row : List ℕ). set m (natural (field row placing_column.track) - 1) (record { placing = placing_of listeners row })) (left_at (kept_placings ts chosen) (λ p row. renumbered keep placing_column.track row) rows i h t)
        ∙ ap₂ (λ (line : ℕ) (x : Placing). set m (line - 1) (record { placing = x })) (counted_field keep 0 (get_or rows i [])) (placing_new keep listeners (get_or rows i []))

    turn_kept : T (kept_placings ts chosen i) → (l m : List TrackPlacing) → Left l m → Left (turn listeners rows i l) (turn listeners rows_left (rank (kept_placings ts chosen) i) m)
    unfolding turn
    turn_kept t l m r =
        subst (Left (turn listeners rows i l)) (sym (new_turn t m))
        (line_open keep chosen (lines_at ts tracks) room r (named i) (is_named i h).0 (is_named i h).1 (subst T (placing_kept ts chosen samples output passed i) t) value)

    turn_removed : T (not (kept_placings ts chosen i)) → (l m : List TrackPlacing) → Left l m → Left (turn listeners rows i l) m
    unfolding turn
    turn_removed t l m r =
        line_shut keep chosen (lines_at ts tracks) room r (named i) (is_named i h).0 (subst (λ (b : Bool). T (not b)) (placing_kept ts chosen samples output passed i) t) value

  all_left : (listeners : List (List ℕ)) → Left (placed_by listeners rows) (placed_by listeners rows_left)
  unfolding placed_by
  all_left listeners =
      subst (λ (k : ℕ). Left (placed_by listeners rows) (upto (turn listeners rows_left) k (replicate track_lines plain)))
      (sym (left_length (kept_placings ts chosen) (λ p row. renumbered keep placing_column.track row) rows))
      (upto_kept (λ i. Left) (kept_placings ts chosen) (turn listeners rows) (turn listeners rows_left) (length rows) (replicate track_lines plain) (replicate track_lines plain)
      (turn_kept listeners) (turn_removed listeners) (plain_left keep chosen (lines_at ts tracks)))

  -- tables with the same listener, and with the lines that are left
  pub placings_left : (us : Tables) → rows_at us listener ≡ rows_at ts listener → rows_at us placings ≡ rows_left → (t : ℕ) → t < lines_at ts tracks → T (keep t)
      → (get_or (placings_of us) (rank keep t) plain).placing ≡ cond (chosen t) Plain (get_or (placings_of ts) t plain).placing
  placings_left us e g t b k =
      ap (λ (l : List TrackPlacing). (get_or l (rank keep t) plain).placing) (by_turns us ∙ ap₂ placed_by e g)
      ∙ ap (λ (x : TrackPlacing). x.placing) ((all_left (rows_at ts listener)).left t b k)
      ∙ within (chosen t) (get_or (placed_by (rows_at ts listener) rows) t plain)
      ∙ ap (λ (l : List TrackPlacing). cond (chosen t) Plain (get_or l t plain).placing) (sym (by_turns ts))
    where
      within : (c : Bool) (x : TrackPlacing) → (cond c plain x).placing ≡ cond c Plain x.placing
      within true x = refl
      within false x = refl
