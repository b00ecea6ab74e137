-- From the tests of Silent.antt to what SceneLeft.antt asks of silent tracks. Assumes nothing.
use mathlib.Core.Path.{◌≡◌, refl, sym, ap, ◌∙◌, subst}
use mathlib.Core.Logic.{◌⊎◌, inl, inr, ⊎_elim}
use mathlib.Core.Bool.{Bool, true, false, cond, not, ◌&&◌, ◌||◌, true≢false}
use Prim.Native.Nat.{ℕ, zero, suc, ◌-◌, ◌≤◌, ◌<◌}
use native.Mathlib.Nat.{le_refl, le_trans, le-suc}
use native.Mathlib.Omega.{arith}
use borrow.Author.Tests.{leb-true, eqb-true, not-true}
use lib.Dec.{T, eqb, leb, lit<}
use lib.IntN.{pos, negsuc}
use lib.Ieee.{binary32, of_int, div}
use lib.Ieee.Bits.{is_true}
use Rattle.recordings.specs.Recordings.{Recordings}
use Rattle.laws.specs.Loop.{upto}
use Rattle.laws.proofs.laws.Choice.{cond-true, true-T, and_left, and_right, and_same}
use Rattle.laws.specs.Kept.{rank}
use Rattle.laws.proofs.laws.Kept.{rank_removed, rank_lt, rank_inj, kept_or_removed}
use Rattle.laws.proofs.laws.DecibelRange.{SilentRange, thousandths_silent}
use Rattle.scene_tables.specs.Bytes.{every}
use Rattle.scene_tables.specs.Tables.{natural, tracks, routes, orders, raised_minus, raised, track_column, route_column, order_column, order_kind}
use Rattle.scene.specs.declared.scene.OrderKind.TheVariants.{TrackVolume, Pause, Resume}
use Rattle.scene.specs.declared.scene.TrackLine.{TrackLine}
use Rattle.scene.specs.declared.scene.OrderLine.{OrderLine}
use Rattle.scene_questions.specs.Questions.{Tables, rows_at, lines_at, cell}
use Rattle.scene.specs.Scene.{volume_of, start_time_of, kind_of, track_of, order_of, scene_of}
use Rattle.scene_tables.proofs.laws.Every.{every_at}
use Rattle.accepted.specs.Lines.{track_line, route_line, order_line}
use Rattle.accepted.proofs.laws.Passed.{TablesPass}
use Rattle.accepted.proofs.laws.Line.{line_ok}
use Rattle.order_lines.specs.Orders.{kind_number}
use Rattle.noninterference.specs.Removed.{Choice, names_removed, removed_track}
use Rattle.noninterference.specs.Silent.{silent_volume, names, muted, held, is_holding, pauses_or_resumes}
use Rattle.noninterference.specs.Alike.{silent_choice}
use Rattle.noninterference.proofs.laws.SceneLeft.{MutedTrack, HeldTrack}
use Rattle.noninterference.proofs.laws.Inside.{or_true, or_left, or_right, removed_below, removed_by_one}
use Rattle.noninterference.proofs.laws.LeftLines.{natural_plus}
use Rattle.noninterference.proofs.laws.OrderLines.{number_kind}
use Rattle.noninterference.proofs.laws.SceneLines.{passed_early, track_at, order_at, parent_at, route_track_at, named}

-- the tracks below a chosen track that is muted: none of them is routed
unfoldable pub quiet : Tables → Choice → ℕ → Bool
quiet ts chosen = removed_track ts (λ t. chosen t && muted ts t)

-- ---- volumes

-- at most -60 dB, of a volume that is in its range
pub volume_silent : (z : ℕ) → raised_minus 96000 ≤ z → silent_volume z ≡ true → SilentRange (volume_of z).0
unfolding silent_volume volume_of of_int
volume_silent z h e = go (leb 2147483648 z) refl
  where
    go : (b : Bool) → leb 2147483648 z ≡ b → SilentRange (div binary32 (of_int binary32 (cond b (pos (z - 2147483648)) (negsuc (2147483648 - suc z)))) (of_int binary32 (pos 1000)))
    go true g = absurd (omega (arith, leb-true z _ e, leb-true 2147483648 z g))
    go false g = thousandths_silent (suc (2147483648 - suc z)) (omega (arith, leb-true z _ e)) (omega (arith, leb-true z _ e))

-- ---- a test that passes at exactly one line

counts_rank : (f : ℕ → Bool) (n : ℕ) → upto (λ i k. cond (f i) (suc k) k) n 0 ≡ rank f n
unfolding upto rank
counts_rank f zero = refl
counts_rank f (suc n) = ap (λ (k : ℕ). cond (f n) (suc k) k) (counts_rank f n)

some_line : (f : ℕ → Bool) (n : ℕ) → 0 < rank f n → (line : ℕ) × (line < n) × T (f line)
unfolding rank
some_line f zero h = absurd (omega arith)
some_line f (suc n) h = go (kept_or_removed (f n)) (some_line f n)
  where
    go : T (f n) ⊎ T (not (f n)) → (0 < rank f n → (line : ℕ) × (line < n) × T (f line)) → (line : ℕ) × (line < suc n) × T (f line)
    go (inl t) ih = (n, le_refl (suc n), t)
    go (inr t) ih = let w = ih (subst (λ (r : ℕ). 0 < r) (rank_removed f n t) h) in (w.0, le_trans w.1 (le-suc n), w.2)

one_line : (f : ℕ → Bool) (n : ℕ) → rank f n ≡ 1 → (a b : ℕ) → a < n → b < n → T (f a) → T (f b) → a ≡ b
one_line f n e a b h k s t = rank_inj f a b s t (none (rank_lt f a n s h) (rank_lt f b n t k) e)
  where
    none : {x y r : ℕ} → x < r → y < r → r ≡ 1 → x ≡ y
    none h k e = omega arith

-- ---- what the tests say

-- of a muted track
record MutedTests (ts : Tables) (t : ℕ) : Type 0 where
  own : silent_volume (cell (rows_at ts tracks) t track_column.volume) ≡ true
  given : (i : ℕ) → i < lines_at ts orders → names ts order_kind.track_volume t i ≡ true → silent_volume (cell (rows_at ts orders) i order_column.volume) ≡ true
  unrouted : (r : ℕ) → r < lines_at ts routes → not (names_removed (removed_track ts (eqb t)) (natural (cell (rows_at ts routes) r route_column.track))) ≡ true

muted_tests : (ts : Tables) (t : ℕ) → muted ts t ≡ true → MutedTests ts t
unfolding muted
muted_tests ts t e =
    let own = silent_volume (cell (rows_at ts tracks) t track_column.volume) in
    let given = every (lines_at ts orders) (λ i. cond (names ts order_kind.track_volume t i) (silent_volume (cell (rows_at ts orders) i order_column.volume)) true) in
    let rest = and_right own _ e in
    record {
      own = and_left own _ e;
      given = λ i h n. sym (cond-true (names ts order_kind.track_volume t i) (silent_volume (cell (rows_at ts orders) i order_column.volume)) true n) ∙ every_at (lines_at ts orders) _ i h (and_left given _ rest);
      unrouted = λ r h. every_at (lines_at ts routes) _ r h (and_right given _ rest);
    }

-- of the pause that holds a track

record HoldsTests (ts : Tables) (t i : ℕ) : Type 0 where
  block : cell (rows_at ts orders) i order_column.block ≡ raised 0
  kind : cell (rows_at ts orders) i order_column.kind ≡ order_kind.pause
  index : cell (rows_at ts orders) i order_column.index ≡ raised (suc t)
  clock : cell (rows_at ts orders) i order_column.clock ≡ raised 0
  when : cell (rows_at ts orders) i order_column.when ≡ raised 0
  millis : cell (rows_at ts orders) i order_column.millis ≡ raised 0

holds_tests : (ts : Tables) (t i : ℕ) → is_holding ts t i ≡ true → HoldsTests ts t i
unfolding is_holding names
holds_tests ts t i e =
    let at = cell (rows_at ts orders) i in
    let named = and_left (names ts order_kind.pause t i) _ e in
    let a = and_right (names ts order_kind.pause t i) _ e in
    let b = and_right (eqb (at order_column.block) (raised 0)) _ a in
    let c = and_right (eqb (at order_column.clock) (raised 0)) _ b in
    record {
      block = eqb-true (at order_column.block) (raised 0) (and_left (eqb (at order_column.block) (raised 0)) _ a);
      kind = eqb-true (at order_column.kind) order_kind.pause (and_left (eqb (at order_column.kind) order_kind.pause) _ named);
      index = eqb-true (at order_column.index) (raised (suc t)) (and_right (eqb (at order_column.kind) order_kind.pause) _ named);
      clock = eqb-true (at order_column.clock) (raised 0) (and_left (eqb (at order_column.clock) (raised 0)) _ b);
      when = eqb-true (at order_column.when) (raised 0) (and_left (eqb (at order_column.when) (raised 0)) _ c);
      millis = eqb-true (at order_column.millis) (raised 0) (and_right (eqb (at order_column.when) (raised 0)) _ c);
    }

stopped : (ts : Tables) (samples : Recordings) (output : ℕ) → TablesPass ts samples output → (t i : ℕ) → i < lines_at ts orders
    → ((order_line (scene_of ts) i).kind ≡ Pause) ⊎ ((order_line (scene_of ts) i).kind ≡ Resume) → (order_line (scene_of ts) i).index ≡ suc t → pauses_or_resumes ts t i ≡ true
unfolding pauses_or_resumes kind_number
stopped ts samples output passed t i h kind index =
    ⊎_elim
    (λ k. or_left (names ts order_kind.pause t i) (names ts order_kind.resume t i) (named ts samples output passed Pause t i h k index))
    (λ k. or_right (names ts order_kind.pause t i) (names ts order_kind.resume t i) (named ts samples output passed Resume t i h k index))
    kind

unrouted : (removed : ℕ → Bool) (line : ℕ) {t : ℕ} → line ≡ suc t → not (names_removed removed line) ≡ true → removed t ≡ true → ⊥
unfolding names_removed
unrouted removed line {t} e u h = true≢false (sym h ∙ not-true (removed t) (ap (λ (n : ℕ). not (names_removed removed n)) (sym e) ∙ u))

-- ---- the two kinds of silent tracks

module _ (ts : Tables) (samples : Recordings) (output : ℕ) (passed : TablesPass ts samples output) (chosen : Choice) where
  abbrev muted_choice : Choice
  muted_choice t = chosen t && muted ts t

  below_quiet : (t j : ℕ) → (track_line (scene_of ts) j).parent ≡ suc t → (muted_choice t || quiet ts chosen t) ≡ true → T (quiet ts chosen j)
  unfolding quiet
  below_quiet t j e h = true-T (quiet ts chosen j) (removed_below ts (passed_early ts samples output passed) muted_choice t j (sym (parent_at ts j) ∙ e) h)

  muted_track : (t : ℕ) → t < lines_at ts tracks → chosen t ≡ true → muted ts t ≡ true → MutedTrack (quiet ts chosen) (scene_of ts) t
  unfolding scene_of track_of order_of kind_number
  muted_track t h c e =
      let m = muted_tests ts t e in
      record {
        volume =
            subst (λ (x : TrackLine). SilentRange x.volume.0) (sym (track_at ts t h))
            (volume_silent _ ((line_ok ts passed.ranges passed.references tracks t (lit< tt) h).fields track_column.volume (lit< tt)).0 m.own);
        orders = λ i k kind index.
            subst (λ (x : OrderLine). SilentRange x.target.0) (sym (order_at ts i k))
            (volume_silent _ ((line_ok ts passed.ranges passed.references orders i (lit< tt) k).fields order_column.volume (lit< tt)).0
            (m.given i k (named ts samples output passed TrackVolume t i k kind index)));
        below = λ j k p. below_quiet t j p (or_left (muted_choice t) (quiet ts chosen t) (and_same c e));
      }

  held_track : (t : ℕ) → held ts t ≡ true → HeldTrack (scene_of ts) t
  unfolding held scene_of order_of start_time_of kind_number
  held_track t e =
      let n = lines_at ts orders in
      let test = pauses_or_resumes ts t in
      let count = upto (λ i k. cond (test i) (suc k) k) n 0 in
      let one : rank test n ≡ 1 = sym (counts_rank test n) ∙ eqb-true count 1 (and_left (eqb count 1) _ e) in
      let found = some_line test n (rw one (lit< tt)) in
      let line = found.0 in
      let holding : is_holding ts t line ≡ true =
      sym (cond-true (test line) (is_holding ts t line) true (is_true (test line) found.2)) ∙ every_at n _ line found.1 (and_right (eqb count 1) _ e) in
      let h = holds_tests ts t line holding in
      let o = order_at ts line found.1 in
      record {
        line = line;
        there = found.1;
        pause = ap (λ (x : OrderLine). x.kind) o ∙ ap kind_of h.kind ∙ number_kind Pause;
        index = ap (λ (x : OrderLine). x.index) o ∙ ap natural h.index ∙ natural_plus (suc t);
        block = ap (λ (x : OrderLine). x.block) o ∙ ap natural h.block;
        start = ap (λ (x : OrderLine). x.start_time) o ∙ rw (h.clock, h.when);
        millis = ap (λ (x : OrderLine). x.millis) o ∙ ap natural h.millis;
        only = λ i k kind index. one_line test n one i line k found.1 (true-T (test i) (stopped ts samples output passed t i k kind index)) found.2;
      }

  pub silent_track : silent_choice ts chosen ≡ true → (t : ℕ) → t < lines_at ts tracks → T (chosen t) → MutedTrack (quiet ts chosen) (scene_of ts) t ⊎ HeldTrack (scene_of ts) t
  unfolding silent_choice
  silent_track e t h c =
      let c' = is_true (chosen t) c in
      or_true (muted ts t) (held ts t)
      (sym (cond-true (chosen t) (muted ts t || held ts t) true c') ∙ every_at (lines_at ts tracks) _ t h e)
      (λ g. inl (muted_track t h c' g))
      (λ g. inr (held_track t g))

  -- ---- quiet tracks

  pub quiet_below : (t j : ℕ) → T (quiet ts chosen t) → (track_line (scene_of ts) j).parent ≡ suc t → T (quiet ts chosen j)
  quiet_below t j q e = below_quiet t j e (or_right (muted_choice t) (quiet ts chosen t) (is_true (quiet ts chosen t) q))

  pub quiet_unrouted : (t r : ℕ) → T (quiet ts chosen t) → r < lines_at ts routes → (route_line (scene_of ts) r).track ≡ suc t → ⊥
  unfolding quiet
  quiet_unrouted t r q h e =
      let one = removed_by_one ts muted_choice t (is_true (quiet ts chosen t) q) in
      let top = one.0 in
      let m = muted_tests ts top (and_right (chosen top) (muted ts top) one.1) in
      unrouted (removed_track ts (eqb top)) (natural (cell (rows_at ts routes) r route_column.track)) (sym (route_track_at ts r) ∙ e) (m.unrouted r h) one.2
