-- From the numbers of a line to the values of the scene. A number z of the file stands for z - 2^31. Assumes nothing.
use mathlib.Core.Path.{◌≡◌, refl}
use mathlib.Core.Bool.{Bool, true, false, cond, ◌&&◌, true≢false}
use Prim.Native.Nat.{ℕ, ◌*◌, ◌/◌, ◌≤◌, ◌<◌}
use native.Mathlib.Omega.{arith}
use borrow.Author.Tests.{leb-true, eqb-true, eqb-false, eq-eqb, ne_eqb}
use lib.Dec.{T, eqb, leb, lit<}
use lib.IntN.{pos}
use lib.ListN.{length}
use lib.Ieee.{Float, binary32, binary64, fits, of_int, div, neg, le}
use lib.Ieee.Fits.{div-fits}
use Rattle.recordings.specs.Recordings.{Recordings, from_house, from_visitor, recording}
use Rattle.laws.proofs.laws.Choice.{true-T, and_left, and_right}
use Rattle.laws.specs.FloatBounds.{Within}
use Rattle.laws.proofs.laws.FloatBounds.{holds_small, holds_value, within_of_tests}
use Rattle.laws.specs.DecibelRange.{TargetRange}
use Rattle.laws.specs.Interpolate.{InRange}
use Rattle.spatial.proofs.laws.Thousandths.{thousandths_in}
use Rattle.clock.specs.declared.clock_speed.ClockSpeed.TheVariants.{SecondsPerTick, TicksPerSecond, TicksPerMinute}
use Rattle.clock.specs.ClockSpeed.{as_ticks_per_second}
use Rattle.tween.specs.declared.start_time.StartTime.TheVariants.{Immediate, Delayed, ClockTime}
use Rattle.tween.specs.StartTime.{ClockThere}
use Rattle.scene_tables.specs.Tables.{natural, tracks, sends, routes, raised, raised_minus, order_kind}
use Rattle.scene.specs.declared.scene.OrderKind.TheVariants.{MainVolume, TrackVolume, SendVolume, RouteVolume, Pause, Resume}
use Rattle.scene_questions.specs.Questions.{Tables, lines_at, speed_of, index_table, index_names_line, sample_ok}
use Rattle.scene.specs.Scene.{thousandths, volume_of, kind_of, clock_time_of, start_time_of, scene_of}
use Rattle.accepted.specs.SceneOk.{IndexOk}
use Rattle.accepted.proofs.laws.Line.{both_le}

-- ---- numbers

pub natural_between : (a b z : ℕ) → (raised a ≤ z) × (z ≤ raised b) → (a ≤ natural z) × (natural z ≤ b)
natural_between a b z h = (omega arith, omega arith)

pub natural_line : (a lines z : ℕ) → (raised a ≤ z) × (natural z ≤ lines) → (a ≤ natural z) × (natural z ≤ lines)
natural_line a lines z h = (omega arith, h.1)

pub natural_below : (z w : ℕ) → raised 0 ≤ z → z < w → natural z < natural w
natural_below z w h k = omega arith

-- ---- thousandths

pub volume_target : (z : ℕ) → (raised_minus 96000 ≤ z) × (z ≤ raised 18000) → TargetRange (volume_of z).0
unfolding volume_of
volume_target z h = thousandths_in z 96 18 (lit< tt) (lit< tt) (omega arith) h.1

pub coordinate_in : (z : ℕ) → (raised_minus 1000000 ≤ z) × (z ≤ raised 1000000) → InRange binary32 1000 1000 (thousandths z)
coordinate_in z h = thousandths_in z 1000 1000 (lit< tt) (lit< tt) (omega arith) h.1

pub distance_in : (z : ℕ) → (raised 0 ≤ z) × (z ≤ raised 1000000) → InRange binary32 0 1000 (thousandths z)
distance_in z h = thousandths_in z 0 1000 (lit< tt) (lit< tt) (omega arith) h.1

-- ---- clocks

pub speed_fits : (unit speed : ℕ) → T (fits binary64 (as_ticks_per_second (speed_of unit speed)))
unfolding speed_of as_ticks_per_second
speed_fits unit speed = go (of_int binary64 (pos (natural speed))) (of_int binary64 (pos 1000)) (eqb unit (raised 0)) (eqb unit (raised 1))
  where
    go : (x y : Float) (a b : Bool)
        → T (fits binary64 (as_ticks_per_second (cond a (SecondsPerTick (div binary64 x y)) (cond b (TicksPerSecond (div binary64 x y)) (TicksPerMinute (div binary64 x y))))))
    go x y true b = div-fits binary64 _ _
    go x y false true = div-fits binary64 _ _
    go x y false false = div-fits binary64 _ _

-- ---- orders

pub start_there : (count clock when part : ℕ) → (raised 0 ≤ clock) × (natural clock ≤ count) → ClockThere count (start_time_of clock when part)
unfolding start_time_of clock_time_of
start_there count clock when part h = go (eqb clock (raised 0)) refl (eqb when (raised 0))
  where
    go : (a : Bool) → eqb clock (raised 0) ≡ a → (b : Bool) → ClockThere count (cond a (cond b Immediate (Delayed (natural when * 1000000))) (ClockTime (clock_time_of clock when part)))
    go true e true = tt
    go true e false = tt
    go false e b = let n = eqb-false clock (raised 0) e in omega arith

module _ (ts : Tables) (kind index : ℕ) where
  there : (t : ℕ) → (leb (raised 1) index && leb (natural index) (lines_at ts t)) ≡ true → (1 ≤ natural index) × (natural index ≤ lines_at ts t)
  there t e = natural_line 1 (lines_at ts t) index (both_le (raised 1) index (natural index) (lines_at ts t) e)

  -- a kind is no other
  one_kind : eqb kind order_kind.track_volume ≡ true → (eqb kind order_kind.send_volume ≡ false) × (eqb kind order_kind.route_volume ≡ false)
  one_kind e =
      let h : kind ≡ order_kind.track_volume = eqb-true kind order_kind.track_volume e in
      (ne_eqb kind order_kind.send_volume (λ k. omega arith), ne_eqb kind order_kind.route_volume (λ k. omega arith))

  pub index_ok : index_names_line (lines_at ts) kind index ≡ true → IndexOk (scene_of ts) (kind_of kind) (natural index)
  unfolding index_names_line index_table kind_of scene_of
  index_ok = go (eqb kind order_kind.main_volume) (eqb kind order_kind.track_volume) (eqb kind order_kind.send_volume) (eqb kind order_kind.route_volume) (eqb kind order_kind.pause) one_kind
    where
      go : (a b c d f : Bool) → (b ≡ true → (c ≡ false) × (d ≡ false))
          → cond a (eqb index (raised 0)) (leb (raised 1) index && leb (natural index) (lines_at ts (cond c sends (cond d routes tracks)))) ≡ true
          → IndexOk (scene_of ts) (cond a MainVolume (cond b TrackVolume (cond c SendVolume (cond d RouteVolume (cond f Pause Resume))))) (natural index)
      go true b c d f k e = let h : index ≡ raised 0 = eqb-true index (raised 0) e in omega arith
      go false true true d f k e = absurd (true≢false (k refl).0)
      go false true false true f k e = absurd (true≢false (k refl).1)
      go false true false false f k e = there tracks e
      go false false true d f k e = there sends e
      go false false false true f k e = there routes e
      go false false false false true k e = there tracks e
      go false false false false false k e = there tracks e

-- ---- samples

pub sample_within : (x : Float) → sample_ok x ≡ true → Within x 1 1
unfolding sample_ok of_int
sample_within x e =
    let most = of_int binary32 (pos 1) in
    let low = le (neg most) x in
    let high = le x most in
    within_of_tests most (holds_value false (holds_small binary32 1 (lit< tt))) (true-T low (and_left low high e)) (true-T high (and_right low high e))

-- a frame is two samples
two_each : (n samples : ℕ) → n ≤ samples / 2 → 2 * n ≤ samples
two_each n samples h = omega arith

-- a sound of n frames that fits both buffers, each where it is from that one
pub sound_held : (samples : Recordings) (from n : ℕ) → from ≤ from_visitor
    → cond (eqb from from_house) (leb n (length samples.house / 2)) true ≡ true
    → cond (eqb from from_visitor) (leb n (length samples.visitor / 2)) true ≡ true
    → 2 * n ≤ length (recording samples from)
unfolding recording
sound_held samples from n most house visitor = go (eqb from from_house) refl house
  where
    go : (b : Bool) → eqb from from_house ≡ b → cond b (leb n (length samples.house / 2)) true ≡ true → 2 * n ≤ length (cond b samples.house samples.visitor)
    go true e fit = two_each n (length samples.house) (leb-true n (length samples.house / 2) fit)
    go false e fit =
        let other = eqb-false from from_house e in
        let is : from ≡ from_visitor = omega arith in
        two_each n (length samples.visitor) (leb-true n (length samples.visitor / 2) (rw (eq-eqb from from_visitor is) at visitor))
