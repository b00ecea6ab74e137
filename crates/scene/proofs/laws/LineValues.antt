-- Laws of the scene's values and lines, as the code makes them, and of the loop that fills a table of lines.
use Rattle.std.proofs.Common.{◌≡◌, ℕ, zero, suc, ◌+◌, ◌-◌, ◌*◌, ◌^◌, ◌<◌, ◌≤◌, Bool, true, false, cond, eqb, ltb, List, [], ◌∷◌, ◌++◌, map, length, get_or, take, drop, set, replicate, pos, negsuc, sym, refl, ap, ◌∙◌, append_assoc, add-one, arith, drop_of_length-le, length-take-le, get_or-drop, take_all, get_or-take, take-suc, eq-eqb, ne_eqb, le-leb}
use native.Mathlib.Nat.{sub-zero}
use borrow.Author.Tests.{lt-leb}
use lib.ListN.{length-map}
use lib.Seq.{set_at}
use lib.Ieee.{Float, Format, inf, binary32, binary64, of_bits, of_int, div, neg, odd, units, round, low, emax, prec}
use Rattle.decibels.specs.declared.decibels.Decibels.{Decibels}
use Rattle.clock.specs.declared.clock_speed.ClockSpeed.{ClockSpeed}
use Rattle.clock.specs.declared.clock_time.ClockTime.{ClockTime as Time}
use Rattle.tween.specs.declared.tween.Easing.{Easing}
use Rattle.tween.specs.declared.tween.Easing.TheVariants.{Linear, InPowi, OutPowi, InOutPowi}
use Rattle.tween.specs.declared.start_time.StartTime.{StartTime}
use Rattle.tween.specs.declared.start_time.StartTime.TheVariants.{Immediate, Delayed, ClockTime}
use Rattle.spatial.specs.declared.spatial.Position.{Position}
use Rattle.spatial.specs.declared.spatial.Distances.{Distances}
use Rattle.scene.specs.declared.scene.OrderKind.{OrderKind}
use Rattle.scene.specs.declared.scene.Head.{Head}
use Rattle.scene.specs.declared.scene.ClockLine.{ClockLine}
use Rattle.scene.specs.declared.scene.TrackLine.{TrackLine}
use Rattle.scene.specs.declared.scene.SendLine.{SendLine}
use Rattle.scene.specs.declared.scene.RouteLine.{RouteLine}
use Rattle.scene.specs.declared.scene.SoundLine.{SoundLine}
use Rattle.scene.specs.declared.scene.OrderLine.{OrderLine}
use Rattle.scene_tables.specs.Tables.{raised, natural, table_at, width, head, clocks, tracks, sends, routes, sounds, listener, placings, orders, head_column, clock_column, track_column, send_column, route_column, sound_column, listener_column, placing_column, order_column}
use Rattle.scene_questions.specs.Questions.{field, speed_of}
use Rattle.scene_questions.specs.Places.{cut, rows_in}
use Rattle.scene.specs.Scene.{thousandths, volume_of, kind_of, clock_time_of, start_time_of, easing_of, head_of, clock_of, track_of, send_of, route_of, sound_of, order_of, listener_of, position_of, distances_of, filled}
use Rattle.scene_questions.proofs.laws.Places.{rows_length, row_at}

-- ---- a negative number is its magnitude, negated

odd-neg : (d q k l : ℕ) → neg (odd d false q k l) ≡ odd d true q k l
unfolding odd neg
odd-neg d zero k l = refl
odd-neg d (suc q) k l = refl

units-neg : (f : Format) (q k : ℕ) → neg (units f false q k) ≡ units f true q k
unfolding units neg
units-neg f q k = go (ltb (q * 2 ^ k) (2 ^ (low f + suc (emax f))))
  where
    go : (b : Bool) → neg (cond b (odd (suc (prec f)) false q k (low f)) (inf false)) ≡ cond b (odd (suc (prec f)) true q k (low f)) (inf true)
    go true = odd-neg (suc (prec f)) q k (low f)
    go false = refl

round-neg : (f : Format) (num den : ℕ) → neg (round f false num den) ≡ round f true num den
unfolding round
round-neg f num den = units-neg f _ _

-- ---- thousandths

thousand32 : of_bits binary32 1148846080 ≡ of_int binary32 (pos 1000)
unfolding of_bits of_int
thousand32 = refl

thousand64 : of_bits binary64 4652007308841189376 ≡ of_int binary64 (pos 1000)
unfolding of_bits of_int
thousand64 = refl

int_neg : (f : Format) (n m : ℕ) → n ≡ suc m → neg (of_int f (pos n)) ≡ of_int f (negsuc m)
unfolding of_int
int_neg f n m e = rw e (round-neg f (suc m) 1)

module _ (z : ℕ) (x : Float) where
  pub thousandths_below : z < 2147483648 → x ≡ of_int binary32 (pos (2147483648 - z)) → div binary32 (neg x) (of_bits binary32 1148846080) ≡ thousandths z
  thousandths_below h e = rw (e, thousand32, lt-leb 2147483648 z h, int_neg binary32 (2147483648 - z) (2147483648 - suc z) (omega arith))

  pub thousandths_above : 2147483648 ≤ z → x ≡ of_int binary32 (pos (z - 2147483648)) → div binary32 x (of_bits binary32 1148846080) ≡ thousandths z
  thousandths_above h e = rw (e, thousand32, le-leb 2147483648 z h)

-- ---- starts and easings

pub clock_time_is : (clock when part n k t p : ℕ) → n ≡ natural clock → k ≡ n - 1 → t ≡ natural when → p ≡ natural part
    → ◌≡◌ {A = Time} (record { clock = k; ticks = t; fraction = div binary64 (of_int binary64 (pos p)) (of_bits binary64 4652007308841189376) }) (clock_time_of clock when part)
unfolding clock_time_of
clock_time_is clock when part n k t p e f g h = rw (f, e, g, h, thousand64)

module _ (clock when part : ℕ) where
  pub start_clock : (t : Time) → (clock ≡ raised 0 → ⊥) → t ≡ clock_time_of clock when part → ClockTime t ≡ start_time_of clock when part
  unfolding start_time_of
  start_clock t h e = rw (ne_eqb clock (raised 0) h, e)

  pub start_now : clock ≡ raised 0 → when ≡ raised 0 → Immediate ≡ start_time_of clock when part
  unfolding start_time_of
  start_now h k = rw (eq-eqb clock (raised 0) h, eq-eqb when (raised 0) k)

  pub start_later : (n : ℕ) → clock ≡ raised 0 → (when ≡ raised 0 → ⊥) → n ≡ natural when → Delayed (n * 1000000) ≡ start_time_of clock when part
  unfolding start_time_of
  start_later n h k e = rw (eq-eqb clock (raised 0) h, ne_eqb when (raised 0) k, e)

module _ (easing power n : ℕ) (is : n ≡ natural power) where
  pub easing_linear : easing ≡ raised 0 → Linear ≡ easing_of easing power
  unfolding easing_of
  easing_linear h = rw (eq-eqb easing (raised 0) h)

  pub easing_in : (easing ≡ raised 0 → ⊥) → easing ≡ raised 1 → InPowi n ≡ easing_of easing power
  unfolding easing_of
  easing_in a h = rw (ne_eqb easing (raised 0) a, eq-eqb easing (raised 1) h, is)

  pub easing_out : (easing ≡ raised 0 → ⊥) → (easing ≡ raised 1 → ⊥) → easing ≡ raised 2 → OutPowi n ≡ easing_of easing power
  unfolding easing_of
  easing_out a b h = rw (ne_eqb easing (raised 0) a, ne_eqb easing (raised 1) b, eq-eqb easing (raised 2) h, is)

  pub easing_in_out : (easing ≡ raised 0 → ⊥) → (easing ≡ raised 1 → ⊥) → (easing ≡ raised 2 → ⊥) → InOutPowi n ≡ easing_of easing power
  unfolding easing_of
  easing_in_out a b d = rw (ne_eqb easing (raised 0) a, ne_eqb easing (raised 1) b, ne_eqb easing (raised 2) d, is)

-- ---- fields of a line, by place

pub field_at : (v : List ℕ) (a w j : ℕ) → j < w → field (take w (drop a v)) j ≡ get_or v (a + j) 0
field_at v a w j h = get_or-take w (drop a v) j 0 h ∙ get_or-drop a v j 0

-- ---- the lines, each field from its place

pub head_is : (v : List ℕ) (a x0 x1 x2 x3 x4 x5 : ℕ) (r0 : ℕ) (r1 : ℕ) (r2 : ℕ) (r3 : ℕ) (r4 : ℕ) (r5 : Decibels) → x0 ≡ get_or v (a + head_column.rate) 0 → x1 ≡ get_or v (a + head_column.channels) 0 → x2 ≡ get_or v (a + head_column.buffer) 0 → x3 ≡ get_or v (a + head_column.block) 0 → x4 ≡ get_or v (a + head_column.blocks) 0 → x5 ≡ get_or v (a + head_column.volume) 0 → r0 ≡ natural x0 → r1 ≡ natural x1 → r2 ≡ natural x2 → r3 ≡ natural x3 → r4 ≡ natural x4 → r5 ≡ volume_of x5
    → ◌≡◌ {A = Head} (record { rate = r0; channels = r1; buffer = r2; block = r3; blocks = r4; volume = r5 }) (head_of (take (width (table_at head)) (drop a v)))
unfolding head_of
head_is v a x0 x1 x2 x3 x4 x5 r0 r1 r2 r3 r4 r5 e0 e1 e2 e3 e4 e5 p0 p1 p2 p3 p4 p5 =
    rw (field_at v a (width (table_at head)) head_column.rate (omega arith), field_at v a (width (table_at head)) head_column.channels (omega arith), field_at v a (width (table_at head)) head_column.buffer (omega arith), field_at v a (width (table_at head)) head_column.block (omega arith), field_at v a (width (table_at head)) head_column.blocks (omega arith), field_at v a (width (table_at head)) head_column.volume (omega arith), ← e0, ← e1, ← e2, ← e3, ← e4, ← e5, p0, p1, p2, p3, p4, p5)

pub clock_is : (v : List ℕ) (a x0 x1 x2 : ℕ) (r0 : ClockSpeed) → x0 ≡ get_or v (a + clock_column.unit) 0 → x1 ≡ get_or v (a + clock_column.speed) 0 → x2 ≡ get_or v (a + clock_column.ticking) 0 → r0 ≡ speed_of x0 x1
    → ◌≡◌ {A = ClockLine} (record { speed = r0; ticking = eqb x2 (raised 1) }) (clock_of (take (width (table_at clocks)) (drop a v)))
unfolding clock_of
clock_is v a x0 x1 x2 r0 e0 e1 e2 p0 =
    rw (field_at v a (width (table_at clocks)) clock_column.unit (omega arith), field_at v a (width (table_at clocks)) clock_column.speed (omega arith), field_at v a (width (table_at clocks)) clock_column.ticking (omega arith), ← e0, ← e1, ← e2, p0)

pub track_is : (v : List ℕ) (a x0 x1 : ℕ) (r0 : ℕ) (r1 : Decibels) → x0 ≡ get_or v (a + track_column.parent) 0 → x1 ≡ get_or v (a + track_column.volume) 0 → r0 ≡ natural x0 → r1 ≡ volume_of x1
    → ◌≡◌ {A = TrackLine} (record { parent = r0; volume = r1 }) (track_of (take (width (table_at tracks)) (drop a v)))
unfolding track_of
track_is v a x0 x1 r0 r1 e0 e1 p0 p1 =
    rw (field_at v a (width (table_at tracks)) track_column.parent (omega arith), field_at v a (width (table_at tracks)) track_column.volume (omega arith), ← e0, ← e1, p0, p1)

pub send_is : (v : List ℕ) (a x0 : ℕ) (r0 : Decibels) → x0 ≡ get_or v (a + send_column.volume) 0 → r0 ≡ volume_of x0
    → ◌≡◌ {A = SendLine} (record { volume = r0 }) (send_of (take (width (table_at sends)) (drop a v)))
unfolding send_of
send_is v a x0 r0 e0 p0 =
    rw (field_at v a (width (table_at sends)) send_column.volume (omega arith), ← e0, p0)

pub route_is : (v : List ℕ) (a x0 x1 x2 : ℕ) (r0 : ℕ) (r1 : ℕ) (r2 : Decibels) → x0 ≡ get_or v (a + route_column.track) 0 → x1 ≡ get_or v (a + route_column.send) 0 → x2 ≡ get_or v (a + route_column.volume) 0 → r0 ≡ natural x0 → r1 ≡ natural x1 → r2 ≡ volume_of x2
    → ◌≡◌ {A = RouteLine} (record { track = r0; send = r1; volume = r2 }) (route_of (take (width (table_at routes)) (drop a v)))
unfolding route_of
route_is v a x0 x1 x2 r0 r1 r2 e0 e1 e2 p0 p1 p2 =
    rw (field_at v a (width (table_at routes)) route_column.track (omega arith), field_at v a (width (table_at routes)) route_column.send (omega arith), field_at v a (width (table_at routes)) route_column.volume (omega arith), ← e0, ← e1, ← e2, p0, p1, p2)

pub sound_is : (v : List ℕ) (a x0 x1 x2 x3 : ℕ) (r0 : ℕ) (r1 : ℕ) (r2 : ℕ) (r3 : ℕ) → x0 ≡ get_or v (a + sound_column.track) 0 → x1 ≡ get_or v (a + sound_column.first) 0 → x2 ≡ get_or v (a + sound_column.count) 0 → x3 ≡ get_or v (a + sound_column.from) 0 → r0 ≡ natural x0 → r1 ≡ natural x1 → r2 ≡ natural x2 → r3 ≡ natural x3
    → ◌≡◌ {A = SoundLine} (record { track = r0; first = r1; count = r2; from = r3 }) (sound_of (take (width (table_at sounds)) (drop a v)))
unfolding sound_of
sound_is v a x0 x1 x2 x3 r0 r1 r2 r3 e0 e1 e2 e3 p0 p1 p2 p3 =
    rw (field_at v a (width (table_at sounds)) sound_column.track (omega arith), field_at v a (width (table_at sounds)) sound_column.first (omega arith), field_at v a (width (table_at sounds)) sound_column.count (omega arith), field_at v a (width (table_at sounds)) sound_column.from (omega arith), ← e0, ← e1, ← e2, ← e3, p0, p1, p2, p3)

pub order_is : (v : List ℕ) (a x0 x1 x2 x3 x4 x5 x6 x7 x8 x9 : ℕ) (r0 : ℕ) (r1 : OrderKind) (r2 : ℕ) (r3 : Decibels) (r4 : StartTime) (r5 : ℕ) (r6 : Easing) → x0 ≡ get_or v (a + order_column.block) 0 → x1 ≡ get_or v (a + order_column.kind) 0 → x2 ≡ get_or v (a + order_column.index) 0 → x3 ≡ get_or v (a + order_column.volume) 0 → x4 ≡ get_or v (a + order_column.clock) 0 → x5 ≡ get_or v (a + order_column.when) 0 → x6 ≡ get_or v (a + order_column.part) 0 → x7 ≡ get_or v (a + order_column.millis) 0 → x8 ≡ get_or v (a + order_column.easing) 0 → x9 ≡ get_or v (a + order_column.power) 0 → r0 ≡ natural x0 → r1 ≡ kind_of x1 → r2 ≡ natural x2 → r3 ≡ volume_of x3 → r4 ≡ start_time_of x4 x5 x6 → r5 ≡ natural x7 → r6 ≡ easing_of x8 x9
    → ◌≡◌ {A = OrderLine} (record { block = r0; kind = r1; index = r2; target = r3; start_time = r4; millis = r5; easing = r6 }) (order_of (take (width (table_at orders)) (drop a v)))
unfolding order_of
order_is v a x0 x1 x2 x3 x4 x5 x6 x7 x8 x9 r0 r1 r2 r3 r4 r5 r6 e0 e1 e2 e3 e4 e5 e6 e7 e8 e9 p0 p1 p2 p3 p4 p5 p6 =
    rw (field_at v a (width (table_at orders)) order_column.block (omega arith), field_at v a (width (table_at orders)) order_column.kind (omega arith), field_at v a (width (table_at orders)) order_column.index (omega arith), field_at v a (width (table_at orders)) order_column.volume (omega arith), field_at v a (width (table_at orders)) order_column.clock (omega arith), field_at v a (width (table_at orders)) order_column.when (omega arith), field_at v a (width (table_at orders)) order_column.part (omega arith), field_at v a (width (table_at orders)) order_column.millis (omega arith), field_at v a (width (table_at orders)) order_column.easing (omega arith), field_at v a (width (table_at orders)) order_column.power (omega arith), ← e0, ← e1, ← e2, ← e3, ← e4, ← e5, ← e6, ← e7, ← e8, ← e9, p0, p1, p2, p3, p4, p5, p6)

pub listener_is : (v : List ℕ) (a x0 x1 x2 : ℕ) (r0 r1 r2 : Float) → x0 ≡ get_or v (a + listener_column.x) 0 → x1 ≡ get_or v (a + listener_column.y) 0 → x2 ≡ get_or v (a + listener_column.z) 0 → r0 ≡ thousandths x0 → r1 ≡ thousandths x1 → r2 ≡ thousandths x2
    → ◌≡◌ {A = Position} (record { x = r0; y = r1; z = r2 }) (listener_of (take (width (table_at listener)) (drop a v)))
unfolding listener_of
listener_is v a x0 x1 x2 r0 r1 r2 e0 e1 e2 p0 p1 p2 =
    rw (field_at v a (width (table_at listener)) listener_column.x (omega arith), field_at v a (width (table_at listener)) listener_column.y (omega arith), field_at v a (width (table_at listener)) listener_column.z (omega arith), ← e0, ← e1, ← e2, p0, p1, p2)

pub position_is : (v : List ℕ) (a x0 x1 x2 : ℕ) (r0 r1 r2 : Float) → x0 ≡ get_or v (a + placing_column.x) 0 → x1 ≡ get_or v (a + placing_column.y) 0 → x2 ≡ get_or v (a + placing_column.z) 0 → r0 ≡ thousandths x0 → r1 ≡ thousandths x1 → r2 ≡ thousandths x2
    → ◌≡◌ {A = Position} (record { x = r0; y = r1; z = r2 }) (position_of (take (width (table_at placings)) (drop a v)))
unfolding position_of
position_is v a x0 x1 x2 r0 r1 r2 e0 e1 e2 p0 p1 p2 =
    rw (field_at v a (width (table_at placings)) placing_column.x (omega arith), field_at v a (width (table_at placings)) placing_column.y (omega arith), field_at v a (width (table_at placings)) placing_column.z (omega arith), ← e0, ← e1, ← e2, p0, p1, p2)

pub distances_is : (v : List ℕ) (a x0 x1 : ℕ) (r0 r1 : Float) → x0 ≡ get_or v (a + placing_column.near) 0 → x1 ≡ get_or v (a + placing_column.far) 0 → r0 ≡ thousandths x0 → r1 ≡ thousandths x1
    → ◌≡◌ {A = Distances} (record { min_distance = r0; max_distance = r1 }) (distances_of (take (width (table_at placings)) (drop a v)))
unfolding distances_of
distances_is v a x0 x1 r0 r1 e0 e1 p0 p1 =
    rw (field_at v a (width (table_at placings)) placing_column.near (omega arith), field_at v a (width (table_at placings)) placing_column.far (omega arith), ← e0, ← e1, p0, p1)

-- ---- a table of lines that is being filled

-- a line past the numbers' end has no fields
pub beyond_end : (v : List ℕ) (w : ℕ) → take w (drop (length v) v) ≡ []
beyond_end v w = let h : length v ≤ length v = omega arith in ap (take w) (drop_of_length-le v h) ∙ none w
  where
    none : (n : ℕ) → take {A = ℕ} n [] ≡ []
    none zero = refl
    none (suc n) = refl

module _ {X : Type 0} (places : ℕ) (f : List ℕ → X) where
  pub fill_start : (v : List ℕ) (w : ℕ) (r : X) → r ≡ f (take w (drop (length v) v)) → replicate places r ≡ filled places f []
  unfolding filled
  fill_start v w r e = rw (e, beyond_end v w, sub-zero places)

  map_snoc : (xs : List (List ℕ)) (x : List ℕ) → map f (xs ++ (x ∷ [])) ≡ map f xs ++ (f x ∷ [])
  map_snoc [] x = refl
  map_snoc (y ∷ xs) x = ap (λ (l : List X). f y ∷ l) (map_snoc xs x)

  pub fill_next : (out : List X) (v : List ℕ) (s w n i : ℕ) (x : X) → i < n → n ≤ places → x ≡ f (take w (drop (s + i * w) v))
      → out ≡ filled places f (take i (rows_in v s w n)) → set out i x ≡ filled places f (take (i + 1) (rows_in v s w n))
  unfolding filled
  fill_next out v s w n i x h k e inv =
      let rows = rows_in v s w n in
      let l : length rows ≡ n = rows_length v s w n in
      let t : length (take i rows) ≡ i = length-take-le i rows (omega arith) in
      let u : length (take (suc i) rows) ≡ suc i = length-take-le (suc i) rows (omega arith) in
      let r : places - i ≡ suc (places - suc i) = omega arith in
      let q : f (get_or rows i []) ≡ x = ap f (row_at v s w n i h) ∙ sym e in
      let z : out ≡ map f (take i rows) ++ f [] ∷ replicate (places - suc i) (f []) = inv ∙ rw (t, r) in
      ap (λ (o : List X). set o i x) z
      ∙ set_at (map f (take i rows)) (f []) (replicate (places - suc i) (f [])) x i (length-map (take i rows) f ∙ t)
      ∙ sym (rw (add-one i, u, take-suc rows i [] (omega arith), map_snoc (take i rows) (get_or rows i []), q) (append_assoc (map f (take i rows)) (x ∷ []) (replicate (places - suc i) (f []))))

  pub fill_done : (out : List X) (v : List ℕ) (s w n i : ℕ) → n ≤ i → out ≡ filled places f (take i (rows_in v s w n)) → out ≡ filled places f (rows_in v s w n)
  fill_done out v s w n i h inv = inv ∙ ap (filled places f) (take_all i (rows_in v s w n) (omega (arith, rows_length v s w n)))

  -- no line at all
  pub fill_none : (v : List ℕ) (s w : ℕ) → filled places f (rows_in v s w 0) ≡ filled places f []
  unfolding rows_in cut
  fill_none v s w = refl
