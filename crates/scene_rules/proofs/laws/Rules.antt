-- Laws of the rules of single fields and lines, case by case as the code takes them.
use mathlib.Core.Path.{◌≡◌, refl}
use mathlib.Core.Bool.{Bool, true, false, ◌&&◌}
use mathlib.Core.List.{List}
use Prim.Native.Nat.{ℕ, ◌+◌, ◌<◌, ◌≤◌}
use borrow.Author.Tests.{eq-eqb, ne_eqb, le-leb, lt-leb, lt-ltb, le-ltb}
use lib.Dec.{eqb, leb, ltb}
use lib.IntN.{pos}
use lib.ListN.{get_or, drop}
use lib.Seq.{get_or-drop}
use lib.Ieee.{Float, binary64, of_bits, of_int, div, le}
use Rattle.laws.proofs.laws.Choice.{and_false}
use Rattle.clock.specs.declared.clock_speed.ClockSpeed.{ClockSpeed}
use Rattle.clock.specs.declared.clock_speed.ClockSpeed.TheVariants.{SecondsPerTick, TicksPerSecond, TicksPerMinute}
use Rattle.clock.specs.ClockSpeed.{as_ticks_per_second, allowed_speed}
use Rattle.scene_tables.specs.declared.tables.Field.{Field}
use Rattle.scene_tables.specs.declared.tables.Field.TheVariants.{Number, Line, Earlier, Index}
use Rattle.scene_tables.specs.declared.tables.LineRule.{LineRule}
use Rattle.scene_tables.specs.declared.tables.LineRule.TheVariants.{Plain, Speed, Apart, Order}
use Rattle.scene_tables.specs.Tables.{raised, natural, clock_column, placing_column, order_column, order_kind}
use Rattle.scene_questions.specs.Questions.{in_range, names_line, line_in_range, line_names_line, speed_of, order_fits, volume_fits, part_fits, millis_fit, power_fits, distances_apart, index_names_line, index_table}
use Rattle.scene_questions.specs.Places.{field_passes, line_passes}

-- ---- a field

module _ (f : Field) (z : ℕ) where
  pub in_number_low : (a b : ℕ) → f ≡ Number a b → z < a → false ≡ in_range f z
  unfolding in_range
  in_number_low a b e h = rw (e, lt-leb a z h)

  pub in_number : (a b : ℕ) → f ≡ Number a b → a ≤ z → leb z b ≡ in_range f z
  unfolding in_range
  in_number a b e h = rw (e, le-leb a z h)

  pub in_line : (k a : ℕ) → f ≡ Line k a → true ≡ in_range f z
  unfolding in_range
  in_line k a e = rw e

  pub in_earlier : f ≡ Earlier → true ≡ in_range f z
  unfolding in_range
  in_earlier e = rw e

  pub in_target : f ≡ Index → true ≡ in_range f z
  unfolding in_range
  in_target e = rw e

module _ (lines : ℕ → ℕ) (f : Field) (own z : ℕ) where
  pub names_number : (a b : ℕ) → f ≡ Number a b → true ≡ names_line lines f own z
  unfolding names_line
  names_number a b e = rw e

  pub names_low : (k a : ℕ) → f ≡ Line k a → z < a → false ≡ names_line lines f own z
  unfolding names_line
  names_low k a e h = rw (e, lt-leb a z h)

  pub names_there : (k a n m : ℕ) → f ≡ Line k a → a ≤ z → n ≡ natural z → m ≡ lines k → leb n m ≡ names_line lines f own z
  unfolding names_line
  names_there k a n m e h p q = rw (e, le-leb a z h, p, q)

  pub earlier_low : f ≡ Earlier → z < raised 0 → false ≡ names_line lines f own z
  unfolding names_line
  earlier_low e h = rw (e, lt-leb (raised 0) z h)

  pub earlier_there : (n : ℕ) → f ≡ Earlier → raised 0 ≤ z → n ≡ natural z → leb n own ≡ names_line lines f own z
  unfolding names_line
  earlier_there n e h p = rw (e, le-leb (raised 0) z h, p)

  pub names_target : f ≡ Index → true ≡ names_line lines f own z
  unfolding names_line
  names_target e = rw e

  pub by_question_5 : (references r : Bool) → references ≡ true → r ≡ names_line lines f own z → r ≡ field_passes references lines f own z
  unfolding field_passes
  by_question_5 references r e p = rw e p

  pub by_question_4 : (references r : Bool) → references ≡ false → r ≡ in_range f z → r ≡ field_passes references lines f own z
  unfolding field_passes
  by_question_4 references r e p = rw e p

-- ---- a clock's speed

thousand : of_bits binary64 4652007308841189376 ≡ of_int binary64 (pos 1000)
unfolding of_bits of_int
thousand = refl

nought : of_bits binary64 0 ≡ of_int binary64 (pos 0)
unfolding of_bits of_int
nought = refl

module _ (unit speed n : ℕ) (is : n ≡ natural speed) where
  number_is : div binary64 (of_int binary64 (pos n)) (of_bits binary64 4652007308841189376) ≡ div binary64 (of_int binary64 (pos (natural speed))) (of_int binary64 (pos 1000))
  number_is = rw (is, thousand)

  pub speed_seconds : unit ≡ raised 0 → SecondsPerTick (div binary64 (of_int binary64 (pos n)) (of_bits binary64 4652007308841189376)) ≡ speed_of unit speed
  unfolding speed_of
  speed_seconds e = rw (number_is, e)

  pub speed_ticks : (unit ≡ raised 0 → ⊥) → unit ≡ raised 1 → TicksPerSecond (div binary64 (of_int binary64 (pos n)) (of_bits binary64 4652007308841189376)) ≡ speed_of unit speed
  unfolding speed_of
  speed_ticks d e = rw (number_is, e)

  pub speed_minutes : (unit ≡ raised 0 → ⊥) → (unit ≡ raised 1 → ⊥) → TicksPerMinute (div binary64 (of_int binary64 (pos n)) (of_bits binary64 4652007308841189376)) ≡ speed_of unit speed
  unfolding speed_of
  speed_minutes d e = rw (number_is, ne_eqb unit (raised 0) d, ne_eqb unit (raised 1) e)

module _ (s : ClockSpeed) (ticks : Float) (is : ticks ≡ as_ticks_per_second s) (t : ClockSpeed) (which : s ≡ t) where
  pub speed_high : le (of_bits binary64 0) ticks ≡ true → le ticks (of_bits binary64 4652007308841189376) ≡ allowed_speed t
  unfolding allowed_speed
  speed_high h = rw (← which, ← is, ← nought, h, thousand)

  pub speed_below : le (of_bits binary64 0) ticks ≡ false → false ≡ allowed_speed t
  unfolding allowed_speed
  speed_below h = rw (← which, ← is, ← nought, h)

-- ---- an order

order_fields : (v : List ℕ) (a blocks : ℕ)
    → order_fits blocks (drop a v)
    ≡ (ltb (get_or v (a + order_column.block) 0) blocks
    && volume_fits (get_or v (a + order_column.kind) 0) (get_or v (a + order_column.volume) 0)
    && part_fits (get_or v (a + order_column.clock) 0) (get_or v (a + order_column.part) 0)
    && millis_fit (get_or v (a + order_column.kind) 0) (get_or v (a + order_column.clock) 0) (get_or v (a + order_column.when) 0) (get_or v (a + order_column.millis) 0)
    && power_fits (get_or v (a + order_column.easing) 0) (get_or v (a + order_column.power) 0))
unfolding order_fits
order_fields v a blocks = simp get_or-drop

module _ (v : List ℕ) (a blocks : ℕ) where
  pub order_late : (block : ℕ) → block ≡ get_or v (a + order_column.block) 0 → blocks ≤ block → false ≡ order_fits blocks (drop a v)
  order_late block is_Block h = rw (order_fields v a blocks, ← is_Block, le-ltb block blocks h)

  pub order_volume : (kind volume : ℕ) (p : Bool) → p ≡ volume_fits kind volume → kind ≡ get_or v (a + order_column.kind) 0 → volume ≡ get_or v (a + order_column.volume) 0 → p ≡ false
      → false ≡ order_fits blocks (drop a v)
  order_volume kind volume p isp is_kind is_volume h = rw (order_fields v a blocks, ← is_kind, ← is_volume, ← isp, h, and_false)

  pub order_part : (clock part : ℕ) (q : Bool) → q ≡ part_fits clock part → clock ≡ get_or v (a + order_column.clock) 0 → part ≡ get_or v (a + order_column.part) 0 → q ≡ false
      → false ≡ order_fits blocks (drop a v)
  order_part clock part q isq is_clock is_part h = rw (order_fields v a blocks, ← is_clock, ← is_part, ← isq, h, and_false)

  pub order_millis : (kind clock when millis : ℕ) (r : Bool) → kind ≡ get_or v (a + order_column.kind) 0 → clock ≡ get_or v (a + order_column.clock) 0
      → when ≡ get_or v (a + order_column.when) 0 → millis ≡ get_or v (a + order_column.millis) 0 → r ≡ millis_fit kind clock when millis → r ≡ false → false ≡ order_fits blocks (drop a v)
  order_millis kind clock when millis r is_kind is_clock is_when is_millis isr h =
      rw (order_fields v a blocks, ← is_kind, ← is_clock, ← is_when, ← is_millis, ← isr, h, and_false)

  pub order_power : (block kind volume clock when part millis easing power : ℕ) (p q r s : Bool)
      → block ≡ get_or v (a + order_column.block) 0 → kind ≡ get_or v (a + order_column.kind) 0 → volume ≡ get_or v (a + order_column.volume) 0 → clock ≡ get_or v (a + order_column.clock) 0 → when ≡ get_or v (a + order_column.when) 0
      → part ≡ get_or v (a + order_column.part) 0 → millis ≡ get_or v (a + order_column.millis) 0 → easing ≡ get_or v (a + order_column.easing) 0 → power ≡ get_or v (a + order_column.power) 0
      → p ≡ volume_fits kind volume → q ≡ part_fits clock part → r ≡ millis_fit kind clock when millis → s ≡ power_fits easing power
      → block < blocks → p ≡ true → q ≡ true → r ≡ true → s ≡ order_fits blocks (drop a v)
  order_power block kind volume clock when part millis easing power p q r s is_Block is_kind is_volume is_clock is_when is_part is_millis is_easing is_power isp isq isr iss o hp hq hr =
      rw (order_fields v a blocks, ← is_Block, ← is_kind, ← is_volume, ← is_clock, ← is_when, ← is_part, ← is_millis, ← is_easing, ← is_power, ← isp, ← isq, ← isr, ← iss, lt-ltb block blocks o, hp, hq, hr)

-- ---- an order's index

module _ (lines : ℕ → ℕ) (kind index : ℕ) where
  pub index_main : kind ≡ order_kind.main_volume → eqb index (raised 0) ≡ index_names_line lines kind index
  unfolding index_names_line
  index_main h = rw (eq-eqb kind order_kind.main_volume h)

  pub index_low : (kind ≡ order_kind.main_volume → ⊥) → index < raised 1 → false ≡ index_names_line lines kind index
  unfolding index_names_line
  index_low h k = rw (ne_eqb kind order_kind.main_volume h, lt-leb (raised 1) index k)

  pub index_there : (n m t : ℕ) → (kind ≡ order_kind.main_volume → ⊥) → raised 1 ≤ index → n ≡ natural index → t ≡ index_table kind → m ≡ lines t → leb n m ≡ index_names_line lines kind index
  unfolding index_names_line
  index_there n m t h k p u q = rw (ne_eqb kind order_kind.main_volume h, le-leb (raised 1) index k, p, q, u)

-- ---- a line

module _ (lines : ℕ → ℕ) (blocks : ℕ) (rule : LineRule) (v : List ℕ) (a : ℕ) where
  pub line_plain : (references : Bool) → rule ≡ Plain → true ≡ line_passes references lines blocks rule (drop a v)
  unfolding line_passes line_names_line line_in_range
  line_plain true e = rw e
  line_plain false e = rw e

  pub line_speed_5 : (references : Bool) → rule ≡ Speed → references ≡ true → true ≡ line_passes references lines blocks rule (drop a v)
  unfolding line_passes line_names_line
  line_speed_5 references e h = rw (h, e)

  pub line_speed_4 : (references r : Bool) (unit speed : ℕ) → rule ≡ Speed → references ≡ false → unit ≡ get_or v (a + clock_column.unit) 0 → speed ≡ get_or v (a + clock_column.speed) 0
      → r ≡ allowed_speed (speed_of unit speed) → r ≡ line_passes references lines blocks rule (drop a v)
  unfolding line_passes line_in_range
  line_speed_4 references r unit speed e h p q k = rw (h, e, get_or-drop a v clock_column.unit 0, get_or-drop a v clock_column.speed 0, ← p, ← q) k

  pub line_apart_5 : (references : Bool) → rule ≡ Apart → references ≡ true → true ≡ line_passes references lines blocks rule (drop a v)
  unfolding line_passes line_names_line
  line_apart_5 references e h = rw (h, e)

  pub line_apart_4 : (references : Bool) (near far : ℕ) → rule ≡ Apart → references ≡ false → near ≡ get_or v (a + placing_column.near) 0 → far ≡ get_or v (a + placing_column.far) 0
      → ltb near far ≡ line_passes references lines blocks rule (drop a v)
  unfolding line_passes line_in_range distances_apart
  line_apart_4 references near far e h p q = rw (h, e, get_or-drop a v placing_column.near 0, get_or-drop a v placing_column.far 0, ← p, ← q)

  pub line_order_5 : (references r : Bool) (kind index : ℕ) → rule ≡ Order → references ≡ true → kind ≡ get_or v (a + order_column.kind) 0 → index ≡ get_or v (a + order_column.index) 0
      → r ≡ index_names_line lines kind index → r ≡ line_passes references lines blocks rule (drop a v)
  unfolding line_passes line_names_line
  line_order_5 references r kind index e h p q k = rw (h, e, get_or-drop a v order_column.kind 0, get_or-drop a v order_column.index 0, ← p, ← q) k

  pub line_order_4 : (references r : Bool) → rule ≡ Order → references ≡ false → r ≡ order_fits blocks (drop a v) → r ≡ line_passes references lines blocks rule (drop a v)
  unfolding line_passes line_in_range
  line_order_4 references r e h k = rw (h, e) k
