-- A chunk's seconds, kira's renderer's `dt` times the chunk's frames, are an update's step: at a rate of 256 or more, a chunk of 256 frames at most lasts
-- from 0 to 1 second, rounding included. Assumes nothing.
use mathlib.Core.Path.{◌≡◌, refl, sym, subst}
use Prim.Native.Nat.{ℕ, ◌+◌, ◌*◌, ◌^◌, ◌≤◌, ◌<◌}
use native.Mathlib.Nat.{le_trans, le_of_eq, lt_of_lt_of_le, lt_of_le_of_lt, mul-pos, mul_assoc, mul-le-mul, mul-le-mul_left, mul-le-mul_right}
use native.Mathlib.Omega.{arith}
use mathlib.Core.Bool.{false}
use lib.Dec.{lit<}
use lib.Pow.{pow_pos}
use lib.Ieee.{Float, binary64, low, round, div}
use Rattle.laws.specs.Float.{whole}
use Rattle.laws.specs.FloatOrder.{Number, minus}
use Rattle.laws.proofs.laws.FloatOrder.{OnGrid, le→units, one_sided}
use Rattle.laws.specs.FloatRound.{Between}
use Rattle.laws.proofs.laws.FloatRound.{number, units_most, at_grid, div_between, mul_between}
use Rattle.clock.specs.Clock.{IsStep, span, one_span}
use Rattle.clock.proofs.laws.Ticks.{whole-span}
use Rattle.clock.proofs.laws.Moves.{zero_least, product_least}
use Rattle.clock.specs.ChunkTime.{chunk_time}

-- 1 / 256, and how many of the f64's smallest values it is
part : ℕ
part = 2 ^ 1066

abbrev two_fifty_sixth : Float
two_fifty_sixth = round binary64 false part one_span

part_times : part * 256 ≡ one_span
unfolding part
part_times = refl

part_held : OnGrid binary64 part
unfolding part
part_held = record { digits = 1; place = 1066; is = refl; few = lit< tt; under = lit< tt }

part_at : Number binary64 two_fifty_sixth × (span two_fifty_sixth ≡ part) × (minus binary64 two_fifty_sixth ≡ 0)
part_at = at_grid binary64 false part part_held

-- one frame

frame_least : (U x x' y l l' : ℕ) → x' ≡ 0 → l ≡ 0 * U → x' * U + l * y ≤ x * U + l' * y
frame_least U x x' y l l' p q = rw (p, q) (omega arith)

frame_most : (U H x x' y h h' r : ℕ) → x ≡ 1 * U → x' ≡ 0 → y ≡ r * U → h ≡ H → h' ≡ 0 → U * U ≤ H * (r * U) → x * U + h' * y ≤ x' * U + h * y
frame_most U H x x' y h h' r p q s t u k = rw (p, q, s, t, u) (omega arith)

frame_fits : (U H r : ℕ) → H * 256 ≡ U → 256 ≤ r → U * U ≤ H * (r * U)
frame_fits U H r e h = le_trans (mul-le-mul_right U (le_trans (le_of_eq (sym e)) (mul-le-mul_left H h))) (le_of_eq (mul_assoc H r U))

-- a chunk of frames

chunk_most : (U d d' n n' h h' : ℕ) → d' ≡ 0 → n' ≡ 0 → h ≡ 1 * U → h' ≡ 0 → d * n ≤ U * U → d * n + d' * n' + h' * U ≤ d * n' + d' * n + h * U
chunk_most U d d' n n' h h' p q r s k = rw (p, q, r, s) (omega arith)

chunk_fits : (U H d k : ℕ) → H * 256 ≡ U → d ≤ H → k ≤ 256 → d * (k * U) ≤ U * U
chunk_fits U H d k e h l = le_trans (le_of_eq (sym (mul_assoc d k U))) (mul-le-mul_right U (le_trans (mul-le-mul h l) (le_of_eq e)))

at_most_part : (H x a b d : ℕ) → a ≡ H → b ≡ 0 → d ≡ 0 → x + b ≤ a + d → x ≤ H
at_most_part H x a b d p q r h = omega arith

module _ (rate n : ℕ) (high : 256 ≤ rate) (held : rate < 2 ^ 53) (few : n ≤ 256) where
  frame : Between binary64 (whole 0) two_fifty_sixth (div binary64 (whole 1) (whole rate))
  frame =
      let z = whole-span 0 (lit< tt) in
      let o = whole-span 1 (lit< tt) in
      let r = whole-span rate held in
      let p = part_at in
      div_between binary64 (whole 1) (whole rate) (whole 0) two_fifty_sixth o.0 r.0 z.0 p.0
      (subst (λ (m : ℕ). 0 < m) (sym r.1) (mul-pos (lt_of_lt_of_le (lit< tt) high) (pow_pos (low binary64))))
      (frame_least one_span (span (whole 1)) (minus binary64 (whole 1)) (span (whole rate)) (span (whole 0)) (minus binary64 (whole 0)) o.2 z.1)
      (frame_most one_span part (span (whole 1)) (minus binary64 (whole 1)) (span (whole rate)) (span two_fifty_sixth) (minus binary64 two_fifty_sixth) rate o.1 o.2 r.1 p.1 p.2
      (frame_fits one_span part rate part_times high))

  pub chunk_step : IsStep (chunk_time rate n)
  chunk_step =
      let z = whole-span 0 (lit< tt) in
      let o = whole-span 1 (lit< tt) in
      let c = whole-span n (lt_of_le_of_lt few (lit< tt)) in
      let p = part_at in
      let d = div binary64 (whole 1) (whole rate) in
      let N = number binary64 (whole 0) two_fifty_sixth d z.0 p.0 frame in
      let l = zero_least one_span (span (whole 0)) (minus binary64 d) (span d) (minus binary64 (whole 0)) z.1 z.2 (one_sided binary64 d) (le→units binary64 (whole 0) d z.0 N frame.least) in
      let m = at_most_part part (span d) (span two_fifty_sixth) (minus binary64 two_fifty_sixth) (minus binary64 d) p.1 p.2 l (units_most binary64 (whole 0) two_fifty_sixth d z.0 p.0 frame) in
      let b = mul_between binary64 d (whole n) (whole 0) (whole 1) N c.0 z.0 o.0
      (product_least one_span (span d) (minus binary64 d) (span (whole n)) (minus binary64 (whole n)) (span (whole 0)) (minus binary64 (whole 0)) l c.2 z.1)
      (chunk_most one_span (span d) (minus binary64 d) (span (whole n)) (minus binary64 (whole n)) (span (whole 1)) (minus binary64 (whole 1)) l c.2 o.1 o.2
      (subst (λ (w : ℕ). span d * w ≤ one_span * one_span) (sym c.1) (chunk_fits one_span part (span d) n part_times m few))) in
      record { held = b.held; least = b.least; most = b.most }
