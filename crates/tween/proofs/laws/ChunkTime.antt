-- A chunk's seconds are what updates here ask for: not signed, and no more than an hour. Assumes nothing.
use mathlib.Core.Bool.{true, false}
use Prim.Native.Nat.{ℕ, ◌*◌, ◌^◌, ◌≤◌, ◌<◌}
use native.Mathlib.Nat.{le_trans, lt_of_le_of_lt}
use lib.Dec.{T, lit<, lit≤}
use lib.Ieee.{Float, nan, inf, fin, Format, binary64, up, down, mul, div, le, of_int}
use lib.Ieee.Scale.{finite}
use Rattle.laws.proofs.laws.FloatOrder.{le_through}
use Rattle.laws.specs.FloatRound.{integer}
use Rattle.laws.proofs.laws.FloatRound.{at_integer, number}
use Rattle.laws.proofs.laws.Unsigned.{unsigned}
use Rattle.laws.proofs.laws.Amount.{round-unsigned, amount_number, place_amount}
use Rattle.rounding.specs.Duration.{InAnHour}
use Rattle.clock.specs.ChunkTime.{chunk_time}
use Rattle.clock.proofs.laws.ChunkTime.{chunk_step}

mul-unsigned : (f : Format) (x y : Float) → T (unsigned x) → T (finite x) → T (unsigned y) → T (finite y) → T (unsigned (mul f x y))
unfolding mul
mul-unsigned f nan y h i k l = absurd h
mul-unsigned f (inf s) y h i k l = absurd i
mul-unsigned f (fin true m e) y h i k l = absurd h
mul-unsigned f (fin false m e) nan h i k l = absurd k
mul-unsigned f (fin false m e) (inf t) h i k l = absurd l
mul-unsigned f (fin false m e) (fin true n d) h i k l = absurd k
mul-unsigned f (fin false m e) (fin false n d) h i k l = round-unsigned f (m * up e * (n * up d)) (down e * down d)

module _ (rate n : ℕ) (high : 256 ≤ rate) (held : rate < 2 ^ 53) (few : n ≤ 256) where
  pub chunk_unsigned : T (unsigned (chunk_time rate n))
  unfolding of_int
  chunk_unsigned =
      let A = place_amount binary64 0 rate (le_trans (lit≤ tt) high) held in
      mul-unsigned binary64 (div binary64 (integer binary64 false 1) (integer binary64 false rate)) (integer binary64 false n) A.sign
      (amount_number binary64 (div binary64 (integer binary64 false 1) (integer binary64 false rate)) A).is_finite (round-unsigned binary64 n 1) (at_integer binary64 false n (lt_of_le_of_lt few (lit< tt))).0.is_finite

  pub chunk_in_an_hour : InAnHour (chunk_time rate n)
  unfolding le of_int
  chunk_in_an_hour =
      let s = chunk_step rate n high held few in
      let zero = (at_integer binary64 false 0 (lit< tt)).0 in
      let one = (at_integer binary64 false 1 (lit< tt)).0 in
      let hour = (at_integer binary64 false 3600 (lit< tt)).0 in
      let N = number binary64 (integer binary64 false 0) (integer binary64 false 1) (chunk_time rate n) zero one (record { held = s.held; least = s.least; most = s.most }) in
      record { not_below = s.least; not_above = le_through binary64 (chunk_time rate n) (integer binary64 false 1) (integer binary64 false 3600) N one hour s.most tt }
