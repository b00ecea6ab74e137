-- What the tests of `can_move` show. Assumes nothing.
use mathlib.Core.Path.{◌≡◌, refl, subst}
use mathlib.Core.Bool.{Bool, true, false, not, true≢false}
use Prim.Native.Nat.{◌≤◌}
use lib.Dec.{T}
use lib.Ieee.{Float, binary64, fits, le, lt}
use Rattle.laws.specs.Float.{whole}
use Rattle.laws.proofs.laws.Choice.{true-T, both_T}
use Rattle.clock.specs.declared.clock.Clock.{Clock}
use Rattle.clock.specs.declared.clock_speed.ClockSpeed.{ClockSpeed}
use Rattle.clock.specs.declared.clock_time.ClockTime.{ClockTime}
use Rattle.clock.specs.ClockSpeed.{as_ticks_per_second, allowed_speed}
use Rattle.clock.specs.Clock.{time_of, fraction_of, ticks_of, last_tick, CanMove}

-- what `is_within` ensures
abbrev pub Within : Float → Float → Type 0
Within x most = T (fits binary64 x) × T (le (whole 0) x) × T (le x most)

-- a test that is not refused is passed
pub passed : (b : Bool) → not b ≡ false → b ≡ true
passed true h = refl
passed false h = absurd (true≢false h)

allowed : (s : ClockSpeed) → Within (as_ticks_per_second s) (whole 1000) → T (allowed_speed s)
unfolding allowed_speed
allowed s w = both_T (le (whole 0) (as_ticks_per_second s)) (le (as_ticks_per_second s) (whole 1000)) w.1 w.2

module _ (c : Clock) (dt : Float) (step : Within dt (whole 1)) where
  moves : Within (as_ticks_per_second c.speed) (whole 1000) → Within (fraction_of c.state) (whole 1) → ticks_of c.state ≤ last_tick → lt (fraction_of c.state) (whole 1) ≡ true
      → CanMove c dt
  moves speed fraction few below =
      record {
        clock =
            record {
              held = speed.0;
              allowed = allowed c.speed speed;
              fraction = record { held = fraction.0; least = fraction.1; below = true-T (lt (fraction_of c.state) (whole 1)) below };
              few = few;
            };
        step = record { held = step.0; least = step.1; most = step.2 };
      }

  pub can_move : (speed : Float) → speed ≡ as_ticks_per_second c.speed → Within speed (whole 1000) → (time : ClockTime) → time ≡ time_of c 0
      → Within time.fraction (whole 1) → time.ticks ≤ last_tick → lt time.fraction (whole 1) ≡ true → CanMove c dt
  unfolding time_of
  can_move speed same s time now fraction few below =
      moves (subst (λ (x : Float). Within x (whole 1000)) same s) (subst (λ (t : ClockTime). Within t.fraction (whole 1)) now fraction)
      (subst (λ (t : ClockTime). t.ticks ≤ last_tick) now few) (subst (λ (t : ClockTime). lt t.fraction (whole 1) ≡ true) now below)
