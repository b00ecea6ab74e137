-- `Clock::update` meets its contract: a clock that doesn't tick comes back as it was; else both arms are the definition at the state that they
-- know. Assumes nothing.
use mathlib.Core.Path.{◌≡◌, sym, ap, ◌∙◌, subst}
use mathlib.Core.Bool.{Bool, true}
use lib.Ieee.{Float, binary64, add, mul, of_bits, of_int}
use borrow.Author.Tests.{not-false}
use Rattle.clock.specs.declared.clock.ClockState.{ClockState}
use Rattle.clock.specs.declared.clock.Clock.{Clock}
use Rattle.clock.specs.ClockSpeed.{as_ticks_per_second}
use Rattle.clock.specs.Clock.{ticks_of, fraction_of, taken, updated, CanMove, CanTake}
use Rattle.clock.proofs.laws.Moves.{updated-ticking, can_take}
use Rattle.clock.proofs.clock.Clock.update.Goals as goal

-- the clock c, whose state is s and whose speed is x ticks per second
module _ (c : Clock) (dt : Float) (s : ClockState) (x : Float) (is : c.state ≡ s) (speed : x ≡ as_ticks_per_second c.speed) where
  asked : CanMove c dt → CanTake (ticks_of s) (add binary64 (fraction_of s) (mul binary64 x dt))
  asked k =
      subst (λ (y : Float). CanTake (ticks_of s) (add binary64 (fraction_of s) (mul binary64 y dt))) (sym speed)
      (subst (λ (z : ClockState). CanTake (ticks_of z) (add binary64 (fraction_of z) (mul binary64 (as_ticks_per_second c.speed) dt))) is (can_take c dt k))

  moved : (r : ClockState) → c.ticking ≡ true → r ≡ taken (ticks_of s) (add binary64 (fraction_of s) (mul binary64 x dt))
      → record { ticking = c.ticking; speed = c.speed; state = r } ≡ updated c dt
  moved r h e =
      ap {B = Clock} (λ (b : Bool). record { ticking = b; speed = c.speed; state = r }) h ∙
      ap {B = Clock} (λ (z : ClockState). record { ticking = true; speed = c.speed; state = z })
      (e ∙ ap (λ (y : Float). taken (ticks_of s) (add binary64 (fraction_of s) (mul binary64 y dt))) speed
      ∙ ap (λ (z : ClockState). taken (ticks_of z) (add binary64 (fraction_of z) (mul binary64 (as_ticks_per_second c.speed) dt))) (sym is))
      ∙ sym (updated-ticking c dt h)

pub take_ticks-self-requires : goal.take_ticks-self-requires
unfolding ticks_of fraction_of of_bits of_int
take_ticks-self-requires c = asked c.args.self.now c.args.dt _ _ c.in-NotStarted.is c.as_ticks_per_second.ensures c.requires

pub take_ticks-self-requires-in-Started : goal.take_ticks-self-requires-in-Started
unfolding ticks_of fraction_of
take_ticks-self-requires-in-Started c = asked c.args.self.now c.args.dt _ _ c.in-Started.is c.as_ticks_per_second.ensures c.requires

pub returns-in-NotStarted : goal.returns-in-NotStarted
unfolding ticks_of fraction_of of_bits of_int
returns-in-NotStarted c =
    moved c.args.self.now c.args.dt _ _ c.in-NotStarted.is c.as_ticks_per_second.ensures c.take_ticks-self.result
    (not-false _ c.if-not-self.false-raw) c.take_ticks-self.ensures

pub returns-in-Started : goal.returns-in-Started
unfolding ticks_of fraction_of
returns-in-Started c =
    moved c.args.self.now c.args.dt _ _ c.in-Started.is c.as_ticks_per_second.ensures c.take_ticks-self-in-Started.result
    (not-false _ c.if-not-self.false-raw) c.take_ticks-self-in-Started.ensures
