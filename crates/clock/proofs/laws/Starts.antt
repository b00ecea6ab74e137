-- The laws of `when_to_start`: its cases, one by one, and what follows from them. Assumes nothing.
use mathlib.Core.Path.{◌≡◌, refl, sym, ap, ◌∙◌}
use mathlib.Core.Bool.{Bool, true, false, cond, ◌&&◌, true≢false}
use Prim.Native.Nat.{ℕ, ◌≤◌, ◌<◌}
use native.Mathlib.Omega.{arith}
use lib.Dec.{ltb}
use lib.ListN.{get_or}
use borrow.Author.Tests.{lt-ltb, le-ltb, ltb-true, ltb-false}
use Rattle.laws.proofs.laws.Choice.{cond-true, cond-false}
use Rattle.clock.specs.declared.clock_time.ClockTime.{ClockTime}
use Rattle.clock.specs.declared.clock.Clock.{Clock}
use Rattle.clock.specs.declared.when_to_start.WhenToStart.{WhenToStart}
use Rattle.clock.specs.declared.when_to_start.WhenToStart.TheVariants.{Now, Later, Never}
use Rattle.clock.specs.declared.when_to_start.Clocks.{Clocks}
use Rattle.clock.specs.ClockTime.{at_or_after}
use Rattle.clock.specs.Clock.{time_of}
use Rattle.clock.specs.WhenToStart.{when_to_start, absent_clock}

-- the clock that a time is of
abbrev pub clock_of : Clocks → ClockTime → Clock
clock_of cs time = get_or cs.clocks time.clock absent_clock

-- the clock's time is at or after it
abbrev pub come : Clocks → ClockTime → Bool
come cs time = at_or_after (time_of (clock_of cs time) time.clock) time

abbrev now_or_later : Bool → WhenToStart
now_or_later b = cond b Now Later

later_not_now : Later ≡ Now → ⊥
later_not_now h = let z : ◌≡◌ {A = ℕ} 0 1 = cc in omega arith

never_not_now : Never ≡ Now → ⊥
never_not_now h = let z : ◌≡◌ {A = ℕ} 0 1 = cc in omega arith

module _ (cs : Clocks) (time : ClockTime) where
  pub starts_never : cs.count ≤ time.clock → when_to_start cs time ≡ Never
  unfolding when_to_start
  starts_never h = cond-false (ltb time.clock cs.count) (now_or_later ((clock_of cs time).ticking && come cs time)) Never (le-ltb time.clock cs.count h)

  there : time.clock < cs.count → when_to_start cs time ≡ now_or_later ((clock_of cs time).ticking && come cs time)
  unfolding when_to_start
  there h = cond-true (ltb time.clock cs.count) (now_or_later ((clock_of cs time).ticking && come cs time)) Never (lt-ltb time.clock cs.count h)

  -- a clock that doesn't tick starts nothing
  pub starts_not_ticking : time.clock < cs.count → (clock_of cs time).ticking ≡ false → when_to_start cs time ≡ Later
  starts_not_ticking h e = there h ∙ ap (λ (b : Bool). now_or_later (b && come cs time)) e

  pub starts_by_time : time.clock < cs.count → (clock_of cs time).ticking ≡ true → when_to_start cs time ≡ now_or_later (come cs time)
  starts_by_time h e = there h ∙ ap (λ (b : Bool). now_or_later (b && come cs time)) e

  pub starts_now : time.clock < cs.count → (clock_of cs time).ticking ≡ true → come cs time ≡ true → when_to_start cs time ≡ Now
  starts_now h e k = starts_by_time h e ∙ ap now_or_later k

  pub starts_not_come : time.clock < cs.count → (clock_of cs time).ticking ≡ true → come cs time ≡ false → when_to_start cs time ≡ Later
  starts_not_come h e k = starts_by_time h e ∙ ap now_or_later k

  -- what starts now is asked of a clock that is there, ticks, and has come to that time
  pub starts_from : when_to_start cs time ≡ Now → (time.clock < cs.count) × ((clock_of cs time).ticking ≡ true) × (come cs time ≡ true)
  unfolding when_to_start
  starts_from = go (ltb time.clock cs.count) refl (clock_of cs time).ticking refl (come cs time) refl
    where
      go : (p : Bool) → ltb time.clock cs.count ≡ p → (q : Bool) → (clock_of cs time).ticking ≡ q → (r : Bool) → come cs time ≡ r
          → cond p (now_or_later (q && r)) Never ≡ Now → (time.clock < cs.count) × ((clock_of cs time).ticking ≡ true) × (come cs time ≡ true)
      go true e true f true g h = (ltb-true time.clock cs.count e, f, g)
      go true e true f false g h = absurd (later_not_now h)
      go true e false f r g h = absurd (later_not_now h)
      go false e q f r g h = absurd (never_not_now h)

  -- a clock that doesn't tick never starts anything
  pub still_starts_nothing : (clock_of cs time).ticking ≡ false → when_to_start cs time ≡ Now → ⊥
  still_starts_nothing e h = true≢false (sym (starts_from h).1 ∙ e)

  -- only a clock that is not there is never
  pub never_missing : when_to_start cs time ≡ Never → cs.count ≤ time.clock
  never_missing h = go (ltb time.clock cs.count) refl
    where
      not_never : (b : Bool) → now_or_later b ≡ Never → ⊥
      not_never true e = let z : ◌≡◌ {A = ℕ} 0 1 = cc in omega arith
      not_never false e = let z : ◌≡◌ {A = ℕ} 0 1 = cc in omega arith

      go : (b : Bool) → ltb time.clock cs.count ≡ b → cs.count ≤ time.clock
      go true e = absurd (not_never ((clock_of cs time).ticking && come cs time) (sym (there (ltb-true time.clock cs.count e)) ∙ h))
      go false e = ltb-false time.clock cs.count e
