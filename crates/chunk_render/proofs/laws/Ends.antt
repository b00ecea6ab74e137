-- Clocks only count on: a start at a tick that a clock has not come to by a block's end comes later in all of the block. Assumes nothing.
use Rattle.std.proofs.Common.{◌≡◌, ℕ, zero, suc, ◌+◌, ◌-◌, ◌<◌, ◌≤◌, Bool, true, false, cond, ◌&&◌, eqb, ltb, List, [], ◌∷◌, length, get_or, replicate, sym, refl, ap, ◌∙◌, le_trans, le_of_eq, le_refl, add-zero, add-suc, arith, length-take-le, get_or-take, le-ltb, lt-ltb, eq-eqb, ne_eqb}
use lib.ListN.{length-replicate}
use lib.Ieee.{Float, binary64, add, sub, mul, le, to_unsigned}
use Rattle.limits.specs.Limits.{clock_lines}
use Rattle.laws.specs.Float.{whole}
use Rattle.laws.specs.Loop.{changed}
use Rattle.laws.proofs.laws.Loop.{upto_zero, upto-suc, changed-length, changed_below}
use Rattle.clock.specs.declared.clock_time.ClockTime as time
use Rattle.clock.specs.declared.clock.Clock.{Clock}
use Rattle.clock.specs.declared.clock.ClockState.TheVariants.{Started}
use Rattle.clock.specs.declared.when_to_start.Clocks.{Clocks}
use Rattle.clock.specs.declared.when_to_start.WhenToStart.TheVariants.{Now, Later, Never}
use Rattle.clock.specs.Clock.{ticks_of, fraction_of, time_of, taken_within, taken, updated}
use Rattle.clock.specs.ClockSpeed.{as_ticks_per_second}
use Rattle.clock.specs.ClockTime.{at_or_after}
use Rattle.clock.specs.WhenToStart.{absent_clock, clocks_updated, when_to_start}
use Rattle.scene.specs.declared.scene.Head.{Head}
use Rattle.renderer.specs.Renderer.{chunk_count}
use Rattle.steady_mixer.proofs.laws.Steady.{EndsAfter}
use Rattle.chunk_render.specs.Block.{seconds, chunk_clocks, clock_ticks, end_ticks}

-- ---- a clock

taken_rises : (n ticks : ℕ) (timer : Float) → ticks ≤ ticks_of (taken_within n ticks timer)
unfolding taken_within ticks_of
taken_rises zero ticks timer = le_refl ticks
taken_rises (suc n) ticks timer = go (le (whole 1) timer) (le_trans (omega arith) (taken_rises n (suc ticks) (sub binary64 timer (whole 1))))
  where
    go : (b : Bool) → ticks ≤ ticks_of (taken_within n (suc ticks) (sub binary64 timer (whole 1))) → ticks ≤ ticks_of (cond b (taken_within n (suc ticks) (sub binary64 timer (whole 1))) (Started ticks timer))
    go true h = h
    go false h = le_refl ticks

clock_rises : (c : Clock) (dt : Float) → ticks_of c.state ≤ ticks_of (updated c dt).state
unfolding updated taken
clock_rises c dt = go c.ticking
  where
    step : Float
    step = mul binary64 (as_ticks_per_second c.speed) dt

    timer : Float
    timer = add binary64 (fraction_of c.state) step

    moved : Clock
    moved = record { ticking = true; speed = c.speed; state = taken_within (to_unsigned 64 timer) (ticks_of c.state) timer }

    go : (b : Bool) → ticks_of c.state ≤ ticks_of (cond b moved c).state
    go true = taken_rises (to_unsigned 64 timer) (ticks_of c.state) timer
    go false = le_refl (ticks_of c.state)

-- ---- clocks

changed_rises : {A : Type 0} (g : A → ℕ) (f : ℕ → A → A) → ((i : ℕ) (x : A) → g x ≤ g (f i x)) → (n : ℕ) (l : List A) (k : ℕ) (d : A) → g (get_or l k d) ≤ g (get_or (changed f n l) k d)
unfolding changed
changed_rises g f h zero l k d = le_refl (g (get_or l k d))
changed_rises g f h (suc n) [] k d = le_refl (g d)
changed_rises g f h (suc n) (x ∷ l) zero d = h 0 x
changed_rises g f h (suc n) (x ∷ l) (suc k) d = changed_rises g (λ j. f (suc j)) (λ i y. h (suc i) y) n l k d

abbrev ticks_at : Clocks → ℕ → ℕ
ticks_at cs i = ticks_of (get_or cs.clocks i absent_clock).state

clocks_rise : (cs : Clocks) (dt : Float) (i : ℕ) → ticks_at cs i ≤ ticks_at (clocks_updated cs dt) i
unfolding clocks_updated
clocks_rise cs dt i = changed_rises (λ (c : Clock). ticks_of c.state) (λ j c. updated c dt) (λ j c. clock_rises c dt) cs.count cs.clocks i absent_clock

clocks_next : (h : Head) (k : ℕ) (cs : Clocks) → chunk_clocks h (suc k) cs ≡ clocks_updated (chunk_clocks h k cs) (seconds h k)
unfolding chunk_clocks
clocks_next h k cs = upto-suc _ k cs

same_count : (cs : Clocks) (dt : Float) → (clocks_updated cs dt).count ≡ cs.count
unfolding clocks_updated
same_count cs dt = refl

pub clocks_first : (h : Head) (cs : Clocks) → chunk_clocks h 0 cs ≡ cs
unfolding chunk_clocks
clocks_first h cs = upto_zero _ cs

pub clocks_count : (h : Head) (k : ℕ) (cs : Clocks) → (chunk_clocks h k cs).count ≡ cs.count
clocks_count h zero cs = ap (λ (x : Clocks). x.count) (clocks_first h cs)
clocks_count h (suc k) cs = ap (λ (x : Clocks). x.count) (clocks_next h k cs) ∙ same_count (chunk_clocks h k cs) (seconds h k) ∙ clocks_count h k cs

chunks_rise : (h : Head) (k n : ℕ) (cs : Clocks) (i : ℕ) → ticks_at (chunk_clocks h k cs) i ≤ ticks_at (chunk_clocks h (k + n) cs) i
chunks_rise h k zero cs i = le_of_eq (ap (λ (j : ℕ). ticks_at (chunk_clocks h j cs) i) (sym (add-zero k)))
chunks_rise h k (suc n) cs i =
    le_trans (chunks_rise h k n cs i)
    (le_trans (clocks_rise (chunk_clocks h (k + n) cs) (seconds h (k + n)) i)
    (le_of_eq (sym (ap (λ (j : ℕ). ticks_at (chunk_clocks h j cs) i) (add-suc k n) ∙ ap (λ (x : Clocks). ticks_at x i) (clocks_next h (k + n) cs)))))

-- ---- a start that comes later

later_by : (ticking : Bool) {b : Bool} → b ≡ false → cond (ticking && b) Now Later ≡ Later
later_by true e = ap (λ (x : Bool). cond x Now Later) e
later_by false e = refl

not_there : (cs : Clocks) (t : time.ClockTime) → t.clock < cs.count → ticks_at cs t.clock < t.ticks → when_to_start cs t ≡ Later
unfolding when_to_start time_of at_or_after
not_there cs t there few =
    let clock = get_or cs.clocks t.clock absent_clock in
    let ticks = ticks_of clock.state in
    ap (λ (x : Bool). cond x (cond (clock.ticking && cond (eqb t.clock t.clock) (cond (eqb ticks t.ticks) (le t.fraction (fraction_of clock.state)) (ltb t.ticks ticks)) false) Now Later) Never) (lt-ltb t.clock cs.count there)
    ∙ later_by clock.ticking
    (ap (λ (x : Bool). cond x (cond (eqb ticks t.ticks) (le t.fraction (fraction_of clock.state)) (ltb t.ticks ticks)) false) (eq-eqb t.clock t.clock refl)
    ∙ ap (λ (x : Bool). cond x (le t.fraction (fraction_of clock.state)) (ltb t.ticks ticks)) (ne_eqb ticks t.ticks (λ e. omega (arith, few)))
    ∙ le-ltb t.ticks ticks (omega (arith, few)))

module _ (h : Head) (clocks : Clocks) (few : clocks.count ≤ clock_lines) where
  abbrev last : Clocks
  last = chunk_clocks h (chunk_count h) clocks

  ticks_long : length (clock_ticks last) ≡ clock_lines
  unfolding clock_ticks
  ticks_long = changed-length _ last.count (replicate clock_lines 0) ∙ length-replicate {A = ℕ} clock_lines 0

  tick_at : (i : ℕ) → i < clocks.count → get_or (end_ticks h clocks) i 0 ≡ ticks_at last i
  unfolding clock_ticks
  tick_at i b =
      get_or-take clocks.count (clock_ticks last) i 0 b
      ∙ changed_below (λ i x. ticks_at last i) last.count (replicate clock_lines 0) i 0 (omega (arith, b, clocks_count h (chunk_count h) clocks)) (omega (arith, b, few, length-replicate {A = ℕ} clock_lines 0))

  pub ends_after : (k : ℕ) → k ≤ chunk_count h → EndsAfter (end_ticks h clocks) (chunk_clocks h k clocks)
  ends_after k l t c d =
      let there : t.clock < clocks.count = omega (arith, c, length-take-le clocks.count (clock_ticks last) (omega (arith, few, ticks_long))) in
      let sum : k + (chunk_count h - k) ≡ chunk_count h = omega (arith, l) in
      let rises : ticks_at (chunk_clocks h k clocks) t.clock ≤ ticks_at last t.clock = le_trans (chunks_rise h k (chunk_count h - k) clocks t.clock) (le_of_eq (ap (λ (j : ℕ). ticks_at (chunk_clocks h j clocks) t.clock) sum)) in
      not_there (chunk_clocks h k clocks) t (omega (arith, there, clocks_count h k clocks)) (omega (arith, d, rises, tick_at t.clock there))
