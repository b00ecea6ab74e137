-- Laws of a moving level's amplitudes: runs of frames (`laws`, Runs), and that a segment which holds a run's two ends holds the run. Assumes nothing.
use mathlib.Core.Path.{◌≡◌, sym, ap, ◌∙◌, subst}
use mathlib.Core.Bool.{Bool, true, false, cond, ◌&&◌}
use mathlib.Core.Logic.{inl, inr}
use mathlib.Core.List.{List}
use Prim.Native.Nat.{ℕ, suc, ◌+◌, ◌≤◌, ◌<◌}
use native.Mathlib.Nat.{le_trans, lt_of_le_of_lt}
use lib.IntN.{pos}
use lib.Dec.{T}
use lib.ListN.{get_or, set}
use lib.Ieee.{Float, nan, binary32, fits, sub, mul, div, lt, le, of_int}
use lib.Ieee.Fits.{add-fits, sub-fits, and_i, and_l, and_r}
use Rattle.laws.proofs.laws.Choice.{cond-true, cond-false, true-T, and_left, and_right}
use Rattle.laws.specs.Float.{whole}
use Rattle.laws.specs.Loop.{changed}
use Rattle.laws.proofs.laws.Loop.{changed_zero, changed_end}
use Rattle.laws.proofs.laws.Runs.{from, run_none, run_turn, run_after}
use Rattle.laws.proofs.laws.FloatRound.{inside_bounds}
use Rattle.laws.specs.Interpolate.{interpolate}
use Rattle.decibels.specs.declared.decibels.Decibels.{Decibels}
use Rattle.gain_segment.specs.declared.segment.Segment.{Segment}
use Rattle.decibels.specs.Decibels.{amplitude, admitted}
use Rattle.gain_segment.specs.Segment.{decibels_at, segment, segment_of, IsSegment, contains}
use Rattle.gain_segment.proofs.laws.Segment.{segment_is}
use Rattle.level_amplitudes.specs.Amplitudes.{value_at, amplitude_at, with_amplitudes, with_run, Monotone}

-- ---- the ends of a segment are f32 numbers

decibels_fit : (k : ℕ) → T (fits binary32 (decibels_at k))
unfolding decibels_at
decibels_fit k = sub-fits binary32 (div binary32 (of_int binary32 (pos k)) (whole 16)) (whole 60)

low_fits : (s : Segment) → IsSegment s → T (fits binary32 s.low)
unfolding segment
low_fits s I = subst (λ (z : Segment). T (fits binary32 z.low)) (sym I.is) (decibels_fit I.number)

high_fits : (s : Segment) → IsSegment s → T (fits binary32 s.high)
unfolding segment
high_fits s I = subst (λ (z : Segment). T (fits binary32 z.high)) (sym I.is) (decibels_fit (suc I.number))

-- ---- the amplitudes

module _ (before after : Decibels) (parts : List Float) where
  pub value_fits : (i : ℕ) → T (fits binary32 (value_at before after parts i))
  unfolding value_at interpolate
  value_fits i = add-fits binary32 before.0 (mul binary32 (sub binary32 after.0 before.0) (get_or parts i nan))

  pub with_run_none : (first : ℕ) (l : List Float) → l ≡ with_run before after parts first first l
  with_run_none first l = sym (run_none (amplitude_at before after parts) first l nan)

  -- a turn of either loop: v is the level that was computed, x its amplitude
  pub with_run_turn : (first i : ℕ) (l : List Float) {v x : Float} {now : List Float} → first ≤ i → now ≡ with_run before after parts first i l → v ≡ value_at before after parts i → x ≡ amplitude v → set now i x ≡ with_run before after parts first (i + 1) l
  unfolding amplitude_at
  with_run_turn first i l {v} {x} h e w a = run_turn (amplitude_at before after parts) first i l nan x h e (a ∙ ap amplitude w)

  pub with_run_end : (first : ℕ) (l : List Float) {i to : ℕ} {now : List Float} → i ≡ to → now ≡ with_run before after parts first i l → now ≡ with_run before after parts first to l
  with_run_end first l h e = changed_end (from (amplitude_at before after parts) first) l h e

  -- a run that was tried, and is set, or left to what comes next
  pub tried_set : (first to : ℕ) (l : List Float) {r : Bool} {now : List Float} → now ≡ cond r (with_run before after parts first to l) l → r ≡ true → now ≡ with_run before after parts first to l
  tried_set first to l {r} e t = e ∙ cond-true r (with_run before after parts first to l) l t

  pub tried_left : (first to : ℕ) (l : List Float) (rest : List Float → List Float) {r : Bool} {now next : List Float} → now ≡ cond r (with_run before after parts first to l) l → r ≡ false → next ≡ rest now → next ≡ rest l
  tried_left first to l rest {r} e t n = n ∙ ap rest (e ∙ cond-false r (with_run before after parts first to l) l t)

  pub with_amplitudes_none : (l : List Float) → l ≡ with_amplitudes before after parts 0 l
  with_amplitudes_none l = sym (changed_zero (amplitude_at before after parts) l)

  -- a run after the frames before it
  pub with_amplitudes_run : (first to : ℕ) (l : List Float) {now next : List Float} → first ≤ to → now ≡ with_amplitudes before after parts first l → next ≡ with_run before after parts first to now → next ≡ with_amplitudes before after parts to l
  with_amplitudes_run first to l h e r =
      r
      ∙ ap (changed (from (amplitude_at before after parts) first) to) e
      ∙ run_after (amplitude_at before after parts) first to l nan h

  pub with_amplitudes_end : (l : List Float) {i n : ℕ} {now : List Float} → i ≡ n → now ≡ with_amplitudes before after parts i l → now ≡ with_amplitudes before after parts n l
  with_amplitudes_end l h e = changed_end (amplitude_at before after parts) l h e

  -- ---- a level that never turns

  pub monotone_less : {m n : ℕ} → m ≤ n → Monotone before after parts n → Monotone before after parts m
  monotone_less h (inl r) = inl (λ i j p q. r i j p (le_trans q h))
  monotone_less h (inr r) = inr (λ i j p q. r i j p (le_trans q h))

  -- a segment that holds two frames holds those between
  held_between : (s : Segment) → IsSegment s → (i j k : ℕ) → T (contains s (value_at before after parts i)) → T (contains s (value_at before after parts k))
      → T (le (value_at before after parts i) (value_at before after parts j)) → T (le (value_at before after parts j) (value_at before after parts k)) → T (contains s (value_at before after parts j))
  unfolding contains
  held_between s I i j k a b l m =
      let v : ℕ → Float = value_at before after parts in
      let x = inside_bounds binary32 s.low s.high (v i) (v j) (v k) (low_fits s I) (high_fits s I) (value_fits i) (value_fits k)
      (and_l (lt s.low (v i)) (lt (v i) s.high) a) (and_r (lt s.low (v i)) (lt (v i) s.high) a)
      (and_l (lt s.low (v k)) (lt (v k) s.high) b) (and_r (lt s.low (v k)) (lt (v k) s.high) b)
      (record { held = value_fits j; least = l; most = m }) in
      and_i (lt s.low (v j)) (lt (v j) s.high) x.0 x.1

  run_held : (s : Segment) → IsSegment s → {n : ℕ} → Monotone before after parts n → (first last : ℕ) → last < n
      → T (contains s (value_at before after parts first)) → T (contains s (value_at before after parts last)) → (i : ℕ) → first ≤ i → i ≤ last → T (contains s (value_at before after parts i))
  run_held s I (inl r) first last t a b i h k = held_between s I first i last a b (r first i h (lt_of_le_of_lt k t)) (r i last k t)
  run_held s I (inr r) first last t a b i h k = held_between s I last i first b a (r i last k t) (r first i h (lt_of_le_of_lt k t))

  -- a run of which it holds both ends; x and y are the levels that were computed there
  pub ends_held : (s : Segment) → IsSegment s → {n : ℕ} → Monotone before after parts n → (first last : ℕ) {x y : Float} → last < n → x ≡ value_at before after parts first → y ≡ value_at before after parts last
      → (contains s x && contains s y) ≡ true → (i : ℕ) → first ≤ i → i ≤ last → T (contains s (value_at before after parts i))
  ends_held s I M first last {x} {y} t v w e =
      run_held s I M first last t
      (subst (λ (z : Float). T (contains s z)) v (true-T (contains s x) (and_left (contains s x) (contains s y) e)))
      (subst (λ (z : Float). T (contains s z)) w (true-T (contains s y) (and_right (contains s x) (contains s y) e)))

  -- the segment that the first frame picks
  pub picked_segment : (i : ℕ) {s : Segment} {v : Float} → v ≡ value_at before after parts i → T (admitted (value_at before after parts i)) → s ≡ segment (segment_of v) → IsSegment s
  picked_segment i {s} {v} w t e =
      subst IsSegment (sym (e ∙ ap (λ (z : Float). segment (segment_of z)) w)) (segment_is (value_at before after parts i) (value_fits i) t)
