-- What mixing a chunk reads: the lines, and every level before the chunk and at its end.
use mathlib.Core.Path.{◌≡◌, refl, sym, ap, ap₂, ◌∙◌, subst, subst₂}
use mathlib.Core.Bool.{false, true}
use mathlib.Core.List.{List}
use Prim.Native.Nat.{ℕ, ◌+◌, ◌≤◌, ◌<◌, suc, ◌^◌}
use lib.IntN.{pos}
use lib.ListN.{get_or, length, replicate, length-replicate}
use lib.Ieee.{Float, nan, binary32, binary64, div, eq, le, of_int, prec, sub, in_float}
use mathlib.Core.Logic.{inl, inr}
use native.Mathlib.Nat.{lt_of_le_of_lt, le_trans, le_of_eq, le_of_lt, eq-zero-or-pos}
use native.Mathlib.Numerals.{add-one}
use native.Mathlib.Omega.{arith}
use lib.Dec.{T, le→leb, lit<, lit≤}
use lib.Ieee.Scale.{finite}
use Rattle.decibels.specs.declared.decibels.Amplitude.{Amplitude}
use Rattle.decibels.specs.Decibels.{amplitude, admitted}
use Rattle.laws.proofs.laws.Amount.{InUnit, place_amount, place_rises}
use Rattle.rounding.specs.Narrow.{narrowed}
use Rattle.tween.specs.Tweenable.{interpolated}
use Rattle.limits.specs.Limits.{chunk_frames_most}
use Rattle.chunk.specs.declared.chunk.Level.{Level}
use Rattle.laws.proofs.laws.Choice.{true-T}
use Rattle.laws.proofs.laws.Loop.{changed_below, changed_cong}
use Rattle.laws.specs.Float.{one}
use Rattle.laws.proofs.laws.Float.{zero_of}
use Rattle.laws.specs.FloatOrder.{Number, magnitude, plus, minus}
use Rattle.laws.proofs.laws.FloatOrder.{le→units, units→le, eq→units, number_unique, zero_is}
use Rattle.laws.specs.FloatRound.{integer}
use Rattle.laws.proofs.laws.FloatRound.{below_or_not}
use Rattle.laws.specs.Interpolate.{interpolate}
use Rattle.laws.proofs.laws.Interpolate.{range_number, sub_in_range, never_above_start, never_below_start, interpolate_rises, interpolate_falls}
use Rattle.laws.proofs.laws.DecibelRange.{value→read, read_number, value_read, integer-pos}
use Rattle.rounding.proofs.laws.Narrow.{narrowed_unit, narrowed_mono}
use Rattle.decibels.proofs.laws.Decibels.{amplitude_unity, read_admitted}
use Rattle.level_amplitudes.specs.Amplitudes.{value_at, amplitude_at, with_amplitudes, Monotone}
use Rattle.chunk.specs.Chunk.{amount_at, level_amplitude, is_steady, steady_amplitude, part_at, with_factors, parts_of, LevelInRange}

-- ---- what mixing asks of a chunk

-- an amount in 0..1
abbrev pub IsAmount : Float → Type 0
IsAmount x = InUnit binary64 x

-- such an amount rounded to f32
pub record IsPart (part : Float) : Type 0 where
  pub amount : Float
  pub lies : IsAmount amount
  pub rounded : part ≡ narrowed amount

-- a number of frames is a float
pub frames_in_float : (n : ℕ) → n ≤ chunk_frames_most → T (in_float binary64 (pos n))
unfolding in_float
frames_in_float n h = le→leb n (2 ^ prec binary64) (le_trans h (lit≤ tt))

amount_place : (i n : ℕ) → amount_at i n ≡ div binary64 (integer binary64 false (suc i)) (integer binary64 false n)
unfolding amount_at
amount_place i n = ap₂ (div binary64) (ap (λ (j : ℕ). of_int binary64 (pos j)) (add-one i) ∙ integer-pos binary64 (suc i)) (integer-pos binary64 n)

pub amount_is : (i n : ℕ) → i < n → n ≤ chunk_frames_most → IsAmount (amount_at i n)
amount_is i n h k = subst (InUnit binary64) (sym (amount_place i n)) (place_amount binary64 i n h (lt_of_le_of_lt k (lit< tt)))

amount_rises : (i j n : ℕ) → i ≤ j → j < n → n ≤ chunk_frames_most → T (le (amount_at i n) (amount_at j n))
amount_rises i j n h k l = subst₂ (λ (x y : Float). T (le x y)) (sym (amount_place i n)) (sym (amount_place j n)) (place_rises binary64 i j n h k (lt_of_le_of_lt l (lit< tt)))

before_number : (l : Level) → LevelInRange l → Number binary32 l.before.0
before_number l h = read_number l.before.0 (value→read l.before.0 h.before)

now_number : (l : Level) → LevelInRange l → Number binary32 l.now.0
now_number l h = read_number l.now.0 (value→read l.now.0 h.now)

difference_finite : (l : Level) → LevelInRange l → T (finite (sub binary32 l.now.0 l.before.0))
difference_finite l h =
    let d = sub binary32 l.now.0 l.before.0 in
    (range_number binary32 116 116 d (lit< tt) (lit< tt) (sub_in_range binary32 97 19 l.before.0 l.now.0 (lit< tt) h.before h.now)).is_finite

pub now-admitted : (l : Level) → LevelInRange l → T (admitted l.now.0)
now-admitted l h = read_admitted l.now.0 (value→read l.now.0 h.now)

-- ---- parts

part_unit : (part : Float) → IsPart part → InUnit binary32 part
part_unit part p = subst (InUnit binary32) (sym p.rounded) (narrowed_unit binary64 p.amount p.lies)

pub part_admitted : (l : Level) (part : Float) → LevelInRange l → IsPart part → T (admitted (interpolate binary32 l.before.0 l.now.0 part))
part_admitted l part h p = read_admitted (interpolate binary32 l.before.0 l.now.0 part) (value_read l.before.0 l.now.0 part (part_unit part p) h.before h.now)

pub level_admitted : (l : Level) (amount : Float) → LevelInRange l → IsAmount amount → T (admitted (interpolated l.before l.now amount).0)
unfolding interpolated
level_admitted l amount h k = part_admitted l (narrowed amount) h (record { amount = amount; lies = k; rounded = refl })

-- what stands in the array
pub parts_at : (n i : ℕ) {parts : List Float} → parts ≡ parts_of n → n ≤ chunk_frames_most → i < n → get_or parts i nan ≡ part_at i n
unfolding parts_of
parts_at n i e h p =
    let zeros = replicate chunk_frames_most (of_int binary32 (pos 0)) in
    ap (λ (r : List Float). get_or r i nan) e ∙ changed_below (λ k x. part_at k n) n zeros i nan p (omega (arith, h, p, length-replicate chunk_frames_most (of_int binary32 (pos 0))))

-- frame i of a chunk
module _ (n i : ℕ) (parts : List Float) (P : parts ≡ parts_of n) (short : n ≤ chunk_frames_most) (h : i < n) where
  pub parts_is : IsPart (get_or parts i nan)
  unfolding part_at
  parts_is = record { amount = amount_at i n; lies = amount_is i n h short; rounded = parts_at n i P short h }

  pub parts_admitted : (l : Level) → LevelInRange l → T (admitted (value_at l.before l.now parts i))
  unfolding value_at
  parts_admitted l r = part_admitted l (get_or parts i nan) r parts_is

  -- the amplitude at its part is the one at its amount
  parts_amplitude : (l : Level) (x : Float) → amplitude_at l.before l.now parts i x ≡ (level_amplitude l (amount_at i n)).0
  unfolding amplitude_at value_at level_amplitude interpolated part_at
  parts_amplitude l x = ap (λ (part : Float). amplitude (interpolate binary32 l.before.0 l.now.0 part)) (parts_at n i P short h)

  -- as the code has it
  pub amplitude_is : (l : Level) {x : Amplitude} → x.0 ≡ amplitude (value_at l.before l.now parts i) → x ≡ level_amplitude l (amount_at i n)
  unfolding level_amplitude value_at interpolated part_at
  amplitude_is l e = ap (λ (y : Float). record { 0 = y }) (e ∙ ap (λ (part : Float). amplitude (interpolate binary32 l.before.0 l.now.0 part)) (parts_at n i P short h))

-- ---- a level never turns within a chunk

module _ (n : ℕ) (parts : List Float) (P : parts ≡ parts_of n) (short : n ≤ chunk_frames_most) where
  parts_rise : (i j : ℕ) → i ≤ j → j < n → T (le (get_or parts i nan) (get_or parts j nan))
  unfolding part_at
  parts_rise i j h k =
      subst₂ (λ (x y : Float). T (le x y)) (sym (parts_at n i P short (lt_of_le_of_lt h k))) (sym (parts_at n j P short k)) (narrowed_mono (amount_at i n) (amount_at j n) (amount_rises i j n h k short))

  module _ (l : Level) (r : LevelInRange l) where
    unit : (i : ℕ) → i < n → InUnit binary32 (get_or parts i nan)
    unit i k = part_unit (get_or parts i nan) (parts_is n i parts P short k)

    value_number : (i : ℕ) → i < n → Number binary32 (interpolate binary32 l.before.0 l.now.0 (get_or parts i nan))
    value_number i k =
        let t = get_or parts i nan in
        read_number (interpolate binary32 l.before.0 l.now.0 t) (value_read l.before.0 l.now.0 t (unit i k) r.before r.now)

    rises : T (le l.before.0 l.now.0) → (i j : ℕ) → i ≤ j → j < n → T (le (value_at l.before l.now parts i) (value_at l.before l.now parts j))
    unfolding value_at
    rises up i j h k =
        let g = lt_of_le_of_lt h k in
        interpolate_rises binary32 l.before.0 l.now.0 (before_number l r) (now_number l r) (difference_finite l r) (get_or parts i nan) (get_or parts j nan) (unit i g) (unit j k) (parts_rise i j h k) (value_number i g) (value_number j k) up

    falls : T (le l.now.0 l.before.0) → (i j : ℕ) → i ≤ j → j < n → T (le (value_at l.before l.now parts j) (value_at l.before l.now parts i))
    unfolding value_at
    falls down i j h k =
        let g = lt_of_le_of_lt h k in
        interpolate_falls binary32 l.before.0 l.now.0 (before_number l r) (now_number l r) (difference_finite l r) (get_or parts i nan) (get_or parts j nan) (unit i g) (unit j k) (parts_rise i j h k) (value_number i g) (value_number j k) down

    pub parts_monotone : Monotone l.before l.now parts n
    parts_monotone =
        let a = l.before.0 in
        let b = l.now.0 in
        let A = before_number l r in
        let B = now_number l r in
        elim (below_or_not (plus binary32 a + minus binary32 b) (plus binary32 b + minus binary32 a)) [
          | inl h ↦ inl (rises (units→le binary32 a b A B (le_of_lt h)))
          | inr h ↦ inr (falls (units→le binary32 b a B A h))
        ]

-- ---- the factors of its frames

pub factors_are : (l : Level) (n : ℕ) (parts factors : List Float) → parts ≡ parts_of n → n ≤ chunk_frames_most → with_amplitudes l.before l.now parts n factors ≡ with_factors l n factors
factors_are l n parts factors P short =
    changed_cong (amplitude_at l.before l.now parts) (λ i x. (level_amplitude l (amount_at i n)).0) n factors nan (λ k h _. parts_amplitude n k parts P short h l (get_or factors k nan))

-- the factor of frame i
pub factor_at : (l : Level) (n i : ℕ) (before : List Float) {factors : List Float} → i < n → n ≤ length before → factors ≡ with_factors l n before → get_or factors i nan ≡ (level_amplitude l (amount_at i n)).0
factor_at l n i before h w e =
    ap (λ (r : List Float). get_or r i nan) e ∙ changed_below (λ i x. (level_amplitude l (amount_at i n)).0) n before i nan h (omega arith)

-- ---- a level that stands still

-- a zero of either sign
zero_unity : (x : Float) → Number binary32 x → magnitude binary32 x ≡ 0 → amplitude x ≡ one
zero_unity x X z = elim (zero_is binary32 x X z) [ inl p ↦ ap amplitude p ∙ amplitude_unity (zero_of false) | inr p ↦ ap amplitude p ∙ amplitude_unity (zero_of true) ]

-- equal numbers have one amplitude
equal_amplitude : (x y : Float) → Number binary32 x → Number binary32 y → plus binary32 x + minus binary32 y ≡ plus binary32 y + minus binary32 x → amplitude x ≡ amplitude y
equal_amplitude x y X Y e = elim (eq-zero-or-pos (magnitude binary32 y)) [
  | inr p ↦ ap amplitude (number_unique binary32 x y X Y e p)
  | inl z ↦ elim (eq-zero-or-pos (magnitude binary32 x)) [
    | inr p ↦ sym (ap amplitude (number_unique binary32 y x Y X (sym e) p))
    | inl w ↦ zero_unity x X w ∙ sym (zero_unity y Y z)
  ]
]

-- what is read between two equal values is equal to them
module _ (l : Level) (t : Float) (s : is_steady l ≡ true) (h : LevelInRange l) (U : InUnit binary32 t) where
  abbrev a : Float
  a = l.before.0

  abbrev b : Float
  b = l.now.0

  abbrev read : Float
  read = interpolate binary32 a b t

  a_number : Number binary32 a
  a_number = before_number l h

  b_number : Number binary32 b
  b_number = now_number l h

  read_is : Number binary32 read
  read_is = read_number read (value_read a b t U h.before h.now)

  same : plus binary32 a + minus binary32 b ≡ plus binary32 b + minus binary32 a
  unfolding is_steady
  same = eq→units binary32 a b a_number b_number (true-T (eq a b) s)

  equal : plus binary32 read + minus binary32 b ≡ plus binary32 b + minus binary32 read
  equal =
      let D = difference_finite l h in
      through (plus binary32 a) (minus binary32 a) (plus binary32 b) (minus binary32 b) (plus binary32 read) (minus binary32 read) same
      (le→units binary32 read a read_is a_number (never_above_start binary32 a b a_number b_number D t U (units→le binary32 b a b_number a_number (le_of_eq (sym same)))))
      (le→units binary32 a read a_number read_is (never_below_start binary32 a b a_number b_number D t U (units→le binary32 a b a_number b_number (le_of_eq same))))
    where
      through : (pa ma pb mb px mx : ℕ) → pa + mb ≡ pb + ma → px + ma ≤ pa + mx → pa + mx ≤ px + ma → px + mb ≡ pb + mx
      through pa ma pb mb px mx e u v = omega arith

  steady_by : amplitude read ≡ amplitude b
  steady_by = equal_amplitude read b read_is b_number equal

made : Float → Amplitude
made x = record { 0 = x }

pub steady : (l : Level) (amount : Float) → is_steady l ≡ true → LevelInRange l → IsAmount amount → level_amplitude l amount ≡ steady_amplitude l
unfolding level_amplitude steady_amplitude interpolated made
steady l amount s h A = ap made (steady_by l (narrowed amount) s h (narrowed_unit binary64 amount A))
