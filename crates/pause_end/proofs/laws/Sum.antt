-- The repeated f64 sum of chunk lengths, bounded over whole numbers: it and a fade's length are counted in grains of 2 ^ -46 seconds. Assumes nothing.
use mathlib.Core.Path.{◌≡◌, refl}
use Prim.Native.Nat.{ℕ, suc, ◌+◌, ◌-◌, ◌*◌, ◌/◌, ◌%◌, ◌^◌, ◌≤◌, ◌<◌}
use native.Mathlib.Nat.{le_trans, le_of_eq, lt_of_le_of_lt, mul-le-mul, mul-le-mul_left, mul-le-mul_right, div-add-mod', mod-lt, zero-lt-suc, lt-div-mul-add}
use native.Mathlib.Omega.{arith}
use lib.Dec.{T, lit<, lit≤}
use lib.Ieee.{Float, binary64, add, div, le}
use Rattle.limits.specs.Limits.{chunk_frames_most, rate_most}
use Rattle.laws.specs.Loop.{upto}
use Rattle.laws.specs.Float.{pos_zero, whole}
use Rattle.laws.specs.FloatOrder.{Number}
use Rattle.laws.proofs.laws.FloatOrder.{le_through}
use Rattle.laws.proofs.laws.Grains.{grains_most, InGrains, grains_le, sum_in, sum_grows, sums_in, whole_in, quotient_in, product_in}
use Rattle.clock.specs.ChunkTime.{chunk_time}
use Rattle.rounding.specs.Duration.{secs_from_millis}
use Rattle.scene.specs.declared.scene.Head.{Head}
use Rattle.pause_end.specs.PauseEnd.{fade_chunks}

-- ---- names for sizes

-- a second is 2 ^ 46 grains
abbrev fineness : ℕ
fineness = 46

abbrev second : ℕ
second = 70368744177664

abbrev pub least_rate : ℕ
least_rate = 8000

-- a frame in grains at the highest rate, and at the lowest
abbrev frame_least : ℕ
frame_least = 366503875

abbrev frame_most : ℕ
frame_most = 8796093022

-- frames of the longest show
abbrev pub show_frames : ℕ
show_frames = 524288

-- milliseconds of the longest fade
abbrev pub millis_most : ℕ
millis_most = 3600000

-- the longest fade that is over within a show
abbrev short_fade : ℕ
short_fade = 65536

-- the time after k chunks
abbrev pub sum : Float → ℕ → Float
sum dt k = upto (λ i time. add binary64 time dt) k pos_zero

-- ---- a fade's length: whole seconds and milliseconds

-- r milliseconds in grains, rounded up
abbrev part : ℕ → ℕ
part r = r * second / 1000 + 1

part_above : (r : ℕ) → second * (r * 1000000) ≤ part r * 1000000000
part_above r = go r (r * second / 1000) (r * second % 1000) (div-add-mod' (r * second) 1000) (mod-lt (r * second) (zero-lt-suc 999))
  where
    go : (r q p : ℕ) → q * 1000 + p ≡ r * second → p < 1000 → second * (r * 1000000) ≤ (q + 1) * 1000000000
    go r q p e h = omega arith

part_most : (r : ℕ) → r < 1000 → part r ≤ second
part_most r h = go r (r * second / 1000) (r * second % 1000) (div-add-mod' (r * second) 1000) h
  where
    go : (r q p : ℕ) → q * 1000 + p ≡ r * second → r < 1000 → q + 1 ≤ second
    go r q p e h = omega arith

part_few : (r : ℕ) → part r * 1000 ≤ r * second + 1000
part_few r = go r (r * second / 1000) (r * second % 1000) (div-add-mod' (r * second) 1000)
  where
    go : (r q p : ℕ) → q * 1000 + p ≡ r * second → (q + 1) * 1000 ≤ r * second + 1000
    go r q p e = omega arith

few_nanos : (r : ℕ) → r < 1000 → r * 1000000 < 2 ^ 53
few_nanos r h = omega arith

secs_in : (m : ℕ) → m ≤ short_fade → InGrains fineness (second * (m / 1000) + 0) (second * (m / 1000) + part (m % 1000)) (secs_from_millis m)
unfolding secs_from_millis
secs_in m h =
    let r = m % 1000 in
    let q = m / 1000 in
    let e = div-add-mod' m 1000 in
    let b = mod-lt m (zero-lt-suc 999) in
    let p = part_most r b in
    sum_in fineness (second * q) (second * q) 0 (part r) (whole q) (div binary64 (whole (r * 1000000)) (whole (10 ^ 9))) (low_end q r m e h) (high_end q r m (part r) e h p)
    (whole_in fineness q (lit≤ tt) (few q r m e h))
    (quotient_in fineness (r * 1000000) (10 ^ 9) 0 (part r) (lit≤ tt) (few_nanos r b) (lit< tt) (lit< tt) (lit< tt) (small (part r) p) (zero_below (r * 1000000)) (part_above r))
  where
    few : (q r m : ℕ) → q * 1000 + r ≡ m → m ≤ short_fade → q < 2 ^ 53
    few q r m e h = omega arith

    low_end : (q r m : ℕ) → q * 1000 + r ≡ m → m ≤ short_fade → second * q + 0 < grains_most
    low_end q r m e h = omega arith

    high_end : (q r m p : ℕ) → q * 1000 + r ≡ m → m ≤ short_fade → p ≤ second → second * q + p < grains_most
    high_end q r m p e h k = omega arith

    small : (p : ℕ) → p ≤ second → p < grains_most
    small p h = omega arith

    zero_below : (n : ℕ) → 0 * 10 ^ 9 ≤ second * n
    zero_below n = omega arith

-- longer ones are numbers all the same, in coarser grains
secs_number : (m : ℕ) → m ≤ millis_most → Number binary64 (secs_from_millis m)
unfolding secs_from_millis
secs_number m h =
    let r = m % 1000 in
    let q = m / 1000 in
    let e = div-add-mod' m 1000 in
    let b = mod-lt m (zero-lt-suc 999) in
    (sum_in 40 (2 ^ 40 * q) (2 ^ 40 * q) 0 (2 ^ 40) (whole q) (div binary64 (whole (r * 1000000)) (whole (10 ^ 9))) (low_end q r m e h) (high_end q r m e h)
    (whole_in 40 q (lit≤ tt) (few q r m e h))
    (quotient_in 40 (r * 1000000) (10 ^ 9) 0 (2 ^ 40) (lit≤ tt) (few_nanos r b) (lit< tt) (lit< tt) (lit< tt) (lit< tt) (zero_below (r * 1000000)) (most r b))
    ).number
  where
    few : (q r m : ℕ) → q * 1000 + r ≡ m → m ≤ millis_most → q < 2 ^ 53
    few q r m e h = omega arith

    low_end : (q r m : ℕ) → q * 1000 + r ≡ m → m ≤ millis_most → 2 ^ 40 * q + 0 < grains_most
    low_end q r m e h = omega arith

    high_end : (q r m : ℕ) → q * 1000 + r ≡ m → m ≤ millis_most → 2 ^ 40 * q + 2 ^ 40 < grains_most
    high_end q r m e h = omega arith

    zero_below : (n : ℕ) → 0 * 10 ^ 9 ≤ 2 ^ 40 * n
    zero_below n = omega arith

    most : (r : ℕ) → r < 1000 → 2 ^ 40 * (r * 1000000) ≤ 2 ^ 40 * 10 ^ 9
    most r h = omega arith

-- ---- a frame

-- 1 / rate in grains, rounded down
abbrev each : ℕ → ℕ
each rate = second / rate

each_below : (rate : ℕ) → each rate * rate ≤ second * 1
each_below rate = go (each rate * rate) (second % rate) (div-add-mod' second rate)
  where
    go : (x r : ℕ) → x + r ≡ second → x ≤ second * 1
    go x r e = omega arith

each_above : (rate : ℕ) → 0 < rate → second * 1 ≤ (each rate + 1) * rate
each_above rate some = go (each rate) (second % rate) rate (div-add-mod' second rate) (mod-lt second some)
  where
    go : (q r rate : ℕ) → q * rate + r ≡ second → r < rate → second * 1 ≤ (q + 1) * rate
    go q r rate e h = omega arith

each_most : (q rate : ℕ) → least_rate ≤ rate → q * rate ≤ second * 1 → q ≤ frame_most
each_most q rate h k = below q (le_trans (mul-le-mul_left q h) k)
  where
    below : (q : ℕ) → q * least_rate ≤ second * 1 → q ≤ frame_most
    below q h = omega arith

each_least : (q rate : ℕ) → rate ≤ rate_most → second * 1 ≤ (q + 1) * rate → frame_least ≤ q
each_least q rate h k = above q (le_trans k (mul-le-mul_left (q + 1) h))
  where
    above : (q : ℕ) → second * 1 ≤ (q + 1) * rate_most → frame_least ≤ q
    above q h = omega arith

-- ---- chunks

-- A is c chunks in grains at least, q a frame rounded down, s seconds and p grains the fade's length
enough : (A c n q rate m s r p : ℕ) → A ≡ c * n * q → s * 1000 + r ≡ m → p * 1000 ≤ r * second + 1000 → m * second ≤ m * rate * q + m * rate → m * rate * q ≤ 1000 * A
    → m * rate ≤ 1000 * show_frames → frame_least ≤ q * n → second * s + p ≤ A + q * n
enough A c n q rate m s r p a e h k l b f = omega arith

module _ (rate n : ℕ) (low_rate : least_rate ≤ rate) (high_rate : rate ≤ rate_most) (some : 1 ≤ n) (short : n ≤ chunk_frames_most) where
  abbrev q : ℕ
  q = each rate

  positive : 0 < rate
  positive = omega arith

  least_one : frame_least ≤ q
  least_one = each_least q rate high_rate (each_above rate positive)

  most_one : q + 1 ≤ frame_most + 1
  most_one = omega (arith, each_most q rate low_rate (each_below rate))

  same_one : q ≤ frame_most + 1
  same_one = omega (arith, most_one)

  -- k chunks of frames of e grains are few enough
  fits : (k e : ℕ) → k * n ≤ show_frames → e ≤ frame_most + 1 → k * (e * n) < grains_most
  fits k e h l = lt_of_le_of_lt (le_trans (le_of_eq (turn k e n)) (mul-le-mul l h)) (lit< tt)
    where
      turn : (k e n : ℕ) → k * (e * n) ≡ e * (k * n)
      turn k e n = omega arith

  one_fits : (e : ℕ) → e ≤ frame_most + 1 → e * n < grains_most
  one_fits e l = lt_of_le_of_lt (mul-le-mul l short) (lit< tt)

  frame_in : InGrains fineness q (q + 1) (div binary64 (whole 1) (whole rate))
  frame_in =
      quotient_in fineness 1 rate q (q + 1) (lit≤ tt) (lit< tt) (lt_of_le_of_lt high_rate (lit< tt)) positive (lt_of_le_of_lt same_one (lit< tt)) (lt_of_le_of_lt most_one (lit< tt)) (each_below rate)
      (each_above rate positive)

  chunk_in : InGrains fineness (q * n) ((q + 1) * n) (chunk_time rate n)
  chunk_in = product_in fineness q (q + 1) n (div binary64 (whole 1) (whole rate)) (lt_of_le_of_lt short (lit< tt)) (one_fits q same_one) (one_fits (q + 1) most_one) frame_in

  sum_chunks : (k : ℕ) → k * n ≤ show_frames → InGrains fineness (k * (q * n)) (k * ((q + 1) * n)) (sum (chunk_time rate n) k)
  sum_chunks k h = sums_in fineness (q * n) ((q + 1) * n) (chunk_time rate n) chunk_in k (fits k q h same_one) (fits k (q + 1) h most_one)

  -- ---- what is reached stays reached

  fewer : (k : ℕ) → suc k * n ≤ show_frames → k * n ≤ show_frames
  fewer k h = omega arith

  pub reached_stays : (m k : ℕ) → m ≤ millis_most → suc k * n ≤ show_frames → T (le (secs_from_millis m) (sum (chunk_time rate n) k)) → T (le (secs_from_millis m) (sum (chunk_time rate n) (suc k)))
  unfolding upto
  reached_stays m k few h t =
      let now = (sum_chunks k (fewer k h)).number in
      le_through binary64 (secs_from_millis m) (sum (chunk_time rate n) k) (add binary64 (sum (chunk_time rate n) k) (chunk_time rate n)) (secs_number m few) now (sum_chunks (suc k) h).number t
      (sum_grows (sum (chunk_time rate n) k) (chunk_time rate n) now chunk_in.number chunk_in.none)

  -- ---- c + 1 chunks reach m milliseconds, where c chunks of exact length would

  module _ (c m : ℕ) (lasts : (c + 1) * n ≤ show_frames) (covers : m * rate ≤ c * n * 1000) where
    chunks_few : c * n ≤ show_frames
    chunks_few = le_trans (less c n) lasts
      where
        less : (c n : ℕ) → c * n ≤ (c + 1) * n
        less c n = omega arith

    millis_rate : m * rate ≤ 1000 * show_frames
    millis_rate = le_trans covers (le_trans (mul-le-mul_right 1000 chunks_few) (lit≤ tt))

    millis_few : m ≤ short_fade
    millis_few = below m (le_trans (mul-le-mul_left m low_rate) millis_rate)
      where
        below : (m : ℕ) → m * least_rate ≤ 1000 * show_frames → m ≤ short_fade
        below m h = omega arith

    grains_enough : second * (m / 1000) + part (m % 1000) ≤ (c + 1) * (q * n)
    grains_enough =
        le_trans
        (enough (c * n * q) c n q rate m (m / 1000) (m % 1000) (part (m % 1000)) refl (div-add-mod' m 1000) (part_few (m % 1000))
        (le_trans (le_of_eq (once m)) (le_trans (mul-le-mul_left m (each_above rate positive)) (le_of_eq (spread m rate q))))
        (le_trans (mul-le-mul_right q covers) (le_of_eq (thousand c n q)))
        millis_rate
        (le_trans least_one (le_trans (le_of_eq (single q)) (mul-le-mul_left q some))))
        (le_of_eq (gather c n q))
      where
        once : (m : ℕ) → m * second ≡ m * (second * 1)
        once m = omega arith

        spread : (m rate q : ℕ) → m * ((q + 1) * rate) ≡ m * rate * q + m * rate
        spread m rate q = omega arith

        thousand : (c n q : ℕ) → c * n * 1000 * q ≡ 1000 * (c * n * q)
        thousand c n q = omega arith

        single : (q : ℕ) → q ≡ q * 1
        single q = omega arith

        gather : (c n q : ℕ) → c * n * q + q * n ≡ (c + 1) * (q * n)
        gather c n q = omega arith

    pub fade_over : T (le (secs_from_millis m) (sum (chunk_time rate n) (c + 1)))
    fade_over =
        grains_le fineness (second * (m / 1000) + 0) (second * (m / 1000) + part (m % 1000)) ((c + 1) * (q * n)) ((c + 1) * ((q + 1) * n)) (secs_from_millis m) (sum (chunk_time rate n) (c + 1))
        (secs_in m millis_few) (sum_chunks (c + 1) lasts) grains_enough

-- ---- c, by the head

-- the chunks of a fade are at least as long
pub fade_covered : (h : Head) (m : ℕ) → 1 ≤ h.buffer → m * h.rate ≤ fade_chunks h m * h.buffer * 1000
unfolding fade_chunks
fade_covered h m some =
    le_trans (up (m * h.rate) (1000 * h.buffer) (fade_chunks h m * (1000 * h.buffer)) (thousands h.buffer some) (lt-div-mul-add (thousands h.buffer some)))
    (le_of_eq (turn (fade_chunks h m) h.buffer))
  where
    thousands : (n : ℕ) → 1 ≤ n → 1 ≤ 1000 * n
    thousands n h = omega arith

    up : (X D Q : ℕ) → 1 ≤ D → X + (D - 1) < Q + D → X ≤ Q
    up X D Q h k = omega arith

    turn : (c n : ℕ) → c * (1000 * n) ≡ c * n * 1000
    turn c n = omega arith
