-- Totals of mixes one after another: counts and sums add, the first of the largest stays, and what was read in pieces is what stands in the list.
-- Every total fits 64 bits. Assumes nothing.
use mathlib.Core.Logic.{inl, inr}
use mathlib.Core.Path.{◌≡◌, refl, sym, ap, ◌∙◌, subst}
use mathlib.Core.Bool.{Bool, true, false, cond, ◌||◌, true≢false}
use mathlib.Core.List.{List, [], ◌∷◌, ◌++◌, append_assoc, append-nil}
use Prim.Native.Nat.{ℕ, zero, suc, ◌+◌, ◌*◌, ◌%◌, ◌^◌, ◌≤◌, ◌<◌, min}
use native.Mathlib.Nat.{div-le_self}
use native.Mathlib.Decide.{dec_le}
use native.Mathlib.Omega.{arith}
use borrow.Author.Tests.{ltb-true, ltb-false, eqb-true, eqb-false, ne_eqb}
use lib.Dec.{eqb, ltb}
use lib.IntN.{pos, neg_ℤ, nat_abs}
use lib.ListN.{length, length-append}
use lib.Ieee.{Float, nan, inf, fin, binary32, of_bits, up, down}
use Rattle.laws.specs.Count.{if_picked}
use Rattle.rounding.specs.Nearest.{nearest_quotient}
use Rattle.pcm.specs.Sample.{nearest16}
use Rattle.month.specs.declared.totals.Peak.{Peak}
use Rattle.month.specs.declared.totals.Totals.{Totals}
use Rattle.month.specs.Month.{most_mixes, most_samples, magnitude, is_full, square, sum_of, full, squares, no_peak, higher, peak_in, Mix, samples_of, frames, peak_from, totals, Short, Added, FitsIn64}
use Rattle.month.specs.Piece.{square_most, no_totals, with_samples, with_mix}
use Rattle.month.proofs.laws.Words.{sum_append, sum_most}
use Rattle.month.proofs.laws.Peaks.{kept_peak, new_peak, piece_peak, none_in}
use Rattle.month.proofs.laws.Range.{square_room}

-- ---- totals, by their parts

-- totals with some samples, of what was counted and summed
pub samples_told : (t : Totals) (before : ℕ) (ws : List ℕ) {q : Peak} {f s : ℕ} → q ≡ higher t.peak (peak_in (t.mixes + 1) before ws) → f ≡ full ws → s ≡ squares ws
    → with_samples t before ws ≡ record { mixes = t.mixes; frames = t.frames; full = t.full + f; peak = q; squares = t.squares + s }
unfolding with_samples
samples_told t before ws p e h = cc

-- ---- the first of the largest, of three

higher_none : (q : Peak) → higher no_peak q ≡ q
higher_none q = sym (new_peak no_peak q (inl refl))

-- where there is no peak, it has no bits
abbrev pub Sound : Peak → Type 0
Sound q = q.mix ≡ 0 → q.bits ≡ 0

or_second : (a b : Bool) → a || b ≡ false → b ≡ false
or_second true b e = absurd (true≢false e)
or_second false b e = e

or_left : (a b : Bool) → a ≡ false → a || b ≡ true → b ≡ true
or_left true b e f = absurd (true≢false e)
or_left false b e f = f

chosen : (q r : Peak) → eqb q.mix 0 || ltb q.bits r.bits ≡ true → higher q r ≡ r
unfolding higher
chosen q r e = ap (λ (b : Bool). cond b r q) e

stayed : (q r : Peak) → eqb q.mix 0 || ltb q.bits r.bits ≡ false → higher q r ≡ q
unfolding higher
stayed q r e = ap (λ (b : Bool). cond b r q) e

module _ (p q r : Peak) where
  -- the first stays
  first_stays : (p.mix ≡ 0 → ⊥) → q.bits ≤ p.bits → higher (higher p q) r ≡ higher p (higher q r)
  first_stays P k = ap (λ (x : Peak). higher x r) (sym (kept_peak p q P k)) ∙ go (eqb q.mix 0 || ltb q.bits r.bits) refl
    where
      go : (t : Bool) → eqb q.mix 0 || ltb q.bits r.bits ≡ t → higher p r ≡ higher p (higher q r)
      go true e = ap (higher p) (sym (chosen q r e))
      go false e = sym (kept_peak p r P (omega (arith, ltb-false q.bits r.bits (or_second (eqb q.mix 0) (ltb q.bits r.bits) e)))) ∙ kept_peak p q P k ∙ ap (higher p) (sym (stayed q r e))

  second_wins : (q.mix ≡ 0 → ⊥) → p.bits < q.bits → higher (higher p q) r ≡ higher p (higher q r)
  second_wins Q k = ap (λ (x : Peak). higher x r) (sym (new_peak p q (inr k))) ∙ go (eqb q.mix 0 || ltb q.bits r.bits) refl
    where
      go : (t : Bool) → eqb q.mix 0 || ltb q.bits r.bits ≡ t → higher q r ≡ higher p (higher q r)
      go true e = chosen q r e ∙ new_peak p r (inr (omega (arith, ltb-true q.bits r.bits (or_left (eqb q.mix 0) (ltb q.bits r.bits) (ne_eqb q.mix 0 Q) e)))) ∙ ap (higher p) (sym (chosen q r e))
      go false e = stayed q r e ∙ new_peak p q (inr k) ∙ ap (higher p) (sym (stayed q r e))

  pub higher_assoc : Sound q → higher (higher p q) r ≡ higher p (higher q r)
  higher_assoc S = go (eqb p.mix 0) refl
    where
      go : (t : Bool) → eqb p.mix 0 ≡ t → higher (higher p q) r ≡ higher p (higher q r)
      go true e =
          let z = eqb-true p.mix 0 e in
          ap (λ (x : Peak). higher x r) (sym (new_peak p q (inl z))) ∙ new_peak p (higher q r) (inl z)
      go false e =
          let P = eqb-false p.mix 0 e in
          elim (dec_le q.bits p.bits) [
            | yes k ↦ first_stays P k
            | no k ↦ second_wins (λ z. omega (arith, S z)) (omega arith)
          ]

-- ---- counts and sums

pub full_append : (xs ys : List ℕ) → full (xs ++ ys) ≡ full xs + full ys
unfolding full
full_append xs ys = sum_append (λ w. if_picked (is_full w)) xs ys

pub squares_append : (xs ys : List ℕ) → squares (xs ++ ys) ≡ squares xs + squares ys
unfolding squares
squares_append xs ys = sum_append square xs ys

-- ---- pieces of a mix

sound_in : (mix before : ℕ) (ws : List ℕ) → 1 ≤ mix → Sound (peak_in mix before ws)
sound_in mix before [] M e = ap (λ (p : Peak). p.bits) (none_in mix before)
sound_in mix before (w ∷ ws) M e = absurd (omega (arith, ap (λ (p : Peak). p.mix) (piece_peak mix before (w ∷ ws) M (omega arith))))

pub peak_append : (mix before : ℕ) (xs ys : List ℕ) → 1 ≤ mix → peak_in mix before (xs ++ ys) ≡ higher (peak_in mix before xs) (peak_in mix (before + length xs) ys)
unfolding peak_in
peak_append mix before [] ys M = ap (λ (k : ℕ). peak_in mix k ys) (omega arith) ∙ sym (higher_none (peak_in mix (before + 0) ys))
peak_append mix before (w ∷ xs) ys M =
    ap (higher (record { bits = magnitude w; mix = mix; sample = suc before })) (peak_append mix (suc before) xs ys M)
    ∙ sym (higher_assoc (record { bits = magnitude w; mix = mix; sample = suc before }) (peak_in mix (suc before) xs) (peak_in mix (suc before + length xs) ys) (sound_in mix (suc before) xs M))
    ∙ ap (λ (k : ℕ). higher (peak_in mix before (w ∷ xs)) (peak_in mix k ys)) (omega arith)

-- a mix alone
peak_alone : (mix before : ℕ) (ws : List ℕ) → 1 ≤ mix → higher (peak_in mix before ws) no_peak ≡ peak_in mix before ws
peak_alone mix before [] M = ap (λ (p : Peak). higher p no_peak) (none_in mix before) ∙ higher_none no_peak ∙ sym (none_in mix before)
peak_alone mix before (w ∷ ws) M =
    let e = piece_peak mix before (w ∷ ws) M (omega arith) in
    sym (kept_peak (peak_in mix before (w ∷ ws)) no_peak (λ z. omega (arith, ap (λ (p : Peak). p.mix) e)) (omega arith))

pub same_totals : {a a' b b' c c' e e' : ℕ} {d d' : Peak} → a ≡ a' → b ≡ b' → c ≡ c' → d ≡ d' → e ≡ e'
    → ◌≡◌ {A = Totals} (record { mixes = a; frames = b; full = c; peak = d; squares = e }) (record { mixes = a'; frames = b'; full = c'; peak = d'; squares = e' })
same_totals f g h k l = cc

-- what came before with two pieces is what came before with both
pub samples_append : (t : Totals) (before : ℕ) (xs ys : List ℕ) → with_samples (with_samples t before xs) (before + length xs) ys ≡ with_samples t before (xs ++ ys)
unfolding with_samples
samples_append t before xs ys =
    same_totals refl refl
    (omega (arith, full_append xs ys))
    (higher_assoc t.peak (peak_in (t.mixes + 1) before xs) (peak_in (t.mixes + 1) (before + length xs) ys) (sound_in (t.mixes + 1) before xs (omega arith))
    ∙ ap (higher t.peak) (sym (peak_append (t.mixes + 1) before xs ys (omega arith))))
    (omega (arith, squares_append xs ys))

-- ---- mixes

pub samples_of_append : (ms ns : List Mix) → samples_of (ms ++ ns) ≡ samples_of ms ++ samples_of ns
unfolding samples_of
samples_of_append [] ns = refl
samples_of_append (m ∷ ms) ns = ap (λ (l : List ℕ). m.samples ++ l) (samples_of_append ms ns) ∙ sym (append_assoc m.samples (samples_of ms) (samples_of ns))

pub frames_append : (ms ns : List Mix) → frames (ms ++ ns) ≡ frames ms + frames ns
unfolding frames
frames_append [] ns = omega arith
frames_append (m ∷ ms) ns = omega (arith, frames_append ms ns)

sound_higher : (p q : Peak) → Sound p → Sound q → Sound (higher p q)
sound_higher p q P Q = go (eqb p.mix 0 || ltb p.bits q.bits) refl
  where
    go : (t : Bool) → eqb p.mix 0 || ltb p.bits q.bits ≡ t → Sound (higher p q)
    go true e = subst Sound (sym (chosen p q e)) Q
    go false e = subst Sound (sym (stayed p q e)) P

sound_from : (k : ℕ) (ms : List Mix) → Sound (peak_from k ms)
unfolding peak_from
sound_from k [] = λ e. refl
sound_from k (m ∷ ms) = sound_higher (peak_in (suc k) 0 m.samples) (peak_from (suc k) ms) (sound_in (suc k) 0 m.samples (omega arith)) (sound_from (suc k) ms)

pub peak_from_append : (k : ℕ) (ms ns : List Mix) → peak_from k (ms ++ ns) ≡ higher (peak_from k ms) (peak_from (k + length ms) ns)
unfolding peak_from
peak_from_append k [] ns = ap (λ (j : ℕ). peak_from j ns) (omega arith) ∙ sym (higher_none (peak_from (k + 0) ns))
peak_from_append k (m ∷ ms) ns =
    ap (higher (peak_in (suc k) 0 m.samples)) (peak_from_append (suc k) ms ns)
    ∙ sym (higher_assoc (peak_in (suc k) 0 m.samples) (peak_from (suc k) ms) (peak_from (suc k + length ms) ns) (sound_from (suc k) ms))
    ∙ ap (λ (j : ℕ). higher (peak_from k (m ∷ ms)) (peak_from j ns)) (omega arith)

pub totals_add : (ms ns : List Mix) → Added (totals ms) (totals ns) (totals (ms ++ ns))
unfolding totals
totals_add ms ns =
    let s = samples_of_append ms ns in
    record {
      mixes = length-append ms ns;
      frames = frames_append ms ns;
      full = ap full s ∙ full_append (samples_of ms) (samples_of ns);
      squares = ap squares s ∙ squares_append (samples_of ms) (samples_of ns);
    }

higher_left : (ms : List Mix) (k : ℕ) → higher (peak_from k ms) no_peak ≡ peak_from k ms
unfolding peak_from
higher_left [] k = higher_none no_peak
higher_left (m ∷ ms) k =
    higher_assoc (peak_in (suc k) 0 m.samples) (peak_from (suc k) ms) no_peak (sound_from (suc k) ms)
    ∙ ap (higher (peak_in (suc k) 0 m.samples)) (higher_left ms (suc k))

-- no sample of the next mix
pub nothing_more : (ms : List Mix) → totals ms ≡ with_samples (totals ms) 0 []
unfolding with_samples totals full squares sum_of peak_in
nothing_more ms = same_totals refl refl (omega arith) (sym (higher_left ms 0)) (omega arith)

pub totals_none : totals [] ≡ no_totals
unfolding totals frames full squares sum_of samples_of peak_from
totals_none = refl

-- one mix more
pub totals_next : (ms : List Mix) (m : Mix) → totals (ms ++ (m ∷ [])) ≡ with_mix (with_samples (totals ms) 0 m.samples) (length m.samples) m.channels
unfolding with_mix with_samples totals frames samples_of peak_from
totals_next ms m =
    let s = samples_of_append ms (m ∷ []) ∙ ap (λ (l : List ℕ). samples_of ms ++ l) (append-nil m.samples) in
    same_totals (length-append ms (m ∷ []))
    (omega (arith, frames_append ms (m ∷ [])))
    (ap full s ∙ full_append (samples_of ms) m.samples)
    (peak_from_append 0 ms (m ∷ [])
    ∙ ap (higher (peak_from 0 ms)) (peak_alone (suc (0 + length ms)) 0 m.samples (omega arith) ∙ ap (λ (k : ℕ). peak_in k 0 m.samples) (omega arith)))
    (ap squares s ∙ squares_append (samples_of ms) m.samples)

-- ---- every total fits 64 bits

distance_most : (x : Float) → nat_abs (nearest16 x) ≤ 32768
unfolding nearest16
distance_most nan = omega arith
distance_most (inf s) = omega arith
distance_most (fin false m e) = omega arith
distance_most (fin true m e) = negated (min (nearest_quotient (m * up e * 32768) (down e)) 32768) (omega arith)
  where
    negated : (n : ℕ) → n ≤ 32768 → nat_abs (neg_ℤ (pos n)) ≤ 32768
    negated zero h = omega arith
    negated (suc n) h = h

square_most_lem : (w : ℕ) → square w ≤ square_most
unfolding square
square_most_lem w = square_room (nat_abs (nearest16 (of_bits binary32 w))) (distance_most (of_bits binary32 w))

picked_most : (w : ℕ) → if_picked (is_full w) ≤ 1
picked_most w = go (is_full w)
  where
    go : (b : Bool) → if_picked b ≤ 1
    go true = omega arith
    go false = omega arith

pub full_most : (ws : List ℕ) → full ws ≤ length ws
unfolding full
full_most ws = omega (arith, sum_most (λ w. if_picked (is_full w)) 1 ws picked_most)

pub squares_most : (ws : List ℕ) → squares ws ≤ length ws * square_most
unfolding squares
squares_most ws = sum_most square square_most ws square_most_lem

pub count_most : (ms : List Mix) → Short ms → length (samples_of ms) ≤ length ms * most_samples
unfolding samples_of
count_most [] S = omega arith
count_most (m ∷ ms) S = omega (arith, length-append m.samples (samples_of ms), count_most ms S.1, S.0)

pub frames_most : (ms : List Mix) → frames ms ≤ length (samples_of ms)
unfolding frames samples_of
frames_most [] = omega arith
frames_most (m ∷ ms) = omega (arith, length-append m.samples (samples_of ms), frames_most ms, div-le_self (length m.samples) m.channels)

pub record PeakWithin (p : Peak) (m n : ℕ) : Type 0 where
  pub bits : p.bits < 2 ^ 31
  pub mix : p.mix ≤ m
  pub sample : p.sample ≤ n

higher_within : (p q : Peak) (m n : ℕ) → PeakWithin p m n → PeakWithin q m n → PeakWithin (higher p q) m n
higher_within p q m n P Q = go (eqb p.mix 0 || ltb p.bits q.bits) refl
  where
    go : (t : Bool) → eqb p.mix 0 || ltb p.bits q.bits ≡ t → PeakWithin (higher p q) m n
    go true e = subst (λ (x : Peak). PeakWithin x m n) (sym (chosen p q e)) Q
    go false e = subst (λ (x : Peak). PeakWithin x m n) (sym (stayed p q e)) P

none_within : (m n : ℕ) → PeakWithin no_peak m n
none_within m n = record { bits = omega arith; mix = omega arith; sample = omega arith }

wider : {p : Peak} {m n m' n' : ℕ} → m ≤ m' → n ≤ n' → PeakWithin p m n → PeakWithin p m' n'
wider h k P = record { bits = P.bits; mix = omega (arith, P.mix); sample = omega (arith, P.sample) }

in_within : (mix before : ℕ) (ws : List ℕ) → PeakWithin (peak_in mix before ws) mix (before + length ws)
unfolding peak_in magnitude
in_within mix before [] = none_within mix (before + 0)
in_within mix before (w ∷ ws) =
    higher_within (record { bits = w % 2 ^ 31; mix = mix; sample = suc before }) (peak_in mix (suc before) ws) mix (before + suc (length ws))
    (record { bits = omega arith; mix = omega arith; sample = omega arith })
    (wider (omega arith) (omega arith) (in_within mix (suc before) ws))

from_within : (k : ℕ) (ms : List Mix) → Short ms → PeakWithin (peak_from k ms) (k + length ms) most_samples
unfolding peak_from
from_within k [] S = none_within (k + 0) most_samples
from_within k (m ∷ ms) S =
    higher_within (peak_in (suc k) 0 m.samples) (peak_from (suc k) ms) (k + suc (length ms)) most_samples
    (wider (omega arith) (omega (arith, S.0)) (in_within (suc k) 0 m.samples))
    (wider (omega arith) (omega arith) (from_within (suc k) ms S.1))

pub totals_fit : (ms : List Mix) → length ms ≤ most_mixes → Short ms → FitsIn64 (totals ms)
unfolding totals
totals_fit ms h S =
    let n = count_most ms S in
    let p = from_within 0 ms S in
    record {
      mixes = omega arith;
      frames = omega (arith, frames_most ms);
      full = omega (arith, full_most (samples_of ms));
      bits = omega (arith, p.bits);
      mix = omega (arith, p.mix);
      sample = omega (arith, p.sample);
      squares = omega (arith, squares_most (samples_of ms));
    }
