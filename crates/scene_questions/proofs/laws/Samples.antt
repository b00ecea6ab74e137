-- Laws of the loops of question 9: four samples at once, and the refused ones of the rest counted. No contract cites them.
use mathlib.Core.Path.{◌≡◌, refl, sym, ◌∙◌, ap, ap₂}
use mathlib.Core.Bool.{Bool, true, false, not, cond, ◌&&◌}
use mathlib.Core.List.{List}
use Prim.Native.Nat.{ℕ, zero, suc, ◌+◌, ◌-◌, ◌*◌, ◌%◌, ◌≤◌}
use native.Mathlib.Nat.{add-zero}
use native.Mathlib.Omega.{arith}
use lib.Bits.{bit_and}
use lib.Lanes.{top}
use Rattle.std.proofs.Common.{nat_eq, drop, get_or-drop, length-drop}
use Rattle.laws.proofs.laws.Choice.{and_left, and_right}
use native.Mathlib.Decide.{ℕ_discrete}
use borrow.Author.Tests.{eq-eqb, ne_eqb, not-false}
use mir.Val.{bool_byte}
use lib.Dec.{eqb}
use lib.ListN.{length, get_or}
use lib.Ieee.{Float, nan}
use Rattle.laws.specs.Count.{counted, if_picked}
use Rattle.laws.proofs.laws.Count.{counted_next, none_picked, some_picked}
use Rattle.scene_tables.specs.Bytes.{every}
use Rattle.scene_questions.specs.Questions.{sample_ok, samples_ok}
use Rattle.scene_tables.proofs.laws.Every.{every_at, every_all, every_passed, every_same}

abbrev pub is_refused : List Float → ℕ → Bool
is_refused samples i = not (sample_ok (get_or samples i nan))

byte_picked : (b : Bool) → bool_byte b ≡ if_picked b
byte_picked true = refl
byte_picked false = refl

module _ (samples : List Float) where
  pub refused_next : (i count more : ℕ) (ok : Bool) → count ≡ counted (is_refused samples) i → ok ≡ sample_ok (get_or samples i nan) → more ≡ bool_byte (not ok) → count + more ≡ counted (is_refused samples) (i + 1)
  refused_next i count more ok c o m = ap₂ (λ (a b : ℕ). a + b) c (m ∙ byte_picked (not ok) ∙ ap (λ b. if_picked (not b)) o) ∙ sym (counted_next (is_refused samples) i)

  pub none_refused : (n : ℕ) → n ≡ counted (is_refused samples) (length samples) → eqb n 0 ≡ samples_ok samples
  unfolding samples_ok
  none_refused n e = elim (ℕ_discrete n 0) [
    | yes z ↦ eq-eqb n 0 z ∙ sym (every_all (length samples) test (λ i l. not-false (test i) (none_picked (is_refused samples) (length samples) (sym e ∙ z) i l)))
    | no d ↦ ne_eqb n 0 d ∙ failed d (every (length samples) test) refl
  ]
    where
      test : ℕ → Bool
      test i = sample_ok (get_or samples i nan)

      failed : (n ≡ 0 → ⊥) → (b : Bool) → every (length samples) test ≡ b → false ≡ b
      failed d true q = absurd (some_picked (is_refused samples) (length samples) (λ z. d (e ∙ z)) (λ i l. ap not (every_at (length samples) test i l q)))
      failed d false q = refl

-- ---- four at once

lane : (a b : Bool) → ◌≡◌ {A = ℕ} (cond (top 31 (bit_and (cond a 4294967295 0) (cond b 4294967295 0))) 1 0) (cond (a && b) 1 0)
lane true true = refl
lane true false = refl
lane false true = refl
lane false false = refl

all_set : (p q r s : Bool) → nat_eq ((cond p 1 0 + 2 * (cond q 1 0 + 2 * (cond r 1 0 + 2 * (cond s 1 0 + 0)))) % 18446744073709551616) 15 ≡ p && q && r && s
all_set true true true true = refl
all_set true true true false = refl
all_set true true false true = refl
all_set true true false false = refl
all_set true false true true = refl
all_set true false true false = refl
all_set true false false true = refl
all_set true false false false = refl
all_set false true true true = refl
all_set false true true false = refl
all_set false true false true = refl
all_set false true false false = refl
all_set false false true true = refl
all_set false false true false = refl
all_set false false false true = refl
all_set false false false false = refl

pub four_set : (a b c d e f g h : Bool)
    → nat_eq ((cond (top 31 (bit_and (cond a 4294967295 0) (cond b 4294967295 0))) 1 0
    + 2 * (cond (top 31 (bit_and (cond c 4294967295 0) (cond d 4294967295 0))) 1 0
    + 2 * (cond (top 31 (bit_and (cond e 4294967295 0) (cond f 4294967295 0))) 1 0
    + 2 * (cond (top 31 (bit_and (cond g 4294967295 0) (cond h 4294967295 0))) 1 0 + 0)))) % 18446744073709551616) 15
    ≡ (a && b) && (c && d) && (e && f) && (g && h)
four_set a b c d e f g h = rw (lane a b, lane c d, lane e f, lane g h) (all_set (a && b) (c && d) (e && f) (g && h))

abbrev pub next_four : (ℕ → Bool) → ℕ → Bool
next_four test n = test n && test (n + 1) && test (n + 2) && test (n + 3)

and_four : {p q r s : Bool} → p ≡ true → q ≡ true → r ≡ true → s ≡ true → (p && q && r && s) ≡ true
and_four e f g h = rw (e, f, g, h)

module _ (test : ℕ → Bool) (n : ℕ) where
  pub four_failed : (m : ℕ) → n + 4 ≤ m → false ≡ next_four test n → false ≡ every m test
  four_failed m h e = go (every m test) refl
    where
      go : (b : Bool) → every m test ≡ b → false ≡ b
      go true k = e ∙ and_four (every_at m test n (omega arith) k) (every_at m test (n + 1) (omega arith) k) (every_at m test (n + 2) (omega arith) k) (every_at m test (n + 3) (omega arith) k)
      go false k = refl

  passed : (i j : ℕ) → j ≡ i + 1 → every i test ≡ true → test i ≡ true → every j test ≡ true
  passed i j e h k = ap (λ (m : ℕ). every m test) e ∙ every_passed i test h k

  pub four_passed : (m : ℕ) → m ≡ n + 4 → every n test ≡ true → next_four test n ≡ true → every m test ≡ true
  four_passed m w h e =
      let p = test n in
      let q = test (n + 1) in
      let r = test (n + 2) in
      let s = test (n + 3) in
      let three = and_left (p && q && r) s e in
      let two = and_left (p && q) r three in
      let first = passed n (n + 1) refl h (and_left p q two) in
      let second = passed (n + 1) (n + 2) (omega arith) first (and_right p q two) in
      let third = passed (n + 2) (n + 3) (omega arith) second (and_right (p && q) r three) in
      passed (n + 3) m (omega (arith, w)) third (and_right (p && q && r) s e)

-- ---- and the rest

every_after : (a b : ℕ) (test : ℕ → Bool) → every a test ≡ true → every (a + b) test ≡ every b (λ i. test (a + i))
unfolding every
every_after a zero test h = ap (λ (n : ℕ). every n test) (add-zero a) ∙ h
every_after a (suc b) test h =
    let e : a + suc b ≡ suc (a + b) = omega arith in
    ap (λ (n : ℕ). every n test) e ∙ ap (λ (t : Bool). t && test (a + b)) (every_after a b test h)

module _ (samples : List Float) (k : ℕ) (K : k ≤ length samples) where
  pub rest_asked : every k (λ i. sample_ok (get_or samples i nan)) ≡ true → samples_ok (drop k samples) ≡ samples_ok samples
  unfolding samples_ok
  rest_asked h =
      let long : length (drop k samples) ≡ length samples - k = length-drop k samples in
      let all : k + (length samples - k) ≡ length samples = omega (arith, K) in
      ap (λ (n : ℕ). every n (λ i. sample_ok (get_or (drop k samples) i nan))) long
      ∙ every_same (length samples - k) (λ i. sample_ok (get_or (drop k samples) i nan)) (λ i. sample_ok (get_or samples (k + i) nan)) (λ i _. ap sample_ok (get_or-drop k samples i nan))
      ∙ sym (every_after k (length samples - k) (λ i. sample_ok (get_or samples i nan)) h)
      ∙ ap (λ (n : ℕ). every n (λ i. sample_ok (get_or samples i nan))) all

  pub fours_failed : false ≡ every k (λ i. sample_ok (get_or samples i nan)) → false ≡ samples_ok samples
  unfolding samples_ok
  fours_failed e = go (every (length samples) (λ i. sample_ok (get_or samples i nan))) refl
    where
      go : (b : Bool) → every (length samples) (λ i. sample_ok (get_or samples i nan)) ≡ b → false ≡ b
      go true q = e ∙ every_all k (λ i. sample_ok (get_or samples i nan)) (λ i l. every_at (length samples) (λ i. sample_ok (get_or samples i nan)) i (omega (arith, K, l)) q)
      go false q = refl
