-- One turn of the loop over the levels. Assumes nothing.
use mathlib.Core.Path.{◌≡◌, refl, sym, ap, ◌∙◌}
use mathlib.Core.Bool.{true, false}
use mathlib.Core.List.{List}
use Rattle.std.specs.Prelude.{None, Some}
use Prim.Native.Nat.{ℕ, ◌+◌, ◌<◌}
use lib.Dec.{T}
use lib.ListN.{length, get_or, set}
use lib.Seq.{set-get_or}
use lib.Ieee.{Float, nan, inf, fin, le, is_nan}
use Rattle.laws.proofs.laws.Choice.{cond-true, cond-false, true-T}
use Rattle.laws.specs.Loop.{changed}
use Rattle.laws.proofs.laws.Loop.{changed_turn}
use Rattle.decibels.specs.Decibels.{amplitude, admitted, limit}
use Rattle.decibels.specs.Answer.{Answer, amplitude_answer, written_over}
use Rattle.test_amplitude_bench.specs.Amplitudes.{written_at}

-- the code's test is the question's, since a NaN is at most nothing
test : (n : Float) → admitted n ≡ le n limit
unfolding admitted is_nan le
test nan = refl
test (inf s) = refl
test (fin s m e) = refl

pub is_admitted : (n : Float) → le n limit ≡ true → T (admitted n)
is_admitted n t = true-T (admitted n) (test n ∙ t)

module _ (levels : List Float) (i : ℕ) (old : Float) where
  abbrev n : Float
  n = get_or levels i nan

  given : le n limit ≡ true → amplitude n ≡ written_at levels i old
  unfolding written_at amplitude_answer written_over
  given t =
      sym (ap (λ (z : Answer). written_over z.value old)
      (cond-true (admitted n) (record { number = 0; value = Some (amplitude n) }) (record { number = 11; value = None }) (test n ∙ t)))

  refused : le n limit ≡ false → old ≡ written_at levels i old
  unfolding written_at amplitude_answer written_over
  refused t =
      sym (ap (λ (z : Answer). written_over z.value old)
      (cond-false (admitted n) (record { number = 0; value = Some (amplitude n) }) (record { number = 11; value = None }) (test n ∙ t)))

-- the two ways of a turn, from the list as it stands to the list at the next one
module _ (levels l now : List Float) (i : ℕ) (h : i < length l) (e : now ≡ changed (written_at levels) i l) where
  pub turn_given : (a : Float) → le (get_or levels i nan) limit ≡ true → a ≡ amplitude (get_or levels i nan) → set now i a ≡ changed (written_at levels) (i + 1) l
  turn_given a t r =
      ap (set now i) (r ∙ given levels i (get_or now i nan) t)
      ∙ changed_turn (written_at levels) i l nan h e

  pub turn_refused : le (get_or levels i nan) limit ≡ false → now ≡ changed (written_at levels) (i + 1) l
  turn_refused t =
      sym (set-get_or now i nan)
      ∙ ap (set now i) (refused levels i (get_or now i nan) t)
      ∙ changed_turn (written_at levels) i l nan h e
