-- `gain_table::gain_table` meets its contract: antt computes the rule's test at each of the entries, with whole-number powers.
-- Assumes nothing.
use mathlib.Core.Path.{◌≡◌, refl, sym, subst}
use mathlib.Core.Bool.{Bool, not}
use mathlib.Core.List.{List}
use Prim.Native.Nat.{ℕ, suc, ◌<◌}
use lib.Dec.{T}
use lib.ListN.{length, get_or}
use Rattle.laws.proofs.laws.Table.{both, every, at, both_left, both_right}
use Rattle.gain_table.specs.GainTable.{at_most, IsGainTable, entries}
use Rattle.gain_table.proofs.gain_table.Goals as goal

test : ℕ → ℕ → Bool
test n r = both (at_most n r) (not (at_most n (suc r)))

by_test : (l : List ℕ) → length l ≡ entries → T (every test 0 l) → IsGainTable l
unfolding test
by_test l e t = record {
  size = e;
  rule = λ n h.
      let b = at test l t n (subst (λ (k : ℕ). n < k) (sym e) h) in
      record {
        not_above = both_left (at_most n (get_or l n 0)) (not (at_most n (suc (get_or l n 0)))) b;
        largest = both_right (at_most n (get_or l n 0)) (not (at_most n (suc (get_or l n 0)))) b;
      };
}

pub returns : goal.returns
unfolding test at_most
returns c = by_test _ refl tt
