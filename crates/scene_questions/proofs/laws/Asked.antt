-- What `all` over a range of numbers answers, as `every`. Assumes nothing.
use mathlib.Core.Path.{◌≡◌, refl, ap, ap₂, ◌∙◌}
use mathlib.Core.Bool.{Bool, true, false, ◌&&◌}
use mathlib.Core.List.{List}
use Prim.Native.Nat.{ℕ, zero, suc, ◌+◌}
use native.Mathlib.Nat.{add-zero}
use native.Mathlib.Omega.{arith}
use denote.Param.Members.{Mut}
use Rattle.std.specs.declared.option.Option.{Option}
use Rattle.std.specs.declared.ops.Range.{Range}
use Rattle.std.specs.Iterator.{YieldsThen}
use Rattle.std.specs.List.{FoldsTo, list_all, range_with_len}
use Rattle.std.specs.Fn.{Called}
use Rattle.std.specs.Option.{MatchOption}
use Rattle.std.proofs.lemmas.Iterator.{YieldsList-from_range}
use Rattle.std.proofs.lemmas.Iterator.Search.{all_from_yields_List}
use Rattle.std.proofs.iter.Yields.{nat_range_steps}
use Rattle.scene_tables.specs.Bytes.{every}

and_true : (b : Bool) → (b && true) ≡ (true && b)
and_true true = refl
and_true false = refl

and_assoc : (a b c : Bool) → (a && (b && c)) ≡ ((a && b) && c)
and_assoc true b c = refl
and_assoc false b c = refl

-- a test of the numbers from a on, and the same of one number more
later : (a n : ℕ) (test : ℕ → Bool) → list_all test (range_with_len a (suc n)) ≡ (list_all test (range_with_len a n) && test (a + n))
later a zero test = rw (add-zero a) (and_true (test a))
later a (suc n) test =
    let e : a + 1 + n ≡ a + suc n = omega arith in
    ap (λ b. test a && b) (later (a + 1) n test ∙ ap (λ m. list_all test (range_with_len (a + 1) n) && test m) e)
    ∙ and_assoc (test a) (list_all test (range_with_len (a + 1) n)) (test (a + suc n))

every_is : (n : ℕ) (test : ℕ → Bool) → list_all test (range_with_len 0 n) ≡ every n test
unfolding every
every_is zero test = refl
every_is (suc n) test = let e : 0 + n ≡ n = omega arith in later 0 n test ∙ ap₂ (λ b m. b && test m) (every_is n test) e

module _ {F : Type 0} {g : Mut F (ℕ × Unit {0}) Bool} where
  pub every_from_all : (n : ℕ) (test : ℕ → Bool) (u : Range ℕ) (f : F) (r : Bool)
      → (xs : List ℕ) × (o : Option ℕ) × (j : F) × YieldsThen nat_range_steps (record { start = 0; end = n }) xs o u × FoldsTo (λ p x q. Called g p (x, tt) true q) f xs j × MatchOption o (r ≡ true) (λ x. (r ≡ false) × ((h : F) × Called g j (x, tt) false h))
      → ((x : ℕ) (b : Bool) (q : F) → Called g f (x, tt) b q → (q ≡ f) × (b ≡ test x)) → r ≡ every n test
  every_from_all n test u f r ran calls = all_from_yields_List test u f r ran (YieldsList-from_range 0 n n refl (omega arith)) calls ∙ every_is n test
