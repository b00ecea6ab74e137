-- Laws of held tracks, as the code asks for them. Assumes nothing.
use mathlib.Core.Path.{◌≡◌, refl, sym, ◌∙◌, ap}
use mathlib.Core.Bool.{Bool, true, false, cond, not}
use mathlib.Core.List.{List}
use Prim.Native.Nat.{ℕ, suc, ◌+◌, ◌≤◌}
use native.Mathlib.Omega.{arith}
use borrow.Author.Tests.{eq-eqb, ne_eqb, not-true, not-false}
use mir.Val.{bool_byte}
use lib.Dec.{eqb, lit<}
use lib.ListN.{get_or}
use Rattle.laws.specs.Loop.{upto}
use Rattle.laws.proofs.laws.Loop.{upto_zero, upto_next}
use Rattle.scene_tables.specs.Bytes.{every}
use Rattle.scene_tables.specs.Tables.{raised, orders, order_column, order_kind}
use Rattle.scene_questions.specs.Questions.{Tables, rows_at, lines_at, cell}
use Rattle.scene_questions.specs.Places.{stored}
use Rattle.noninterference.specs.Silent.{names, pauses_or_resumes, is_holding, held}
use Rattle.scene.proofs.laws.TablesInPlaces.{lines_placed}

-- ---- an order that pauses or resumes

module _ (ts : Tables) (t i : ℕ) (a : Bool) (isa : a ≡ names ts order_kind.pause t i) where
  pub is_pause : a ≡ true → true ≡ pauses_or_resumes ts t i
  unfolding pauses_or_resumes
  is_pause h = rw (← isa, h)

  pub is_resume : a ≡ false → (b : Bool) → b ≡ names ts order_kind.resume t i → b ≡ pauses_or_resumes ts t i
  unfolding pauses_or_resumes
  is_resume h b e = rw (← isa, h) e

  -- ---- the pause that holds: each field in turn

  pub no_pause : not a ≡ true → false ≡ is_holding ts t i
  unfolding is_holding
  no_pause h = rw (← isa, not-true a h)

  module _ (yes_a : not a ≡ false) (b : ℕ) (isb : b ≡ cell (rows_at ts orders) i order_column.block) where
    pub later_block : (b ≡ raised 0 → ⊥) → false ≡ is_holding ts t i
    unfolding is_holding
    later_block h = rw (← isa, not-false a yes_a, ← isb, ne_eqb b (raised 0) h)

    module _ (b0 : b ≡ raised 0) (k : ℕ) (isk : k ≡ cell (rows_at ts orders) i order_column.clock) where
      pub has_clock : (k ≡ raised 0 → ⊥) → false ≡ is_holding ts t i
      unfolding is_holding
      has_clock h = rw (← isa, not-false a yes_a, ← isb, eq-eqb b (raised 0) b0, ← isk, ne_eqb k (raised 0) h)

      module _ (k0 : k ≡ raised 0) (w : ℕ) (isw : w ≡ cell (rows_at ts orders) i order_column.when) where
        pub waits : (w ≡ raised 0 → ⊥) → false ≡ is_holding ts t i
        unfolding is_holding
        waits h = rw (← isa, not-false a yes_a, ← isb, eq-eqb b (raised 0) b0, ← isk, eq-eqb k (raised 0) k0, ← isw, ne_eqb w (raised 0) h)

        pub by_millis : w ≡ raised 0 → (m : ℕ) → m ≡ cell (rows_at ts orders) i order_column.millis → eqb m (raised 0) ≡ is_holding ts t i
        unfolding is_holding
        by_millis w0 m ism =
            rw (← isa, not-false a yes_a, ← isb, eq-eqb b (raised 0) b0, ← isk, eq-eqb k (raised 0) k0, ← isw, eq-eqb w (raised 0) w0, ← ism)

-- ---- how many there are

-- one order more
abbrev pub or_more : Tables → ℕ → ℕ → ℕ → ℕ
or_more ts t i n = cond (pauses_or_resumes ts t i) (suc n) n

module _ (ts : Tables) (t : ℕ) where
  pub count_begins : 0 ≡ upto (or_more ts t) 0 0
  count_begins = sym (upto_zero (or_more ts t) 0)

  pub one_or_none : (i : ℕ) {b : Bool} {m : ℕ} → b ≡ pauses_or_resumes ts t i → m ≡ bool_byte b → m ≡ cond (pauses_or_resumes ts t i) 1 0
  one_or_none i {b} e q = q ∙ by_case b ∙ ap (λ (x : Bool). cond x 1 0) e
    where
      by_case : (b : Bool) → bool_byte b ≡ cond b 1 0
      by_case true = refl
      by_case false = refl

  pub one_at_most : (i m : ℕ) → m ≡ cond (pauses_or_resumes ts t i) 1 0 → m ≤ 1
  one_at_most i m e = go (pauses_or_resumes ts t i) e
    where
      go : (b : Bool) → m ≡ cond b 1 0 → m ≤ 1
      go true h = omega (arith, h)
      go false h = omega (arith, h)

  pub count_turn : (i n m : ℕ) → n ≡ upto (or_more ts t) i 0 → m ≡ cond (pauses_or_resumes ts t i) 1 0 → n + m ≡ upto (or_more ts t) (i + 1) 0
  count_turn i n m e q = go (pauses_or_resumes ts t i) q ∙ ap (or_more ts t i) e ∙ sym (upto_next (or_more ts t) i 0)
    where
      go : (b : Bool) → m ≡ cond b 1 0 → n + m ≡ cond b (suc n) n
      go true h = omega (arith, h)
      go false h = omega (arith, h)

pub count_ends : (starts counts v : List ℕ) (t i n : ℕ) → get_or counts orders 0 ≤ i → i ≤ get_or counts orders 0 → n ≡ upto (or_more (stored starts counts v) t) i 0
    → n ≡ upto (or_more (stored starts counts v) t) (lines_at (stored starts counts v) orders) 0
count_ends starts counts v t i n h k e =
    let q : i ≡ get_or counts orders 0 = omega arith in
    e ∙ ap (λ (m : ℕ). upto (or_more (stored starts counts v) t) m 0) (q ∙ sym (lines_placed starts counts v orders (lit< tt)))

-- ---- of them exactly one, and it holds

abbrev pub hold_test : Tables → ℕ → ℕ → Bool
hold_test ts t i = cond (pauses_or_resumes ts t i) (is_holding ts t i) true

module _ (ts : Tables) (t n : ℕ) (isn : n ≡ upto (or_more ts t) (lines_at ts orders) 0) where
  pub none_or_several : (n ≡ 1 → ⊥) → false ≡ held ts t
  unfolding held
  none_or_several h = rw (← isn, ne_eqb n 1 h)

  pub held_by_one : n ≡ 1 → (b : Bool) → b ≡ every (lines_at ts orders) (hold_test ts t) → b ≡ held ts t
  unfolding held
  held_by_one h b e = rw (← isn, eq-eqb n 1 h) e
