-- Some lines of a table of orders are kept: which of them count. Assumes nothing.
use mathlib.Core.Path.{◌≡◌, refl, sym, ap, ◌∙◌}
use mathlib.Core.Logic.{◌⊎◌, inl, inr}
use mathlib.Core.Bool.{Bool, false, not, cond, ◌&&◌}
use mathlib.Core.List.{List}
use Prim.Native.Nat.{ℕ, ◌<◌}
use borrow.Author.Tests.{lt-ltb, le-ltb}
use lib.Dec.{T, eqb, ltb, ltb→lt, nltb→le}
use lib.ListN.{get_or}
use Rattle.laws.specs.Kept.{rank}
use Rattle.laws.proofs.laws.Choice.{cond-false, and_same}
use Rattle.laws.proofs.laws.Kept.{rank_lt, rank_mono, kept_or_removed, upto_kept}
use Rattle.scene.specs.declared.scene.OrderLine.{OrderLine}
use Rattle.scene.specs.declared.scene.OrderKind.{OrderKind}
use Rattle.scene.specs.declared.scene.OrderKind.TheVariants.{Pause, Resume}
use Rattle.accepted.specs.Lines.{absent_order_line}
use Rattle.order_lines.specs.Orders.{kind_number, is_kind_for, found_after, last_is_after, dropped, counts}
use Rattle.order_lines.proofs.laws.Orders.{same_kind, and_where}

-- the kinds with whose lines an order is compared
abbrev pub Compared : OrderLine → OrderKind → Type 0
Compared o k = (k ≡ o.kind) ⊎ ((o.kind ≡ Resume) × (k ≡ Pause))

cond_same : {a b c d e f : Bool} → a ≡ d → b ≡ e → c ≡ f → cond a b c ≡ cond d e f
cond_same {a} {b} {c} {d} {e} {f} p q r = rw (p, q, r)

-- ranks of kept lines are in the lines' order
rank_test : (keep : ℕ → Bool) (a b : ℕ) → T (keep a) → ltb (rank keep a) (rank keep b) ≡ ltb a b
rank_test keep a b t =
    elim (kept_or_removed (ltb a b)) [
      | inl u ↦ let h = ltb→lt a b u in lt-ltb (rank keep a) (rank keep b) (rank_lt keep a b t h) ∙ sym (lt-ltb a b h)
      | inr u ↦ let h = nltb→le a b u in le-ltb (rank keep a) (rank keep b) (rank_mono keep b a h) ∙ sym (le-ltb a b h)
    ]

-- Some lines of a table of orders are kept, in their order, each made anew. A kept order counts as before where the lines of the kinds that it is compared
-- with are for its block and index as before, and such a line that is not kept never was.
module _ (keep : ℕ → Bool) (orders orders' : List OrderLine) (count count' : ℕ) (i : ℕ) (left : count' ≡ rank keep count) (kept : T (keep i)) where
  abbrev before : ℕ → OrderLine
  before j = get_or orders j absent_order_line

  abbrev after : ℕ → OrderLine
  after j = get_or orders' (rank keep j) absent_order_line

  last_kept : (k : OrderKind) → ((j : ℕ) → j < count → T (keep j) → is_kind_for k (after i) (after j) ≡ is_kind_for k (before i) (before j))
      → ((j : ℕ) → j < count → T (not (keep j)) → is_kind_for k (before i) (before j) ≡ false) → last_is_after orders' count' k (rank keep i) ≡ last_is_after orders count k i
  unfolding last_is_after found_after
  last_kept k same apart =
      ap (λ (n : ℕ). last_is_after orders' n k (rank keep i)) left
      ∙ sym
      (upto_kept (λ j. ◌≡◌) keep (λ j found. found_after k (before i) (before j) i j found) (λ j found. found_after k (after i) (get_or orders' j absent_order_line) (rank keep i) j found) count false false
      (λ j b t x y r. cond_same (sym (same j b t)) (sym (rank_test keep i j kept)) r) (λ j b t x y r. cond-false _ _ _ (apart j b t) ∙ r) refl)

  pub counts_kept : (block : ℕ) → (after i).block ≡ (before i).block → (after i).kind ≡ (before i).kind
      → ((k : OrderKind) → Compared (before i) k → (j : ℕ) → j < count → T (keep j) → is_kind_for k (after i) (after j) ≡ is_kind_for k (before i) (before j))
      → ((k : OrderKind) → Compared (before i) k → (j : ℕ) → j < count → T (not (keep j)) → is_kind_for k (before i) (before j) ≡ false)
      → counts orders' count' block (rank keep i) ≡ counts orders count block i
  unfolding counts dropped
  counts_kept block in_block of_kind same apart =
      let last : (k : OrderKind) → Compared (before i) k → last_is_after orders' count' k (rank keep i) ≡ last_is_after orders count k i = λ k r. last_kept k (same k r) (apart k r) in
      let resume : OrderKind → Bool = λ k. eqb (kind_number k) (kind_number Resume) in
      and_same (ap (λ (b : ℕ). eqb b block) in_block)
      (and_same (ap (λ (k : OrderKind). not (last_is_after orders' count' k (rank keep i))) of_kind ∙ ap not (last (before i).kind (inl refl)))
      (ap (λ (k : OrderKind). not (resume k && last_is_after orders' count' Pause (rank keep i))) of_kind
      ∙ ap not (and_where (resume (before i).kind) (last_is_after orders' count' Pause (rank keep i)) (last_is_after orders count Pause i) (λ t. last Pause (inr (same_kind (before i).kind Resume t, refl))))))
