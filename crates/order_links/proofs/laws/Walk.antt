-- A loop over a block's lines alone comes to one over every line, where the others change nothing. Assumes nothing.
use mathlib.Core.Path.{◌≡◌, sym, ap, subst, ◌∙◌}
use mathlib.Core.Logic.{◌≢◌, ⊎_elim}
use Prim.Native.Nat.{ℕ, zero, suc, ◌≤◌, ◌<◌}
use native.Mathlib.Nat.{le_of_suc-le-suc, eq-or-lt_of_le, le_refl}
use native.Mathlib.Omega.{arith}
use Rattle.laws.specs.Loop.{upto}
use Rattle.laws.proofs.laws.Loop.{upto_zero, upto-suc}
use Rattle.order_links.proofs.laws.Links.{First}

-- turns that change nothing
module _ {S : Type 0} (f : ℕ → S → S) (s : S) where
  still : (m v : ℕ) → m ≤ v → ((k : ℕ) → m ≤ k → k < v → (x : S) → f k x ≡ x) → upto f v s ≡ upto f m s
  still m zero l h = ap (λ (j : ℕ). upto f j s) (omega (arith, l))
  still m (suc v) l h =
      ⊎_elim
      (λ (e : m ≡ suc v). ap (λ (j : ℕ). upto f j s) (sym e))
      (λ (b : m < suc v). upto-suc f v s ∙ h v (le_of_suc-le-suc b) (le_refl (suc v)) (upto f v s) ∙ still m v (le_of_suc-le-suc b) (λ k a c. h k a (omega (arith, c))))
      (eq-or-lt_of_le l)

-- Before line v of the block: the lines before it are done. Past the n lines all are.
pub record Walk {S : Type 0} (f : ℕ → S → S) (n : ℕ) (s : S) (v : ℕ) (now : S) : Type 0 where
  pub before : v < n → now ≡ upto f v s
  pub done : n ≤ v → now ≡ upto f n s

-- Line v, if it is one, is the block's, and the lines before it are done.
pub record Reading {S : Type 0} (f : ℕ → S → S) (n : ℕ) (block_of : ℕ → ℕ) (block : ℕ) (s : S) (v : ℕ) (now : S) : Type 0 where
  pub here : v < n → block_of v ≡ block
  pub walk : Walk f n s v now

module _ {S : Type 0} (f : ℕ → S → S) (n : ℕ) (s : S) (block_of : ℕ → ℕ) (block : ℕ) (others : (k : ℕ) → k < n → block_of k ≢ block → (x : S) → f k x ≡ x) where
  reach : (m v : ℕ) {now : S} → m ≤ n → First block_of n block m v → now ≡ upto f m s → Walk f n s v now
  reach m v l h e =
      record {
        before = λ b. e ∙ sym (still f s m v h.after (λ k a c x. others k (omega (arith, b, c)) (h.skips k a c (omega (arith, b, c))) x));
        done = λ b. e ∙ sym (still f s m n l (λ k a c x. others k c (h.skips k a (omega (arith, b, c)) c) x));
      }

  walk_first : {v : ℕ} → First block_of n block 0 v → Walk f n s v s
  walk_first {v} h = reach 0 v (omega arith) h (sym (upto_zero f s))

  -- line i is done, and v comes next
  walk_next : (i : ℕ) {v : ℕ} {now : S} → i < n → First block_of n block (suc i) v → Walk f n s i now → Walk f n s v (f i now)
  walk_next i {v} b h w = reach (suc i) v b h (ap (f i) (w.before b) ∙ sym (upto-suc f i s))

  pub reading_first : {v : ℕ} → First block_of n block 0 v → Reading f n block_of block s v s
  reading_first h = record { here = h.here; walk = walk_first h }

  pub reading_next : (i : ℕ) {v : ℕ} {now next : S} → i < n → First block_of n block (suc i) v → next ≡ f i now → Reading f n block_of block s i now → Reading f n block_of block s v next
  reading_next i {v} b h e r = record { here = h.here; walk = subst (Walk f n s v) (sym e) (walk_next i b h r.walk) }
