-- What the array of links has at each block and at each line, and a turn of the loop that makes it. Assumes nothing.
use mathlib.Core.Path.{◌≡◌, refl, sym, ap, subst, ◌∙◌}
use mathlib.Core.List.{List}
use mathlib.Core.Logic.{◌≢◌}
use Prim.Native.Nat.{ℕ, suc, ◌+◌, ◌-◌, ◌≤◌, ◌<◌}
use native.Mathlib.Decide.{ℕ_discrete}
use native.Mathlib.Nat.{le_refl}
use native.Mathlib.Omega.{arith}
use lib.ListN.{length, get_or, set, replicate, length-set, length-replicate, get_or-replicate}
use lib.Seq.{get_or-set_same, get_or-set_other}
use Rattle.limits.specs.Limits.{order_lines, blocks_most}
use Rattle.laws.specs.Loop.{downto}
use Rattle.laws.proofs.laws.Loop.{downto_turn, downto_end, downto_holds}
use Rattle.order_links.specs.Links.{links_size, linked_line, block_links, first_line, next_line}

-- v is the first line of the block from line m on, of n lines; past them where there is none
pub record First (block_of : ℕ → ℕ) (n block m v : ℕ) : Type 0 where
  pub after : m ≤ v
  pub most : v ≤ order_lines
  pub skips : (k : ℕ) → m ≤ k → k < v → k < n → block_of k ≢ block
  pub here : v < n → block_of v ≡ block

-- the lines from m on are linked
record Linked (block_of : ℕ → ℕ) (n m : ℕ) (l : List ℕ) : Type 0 where
  size : length l ≡ links_size
  first : (b : ℕ) → b < blocks_most → First block_of n b m (get_or l b 0)
  next : (i : ℕ) → m ≤ i → i < n → First block_of n (block_of i) (suc i) (get_or l (blocks_most + i) 0)

module _ (block_of : ℕ → ℕ) (n : ℕ) (few : n ≤ order_lines) (fits : (i : ℕ) → i < n → block_of i < blocks_most) where
  none : Linked block_of n n (replicate links_size order_lines)
  none =
      record {
        size = length-replicate {A = ℕ} links_size order_lines;
        first = λ b h. subst (First block_of n b n) (sym (get_or-replicate {A = ℕ} links_size b order_lines 0 (omega arith))) (record { after = few; most = le_refl order_lines; skips = λ k a c d. absurd (omega arith); here = λ c. absurd (omega arith) });
        next = λ i a c. absurd (omega arith);
      }

  -- the first line from line m on is the first from m + 1 on, where line m is another block's
  earlier : (b m v : ℕ) → m < n → block_of m ≢ b → First block_of n b (suc m) v → First block_of n b m v
  earlier b m v h d f =
      record {
        after = omega (arith, f.after);
        most = f.most;
        skips = λ k a c e. elim (ℕ_discrete k m) [
          | yes p ↦ λ q. d (ap block_of (sym p) ∙ q)
          | no p ↦ f.skips k (omega (arith, a, p)) c e
        ];
        here = f.here;
      }

  own : (m : ℕ) → m < n → First block_of n (block_of m) m m
  own m h = record { after = le_refl m; most = omega arith; skips = λ k a c e. absurd (omega arith); here = λ c. refl }

  step : (m : ℕ) → m < n → (l : List ℕ) → Linked block_of n (suc m) l → Linked block_of n m (linked_line block_of m l)
  unfolding linked_line
  step m h l k =
      let o = block_of m in
      let x = get_or l o 0 in
      let with_next : List ℕ = set l (blocks_most + m) x in
      let long : length with_next ≡ links_size = length-set l (blocks_most + m) x ∙ k.size in
      record {
        size = length-set with_next o m ∙ long;
        first = λ b q. elim (ℕ_discrete b o) [
          | yes e ↦
              subst (First block_of n b m) (sym (ap (λ (z : ℕ). get_or (set with_next o m) z 0) e ∙ get_or-set_same with_next o m 0 (omega (arith, long, fits m h)))) (subst (λ (z : ℕ). First block_of n z m m) (sym e) (own m h))
          | no e ↦
              subst (First block_of n b m) (sym (get_or-set_other with_next o b m 0 e ∙ get_or-set_other l (blocks_most + m) b x 0 (λ p. omega (arith, p, q)))) (earlier b m (get_or l b 0) h (λ p. e (sym p)) (k.first b q))
        ];
        next = λ i a c.
            let here : blocks_most + i ≢ o = λ p. omega (arith, p, fits m h) in
            elim (ℕ_discrete i m) [
              | yes e ↦
                  subst (λ (j : ℕ). First block_of n (block_of j) (suc j) (get_or (set with_next o m) (blocks_most + j) 0)) (sym e)
                  (subst (First block_of n o (suc m)) (sym (get_or-set_other with_next o (blocks_most + m) m 0 (λ p. omega (arith, p, fits m h)) ∙ get_or-set_same l (blocks_most + m) x 0 (omega (arith, k.size, few)))) (k.first o (fits m h)))
              | no e ↦
                  subst (First block_of n (block_of i) (suc i)) (sym (get_or-set_other with_next o (blocks_most + i) m 0 here ∙ get_or-set_other l (blocks_most + m) (blocks_most + i) x 0 (λ p. e (omega (arith, p))))) (k.next i (omega (arith, a, e)) c)
            ];
      }

  linked : Linked block_of n 0 (block_links block_of n)
  unfolding block_links
  linked = downto_holds (Linked block_of n) (linked_line block_of) n (replicate links_size order_lines) none (λ i h x k. step i h x k)

  -- a block's place has its first line, and a line's the next of its block
  first_link : (b : ℕ) → b < blocks_most → First block_of n b 0 (get_or (block_links block_of n) b 0)
  first_link = linked.first

  next_link : (i : ℕ) → i < n → First block_of n (block_of i) (suc i) (get_or (block_links block_of n) (blocks_most + i) 0)
  next_link i h = linked.next i (omega arith) h

  -- the same as the code reads them
  module _ {links : List ℕ} (e : links ≡ block_links block_of n) (block : ℕ) {v : ℕ} where
    pub first_read : block < blocks_most → v ≡ first_line links block → First block_of n block 0 v
    first_read h r = subst (First block_of n block 0) (sym (r ∙ ap (λ (l : List ℕ). get_or l block 0) e)) (first_link block h)

    pub next_read : (i : ℕ) → i < n → block_of i ≡ block → v ≡ next_line links i → First block_of n block (suc i) v
    next_read i h o r = subst (First block_of n block (suc i)) (sym (r ∙ ap (λ (l : List ℕ). get_or l (blocks_most + i) 0) e)) (subst (λ (b : ℕ). First block_of n b (suc i) (get_or (block_links block_of n) (blocks_most + i) 0)) o (next_link i h))

-- ---- the loop that makes them

module _ (block_of : ℕ → ℕ) (n : ℕ) where
  pub links_none : downto (linked_line block_of) n (replicate links_size order_lines) ≡ block_links block_of n
  unfolding block_links
  links_none = refl

  pub links_turn : (i : ℕ) (l : List ℕ) → 0 < i → downto (linked_line block_of) i l ≡ block_links block_of n
      → downto (linked_line block_of) (i - 1) (set (set l (blocks_most + (i - 1)) (get_or l (block_of (i - 1)) 0)) (block_of (i - 1)) (i - 1)) ≡ block_links block_of n
  unfolding linked_line
  links_turn i l h e = downto_turn (linked_line block_of) i l h e

  pub links_made : {i : ℕ} (l : List ℕ) → i ≡ 0 → downto (linked_line block_of) i l ≡ block_links block_of n → l ≡ block_links block_of n
  links_made l z e = downto_end (linked_line block_of) l z e
