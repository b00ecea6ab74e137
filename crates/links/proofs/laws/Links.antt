-- Lines by their owner: what `last_of` of the lines so far is, that the array of links has it at each owner and at each line, and a turn of the loop
-- that makes the array. Lines are counted from 1, and 0 is none. Assumes nothing.
use mathlib.Core.Bool.{cond}
use mathlib.Core.List.{List}
use Prim.Native.Nat.{ℕ, zero, suc, ◌+◌, ◌-◌, ◌≤◌, ◌<◌, zero-le}
use lib.Dec.{eqb, ltb}
use lib.ListN.{get_or, set, replicate, length, length-set, length-replicate, get_or-replicate}
use mathlib.Core.Path.{◌≡◌, refl, sym, ap, ◌∙◌, subst}
use native.Mathlib.Nat.{lt_irrefl, le_refl, le_trans, le-suc}
use native.Mathlib.Numerals.{add-one}
use native.Mathlib.Decide.{ℕ_discrete, dec_lt}
use native.Mathlib.Omega.{arith}
use borrow.Author.Tests.{eq-eqb, ne_eqb, lt-ltb, le-ltb}
use lib.Seq.{get_or-set_same, get_or-set_other}
use Rattle.laws.proofs.laws.Choice.{cond-true, cond-false}
use Rattle.laws.proofs.laws.Loop.{upto_zero, upto-suc, upto_cong}
use Rattle.laws.specs.Loop.{downto}
use Rattle.links.specs.Links.{owners, lines, linked, links_of}

-- the last of the first n lines whose owner is o
unfoldable pub last_of : (ℕ → ℕ) → ℕ → ℕ → ℕ
last_of owner o zero = 0
last_of owner o (suc n) = cond (eqb (owner n) o) (suc n) (last_of owner o n)

module _ (owner : ℕ → ℕ) (o : ℕ) where
  pub last_here : (n : ℕ) → owner n ≡ o → last_of owner o (suc n) ≡ suc n
  unfolding last_of
  last_here n e = cond-true (eqb (owner n) o) (suc n) (last_of owner o n) (eq-eqb (owner n) o e)

  pub last_before : (n : ℕ) → (owner n ≡ o → ⊥) → last_of owner o (suc n) ≡ last_of owner o n
  unfolding last_of
  last_before n e = cond-false (eqb (owner n) o) (suc n) (last_of owner o n) (ne_eqb (owner n) o e)

  pub last_le : (n : ℕ) → last_of owner o n ≤ n
  unfolding last_of
  last_le zero = zero-le
  last_le (suc n) = elim (ℕ_discrete (owner n) o) [
    | yes e ↦ omega (arith, last_here n e)
    | no d ↦ omega (arith, last_before n d, last_le n)
  ]

  pub last_owner : (n : ℕ) → 0 < last_of owner o n → owner (last_of owner o n - 1) ≡ o
  unfolding last_of
  last_owner zero h = absurd (lt_irrefl 0 h)
  last_owner (suc n) h = elim (ℕ_discrete (owner n) o) [
    | yes e ↦ ap owner (omega (arith, last_here n e)) ∙ e
    | no d ↦ ap (λ (k : ℕ). owner (k - 1)) (last_before n d) ∙ last_owner n (subst (λ (k : ℕ). 0 < k) (last_before n d) h)
  ]

  -- a loop that passes over the lines of other owners may begin at the last line of this one: until then it stands at s
  pub last_skips : {S : Type 0} (f : ℕ → S → S) (n : ℕ) (s : S) → ((k : ℕ) → k < n → (owner k ≡ o → ⊥) → f k s ≡ s) → downto f n s ≡ downto f (last_of owner o n) s
  unfolding downto last_of
  last_skips f zero s h = refl
  last_skips f (suc n) s h = elim (ℕ_discrete (owner n) o) [
    | yes e ↦ sym (ap (λ (k : ℕ). downto f k s) (last_here n e))
    | no d ↦ ap (downto f n) (h n (le_refl (suc n)) d) ∙ last_skips f n s (λ k b. h k (le_trans b (le-suc n))) ∙ sym (ap (λ (k : ℕ). downto f k s) (last_before n d))
  ]

-- ---- the array

module _ (owner : ℕ → ℕ) where
  linked_on : (k : ℕ) (l : List ℕ) → owner k < owners → linked owner k l ≡ set (set l (owners + k) (get_or l (owner k) 0)) (owner k) (suc k)
  unfolding linked
  linked_on k l h = cond-true (ltb (owner k) owners) (set (set l (owners + k) (get_or l (owner k) 0)) (owner k) (suc k)) l (lt-ltb (owner k) owners h)

  pub linked_off : (k : ℕ) (l : List ℕ) → owners ≤ owner k → linked owner k l ≡ l
  unfolding linked
  linked_off k l h = cond-false (ltb (owner k) owners) (set (set l (owners + k) (get_or l (owner k) 0)) (owner k) (suc k)) l (le-ltb (owner k) owners h)

  linked_length : (k : ℕ) (l : List ℕ) → length (linked owner k l) ≡ length l
  linked_length k l = elim (dec_lt (owner k) owners) [
    | yes h ↦ ap length (linked_on k l h) ∙ length-set (set l (owners + k) (get_or l (owner k) 0)) (owner k) (suc k) ∙ length-set l (owners + k) (get_or l (owner k) 0)
    | no h ↦ ap length (linked_off k l (omega (arith, h)))
  ]

  -- places other than the two that are written
  pub linked_other : (k j : ℕ) (l : List ℕ) → (j ≡ owner k → owner k < owners → ⊥) → (j ≡ owners + k → ⊥) → get_or (linked owner k l) j 0 ≡ get_or l j 0
  linked_other k j l d e = elim (dec_lt (owner k) owners) [
    | yes h ↦
        ap (λ (r : List ℕ). get_or r j 0) (linked_on k l h)
        ∙ get_or-set_other (set l (owners + k) (get_or l (owner k) 0)) (owner k) j (suc k) 0 (λ q. d q h)
        ∙ get_or-set_other l (owners + k) j (get_or l (owner k) 0) 0 e
    | no h ↦ ap (λ (r : List ℕ). get_or r j 0) (linked_off k l (omega (arith, h)))
  ]

  pub links_zero : links_of owner 0 ≡ replicate (owners + lines) 0
  unfolding links_of
  links_zero = upto_zero (linked owner) (replicate (owners + lines) 0)

  pub links_suc : (n : ℕ) → links_of owner (suc n) ≡ linked owner n (links_of owner n)
  unfolding links_of
  links_suc n = upto-suc (linked owner) n (replicate (owners + lines) 0)

  pub links_length : (n : ℕ) → length (links_of owner n) ≡ owners + lines
  links_length zero = ap length links_zero ∙ length-replicate {A = ℕ} (owners + lines) 0
  links_length (suc n) = ap length (links_suc n) ∙ linked_length n (links_of owner n) ∙ links_length n

  -- the owner's place, and the line's, once line n + 1 is linked
  own_place : (n : ℕ) → owner n < owners → get_or (linked owner n (links_of owner n)) (owner n) 0 ≡ suc n
  own_place n h =
      let l = links_of owner n in
      ap (λ (r : List ℕ). get_or r (owner n) 0) (linked_on n l h)
      ∙ get_or-set_same (set l (owners + n) (get_or l (owner n) 0)) (owner n) (suc n) 0 (omega (arith, h, length-set l (owners + n) (get_or l (owner n) 0), links_length n))

  pub line_place : (n : ℕ) → n < lines → owner n < owners → get_or (linked owner n (links_of owner n)) (owners + n) 0 ≡ get_or (links_of owner n) (owner n) 0
  line_place n m h =
      let l = links_of owner n in
      ap (λ (r : List ℕ). get_or r (owners + n) 0) (linked_on n l h)
      ∙ get_or-set_other (set l (owners + n) (get_or l (owner n) 0)) (owner n) (owners + n) (suc n) 0 (λ e. omega (arith, h, e))
      ∙ get_or-set_same l (owners + n) (get_or l (owner n) 0) 0 (omega (arith, m, links_length n))

  -- an owner's place has its last line
  pub last_link : (o n : ℕ) → o < owners → get_or (links_of owner n) o 0 ≡ last_of owner o n
  unfolding last_of
  last_link o zero h = ap (λ (r : List ℕ). get_or r o 0) links_zero ∙ get_or-replicate {A = ℕ} (owners + lines) o 0 0 (omega (arith, h))
  last_link o (suc n) h =
      ap (λ (r : List ℕ). get_or r o 0) (links_suc n)
      ∙ elim (ℕ_discrete (owner n) o) [
        | yes e ↦ ap (λ (j : ℕ). get_or (linked owner n (links_of owner n)) j 0) (sym e) ∙ own_place n (omega (arith, e, h)) ∙ sym (last_here owner o n e)
        | no d ↦ linked_other n o (links_of owner n) (λ e _. d (sym e)) (λ e. omega (arith, h, e)) ∙ last_link o n h ∙ sym (last_before owner o n d)
      ]

  -- and a line's place the one before it with the same owner
  pub next_link : (n k : ℕ) → n ≤ lines → k < n → owner k < owners → get_or (links_of owner n) (owners + k) 0 ≡ last_of owner (owner k) k
  next_link zero k m h w = absurd (omega (arith, h))
  next_link (suc n) k m h w =
      ap (λ (r : List ℕ). get_or r (owners + k) 0) (links_suc n)
      ∙ elim (ℕ_discrete k n) [
        | yes e ↦
            ap (λ (j : ℕ). get_or (linked owner n (links_of owner n)) (owners + j) 0) e
            ∙ line_place n (omega (arith, m)) (subst (λ (j : ℕ). owner j < owners) e w)
            ∙ last_link (owner n) n (subst (λ (j : ℕ). owner j < owners) e w)
            ∙ sym (ap (λ (j : ℕ). last_of owner (owner j) j) e)
        | no d ↦ linked_other n (owners + k) (links_of owner n) (λ e q. omega (arith, e, q)) (λ e. d (omega (arith, e))) ∙ next_link n k (omega (arith, m)) (omega (arith, h, d)) w
      ]

  -- ---- the loop that makes them

  pub links_none : replicate (owners + lines) 0 ≡ links_of owner 0
  links_none = sym links_zero

  -- a turn, whose owner is o
  pub links_on : (k : ℕ) {l : List ℕ} {o : ℕ} → o ≡ owner k → o < owners → l ≡ links_of owner k → set (set l (owners + k) (get_or l o 0)) o (k + 1) ≡ links_of owner (k + 1)
  links_on k {l} {o} is h e =
      let q : k + 1 ≡ suc k = omega arith in
      rw (q, e, is) (sym (linked_on k (links_of owner k) (subst (λ (i : ℕ). i < owners) is h)) ∙ sym (links_suc k))

  pub links_off : (k : ℕ) {l : List ℕ} {o : ℕ} → o ≡ owner k → owners ≤ o → l ≡ links_of owner k → l ≡ links_of owner (k + 1)
  links_off k is h e = e ∙ sym (linked_off k (links_of owner k) (subst (λ (i : ℕ). owners ≤ i) is h)) ∙ sym (links_suc k) ∙ sym (ap (links_of owner) (add-one k))

-- only the owners of the n lines matter
pub links_cong : (f g : ℕ → ℕ) (n : ℕ) → ((k : ℕ) → k < n → f k ≡ g k) → links_of f n ≡ links_of g n
unfolding links_of linked
links_cong f g n h =
    upto_cong (linked f) (linked g) n (replicate (owners + lines) 0)
    (λ k l x. ap (λ (o : ℕ). cond (ltb o owners) (set (set x (owners + k) (get_or x o 0)) o (suc k)) x) (h k l))
