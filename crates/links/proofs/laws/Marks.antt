-- Marks of owners: turns of the two loops that make them; a mark stays; the owners of a column's lines have marks; and where owners are earlier lines,
-- the owner of a line with a mark has one too. Assumes nothing.
use mathlib.Core.Path.{◌≡◌, sym, ap, ◌∙◌, subst}
use mathlib.Core.List.{List}
use Prim.Native.Nat.{ℕ, zero, suc, ◌+◌, ◌-◌, ◌≤◌, ◌<◌}
use native.Mathlib.Nat.{le_refl, le_trans, le-suc}
use native.Mathlib.Decide.{ℕ_discrete, dec_lt}
use native.Mathlib.Omega.{arith}
use borrow.Author.Tests.{eq-eqb, ne_eqb, lt-ltb, le-ltb}
use lib.Dec.{ltb}
use lib.ListN.{length, get_or, set, length-set, get_or-eq_default}
use lib.Seq.{get_or-set_same, get_or-set_other}
use Rattle.limits.specs.Limits.{track_places}
use Rattle.laws.proofs.laws.Choice.{cond-true, cond-false}
use Rattle.laws.proofs.laws.Loop.{upto_zero, upto-suc, upto_turn, downto_zero, downto-suc, downto_turn, downto_end}
use Rattle.links.specs.Links.{owners}
use Rattle.links.specs.Marks.{is_marked, owner_marked, owners_marked, above_marked, all_above_marked}

-- owner i has a mark
abbrev pub Marked : List ℕ → ℕ → Type 0
Marked l i = get_or l i 0 ≡ 1

-- only places of the array have marks
marked_in : (l : List ℕ) (i : ℕ) → Marked l i → i < length l
marked_in l i e = elim (dec_lt i (length l)) [
  | yes h ↦ h
  | no h ↦ absurd (omega (arith, e, get_or-eq_default l 0 {n = i} (omega (arith, h))))
]

-- a mark stays when another is set
set_stays : (l : List ℕ) (i j : ℕ) → Marked l i → Marked (set l j 1) i
set_stays l i j e = elim (ℕ_discrete i j) [
  | yes q ↦ ap (λ (k : ℕ). get_or (set l k 1) i 0) (sym q) ∙ get_or-set_same l i 1 0 (marked_in l i e)
  | no d ↦ get_or-set_other l j i 1 0 d ∙ e
]

module _ (owner : ℕ → ℕ) where
  -- ---- the owners of a column's lines

  owner_on : (k : ℕ) (l : List ℕ) → owner k < owners → owner_marked owner k l ≡ set l (owner k) 1
  unfolding owner_marked
  owner_on k l h = cond-true (ltb (owner k) owners) (set l (owner k) 1) l (lt-ltb (owner k) owners h)

  owner_off : (k : ℕ) (l : List ℕ) → owners ≤ owner k → owner_marked owner k l ≡ l
  unfolding owner_marked
  owner_off k l h = cond-false (ltb (owner k) owners) (set l (owner k) 1) l (le-ltb (owner k) owners h)

  owner_length : (k : ℕ) (l : List ℕ) → length (owner_marked owner k l) ≡ length l
  owner_length k l = elim (dec_lt (owner k) owners) [
    | yes h ↦ ap length (owner_on k l h) ∙ length-set l (owner k) 1
    | no h ↦ ap length (owner_off k l (omega (arith, h)))
  ]

  owner_stays : (k i : ℕ) (l : List ℕ) → Marked l i → Marked (owner_marked owner k l) i
  owner_stays k i l e = elim (dec_lt (owner k) owners) [
    | yes h ↦ ap (λ (r : List ℕ). get_or r i 0) (owner_on k l h) ∙ set_stays l i (owner k) e
    | no h ↦ ap (λ (r : List ℕ). get_or r i 0) (owner_off k l (omega (arith, h))) ∙ e
  ]

  owners_zero : (l : List ℕ) → owners_marked owner 0 l ≡ l
  unfolding owners_marked
  owners_zero l = upto_zero (owner_marked owner) l

  owners_suc : (n : ℕ) (l : List ℕ) → owners_marked owner (suc n) l ≡ owner_marked owner n (owners_marked owner n l)
  unfolding owners_marked
  owners_suc n l = upto-suc (owner_marked owner) n l

  pub owners_length : (n : ℕ) (l : List ℕ) → length (owners_marked owner n l) ≡ length l
  owners_length zero l = ap length (owners_zero l)
  owners_length (suc n) l = ap length (owners_suc n l) ∙ owner_length n (owners_marked owner n l) ∙ owners_length n l

  pub owners_there : (n k : ℕ) (l : List ℕ) → k < n → owner k < owners → length l ≡ owners → Marked (owners_marked owner n l) (owner k)
  owners_there zero k l h o w = absurd (omega (arith, h))
  owners_there (suc n) k l h o w =
      let old = owners_marked owner n l in
      ap (λ (r : List ℕ). get_or r (owner k) 0) (owners_suc n l)
      ∙ elim (ℕ_discrete k n) [
        | yes e ↦
            ap (λ (j : ℕ). get_or (owner_marked owner j old) (owner k) 0) (sym e)
            ∙ ap (λ (r : List ℕ). get_or r (owner k) 0) (owner_on k old o)
            ∙ get_or-set_same old (owner k) 1 0 (omega (arith, o, w, owners_length n l))
        | no d ↦ owner_stays n (owner k) old (owners_there n k l (omega (arith, h, d)) o w)
      ]

  -- the loop's start and its turns
  pub owners_none : (l : List ℕ) → l ≡ owners_marked owner 0 l
  owners_none l = sym (owners_zero l)

  pub owners_on : (k : ℕ) (begun : List ℕ) {l : List ℕ} {o : ℕ} → o ≡ owner k → o < owners → l ≡ owners_marked owner k begun → set l o 1 ≡ owners_marked owner (k + 1) begun
  unfolding owners_marked
  owners_on k begun {l} is h e = ap (λ (i : ℕ). set l i 1) is ∙ sym (owner_on k l (subst (λ (i : ℕ). i < owners) is h)) ∙ upto_turn (owner_marked owner) k begun e

  pub owners_off : (k : ℕ) (begun : List ℕ) {l : List ℕ} {o : ℕ} → o ≡ owner k → owners ≤ o → l ≡ owners_marked owner k begun → l ≡ owners_marked owner (k + 1) begun
  unfolding owners_marked
  owners_off k begun {l} is h e = sym (owner_off k l (subst (λ (i : ℕ). owners ≤ i) is h)) ∙ upto_turn (owner_marked owner) k begun e

  -- ---- lines mark their owners

  above_on : (k : ℕ) (l : List ℕ) → Marked l (suc k) → above_marked owner k l ≡ set l (owner k) 1
  unfolding above_marked
  above_on k l h = cond-true (is_marked l (suc k)) (set l (owner k) 1) l (eq-eqb (get_or l (suc k) 0) 1 h)

  above_off : (k : ℕ) (l : List ℕ) → (Marked l (suc k) → ⊥) → above_marked owner k l ≡ l
  unfolding above_marked
  above_off k l h = cond-false (is_marked l (suc k)) (set l (owner k) 1) l (ne_eqb (get_or l (suc k) 0) 1 h)

  above_length : (k : ℕ) (l : List ℕ) → length (above_marked owner k l) ≡ length l
  above_length k l = elim (ℕ_discrete (get_or l (suc k) 0) 1) [
    | yes h ↦ ap length (above_on k l h) ∙ length-set l (owner k) 1
    | no h ↦ ap length (above_off k l h)
  ]

  above_stays : (k i : ℕ) (l : List ℕ) → Marked l i → Marked (above_marked owner k l) i
  above_stays k i l e = elim (ℕ_discrete (get_or l (suc k) 0) 1) [
    | yes h ↦ ap (λ (r : List ℕ). get_or r i 0) (above_on k l h) ∙ set_stays l i (owner k) e
    | no h ↦ ap (λ (r : List ℕ). get_or r i 0) (above_off k l h) ∙ e
  ]

  above_other : (k i : ℕ) (l : List ℕ) → (i ≡ owner k → ⊥) → get_or (above_marked owner k l) i 0 ≡ get_or l i 0
  above_other k i l d = elim (ℕ_discrete (get_or l (suc k) 0) 1) [
    | yes h ↦ ap (λ (r : List ℕ). get_or r i 0) (above_on k l h) ∙ get_or-set_other l (owner k) i 1 0 d
    | no h ↦ ap (λ (r : List ℕ). get_or r i 0) (above_off k l h)
  ]

  all_zero : (l : List ℕ) → all_above_marked owner 0 l ≡ l
  unfolding all_above_marked
  all_zero l = downto_zero (above_marked owner) l

  all_suc : (n : ℕ) (l : List ℕ) → all_above_marked owner (suc n) l ≡ all_above_marked owner n (above_marked owner n l)
  unfolding all_above_marked
  all_suc n l = downto-suc (above_marked owner) n l

  pub above_stay : (n i : ℕ) (l : List ℕ) → Marked l i → Marked (all_above_marked owner n l) i
  above_stay zero i l e = ap (λ (r : List ℕ). get_or r i 0) (all_zero l) ∙ e
  above_stay (suc n) i l e = ap (λ (r : List ℕ). get_or r i 0) (all_suc n l) ∙ above_stay n i (above_marked owner n l) (above_stays n i l e)

  pub all_length : (n : ℕ) (l : List ℕ) → length (all_above_marked owner n l) ≡ length l
  all_length zero l = ap length (all_zero l)
  all_length (suc n) l = ap length (all_suc n l) ∙ all_length n (above_marked owner n l) ∙ above_length n l

  -- a line's own mark is set by later lines only
  above_later : (n i : ℕ) (l : List ℕ) → ((k : ℕ) → k < n → owner k ≤ k) → n ≤ i → get_or (all_above_marked owner n l) i 0 ≡ get_or l i 0
  above_later zero i l earlier h = ap (λ (r : List ℕ). get_or r i 0) (all_zero l)
  above_later (suc n) i l earlier h =
      ap (λ (r : List ℕ). get_or r i 0) (all_suc n l)
      ∙ above_later n i (above_marked owner n l) (λ k b. earlier k (le_trans b (le-suc n))) (omega (arith, h))
      ∙ above_other n i l (λ e. absurd (omega (arith, h, e, earlier n (le_refl (suc n)))))

  -- so once all lines are done the owner of a line with a mark has one
  pub above_closed : (n k : ℕ) (l : List ℕ) → ((k : ℕ) → k < n → owner k ≤ k) → n ≤ track_places → length l ≡ owners → k < n → Marked (all_above_marked owner n l) (suc k) → Marked (all_above_marked owner n l) (owner k)
  above_closed zero k l earlier few w h m = absurd (omega (arith, h))
  above_closed (suc n) k l earlier few w h m =
      let next = above_marked owner n l in
      let before : (j : ℕ) → j < n → owner j ≤ j = λ j b. earlier j (le_trans b (le-suc n)) in
      let m' : Marked (all_above_marked owner n next) (suc k) = sym (ap (λ (r : List ℕ). get_or r (suc k) 0) (all_suc n l)) ∙ m in
      ap (λ (r : List ℕ). get_or r (owner k) 0) (all_suc n l)
      ∙ elim (ℕ_discrete k n) [
        | yes e ↦
            above_stay n (owner k) next
            (subst (λ (j : ℕ). Marked next (owner j)) (sym e) (last_marks n l (earlier n (le_refl (suc n))) few w
            (sym (above_later n (suc n) next before (le-suc n)) ∙ subst (λ (j : ℕ). Marked (all_above_marked owner n next) (suc j)) e m')))
        | no d ↦ above_closed n k next before (omega (arith, few)) (above_length n l ∙ w) (omega (arith, h, d)) m'
      ]
    where
      last_marks : (n : ℕ) (l : List ℕ) → owner n ≤ n → suc n ≤ track_places → length l ≡ owners → Marked (above_marked owner n l) (suc n) → Marked (above_marked owner n l) (owner n)
      last_marks n l low few w m =
          let own : Marked l (suc n) = sym (above_other n (suc n) l (λ e. absurd (omega (arith, low, e)))) ∙ m in
          ap (λ (r : List ℕ). get_or r (owner n) 0) (above_on n l own) ∙ get_or-set_same l (owner n) 1 0 (omega (arith, low, few, w))

  -- the loop's turns, from line to line - 1
  line_again : (line : ℕ) → 0 < line → suc (line - 1) ≡ line
  line_again line h = omega arith

  pub above_turn_on : (line : ℕ) (now : List ℕ) {end : List ℕ} {o : ℕ} → o ≡ owner (line - 1) → 0 < line → Marked now line → all_above_marked owner line now ≡ end → all_above_marked owner (line - 1) (set now o 1) ≡ end
  unfolding all_above_marked
  above_turn_on line now is h m e =
      ap (λ (i : ℕ). all_above_marked owner (line - 1) (set now i 1)) is
      ∙ ap (all_above_marked owner (line - 1)) (sym (above_on (line - 1) now (subst (Marked now) (sym (line_again line h)) m)))
      ∙ downto_turn (above_marked owner) line now h e

  pub above_turn_off : (line : ℕ) (now : List ℕ) {end : List ℕ} → 0 < line → (Marked now line → ⊥) → all_above_marked owner line now ≡ end → all_above_marked owner (line - 1) now ≡ end
  unfolding all_above_marked
  above_turn_off line now h m e =
      ap (all_above_marked owner (line - 1)) (sym (above_off (line - 1) now (λ q. m (subst (Marked now) (line_again line h) q))))
      ∙ downto_turn (above_marked owner) line now h e

  pub above_end : {line : ℕ} (now : List ℕ) {end : List ℕ} → line ≡ 0 → all_above_marked owner line now ≡ end → now ≡ end
  unfolding all_above_marked
  above_end now h e = downto_end (above_marked owner) now h e
