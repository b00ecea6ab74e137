-- The links of a column lead to earlier lines. Assumes nothing.
use mathlib.Core.List.{List}
use Prim.Native.Nat.{ℕ, zero, suc, ◌+◌, ◌≤◌, ◌<◌}
use lib.ListN.{get_or, get_or-replicate}
use mathlib.Core.Path.{◌≡◌, ap, ◌∙◌, subst, sym}
use native.Mathlib.Decide.{ℕ_discrete, dec_lt}
use native.Mathlib.Omega.{arith}
use Rattle.links.specs.Links.{owners, lines, links_of}
use Rattle.links.specs.Walk.{Earlier}
use Rattle.links.proofs.laws.Links.{last_le, links_zero, links_suc, linked_other, linked_off, line_place, last_link}

module _ (owner : ℕ → ℕ) where
  line_earlier : (n k : ℕ) → n ≤ lines → k < lines → get_or (links_of owner n) (owners + k) 0 ≤ k
  line_earlier zero k w h =
      let none : get_or (links_of owner 0) (owners + k) 0 ≡ 0 =
      ap (λ (r : List ℕ). get_or r (owners + k) 0) (links_zero owner) ∙ get_or-replicate {A = ℕ} (owners + lines) (owners + k) 0 0 (omega (arith, h)) in
      omega (arith, none)
  line_earlier (suc n) k w h =
      let before = line_earlier n k (omega (arith, w)) h in
      let made = ap (λ (r : List ℕ). get_or r (owners + k) 0) (links_suc owner n) in
      elim (ℕ_discrete k n) [
        | no d ↦
            let same = linked_other owner n (owners + k) (links_of owner n) (λ e q. omega (arith, e, q)) (λ e. d (omega (arith, e))) in
            omega (arith, made, same, before)
        | yes e ↦ elim (dec_lt (owner n) owners) [
          | yes q ↦
              let here = ap (λ (j : ℕ). get_or (Rattle.links.specs.Links.linked owner n (links_of owner n)) (owners + j) 0) e ∙ line_place owner n (omega (arith, w)) q ∙ last_link owner (owner n) n q in
              let low = last_le owner (owner n) n in
              omega (arith, made, here, low, e)
          | no q ↦
              let same = ap (λ (r : List ℕ). get_or r (owners + k) 0) (linked_off owner n (links_of owner n) (omega (arith, q))) in
              omega (arith, made, same, before)
        ]
      ]

  pub earlier : (n : ℕ) {links : List ℕ} → n ≤ lines → links ≡ links_of owner n → Earlier links
  earlier n w e =
      subst Earlier (sym e) (record {
        owned = λ o h. let at = last_link owner o n h in let low = last_le owner o n in omega (arith, at, low, w);
        linked = λ k h. line_earlier n k w h;
      })
