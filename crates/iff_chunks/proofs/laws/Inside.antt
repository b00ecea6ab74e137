-- A chunk that the walk finds has its header in the file, and where the chunks are whole its bytes too. Assumes nothing.
use mathlib.Core.Path.{◌≡◌, sym, subst}
use Rattle.std.specs.Prelude.{Option, Some, None}
use Rattle.std.specs.Bool.{then_some}
use mathlib.Core.Bool.{Bool, true, false, true≢false}
use mathlib.Core.List.{List}
use Prim.Native.Nat.{ℕ, zero, suc, ◌+◌, ◌≤◌}
use native.Mathlib.Decide.{dec_le}
use native.Mathlib.Omega.{arith}
use lib.Dec.{eqb}
use lib.ListN.{length}
use Rattle.byte_order.specs.declared.bytes.ByteOrder.{ByteOrder}
use Rattle.iff_chunks.specs.declared.form.Chunks.{Chunks}
use Rattle.iff_chunks.specs.Chunks.{identifier_at, size_at, noted, walk_from, walk_of}
use Rattle.iff_chunks.proofs.laws.Walk.{walk_end, walk_rest, walk_past, walk_on}

noted_holds : (P : Option ℕ → Type 0) (place : Option ℕ) (identifier wanted at : ℕ) → P None → P place → P (Some at) → P (noted place identifier wanted at)
unfolding noted
noted_holds P (Some place) identifier wanted at z p q = p
noted_holds P None identifier wanted at z p q = go (eqb identifier wanted)
  where
    go : (t : Bool) → P (then_some t at)
    go true = q
    go false = z

-- of a place that has the header in the file, or the whole chunk
abbrev pub Header : List ℕ → Option ℕ → Type 0
Header file None = Unit {0}
Header file (Some p) = p + 8 ≤ length file

abbrev pub Body : ByteOrder → List ℕ → Option ℕ → Type 0
Body order file None = Unit {0}
Body order file (Some p) = p + 8 + size_at order file p ≤ length file

module _ (order : ByteOrder) (a b : ℕ) (file : List ℕ) where
  abbrev Headers : Chunks → Type 0
  Headers c = Header file c.first × Header file c.second

  headers : (n at : ℕ) (first second : Option ℕ) → Header file first → Header file second → Header file (walk_from n order a b file at first second).first × Header file (walk_from n order a b file at first second).second
  unfolding walk_from
  headers zero at first second p q = (p, q)
  headers (suc n) at first second p q =
      elim (dec_le (length file) at) [
        | yes h ↦ subst Headers (sym (walk_end order a b file at first second (suc n) h)) (p, q)
        | no h ↦ elim (dec_le (at + 8) (length file)) [
          | no k ↦ subst Headers (sym (walk_rest order a b file at first second n (omega arith) (omega arith))) (p, q)
          | yes k ↦
              let P = noted_holds (Header file) first (identifier_at file at) a at tt p k in
              let Q = noted_holds (Header file) second (identifier_at file at) b at tt q k in
              elim (dec_le (at + 8 + size_at order file at) (length file)) [
                | yes l ↦ subst Headers (sym (walk_on order a b file at first second n l)) (headers n _ _ _ P Q)
                | no l ↦ subst Headers (sym (walk_past order a b file at first second n k (omega arith))) (P, Q)
              ]
        ]
      ]

  abbrev Bodies : Chunks → Type 0
  Bodies c = c.whole ≡ true → Body order file c.first × Body order file c.second

  bodies : (n at : ℕ) (first second : Option ℕ) → Body order file first → Body order file second → Bodies (walk_from n order a b file at first second)
  unfolding walk_from
  bodies zero at first second p q = λ w. (p, q)
  bodies (suc n) at first second p q =
      elim (dec_le (length file) at) [
        | yes h ↦ subst Bodies (sym (walk_end order a b file at first second (suc n) h)) (λ w. (p, q))
        | no h ↦ elim (dec_le (at + 8) (length file)) [
          | no k ↦ subst Bodies (sym (walk_rest order a b file at first second n (omega arith) (omega arith))) (λ w. absurd (true≢false (sym w)))
          | yes k ↦ elim (dec_le (at + 8 + size_at order file at) (length file)) [
            | yes l ↦
                subst Bodies (sym (walk_on order a b file at first second n l))
                (bodies n _ _ _ (noted_holds (Body order file) first (identifier_at file at) a at tt p l) (noted_holds (Body order file) second (identifier_at file at) b at tt q l))
            | no l ↦ subst Bodies (sym (walk_past order a b file at first second n k (omega arith))) (λ w. absurd (true≢false (sym w)))
          ]
        ]
      ]

  module _ (chunks : Chunks) (walked : chunks ≡ walk_of order a b file) where
    all_headers : Headers chunks
    unfolding walk_of
    all_headers = subst Headers (sym walked) (headers (length file) 12 None None tt tt)

    all_bodies : Bodies chunks
    unfolding walk_of
    all_bodies = subst Bodies (sym walked) (bodies (length file) 12 None None tt tt)

    -- of the places that were found
    module _ {p : ℕ} where
      pub first_header : chunks.first ≡ Some p → p + 8 ≤ length file
      first_header e = subst (Header file) e all_headers.0

      pub second_header : chunks.second ≡ Some p → p + 8 ≤ length file
      second_header e = subst (Header file) e all_headers.1

      pub first_body : chunks.first ≡ Some p → chunks.whole ≡ true → p + 8 + size_at order file p ≤ length file
      first_body e w = subst (Body order file) e (all_bodies w).0

      pub second_body : chunks.second ≡ Some p → chunks.whole ≡ true → p + 8 + size_at order file p ≤ length file
      second_body e w = subst (Body order file) e (all_bodies w).1
