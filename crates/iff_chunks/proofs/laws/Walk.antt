-- The four ways on from a place of the walk. Assumes nothing.
use mathlib.Core.Path.{◌≡◌, refl, sym, ap, ap₂, ◌∙◌, subst, subst₂}
use mathlib.Core.Bool.{Bool, true, false, ◌&&◌}
use mathlib.Core.List.{List}
use Prim.Native.Nat.{ℕ, zero, suc, ◌+◌, ◌%◌, ◌≤◌, ◌<◌}
use native.Mathlib.Omega.{arith}
use lib.Dec.{eqb, leb, ltb}
use lib.ListN.{length}
use Rattle.std.specs.Prelude.{Option, Some, None}
use Rattle.std.specs.Bool.{then_some}
use borrow.Author.Tests.{eq-eqb, ne_eqb, lt-ltb, le-ltb, le-leb, lt-leb}
use Rattle.laws.proofs.laws.Choice.{cond-true, cond-false}
use Rattle.byte_order.specs.declared.bytes.ByteOrder.{ByteOrder}
use Rattle.iff_chunks.specs.declared.form.Chunks.{Chunks}
use Rattle.iff_chunks.specs.Chunks.{identifier_at, size_at, is_form, noted, found, walk_from, walk_of}

module _ (order : ByteOrder) (a b : ℕ) (file : List ℕ) (at : ℕ) (first second : Option ℕ) where
  abbrev pub next : ℕ
  next = at + 8 + size_at order file at + size_at order file at % 2

  abbrev pub first_noted : Option ℕ
  first_noted = noted first (identifier_at file at) a at

  abbrev pub second_noted : Option ℕ
  second_noted = noted second (identifier_at file at) b at

  pub walk_end : (n : ℕ) → length file ≤ at → walk_from n order a b file at first second ≡ found first second true
  unfolding walk_from
  walk_end zero h = refl
  walk_end (suc n) h = cond-true (leb (length file) at) (found first second true) _ (le-leb (length file) at h)

  pub walk_rest : (n : ℕ) → at < length file → length file < at + 8 → walk_from (suc n) order a b file at first second ≡ found first second false
  unfolding walk_from
  walk_rest n h k =
      cond-false (leb (length file) at) (found first second true) _ (lt-leb (length file) at h)
      ∙ cond-true (ltb (length file) (at + 8)) (found first second false) _ (lt-ltb (length file) (at + 8) k)

  pub walk_past : (n : ℕ) → at + 8 ≤ length file → length file < at + 8 + size_at order file at
      → walk_from (suc n) order a b file at first second ≡ found first_noted second_noted false
  unfolding walk_from
  walk_past n h k =
      cond-false (leb (length file) at) (found first second true) _ (lt-leb (length file) at (omega arith))
      ∙ cond-false (ltb (length file) (at + 8)) (found first second false) _ (le-ltb (length file) (at + 8) h)
      ∙ cond-true (ltb (length file) (at + 8 + size_at order file at)) (found first_noted second_noted false) _ (lt-ltb (length file) (at + 8 + size_at order file at) k)

  pub walk_on : (n : ℕ) → at + 8 + size_at order file at ≤ length file
      → walk_from (suc n) order a b file at first second ≡ walk_from n order a b file next first_noted second_noted
  unfolding walk_from
  walk_on n h =
      cond-false (leb (length file) at) (found first second true) _ (lt-leb (length file) at (omega arith))
      ∙ cond-false (ltb (length file) (at + 8)) (found first second false) _ (le-ltb (length file) (at + 8) (omega arith))
      ∙ cond-false (ltb (length file) (at + 8 + size_at order file at)) (found first_noted second_noted false) _ (le-ltb (length file) (at + 8 + size_at order file at) h)

-- what the loop knows at each turn: n turns are enough from here on, and they come to what the whole walk does
pub record Walks (order : ByteOrder) (a b : ℕ) (file : List ℕ) (at : ℕ) (first second : Option ℕ) (end : Chunks) : Type 0 where
  pub turns : ℕ
  pub enough : length file ≤ at + turns
  pub is : walk_from turns order a b file at first second ≡ end

module _ (order : ByteOrder) (a b : ℕ) (file : List ℕ) where
  pub walks_start : Walks order a b file 12 None None (walk_of order a b file)
  unfolding walk_of
  walks_start = record { turns = length file; enough = omega arith; is = refl }

  module _ (at : ℕ) (first second : Option ℕ) (end : Chunks) where
    pub walks_end : Walks order a b file at first second end → length file ≤ at → found first second true ≡ end
    walks_end w h = sym (walk_end order a b file at first second w.turns h) ∙ w.is

    rest_from : (n : ℕ) → length file ≤ at + n → walk_from n order a b file at first second ≡ end → at < length file → length file < at + 8 → found first second false ≡ end
    rest_from zero e i h k = absurd (omega arith)
    rest_from (suc n) e i h k = sym (walk_rest order a b file at first second n h k) ∙ i

    pub walks_rest : Walks order a b file at first second end → at < length file → length file < at + 8 → found first second false ≡ end
    walks_rest w h k = rest_from w.turns w.enough w.is h k

    past_from : (n : ℕ) → length file ≤ at + n → walk_from n order a b file at first second ≡ end → at + 8 ≤ length file → length file < at + 8 + size_at order file at
        → found (noted first (identifier_at file at) a at) (noted second (identifier_at file at) b at) false ≡ end
    past_from zero e i h k = absurd (omega arith)
    past_from (suc n) e i h k = sym (walk_past order a b file at first second n h k) ∙ i

    pub walks_past : {f s : Option ℕ} {size : ℕ} → Walks order a b file at first second end → size ≡ size_at order file at → f ≡ noted first (identifier_at file at) a at
        → s ≡ noted second (identifier_at file at) b at → at + 8 ≤ length file → length file < at + 8 + size → found f s false ≡ end
    walks_past w z p q h k =
        ap₂ (λ (x y : Option ℕ). found x y false) p q ∙ past_from w.turns w.enough w.is h (subst (λ (x : ℕ). length file < at + 8 + x) z k)

    on_from : (n : ℕ) → length file ≤ at + n → walk_from n order a b file at first second ≡ end → at + 8 + size_at order file at ≤ length file
        → Walks order a b file (at + 8 + size_at order file at + size_at order file at % 2) (noted first (identifier_at file at) a at) (noted second (identifier_at file at) b at) end
    on_from zero e i h = absurd (omega arith)
    on_from (suc n) e i h = record { turns = n; enough = omega arith; is = sym (walk_on order a b file at first second n h) ∙ i }

    pub walks_on : {f s : Option ℕ} {size next : ℕ} → Walks order a b file at first second end → size ≡ size_at order file at → f ≡ noted first (identifier_at file at) a at
        → s ≡ noted second (identifier_at file at) b at → at + 8 + size ≤ length file → next ≡ at + 8 + size + size % 2 → Walks order a b file next f s end
    walks_on {f} {s} w z p q h e =
        subst (λ (x : ℕ). Walks order a b file x f s end) (sym e)
        (subst (λ (x : ℕ). Walks order a b file (at + 8 + x + x % 2) f s end) (sym z)
        (subst₂ (λ (x y : Option ℕ). Walks order a b file (at + 8 + size_at order file at + size_at order file at % 2) x y end) (sym p) (sym q)
        (on_from w.turns w.enough w.is (subst (λ (x : ℕ). at + 8 + x ≤ length file) z h))))

-- ---- small laws

module _ (identifier wanted at : ℕ) where
  pub noted_kept : (place : ℕ) → Some place ≡ noted (Some place) identifier wanted at
  unfolding noted
  noted_kept place = refl

  pub noted_new : identifier ≡ wanted → Some at ≡ noted None identifier wanted at
  unfolding noted
  noted_new e = sym (ap (λ (t : Bool). then_some t at) (eq-eqb identifier wanted e))

  pub noted_none : (identifier ≡ wanted → ⊥) → None ≡ noted None identifier wanted at
  unfolding noted
  noted_none n = sym (ap (λ (t : Bool). then_some t at) (ne_eqb identifier wanted n))

module _ (file : List ℕ) (outer form : ℕ) where
  pub form_short : length file < 12 → false ≡ is_form file outer form
  unfolding is_form
  form_short h = sym (ap (λ (t : Bool). t && (eqb (identifier_at file 0) outer && eqb (identifier_at file 8) form)) (lt-leb 12 (length file) h))

  pub form_other : 12 ≤ length file → (identifier_at file 0 ≡ outer → ⊥) → false ≡ is_form file outer form
  unfolding is_form
  form_other h n =
      sym (ap (λ (t : Bool). t && (eqb (identifier_at file 0) outer && eqb (identifier_at file 8) form)) (le-leb 12 (length file) h)
      ∙ ap (λ (t : Bool). t && eqb (identifier_at file 8) form) (ne_eqb (identifier_at file 0) outer n))

  pub form_is : 12 ≤ length file → identifier_at file 0 ≡ outer → eqb (identifier_at file 8) form ≡ is_form file outer form
  unfolding is_form
  form_is h e =
      sym (ap (λ (t : Bool). t && (eqb (identifier_at file 0) outer && eqb (identifier_at file 8) form)) (le-leb 12 (length file) h)
      ∙ ap (λ (t : Bool). t && eqb (identifier_at file 8) form) (eq-eqb (identifier_at file 0) outer e))
