-- A block's last lines, marked once, say of each line what a walk over all lines says of it. Assumes nothing.
use mathlib.Core.Path.{◌≡◌, refl, sym, ap, subst, ◌∙◌}
use mathlib.Core.Bool.{Bool, true, false, not, cond, ◌&&◌}
use mathlib.Core.List.{List}
use Prim.Native.Nat.{ℕ, suc, ◌+◌, ◌*◌, ◌^◌, ◌≤◌, ◌<◌}
use native.Mathlib.Omega.{arith}
use borrow.Author.Tests.{ltb-true, ltb-false, eqb-true, eqb-false, lt-ltb, le-ltb, eq-eqb, ne_eqb}
use lib.Dec.{eqb, ltb}
use lib.ListN.{length, get_or, set, replicate, length-set, length-replicate, get_or-replicate}
use lib.Seq.{get_or-set_same, get_or-set_other}
use Rattle.laws.specs.Loop.{upto}
use Rattle.laws.proofs.laws.Choice.{and_same, cond-true, cond-false, first_yes}
use Rattle.laws.proofs.laws.Loop.{upto_zero, upto-suc, upto_holds}
use Rattle.scene.specs.declared.scene.OrderLine.{OrderLine}
use Rattle.scene.specs.declared.scene.OrderKind.{OrderKind}
use Rattle.scene.specs.declared.scene.OrderKind.TheVariants.{MainVolume, TrackVolume, SendVolume, RouteVolume, Pause, Resume}
use Rattle.accepted.specs.Lines.{absent_order_line}
use Rattle.order_lines.specs.Orders.{kind_number, is_kind_for, found_after, last_is_after, dropped, counts, keys, marks_size, key, mark_line, last_lines, counts_by}

-- ---- keys

kind_most : (k : OrderKind) → kind_number k ≤ 5
unfolding kind_number
kind_most MainVolume = omega arith
kind_most TrackVolume = omega arith
kind_most SendVolume = omega arith
kind_most RouteVolume = omega arith
kind_most Pause = omega arith
kind_most Resume = omega arith

below : (n a : ℕ) → n ≤ 5 → a < keys → n * keys + a < marks_size
below n a h k = omega arith

key_fits : (k : OrderKind) (index : ℕ) → index < keys → key k index < marks_size
unfolding key
key_fits k index h = below (kind_number k) index (kind_most k) h

-- a place that a key names is one of the marks, and so are its eight bytes
pub place_fits : {at : ℕ} (k : OrderKind) (index : ℕ) → at ≡ key k index → index < keys → at < marks_size
place_fits k index e h = subst (λ (n : ℕ). n < marks_size) (sym e) (key_fits k index h)

pub bytes_fit : {at : ℕ} → at < marks_size → at * 8 < 2 ^ 64
bytes_fit h = omega arith

-- a mark read at such a place
module _ (marks : List ℕ) (n : ℕ) {at k : ℕ} (e : at ≡ k) where
  pub mark_test : ltb n (get_or marks at 0) ≡ ltb n (get_or marks k 0)
  mark_test = ap (λ (z : ℕ). ltb n (get_or marks z 0)) e

  pub mark_after : n < get_or marks at 0 → ltb n (get_or marks k 0) ≡ true
  mark_after h = sym mark_test ∙ lt-ltb n (get_or marks at 0) h

  pub mark_not_after : get_or marks at 0 ≤ n → ltb n (get_or marks k 0) ≡ false
  mark_not_after h = sym mark_test ∙ le-ltb n (get_or marks at 0) h

-- kind and index are one-to-one with the key
one_kind : (m n a b : ℕ) → a < keys → b < keys → m * keys + a ≡ n * keys + b → m ≡ n
one_kind m n a b h k e = omega arith

one_index : (m n a b : ℕ) → a < keys → b < keys → m * keys + a ≡ n * keys + b → a ≡ b
one_index m n a b h k e = omega arith

pair_test : (m n a b : ℕ) → a < keys → b < keys → (eqb m n && eqb a b) ≡ eqb (m * keys + a) (n * keys + b)
pair_test m n a b h k = go (eqb m n) (eqb a b) refl refl
  where
    go : (x y : Bool) → eqb m n ≡ x → eqb a b ≡ y → (x && y) ≡ eqb (m * keys + a) (n * keys + b)
    go true true p q = sym (eq-eqb (m * keys + a) (n * keys + b) (omega (arith, eqb-true m n p, eqb-true a b q)))
    go true false p q = sym (ne_eqb (m * keys + a) (n * keys + b) (λ e. eqb-false a b q (one_index m n a b h k e)))
    go false y p q = sym (ne_eqb (m * keys + a) (n * keys + b) (λ e. eqb-false m n p (one_kind m n a b h k e)))

key_test : (j k : OrderKind) (a b : ℕ) → a < keys → b < keys → (eqb (kind_number j) (kind_number k) && eqb a b) ≡ eqb (key j a) (key k b)
unfolding key
key_test j k a b = pair_test (kind_number j) (kind_number k) a b

-- ---- the marks

next_test : (i j : ℕ) → ltb i j ≡ ltb (i + 1) (j + 1)
next_test i j = go (ltb i j) refl
  where
    go : (b : Bool) → ltb i j ≡ b → b ≡ ltb (i + 1) (j + 1)
    go true e = sym (lt-ltb (i + 1) (j + 1) (omega (arith, ltb-true i j e)))
    go false e = sym (le-ltb (i + 1) (j + 1) (omega (arith, ltb-false i j e)))

-- a mark set at a key is the one read there, and no other
mark_read : (marks : List ℕ) (i j put at : ℕ) (here : Bool) (found : Bool) → put < length marks → found ≡ ltb (i + 1) (get_or marks at 0)
    → cond (here && eqb put at) (ltb i j) found ≡ ltb (i + 1) (get_or (cond here (set marks put (j + 1)) marks) at 0)
mark_read marks i j put at false found h e = e
mark_read marks i j put at true found h e = go (eqb put at) refl
  where
    go : (b : Bool) → eqb put at ≡ b → cond b (ltb i j) found ≡ ltb (i + 1) (get_or (set marks put (j + 1)) at 0)
    go true p =
        next_test i j
        ∙ ap (ltb (i + 1)) (sym (get_or-set_same marks put (j + 1) 0 h) ∙ ap (λ (z : ℕ). get_or (set marks put (j + 1)) z 0) (eqb-true put at p))
    go false p = e ∙ ap (ltb (i + 1)) (sym (get_or-set_other marks put at (j + 1) 0 (λ q. eqb-false put at p (sym q))))

length_by : (b : Bool) (marks : List ℕ) (at x : ℕ) → length (cond b (set marks at x) marks) ≡ length marks
length_by true marks at x = length-set marks at x
length_by false marks at x = refl

module _ (orders : List OrderLine) (block : ℕ) where
  abbrev line : ℕ → OrderLine
  line j = get_or orders j absent_order_line

  mark_length : (j : ℕ) (marks : List ℕ) → length (mark_line orders block j marks) ≡ length marks
  unfolding mark_line
  mark_length j marks = length_by (eqb (line j).block block) marks (key (line j).kind (line j).index) (j + 1)

  -- a line of the block is marked, and another leaves the marks
  pub marks_on : (j : ℕ) {at : ℕ} (marks : List ℕ) → (line j).block ≡ block → at ≡ key (line j).kind (line j).index → set marks at (j + 1) ≡ mark_line orders block j marks
  unfolding mark_line
  marks_on j marks e f = ap (λ (z : ℕ). set marks z (j + 1)) f ∙ sym (cond-true (eqb (line j).block block) _ _ (eq-eqb (line j).block block e))

  pub marks_off : (j : ℕ) (marks : List ℕ) → ((line j).block ≡ block → ⊥) → mark_line orders block j marks ≡ marks
  unfolding mark_line
  marks_off j marks h = cond-false (eqb (line j).block block) _ _ (ne_eqb (line j).block block h)

  module _ (count i : ℕ) (fits : (j : ℕ) → j < count → (line j).index < keys) (b : i < count) (here : (line i).block ≡ block) where
    kind_for : (k : OrderKind) (j : ℕ) → j < count → is_kind_for k (line i) (line j) ≡ (eqb (line j).block block && eqb (key (line j).kind (line j).index) (key k (line i).index))
    unfolding is_kind_for
    kind_for k j h = and_same (ap (eqb (line j).block) here) (key_test (line j).kind k (line j).index (line i).index (fits j h) (fits i b))

    found_step : (k : OrderKind) (j : ℕ) → j < count → (marks : List ℕ) → length marks ≡ marks_size → (found : Bool) → found ≡ ltb (i + 1) (get_or marks (key k (line i).index) 0)
        → found_after k (line i) (line j) i j found ≡ ltb (i + 1) (get_or (mark_line orders block j marks) (key k (line i).index) 0)
    unfolding found_after mark_line
    found_step k j h marks l found e =
        ap (λ (z : Bool). cond z (ltb i j) found) (kind_for k j h)
        ∙ mark_read marks i j (key (line j).kind (line j).index) (key k (line i).index) (eqb (line j).block block) found
        (subst (λ (n : ℕ). key (line j).kind (line j).index < n) (sym l) (key_fits (line j).kind (line j).index (fits j h))) e

    abbrev turn : OrderKind → ℕ → Bool → Bool
    turn k j found = found_after k (line i) (line j) i j found

    Agree : OrderKind → ℕ → List ℕ → Type 0
    Agree k n marks = (length marks ≡ marks_size) × (upto (turn k) n false ≡ ltb (i + 1) (get_or marks (key k (line i).index) 0))

    none : (k : OrderKind) → Agree k 0 (replicate marks_size 0)
    unfolding Agree
    none k = (
      length-replicate {A = ℕ} marks_size 0,
      upto_zero (turn k) false ∙ sym (ap (ltb (i + 1)) (get_or-replicate marks_size (key k (line i).index) 0 0 (key_fits k (line i).index (fits i b))) ∙ le-ltb (i + 1) 0 (omega arith)),
    )

    agree_step : (k : OrderKind) (j : ℕ) → j < count → (marks : List ℕ) → Agree k j marks → Agree k (suc j) (mark_line orders block j marks)
    unfolding Agree
    agree_step k j h marks p =
        (mark_length j marks ∙ p.0, upto-suc (turn k) j false ∙ found_step k j h marks p.0 (upto (turn k) j false) p.1)

    last_marked : (k : OrderKind) → last_is_after orders count k i ≡ ltb (i + 1) (get_or (last_lines orders count block) (key k (line i).index) 0)
    unfolding last_is_after last_lines Agree
    last_marked k = (upto_holds (Agree k) (mark_line orders block) count (replicate marks_size 0) (none k) (agree_step k)).1

  pub marks_made : (count : ℕ) → upto (mark_line orders block) count (replicate marks_size 0) ≡ last_lines orders count block
  unfolding last_lines
  marks_made count = refl

-- ---- which lines count

pub counts_marked : (orders : List OrderLine) (count block i : ℕ) → ((j : ℕ) → j < count → (get_or orders j absent_order_line).index < keys) → i < count → (get_or orders i absent_order_line).block ≡ block
    → counts_by (last_lines orders count block) (get_or orders i absent_order_line) i ≡ counts orders count block i
unfolding counts_by counts dropped
counts_marked orders count block i fits b here =
    let o = get_or orders i absent_order_line in
    let last = last_marked orders block count i fits b here in
    and_same (ap not (sym (last o.kind))) (ap not (and_same {a = eqb (kind_number o.kind) (kind_number Resume)} refl (sym (last Pause))))
    ∙ first_yes (eqb o.block block) _ (eq-eqb o.block block here)
