-- What other proofs need to know of which orders count. Assumes nothing.
use mathlib.Core.Path.{◌≡◌, refl, sym, ap, ap₂, ◌∙◌}
use mathlib.Core.Bool.{Bool, true, false, not, cond, ◌&&◌}
use mathlib.Core.List.{List}
use Prim.Native.Nat.{ℕ, zero, suc, ◌≤◌, ◌<◌}
use borrow.Author.Tests.{le-ltb, eq-eqb, ne_eqb}
use lib.Dec.{T, eqb, ltb, eqb→eq}
use lib.ListN.{get_or}
use lib.Ieee.Fits.{and_l, and_r}
use Rattle.laws.proofs.laws.Choice.{and_same, first_no}
use Rattle.laws.proofs.laws.Loop.{upto_holds}
use Rattle.scene.specs.declared.scene.Scene.{Scene}
use Rattle.scene.specs.declared.scene.OrderLine.{OrderLine}
use Rattle.scene.specs.declared.scene.OrderKind.{OrderKind}
use Rattle.scene.specs.declared.scene.OrderKind.TheVariants.{MainVolume, TrackVolume, SendVolume, RouteVolume, Pause, Resume}
use Rattle.accepted.specs.Lines.{order_line, absent_order_line}
use Rattle.order_lines.specs.Orders.{kind_number, is_kind_for, found_after, last_is_after, dropped, counts}

-- ---- kinds by their numbers

-- numbers are compared as the program has them
pub same_test : {a b m n : ℕ} {t : Bool} → m ≡ a → n ≡ b → eqb m n ≡ t → eqb a b ≡ t
same_test h k e = sym (ap₂ eqb h k) ∙ e

kind_of : ℕ → OrderKind
kind_of zero = MainVolume
kind_of (suc zero) = TrackVolume
kind_of (suc (suc zero)) = SendVolume
kind_of (suc (suc (suc zero))) = RouteVolume
kind_of (suc (suc (suc (suc zero)))) = Pause
kind_of (suc (suc (suc (suc (suc n))))) = Resume

kind_of_lem : (k : OrderKind) → kind_of (kind_number k) ≡ k
unfolding kind_of kind_number
kind_of_lem MainVolume = refl
kind_of_lem TrackVolume = refl
kind_of_lem SendVolume = refl
kind_of_lem RouteVolume = refl
kind_of_lem Pause = refl
kind_of_lem Resume = refl

pub same_kind : (j k : OrderKind) → T (eqb (kind_number j) (kind_number k)) → j ≡ k
same_kind j k t = sym (kind_of_lem j) ∙ ap kind_of (eqb→eq (kind_number j) (kind_number k) t) ∙ kind_of_lem k

pub and_where : (b x y : Bool) → (T b → x ≡ y) → (b && x) ≡ (b && y)
and_where true x y h = h tt
and_where false x y h = refl

-- ---- an order of a kind, for the block and index of another

pub kind_for_kind : (k : OrderKind) (o p : OrderLine) → T (is_kind_for k o p) → p.kind ≡ k
unfolding is_kind_for
kind_for_kind k o p t =
    let kind = eqb (kind_number p.kind) (kind_number k) in
    let index = eqb p.index o.index in
    same_kind p.kind k (and_l kind index (and_r (eqb p.block o.block) (kind && index) t))

pub kind_for_index : (k : OrderKind) (o p : OrderLine) → T (is_kind_for k o p) → p.index ≡ o.index
unfolding is_kind_for
kind_for_index k o p t =
    let kind = eqb (kind_number p.kind) (kind_number k) in
    let index = eqb p.index o.index in
    eqb→eq p.index o.index (and_r kind index (and_r (eqb p.block o.block) (kind && index) t))

-- orders with other indices are so as before where the indices of that kind agree as before
pub kind_for_same : (k : OrderKind) (o p o' p' : OrderLine) → o'.block ≡ o.block → p'.block ≡ p.block → p'.kind ≡ p.kind
    → (p.kind ≡ k → eqb p'.index o'.index ≡ eqb p.index o.index) → is_kind_for k o' p' ≡ is_kind_for k o p
unfolding is_kind_for
kind_for_same k o p o' p' in_block other_block of_kind h =
    and_same (ap₂ eqb other_block in_block)
    (ap (λ (x : OrderKind). eqb (kind_number x) (kind_number k) && eqb p'.index o'.index) of_kind
    ∙ and_where (eqb (kind_number p.kind) (kind_number k)) (eqb p'.index o'.index) (eqb p.index o.index) (λ t. h (same_kind p.kind k t)))

-- ---- orders of another block, and orders that count

pub order_skipped : (s : Scene) (block i : ℕ) → ((order_line s i).block ≡ block → ⊥) → counts s.orders s.order_count block i ≡ false
unfolding counts
order_skipped s block i h = sym (first_no (eqb (order_line s i).block block) _ (ne_eqb (order_line s i).block block h))

pub of_block : (s : Scene) (block i : ℕ) → T (counts s.orders s.order_count block i) → (order_line s i).block ≡ block
unfolding counts
of_block s block i t =
    eqb→eq (order_line s i).block block
    (and_l (eqb (order_line s i).block block) (not (last_is_after s.orders s.order_count (order_line s i).kind i) && not (dropped s.orders s.order_count i)) t)

-- ---- a pause with no later pause for its block and index

module _ (orders : List OrderLine) (count : ℕ) (i : ℕ) where
  abbrev line : ℕ → OrderLine
  line j = get_or orders j absent_order_line

  not_after : (k : OrderKind) → ((j : ℕ) → j < count → T (is_kind_for k (line i) (line j)) → j ≤ i) → last_is_after orders count k i ≡ false
  unfolding last_is_after found_after
  not_after k h =
      upto_holds (λ j found. found ≡ false) (λ j found. found_after k (line i) (line j) i j found) count false refl
      (λ j b found e. go (is_kind_for k (line i) (line j)) (ltb i j) found (λ t. le-ltb i j (h j b t)) e)
    where
      go : (c after found : Bool) → (T c → after ≡ false) → found ≡ false → cond c after found ≡ false
      go true after found a e = a tt
      go false after found a e = e

  pub pause_counts : (block : ℕ) → (line i).kind ≡ Pause → (line i).block ≡ block → ((j : ℕ) → j < count → T (is_kind_for Pause (line i) (line j)) → j ≤ i)
      → counts orders count block i ≡ true
  unfolding counts dropped kind_number
  pause_counts block pause here none =
      let own : last_is_after orders count (line i).kind i ≡ false = ap (λ (k : OrderKind). last_is_after orders count k i) pause ∙ not_after Pause none in
      let stays : dropped orders count i ≡ false = sym (first_no (eqb (kind_number (line i).kind) (kind_number Resume)) _ (ap (λ (k : OrderKind). eqb (kind_number k) (kind_number Resume)) pause)) in
      and_same {c = true} {d = true} (eq-eqb (line i).block block here) (and_same {c = true} {d = true} (ap not own) (ap not stays))
