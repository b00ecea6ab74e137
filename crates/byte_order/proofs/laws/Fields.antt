-- Fields put one behind the other into a buffer, and a head with a body behind it. Assumes nothing.
use mathlib.Core.Path.{◌≡◌, sym, ap, ◌∙◌}
use mathlib.Core.List.{List, ◌++◌, append_assoc, append-nil}
use Prim.Native.Nat.{ℕ, ◌+◌, ◌≤◌}
use native.Mathlib.Omega.{arith}
use lib.ListN.{length, length-append, drop_of_length-le}
use Rattle.laws.specs.Pieces.{put_at}
use Rattle.laws.proofs.laws.Pieces.{put_turn}
use Rattle.byte_order.specs.declared.bytes.ByteOrder.{ByteOrder}
use Rattle.byte_order.specs.Bytes.{bytes_of}
use Rattle.byte_order.proofs.laws.Bytes.{length_bytes}

module _ {A : Type 0} (at : ℕ) (l : List A) (h : at ≤ length l) where
  pub put_two : (a b : List A) {n m : List A} {to : ℕ} → n ≡ put_at at a l → m ≡ put_at to b n → to ≡ at + length a → m ≡ put_at at (a ++ b) l
  put_two a b e f p = f ∙ put_turn at a b l h e p

  pub put_three : (a b c : List A) {n m k : List A} {to on : ℕ} → n ≡ put_at at a l → m ≡ put_at to b n → k ≡ put_at on c m → to ≡ at + length a → on ≡ to + length b → k ≡ put_at at (a ++ (b ++ c)) l
  put_three a b c e f g p q =
      put_two (a ++ b) c (put_two a b e f p) g (omega (arith, length-append a b)) ∙ ap (λ (x : List A). put_at at x l) (append_assoc a b c)

  pub put_four : (a b c d : List A) {n m k j : List A} {to on up : ℕ} → n ≡ put_at at a l → m ≡ put_at to b n → k ≡ put_at on c m → j ≡ put_at up d k
      → to ≡ at + length a → on ≡ to + length b → up ≡ on + length c → j ≡ put_at at (a ++ (b ++ (c ++ d))) l
  put_four a b c d e f g i p q r =
      put_three (a ++ b) c d (put_two a b e f p) g i (omega (arith, length-append a b)) r ∙ ap (λ (x : List A). put_at at x l) (append_assoc a b (c ++ d))

-- a number's bytes end where the next field begins
pub behind : (order : ByteOrder) (n number at to : ℕ) → to ≡ at + n → to ≡ at + length (bytes_of order n number)
behind order n number at to e = e ∙ ap (λ (x : ℕ). at + x) (sym (length_bytes order n number))

-- ---- a buffer that is filled

put_all : {A : Type 0} (p l : List A) → length p ≡ length l → put_at 0 p l ≡ p
unfolding put_at
put_all {A} p l e = ap (λ (x : List A). p ++ x) (drop_of_length-le l {i = 0 + length p} (omega arith)) ∙ append-nil p

module _ {A : Type 0} (head body l : List A) (k : ℕ) (long : length head ≡ k) (fills : length l ≡ k + length body) where
  pub put_both : {n m : List A} → n ≡ put_at 0 head l → m ≡ put_at k body n → m ≡ head ++ body
  put_both e f =
      f
      ∙ put_turn 0 head body l (omega arith) e (omega arith)
      ∙ put_all (head ++ body) l (omega (arith, length-append head body))
