-- The last number below a top that passes a test, by halving. Assumes nothing.
use mathlib.Core.Path.{◌≡◌, refl, sym, ◌∙◌, subst}
use mathlib.Core.Logic.{inl, inr}
use mathlib.Core.Bool.{Bool, true, false, cond, true≢false}
use Prim.Native.Nat.{ℕ, zero, suc, ◌+◌, ◌*◌, ◌/◌, ◌^◌, ◌≤◌, ◌<◌}
use native.Mathlib.Nat.{pow-succ'}
use native.Mathlib.Omega.{arith}
use Rattle.laws.proofs.laws.FloatRound.{below_or_not}
use Rattle.root.specs.Root.{last}

-- k passes, and the next number does not, if there is one
pub record IsLast (test : ℕ → Bool) (top k : ℕ) : Type 0 where
  pub below : k < top
  pub passes : test k ≡ true
  pub next : suc k < top → test (suc k) ≡ false

-- low passes, and high does not, or is the top
pub record Holds (test : ℕ → Bool) (top low high : ℕ) : Type 0 where
  pub apart : low < high
  pub most : high ≤ top
  pub passes : test low ≡ true
  pub fails : high < top → test high ≡ false

module _ (test : ℕ → Bool) (top low high : ℕ) (h : Holds test top low high) where
  pub holds_above : (m : ℕ) → m < high → test m ≡ true → Holds test top m high
  holds_above m l t = record { apart = l; most = h.most; passes = t; fails = h.fails }

  pub holds_below : (m : ℕ) → low < m → m < high → test m ≡ false → Holds test top low m
  holds_below m l g t = record { apart = l; most = omega (arith, h.most); passes = h.passes; fails = λ _. t }

  pub holds_last : high ≤ suc low → IsLast test top low
  holds_last e =
      let a = h.apart in
      let m = h.most in
      let s : high ≡ suc low = omega arith in
      record { below = omega arith; passes = h.passes; next = λ l. subst (λ (z : ℕ). test z ≡ false) s (h.fails (subst (λ (z : ℕ). z < top) (sym s) l)) }

-- a half of an interval, whether it passes or not
half : (test : ℕ → Bool) (top low high m : ℕ) → Holds test top low high → low ≤ m → m < high → Holds test top (cond (test m) m low) (cond (test m) high m)
half test top low high m h l g = go (test m) refl
  where
    strict : low ≡ m → test m ≡ true
    strict e = subst (λ (z : ℕ). test z ≡ true) e h.passes

    beyond : (test m ≡ false) → low < m
    beyond f = elim (below_or_not low m) [ inl k ↦ k | inr k ↦ let e : low ≡ m = omega arith in absurd (true≢false (sym (strict e) ∙ f)) ]

    go : (b : Bool) → test m ≡ b → Holds test top (cond b m low) (cond b high m)
    go true e = holds_above test top low high h m g e
    go false e = holds_below test top low high h m (beyond e) g e

pub last_is : (test : ℕ → Bool) (top n low high : ℕ) → Holds test top low high → high ≤ low + 2 ^ n → IsLast test top (last test n low high)
unfolding last
last_is test top zero low high h w = holds_last test top low high h (omega (arith, w))
last_is test top (suc n) low high h w =
    let a = h.apart in
    let m = (low + high) / 2 in
    let p : high ≤ low + 2 * 2 ^ n = subst (λ (z : ℕ). high ≤ low + z) (pow-succ' 2 n) w in
    last_is test top n (cond (test m) m low) (cond (test m) high m) (half test top low high m h (omega arith) (omega arith)) (narrow (test m) low high (2 ^ n) a p)
  where
    narrow : (b : Bool) (low high q : ℕ) → low < high → high ≤ low + 2 * q → cond b high ((low + high) / 2) ≤ cond b ((low + high) / 2) low + q
    narrow true low high q a p = omega arith
    narrow false low high q a p = omega arith

-- there is one such number, where what passes has only what passes below it
pub last_unique : (test : ℕ → Bool) (top : ℕ) → ((j k : ℕ) → j ≤ k → k < top → test k ≡ true → test j ≡ true) → (j k : ℕ) → IsLast test top j → IsLast test top k → j ≡ k
last_unique test top down j k a b = elim (below_or_not j k) [
  | inl l ↦ absurd (no j k l a b)
  | inr g ↦ elim (below_or_not k j) [ inl l ↦ absurd (no k j l b a) | inr h ↦ omega arith ]
]
  where
    no : (j k : ℕ) → j < k → IsLast test top j → IsLast test top k → ⊥
    no j k l a b =
        let t = b.below in
        true≢false (sym (down (suc j) k l t b.passes) ∙ a.next (omega arith))
