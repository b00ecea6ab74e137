-- The three loop forms that contracts are written in, each with the laws that its loop's proof asks for.
--   counting up:            `upto f n s`, for `i = 0; while i < n { s = f(i, s); i += 1 }`; the invariant is `now ≡ upto f i s₀`
--   counting down:          `downto f n s`, for `i = n; while 0 < i { i -= 1; s = f(i, s) }`; the invariant is `downto f i now ≡ downto f n s₀`
--   elements of a slice:    `changed f n l`, for `i = 0; while i < n { l[i] = f(i, l[i]); i += 1 }`; the invariant is `now ≡ changed f i l₀`
-- In each the law named `-turn` takes the invariant at one turn to the invariant at the next, and the law named `-end` takes the invariant at the
-- last turn to the contract. Assumes nothing.
use mathlib.Core.Path.{◌≡◌, sym, ap, ◌∙◌, subst, refl, ap₂}
use mathlib.Core.List.{List, [], ◌∷◌, ◌++◌, map}
use Prim.Native.Nat.{ℕ, ◌+◌, ◌≤◌, ◌<◌, zero, suc, ◌-◌, suc-le-suc}
use native.Mathlib.Nat.{le_trans, le_of_eq, le-add_right, le_refl, le-suc, le_of_suc-le-suc, not-suc-le-zero, lt_irrefl, zero-lt-suc, add-zero, add-suc, suc-sub-suc}
use mathlib.Core.Bool.{Bool, true, false, not}
use lib.Dec.{T, ltb, ltb→lt, nltb→le}
use lib.ListN.{length, get_or, set, take, drop}
use lib.Seq.{set_out, ext_get_or}
use native.Mathlib.Numerals.{add-one, sub-one}
use Rattle.laws.specs.Loop.{changed, upto, downto}

-- ---- counting up

module _ {ℓ} {S : Type ℓ} where
  pub upto_zero : (f : ℕ → S → S) (s : S) → upto f 0 s ≡ s
  unfolding upto
  upto_zero f s = refl

  pub upto-suc : (f : ℕ → S → S) (i : ℕ) (s : S) → upto f (suc i) s ≡ f i (upto f i s)
  unfolding upto
  upto-suc f i s = refl

  pub upto_next : (f : ℕ → S → S) (i : ℕ) (s : S) → upto f (i + 1) s ≡ f i (upto f i s)
  upto_next f i s = ap (λ (k : ℕ). upto f k s) (add-one i) ∙ upto-suc f i s

  pub upto_turn : (f : ℕ → S → S) (i : ℕ) (s : S) {now : S} → now ≡ upto f i s → f i now ≡ upto f (i + 1) s
  upto_turn f i s e = ap (f i) e ∙ sym (upto_next f i s)

  pub upto_end : (f : ℕ → S → S) (s : S) {i n : ℕ} {now : S} → i ≡ n → now ≡ upto f i s → now ≡ upto f n s
  upto_end f s h e = e ∙ ap (λ (k : ℕ). upto f k s) h

  -- the first a turns, then b more
  pub upto_add : (f : ℕ → S → S) (a b : ℕ) (s : S) → upto f (a + b) s ≡ upto (λ i. f (a + i)) b (upto f a s)
  unfolding upto
  upto_add f a zero s = ap (λ (k : ℕ). upto f k s) (add-zero a)
  upto_add f a (suc b) s = ap (λ (k : ℕ). upto f k s) (add-suc a b) ∙ ap (f (a + b)) (upto_add f a b s)

  -- turns that do the same give the same
  pub upto_cong : (f g : ℕ → S → S) (n : ℕ) (s : S) → ((i : ℕ) → i < n → (x : S) → f i x ≡ g i x) → upto f n s ≡ upto g n s
  unfolding upto
  upto_cong f g zero s h = refl
  upto_cong f g (suc n) s h = h n (le_refl (suc n)) (upto f n s) ∙ ap (g n) (upto_cong f g n s (λ i l. h i (le_trans l (le-suc n))))

  -- what each turn keeps holds at the end. P i speaks of the state before turn i
  pub upto_holds {κ} : (P : ℕ → S → Type κ) (f : ℕ → S → S) (n : ℕ) (s : S) → P 0 s → ((i : ℕ) → i < n → (x : S) → P i x → P (suc i) (f i x)) → P n (upto f n s)
  unfolding upto
  upto_holds P f zero s p h = p
  upto_holds P f (suc n) s p h = h n (le_refl (suc n)) (upto f n s) (upto_holds P f n s p (λ i l. h i (le_trans l (le-suc n))))

  -- the first turn, then the others
  pub upto_first : (f : ℕ → S → S) (n : ℕ) (s : S) → upto f (suc n) s ≡ upto (λ i. f (suc i)) n (f 0 s)
  unfolding upto
  upto_first f zero s = refl
  upto_first f (suc n) s = ap (f (suc n)) (upto_first f n s)

-- ---- counting down

pred_eq : (i : ℕ) → suc i - 1 ≡ i
pred_eq i = sub-one (suc i)

module _ {ℓ} {S : Type ℓ} where
  pub downto_zero : (f : ℕ → S → S) (s : S) → downto f 0 s ≡ s
  unfolding downto
  downto_zero f s = refl

  pub downto-suc : (f : ℕ → S → S) (i : ℕ) (s : S) → downto f (suc i) s ≡ downto f i (f i s)
  unfolding downto
  downto-suc f i s = refl

  pub downto_next : (f : ℕ → S → S) (i : ℕ) (s : S) → downto f (i + 1) s ≡ downto f i (f i s)
  downto_next f i s = ap (λ (k : ℕ). downto f k s) (add-one i) ∙ downto-suc f i s

  pub downto_pred : (f : ℕ → S → S) (i : ℕ) (s : S) → 0 < i → downto f (i - 1) (f (i - 1) s) ≡ downto f i s
  downto_pred f zero s h = absurd (lt_irrefl 0 h)
  downto_pred f (suc i) s h = ap (λ (k : ℕ). downto f k (f k s)) (pred_eq i) ∙ sym (downto-suc f i s)

  pub downto_turn : (f : ℕ → S → S) (i : ℕ) (now : S) {end : S} → 0 < i → downto f i now ≡ end → downto f (i - 1) (f (i - 1) now) ≡ end
  downto_turn f i now h e = downto_pred f i now h ∙ e

  pub downto_end : (f : ℕ → S → S) {i : ℕ} (now : S) {end : S} → i ≡ 0 → downto f i now ≡ end → now ≡ end
  downto_end f now h e = sym (ap (λ (k : ℕ). downto f k now) h ∙ downto_zero f now) ∙ e

  pub downto_cong : (f g : ℕ → S → S) (n : ℕ) (s : S) → ((i : ℕ) → i < n → (x : S) → f i x ≡ g i x) → downto f n s ≡ downto g n s
  unfolding downto
  downto_cong f g zero s h = refl
  downto_cong f g (suc n) s h = ap (downto f n) (h n (le_refl (suc n)) s) ∙ downto_cong f g n (g n s) (λ i l. h i (le_trans l (le-suc n)))

  -- P i speaks of the state once turn i is done
  pub downto_holds {κ} : (P : ℕ → S → Type κ) (f : ℕ → S → S) (n : ℕ) (s : S) → P n s → ((i : ℕ) → i < n → (x : S) → P (suc i) x → P i (f i x)) → P 0 (downto f n s)
  unfolding downto
  downto_holds P f zero s p h = p
  downto_holds P f (suc n) s p h = downto_holds P f n (f n s) (h n (le_refl (suc n)) s p) (λ i l. h i (le_trans l (le-suc n)))

  -- counting down is counting up with the last index first
  pub downto-upto : (f : ℕ → S → S) (n : ℕ) (s : S) → downto f n s ≡ upto (λ i. f (n - suc i)) n s
  unfolding downto upto
  downto-upto f zero s = refl
  downto-upto f (suc n) s =
      downto-upto f n (f n s)
      ∙ upto_cong (λ i. f (n - suc i)) (λ i. f (suc n - suc (suc i))) n (f n s) (λ i l x. ap (λ (k : ℕ). f k x) (sym (suc-sub-suc n (suc i))))
      ∙ ap (λ (k : ℕ). upto (λ i. f (suc n - suc (suc i))) n (f k s)) (sym (pred_eq n))
      ∙ sym (upto_first (λ i. f (suc n - suc i)) n s)

-- ---- elements of a slice

module _ {ℓ} {A : Type ℓ} where
  pub changed_zero : (f : ℕ → A → A) (l : List A) → changed f 0 l ≡ l
  unfolding changed
  changed_zero f l = refl

  pub changed_nil : (f : ℕ → A → A) (n : ℕ) → changed f n [] ≡ []
  unfolding changed
  changed_nil f zero = refl
  changed_nil f (suc n) = refl

  pub changed-length : (f : ℕ → A → A) (n : ℕ) (l : List A) → length (changed f n l) ≡ length l
  unfolding changed
  changed-length f zero l = refl
  changed-length f (suc n) [] = refl
  changed-length f (suc n) (x ∷ l) = ap suc (changed-length (λ j. f (suc j)) n l)

  -- below n an element is f of the old one
  pub changed_below : (f : ℕ → A → A) (n : ℕ) (l : List A) (k : ℕ) (d : A) → k < n → k < length l → get_or (changed f n l) k d ≡ f k (get_or l k d)
  unfolding changed
  changed_below f zero l k d h r = absurd (not-suc-le-zero h)
  changed_below f (suc n) [] k d h r = absurd (not-suc-le-zero r)
  changed_below f (suc n) (x ∷ l) zero d h r = refl
  changed_below f (suc n) (x ∷ l) (suc k) d h r = changed_below (λ j. f (suc j)) n l k d (le_of_suc-le-suc h) (le_of_suc-le-suc r)

  -- from n on it is the old one
  pub changed_from : (f : ℕ → A → A) (n : ℕ) (l : List A) (k : ℕ) (d : A) → n ≤ k → get_or (changed f n l) k d ≡ get_or l k d
  unfolding changed
  changed_from f zero l k d h = refl
  changed_from f (suc n) [] k d h = refl
  changed_from f (suc n) (x ∷ l) zero d h = absurd (not-suc-le-zero h)
  changed_from f (suc n) (x ∷ l) (suc k) d h = changed_from (λ j. f (suc j)) n l k d (le_of_suc-le-suc h)

  -- what the loop reads at i is still the old element
  pub changed_here : (f : ℕ → A → A) (i : ℕ) (l : List A) (d : A) → get_or (changed f i l) i d ≡ get_or l i d
  changed_here f i l d = changed_from f i l i d (le_refl i)

  changed_store : (f : ℕ → A → A) (i : ℕ) (l : List A) (d : A) → i < length l → set (changed f i l) i (f i (get_or l i d)) ≡ changed f (suc i) l
  unfolding changed
  changed_store f i [] d h = absurd (not-suc-le-zero h)
  changed_store f zero (x ∷ l) d h = refl
  changed_store f (suc i) (x ∷ l) d h = ap (λ (r : List A). f 0 x ∷ r) (changed_store (λ j. f (suc j)) i l d (le_of_suc-le-suc h))

  pub changed_next : (f : ℕ → A → A) (i : ℕ) (l : List A) (d : A) → i < length l → set (changed f i l) i (f i (get_or l i d)) ≡ changed f (i + 1) l
  changed_next f i l d h = changed_store f i l d h ∙ ap (λ (k : ℕ). changed f k l) (sym (add-one i))

  pub changed_turn : (f : ℕ → A → A) (i : ℕ) (l : List A) (d : A) {now : List A} → i < length l → now ≡ changed f i l → set now i (f i (get_or now i d)) ≡ changed f (i + 1) l
  changed_turn f i l d {now} h e =
      ap (λ (r : List A). set r i (f i (get_or r i d))) e
      ∙ ap (λ (x : A). set (changed f i l) i (f i x)) (changed_here f i l d)
      ∙ changed_next f i l d h

  pub changed_end : (f : ℕ → A → A) (l : List A) {i n : ℕ} {now : List A} → i ≡ n → now ≡ changed f i l → now ≡ changed f n l
  changed_end f l h e = e ∙ ap (λ (k : ℕ). changed f k l) h

  -- functions that agree on the elements give the same list
  pub changed_cong : (f g : ℕ → A → A) (n : ℕ) (l : List A) (d : A) → ((k : ℕ) → k < n → k < length l → f k (get_or l k d) ≡ g k (get_or l k d)) → changed f n l ≡ changed g n l
  unfolding changed
  changed_cong f g zero l d h = refl
  changed_cong f g (suc n) [] d h = refl
  changed_cong f g (suc n) (x ∷ l) d h =
      ap₂ (λ (y : A) (r : List A). y ∷ r) (h 0 (zero-lt-suc n) (zero-lt-suc (length l)))
      (changed_cong (λ j. f (suc j)) (λ j. g (suc j)) n l d (λ k a b. h (suc k) (suc-le-suc a) (suc-le-suc b)))

  -- one change after another is one change
  pub changed_twice : (f g : ℕ → A → A) (n : ℕ) (l : List A) → changed g n (changed f n l) ≡ changed (λ i x. g i (f i x)) n l
  unfolding changed
  changed_twice f g zero l = refl
  changed_twice f g (suc n) [] = refl
  changed_twice f g (suc n) (x ∷ l) = ap (λ (r : List A). g 0 (f 0 x) ∷ r) (changed_twice (λ j. f (suc j)) (λ j. g (suc j)) n l)

  -- only the first n elements matter, and the others stay
  pub changed_split : (f : ℕ → A → A) (n : ℕ) (l : List A) → changed f n l ≡ changed f n (take n l) ++ drop n l
  unfolding changed
  changed_split f zero l = refl
  changed_split f (suc n) [] = refl
  changed_split f (suc n) (x ∷ l) = ap (λ (r : List A). f 0 x ∷ r) (changed_split (λ j. f (suc j)) n l)

  pub changed-take : (f : ℕ → A → A) (n : ℕ) (l : List A) → take n (changed f n l) ≡ changed f n (take n l)
  unfolding changed
  changed-take f zero l = refl
  changed-take f (suc n) [] = refl
  changed-take f (suc n) (x ∷ l) = ap (λ (r : List A). f 0 x ∷ r) (changed-take (λ j. f (suc j)) n l)

  pub changed-drop : (f : ℕ → A → A) (n : ℕ) (l : List A) → drop n (changed f n l) ≡ drop n l
  unfolding changed
  changed-drop f zero l = refl
  changed-drop f (suc n) [] = refl
  changed-drop f (suc n) (x ∷ l) = changed-drop (λ j. f (suc j)) n l

  -- past the end there is nothing to change
  pub changed_all : (f : ℕ → A → A) (n : ℕ) (l : List A) → length l ≤ n → changed f n l ≡ changed f (length l) l
  unfolding changed
  changed_all f zero [] h = refl
  changed_all f zero (x ∷ l) h = absurd (not-suc-le-zero h)
  changed_all f (suc n) [] h = refl
  changed_all f (suc n) (x ∷ l) h = ap (λ (r : List A). f 0 x ∷ r) (changed_all (λ j. f (suc j)) n l (le_of_suc-le-suc h))

  -- a turn past the list's end too: nothing is stored, and there is nothing to change
  pub changed_turn_any : (f : ℕ → A → A) (i : ℕ) (l : List A) (d : A) {now : List A} → now ≡ changed f i l → set now i (f i (get_or now i d)) ≡ changed f (i + 1) l
  changed_turn_any f i l d {now} e = go (ltb i (length l)) (ltb→lt i (length l)) (nltb→le i (length l))
    where
      go : (b : Bool) → (T b → i < length l) → (T (not b) → length l ≤ i) → set now i (f i (get_or now i d)) ≡ changed f (i + 1) l
      go true h k = changed_turn f i l d (h tt) e
      go false h k =
          set_out now i (f i (get_or now i d)) (le_trans (le_of_eq (ap length e ∙ changed-length f i l)) (k tt))
          ∙ e ∙ changed_all f i l (k tt) ∙ sym (changed_all f (i + 1) l (le_trans (k tt) (le-add_right i 1)))

  -- the whole list changed by a function that does not look at the index is the map
  pub changed-map : (f : A → A) (l : List A) → changed (λ i. f) (length l) l ≡ map f l
  unfolding changed
  changed-map f [] = refl
  changed-map f (x ∷ l) = ap (λ (r : List A). f x ∷ r) (changed-map f l)

  -- a list is the changed one where it is as long and has f of each old element
  pub changed_is : (f : ℕ → A → A) (l m : List A) (d : A) → length m ≡ length l → ((k : ℕ) → k < length l → get_or m k d ≡ f k (get_or l k d)) → m ≡ changed f (length l) l
  changed_is f l m d e h =
      ext_get_or d m (changed f (length l) l) (e ∙ sym (changed-length f (length l) l))
      (λ k b. let c : k < length l = subst (λ (z : ℕ). k < z) e b in h k c ∙ sym (changed_below f (length l) l k d c c))

  -- the same as a loop of stores
  pub changed-upto : (f : ℕ → A → A) (n : ℕ) (l : List A) (d : A) → n ≤ length l → upto (λ i r. set r i (f i (get_or r i d))) n l ≡ changed f n l
  unfolding upto changed
  changed-upto f zero l d h = refl
  changed-upto f (suc n) l d h =
      ap (λ (r : List A). set r n (f n (get_or r n d))) (changed-upto f n l d (le_trans (le-suc n) h))
      ∙ ap (λ (x : A). set (changed f n l) n (f n x)) (changed_here f n l d)
      ∙ changed_store f n l d h
