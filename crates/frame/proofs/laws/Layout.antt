-- Laws of frames over any layout. First of two pairs of places in a list, then of the frames of one layout and of two whose places lie apart, then of
-- steps on all frames of a layout. As in `laws`, Loop: `-turn` takes the invariant of a loop over frames to the next turn, `-end` takes it to the
-- contract.
use mathlib.Core.Path.{◌≡◌, sym, ap, ap₂, ◌∙◌, subst}
use mathlib.Core.Logic.{◌≢◌}
use mathlib.Core.List.{List}
use Prim.Native.Nat.{ℕ, zero, suc, ◌+◌, ◌*◌, ◌≤◌, ◌<◌}
use native.Mathlib.Nat.{le_refl, le_trans, le-suc, le_of_suc-le-suc, not-suc-le-zero, eq-or-lt_of_le}
use native.Mathlib.Omega.{arith}
use mathlib.Core.Logic.{inl, inr}
use mathlib.Core.Bool.{cond}
use borrow.Author.Tests.{le-leb, lt-leb}
use lib.Dec.{leb, ltb}
use lib.ListN.{length, get_or, set, length-set, replicate, get_or-replicate}
use lib.Seq.{get_or-set_same, get_or-set_other}
use lib.Ieee.{Float, nan}
use Rattle.laws.proofs.laws.Sets.{set_comm, set_twice, set_own}
use Rattle.laws.proofs.laws.Choice.{cond-true, cond-false, picks_lt, leaves_lt}
use Rattle.laws.proofs.laws.FloatRound.{below_or_not}
use Rattle.laws.proofs.laws.Loop.{upto_zero, upto-suc, upto_turn, upto_cong}
use Rattle.frame.specs.declared.frame.Frame.{Frame}
use Rattle.frame.specs.Frame.{zero_frame, zero_sample, from_frame}
use Rattle.frame.specs.Layout.{Layout, frame_at, put_frame, with_first, with_frames, SidesApart}

-- a step on frames by their number
abbrev pub Step : Type 0
Step = ℕ → Frame → Frame

-- ---- two places x and y, and two others u and v

pair : Float → Float → Frame
pair a b = record { left = a; right = b }

read : List Float → ℕ → ℕ → Frame
read l x y = record { left = get_or l x nan; right = get_or l y nan }

write : List Float → ℕ → ℕ → Frame → List Float
write l x y a = set (set l x a.left) y a.right

pub record Four (x y u v : ℕ) : Type 0 where
  pub xu : x ≢ u
  pub xv : x ≢ v
  pub yu : y ≢ u
  pub yv : y ≢ v

module _ (l : List Float) (x y : ℕ) (a : Frame) where
  write_same : x ≢ y → x < length l → y < length l → read (write l x y a) x y ≡ a
  unfolding read write pair
  write_same d h k =
      ap₂ pair
      (get_or-set_other (set l x a.left) y x a.right nan d ∙ get_or-set_same l x a.left nan h)
      (get_or-set_same (set l x a.left) y a.right nan (subst (λ (n : ℕ). y < n) (sym (length-set l x a.left)) k))

  write_twice : (b : Frame) → x ≢ y → write (write l x y a) x y b ≡ write l x y b
  unfolding write
  write_twice b d =
      ap (λ (r : List Float). set r y b.right) (set_comm (set l x a.left) y x a.right b.left (λ e. d (sym e)) ∙ ap (λ (r : List Float). set r y a.right) (set_twice l x a.left b.left))
      ∙ set_twice (set l x b.left) y a.right b.right

  write_length : length (write l x y a) ≡ length l
  unfolding write
  write_length = length-set (set l x a.left) y a.right ∙ length-set l x a.left

write_own : (l : List Float) (x y : ℕ) → write l x y (read l x y) ≡ l
unfolding read write
write_own l x y = ap (λ (r : List Float). set r y (get_or l y nan)) (set_own l x nan) ∙ set_own l y nan

module _ (l : List Float) (x y u v : ℕ) (a : Frame) (d : Four x y u v) where
  write_other : read (write l u v a) x y ≡ read l x y
  unfolding read write pair
  write_other =
      ap₂ pair
      (get_or-set_other (set l u a.left) v x a.right nan d.xv ∙ get_or-set_other l u x a.left nan d.xu)
      (get_or-set_other (set l u a.left) v y a.right nan d.yv ∙ get_or-set_other l u y a.left nan d.yu)

  write_comm : (b : Frame) → write (write l x y b) u v a ≡ write (write l u v a) x y b
  unfolding write
  write_comm b =
      ap (λ (r : List Float). set r v a.right) (set_comm (set l x b.left) y u b.right a.left d.yu ∙ ap (λ (r : List Float). set r y b.right) (set_comm l x u b.left a.left d.xu))
      ∙ set_comm (set (set l u a.left) x b.left) y v b.right a.right d.yv
      ∙ ap (λ (r : List Float). set r y b.right) (set_comm (set l u a.left) x v b.left a.right d.xv)

-- ---- steps from a frame on, and up to one

module _ (m : ℕ) (f : Step) (i : ℕ) (a : Frame) where
  pub from_on : m ≤ i → from_frame m f i a ≡ f i a
  unfolding from_frame
  from_on h = cond-true (leb m i) (f i a) a (le-leb m i h)

  pub from_before : i < m → from_frame m f i a ≡ a
  unfolding from_frame
  from_before h = cond-false (leb m i) (f i a) a (lt-leb m i h)

  -- the other frames
  to_frame : Frame
  to_frame = cond (ltb i m) (f i a) a

  to_before : i < m → to_frame ≡ f i a
  unfolding to_frame
  to_before h = picks_lt i m (f i a) a h

  to_on : m ≤ i → to_frame ≡ a
  unfolding to_frame
  to_on h = leaves_lt i m (f i a) a h

-- ---- the frames of a layout

below_far : (i n m : ℕ) → i < n → n ≤ m → i < m
below_far i n m h k = omega arith

module _ {first n : ℕ} (L : Layout first n) where
  pub put_length : (l : List Float) (i : ℕ) (a : Frame) → length (put_frame L l i a) ≡ length l
  unfolding put_frame write
  put_length l i a = write_length l (L.left i) (L.right i) a

  put_own : (l : List Float) (i : ℕ) → put_frame L l i (frame_at L l i) ≡ l
  unfolding frame_at put_frame read write
  put_own l i = write_own l (L.left i) (L.right i)

  -- ---- steps on the first m frames

  -- one turn
  abbrev turn : Step → ℕ → List Float → List Float
  turn f i r = put_frame L r i (f i (frame_at L r i))

  pub first_zero : (f : Step) (l : List Float) → with_first L f 0 l ≡ l
  unfolding with_first
  first_zero f l = upto_zero (turn f) l

  first_suc : (f : Step) (m : ℕ) (l : List Float) → with_first L f (suc m) l ≡ turn f m (with_first L f m l)
  unfolding with_first
  first_suc f m l = upto-suc (turn f) m l

  pub first_end : (f : Step) (l : List Float) {i m : ℕ} {now : List Float} → i ≡ m → now ≡ with_first L f i l → now ≡ with_first L f m l
  first_end f l h e = e ∙ ap (λ (k : ℕ). with_first L f k l) h

  pub first_length : (f : Step) (m : ℕ) (l : List Float) → length (with_first L f m l) ≡ length l
  first_length f zero l = ap length (first_zero f l)
  first_length f (suc m) l = ap length (first_suc f m l) ∙ put_length (with_first L f m l) m (f m (frame_at L (with_first L f m l) m)) ∙ first_length f m l

  -- a buffer that a step made keeps its length
  pub kept : (f : Step) (m : ℕ) (l : List Float) {last : List Float} → last ≡ with_first L f m l → length last ≡ length l
  kept f m l e = ap length e ∙ first_length f m l

  -- a turn whose frame is put back by a call
  pub first_put : (f : Step) (i : ℕ) (l : List Float) {now last : List Float} {b : Frame} → length now ≡ length l → now ≡ with_first L f i l → b ≡ f i (frame_at L now i) → last ≡ put_frame L now i b → (length last ≡ length l) × (last ≡ with_first L f (i + 1) l)
  unfolding with_first
  first_put f i l {now} {last} {b} len e is p = (ap length p ∙ put_length now i b ∙ len, p ∙ ap (put_frame L now i) is ∙ upto_turn (turn f) i l e)

  -- steps that agree on the frames give the same
  pub first_cong : (f g : Step) (m : ℕ) (l : List Float) → ((k : ℕ) → k < m → (a : Frame) → f k a ≡ g k a) → with_first L f m l ≡ with_first L g m l
  unfolding with_first
  first_cong f g m l h = upto_cong (turn f) (turn g) m l (λ i p r. ap (put_frame L r i) (h i p (frame_at L r i)))

  -- a step that leaves the frames that are there
  pub first_held : (f : Step) (m : ℕ) (l : List Float) → ((k : ℕ) → k < m → f k (frame_at L l k) ≡ frame_at L l k) → with_first L f m l ≡ l
  first_held f zero l h = first_zero f l
  first_held f (suc m) l h =
      first_suc f m l
      ∙ ap (turn f m) (first_held f m l (λ k p. h k (le_trans p (le-suc m))))
      ∙ ap (put_frame L l m) (h m (le_refl (suc m)))
      ∙ put_own l m

  -- a step that changes nothing
  pub first_same : (f : Step) (m : ℕ) (l : List Float) → ((k : ℕ) → k < m → (a : Frame) → f k a ≡ a) → with_first L f m l ≡ l
  first_same f m l h = first_held f m l (λ k p. h k p (frame_at L l k))

  -- ---- the first m frames, and then the rest

  -- a step that leaves the frames from m on
  first_further : (f : Step) (m j : ℕ) (l : List Float) → m ≤ j → ((k : ℕ) → m ≤ k → (a : Frame) → f k a ≡ a) → with_first L f m l ≡ with_first L f j l
  first_further f m zero l h e = ap (λ (k : ℕ). with_first L f k l) (omega arith)
  first_further f m (suc j) l h e = elim (eq-or-lt_of_le h) [
    | inl p ↦ ap (λ (k : ℕ). with_first L f k l) p
    | inr p ↦
        let old = with_first L f j l in
        first_further f m j l (le_of_suc-le-suc p) e
        ∙ sym (first_suc f j l ∙ ap (put_frame L old j) (e j (le_of_suc-le-suc p) (frame_at L old j)) ∙ put_own old j)
  ]

  -- a step on the first m frames is one on the first j that leaves those from m on
  first_part : (f : Step) (m j : ℕ) (l : List Float) → m ≤ j → with_first L f m l ≡ with_first L (to_frame m f) j l
  first_part f m j l h = first_cong f (to_frame m f) m l (λ k p a. sym (to_before m f k a p)) ∙ first_further (to_frame m f) m j l h (λ k p a. to_on m f k a p)

  -- ---- where no two sides stand in one place

  module _ (D : SidesApart L) where
    -- two frames of it
    frames_apart : (i j : ℕ) → i < n → j < n → i ≢ j → Four (L.left i) (L.right i) (L.left j) (L.right j)
    frames_apart i j p q h = record { xu = D.lefts i j p q h; xv = D.apart i j p q; yu = λ e. D.apart j i q p (sym e); yv = D.rights i j p q h }

    pub put_same : (l : List Float) (i : ℕ) (a : Frame) → i < n → first + 2 * n ≤ length l → frame_at L (put_frame L l i a) i ≡ a
    unfolding frame_at put_frame read write
    put_same l i a p h =
        write_same l (L.left i) (L.right i) a (D.apart i i p p) (below_far (L.left i) (first + 2 * n) (length l) (D.left_in i p).1 h) (below_far (L.right i) (first + 2 * n) (length l) (D.right_in i p).1 h)

    pub put_other : (l : List Float) (i j : ℕ) (a : Frame) → i < n → j < n → i ≢ j → frame_at L (put_frame L l j a) i ≡ frame_at L l i
    unfolding frame_at put_frame read write
    put_other l i j a p q h = write_other l (L.left i) (L.right i) (L.left j) (L.right j) a (frames_apart i j p q h)

    put_twice : (l : List Float) (i : ℕ) (a b : Frame) → i < n → put_frame L (put_frame L l i a) i b ≡ put_frame L l i b
    unfolding put_frame write
    put_twice l i a b p = write_twice l (L.left i) (L.right i) a b (D.apart i i p p)

    put_comm : (l : List Float) (i j : ℕ) (a b : Frame) → i < n → j < n → i ≢ j → put_frame L (put_frame L l i b) j a ≡ put_frame L (put_frame L l j a) i b
    unfolding put_frame write
    put_comm l i j a b p q h = write_comm l (L.left i) (L.right i) (L.left j) (L.right j) a (frames_apart i j p q h) b

    -- from m on a frame is the old one
    pub first_from : (f : Step) (m : ℕ) (l : List Float) (k : ℕ) → m ≤ k → k < n → frame_at L (with_first L f m l) k ≡ frame_at L l k
    first_from f zero l k h p = ap (λ (r : List Float). frame_at L r k) (first_zero f l)
    first_from f (suc m) l k h p =
        ap (λ (r : List Float). frame_at L r k) (first_suc f m l)
        ∙ put_other (with_first L f m l) k m (f m (frame_at L (with_first L f m l) m)) p (le_trans h (le_trans (le-suc k) p)) (λ e. above m k h e)
        ∙ first_from f m l k (le_trans (le-suc m) h) p
      where
        above : (m k : ℕ) → suc m ≤ k → k ≢ m
        above m k h e = absurd (omega arith)

    -- below m it is f of the old one
    pub first_at : (f : Step) (m : ℕ) (l : List Float) (k : ℕ) → m ≤ n → first + 2 * n ≤ length l → k < m → frame_at L (with_first L f m l) k ≡ f k (frame_at L l k)
    first_at f zero l k w r h = absurd (not-suc-le-zero h)
    first_at f (suc m) l k w r h =
        ap (λ (x : List Float). frame_at L x k) (first_suc f m l)
        ∙ elim (eq-or-lt_of_le (le_of_suc-le-suc h)) [
          | inl e ↦
              subst (λ (i : ℕ). frame_at L (turn f i (with_first L f m l)) k ≡ f k (frame_at L l k)) e
              (put_same (with_first L f m l) k (f k (frame_at L (with_first L f m l) k)) (le_trans h w) (subst (λ (b : ℕ). first + 2 * n ≤ b) (sym (first_length f m l)) r)
              ∙ ap (f k) (first_from f m l k (reach m k e) (le_trans h w)))
          | inr b ↦ put_other (with_first L f m l) k m (f m (frame_at L (with_first L f m l) m)) (le_trans h w) w (below m k b) ∙ first_at f m l k (le_trans (le-suc m) w) r b
        ]
      where
        reach : (m k : ℕ) → k ≡ m → m ≤ k
        reach m k e = omega arith

        below : (m k : ℕ) → k < m → k ≢ m
        below m k h e = absurd (omega arith)

    -- steps that agree on the frames that are there
    pub first_cong_at : (f g : Step) (m : ℕ) (l : List Float) → m ≤ n → ((k : ℕ) → k < m → f k (frame_at L l k) ≡ g k (frame_at L l k)) → with_first L f m l ≡ with_first L g m l
    first_cong_at f g zero l w h = first_zero f l ∙ sym (first_zero g l)
    first_cong_at f g (suc m) l w h =
        let old = with_first L g m l in
        let own : frame_at L old m ≡ frame_at L l m = first_from g m l m (le_refl m) w in
        first_suc f m l
        ∙ ap (turn f m) (first_cong_at f g m l (le_trans (le-suc m) w) (λ k p. h k (le_trans p (le-suc m))))
        ∙ ap (put_frame L old m) (ap (f m) own ∙ h m (le_refl (suc m)) ∙ sym (ap (g m) own))
        ∙ sym (first_suc g m l)

    -- a frame put behind the first m
    first_through : (g : Step) (m : ℕ) (l : List Float) (k : ℕ) (a : Frame) → m ≤ k → k < n → with_first L g m (put_frame L l k a) ≡ put_frame L (with_first L g m l) k a
    first_through g zero l k a h p = first_zero g (put_frame L l k a) ∙ ap (λ (r : List Float). put_frame L r k a) (sym (first_zero g l))
    first_through g (suc m) l k a h p =
        let old = with_first L g m l in
        let q : m < n = le_trans h (le_trans (le-suc k) p) in
        first_suc g m (put_frame L l k a)
        ∙ ap (turn g m) (first_through g m l k a (le_trans (le-suc m) h) p)
        ∙ ap (λ (c : Frame). put_frame L (put_frame L old k a) m (g m c)) (put_other old m k a q p (below m k h))
        ∙ put_comm old k m (g m (frame_at L old m)) a p q (λ e. below m k h (sym e))
        ∙ ap (λ (r : List Float). put_frame L r k a) (sym (first_suc g m l))
      where
        below : (m k : ℕ) → suc m ≤ k → m ≢ k
        below m k h e = absurd (omega arith)

    -- the first m frames by f, and then the first j by g
    first_more : (f g : Step) (m : ℕ) (l : List Float) → m < n → first + 2 * n ≤ length l → with_first L g m (with_first L f m l) ≡ with_first L (λ i a. g i (f i a)) m l → with_first L g (suc m) (with_first L f (suc m) l) ≡ with_first L (λ i a. g i (f i a)) (suc m) l
    first_more f g m l p r e =
        let h : Step = λ i a. g i (f i a) in
        let a = f m (frame_at L (with_first L f m l) m) in
        let both = with_first L h m l in
        let moved : with_first L g m (with_first L f (suc m) l) ≡ put_frame L both m a =
        ap (with_first L g m) (first_suc f m l) ∙ first_through g m (with_first L f m l) m a (le_refl m) p ∙ ap (λ (x : List Float). put_frame L x m a) e in
        let own : a ≡ f m (frame_at L both m) = ap (f m) (first_from f m l m (le_refl m) p ∙ sym (first_from h m l m (le_refl m) p)) in
        first_suc g m (with_first L f (suc m) l)
        ∙ ap (turn g m) moved
        ∙ ap (λ (c : Frame). put_frame L (put_frame L both m a) m (g m c)) (put_same both m a p (subst (λ (b : ℕ). first + 2 * n ≤ b) (sym (first_length h m l)) r))
        ∙ put_twice both m a (g m a) p
        ∙ ap (λ (c : Frame). put_frame L both m (g m c)) own
        ∙ sym (first_suc h m l)

    -- one step after another is one step
    pub first_twice : (f g : Step) (m : ℕ) (l : List Float) → m ≤ n → first + 2 * n ≤ length l → with_first L g m (with_first L f m l) ≡ with_first L (λ i a. g i (f i a)) m l
    first_twice f g zero l w r = first_zero g (with_first L f 0 l) ∙ first_zero f l ∙ sym (first_zero (λ i a. g i (f i a)) l)
    first_twice f g (suc m) l w r = first_more f g m l w r (first_twice f g m l (le_trans (le-suc m) w) r)

    -- the first m frames by f, and then all by f from m on
    pub first_rest : (f g : Step) (m : ℕ) (l : List Float) → m ≤ n → first + 2 * n ≤ length l → ((k : ℕ) → m ≤ k → k < n → (a : Frame) → g k a ≡ f k a) → with_frames L (from_frame m g) (with_first L f m l) ≡ with_frames L f l
    first_rest f g m l w r e =
        ap (with_frames L (from_frame m g)) (first_part f m n l w)
        ∙ first_twice (to_frame m f) (from_frame m g) n l (le_refl n) r
        ∙ first_cong (λ i a. from_frame m g i (to_frame m f i a)) f n l (λ k p a. each k a p)
      where
        each : (k : ℕ) (a : Frame) → k < n → from_frame m g k (to_frame m f k a) ≡ f k a
        each k a p = elim (below_or_not k m) [
          | inl b ↦ from_before m g k (to_frame m f k a) b ∙ to_before m f k a b
          | inr b ↦ from_on m g k (to_frame m f k a) b ∙ ap (g k) (to_on m f k a b) ∙ e k b p a
        ]

-- ---- two layouts apart

four_sym : {x y u v : ℕ} → Four x y u v → Four u v x y
four_sym d = record { xu = λ e. d.xu (sym e); xv = λ e. d.yu (sym e); yu = λ e. d.xv (sym e); yv = λ e. d.yv (sym e) }

-- each frame of the one stands apart from each of the other
abbrev pub Apart : {first n second m : ℕ} → Layout first n → Layout second m → Type 0
Apart {n = n} {m = m} L M = (i j : ℕ) → i < n → j < m → Four (L.left i) (L.right i) (M.left j) (M.right j)

module _ {first n second m : ℕ} (L : Layout first n) (M : Layout second m) where
  -- where the one ends before the other begins
  pub apart_before : SidesApart L → SidesApart M → first + 2 * n ≤ second → Apart L M
  apart_before D E behind i j p q =
      record {
        xu = below (L.left i) (M.left j) (D.left_in i p).1 (E.left_in j q).0;
        xv = below (L.left i) (M.right j) (D.left_in i p).1 (E.right_in j q).0;
        yu = below (L.right i) (M.left j) (D.right_in i p).1 (E.left_in j q).0;
        yv = below (L.right i) (M.right j) (D.right_in i p).1 (E.right_in j q).0;
      }
    where
      below : (x y : ℕ) → x < first + 2 * n → second ≤ y → x ≢ y
      below x y p q e = absurd (omega (arith, p, q, e, behind))

  pub apart_swap : Apart L M → Apart M L
  apart_swap d i j p q = four_sym (d j i q p)

  module _ (d : Apart L M) where
    put_across : (l : List Float) (i j : ℕ) (a : Frame) → i < n → j < m → frame_at L (put_frame M l j a) i ≡ frame_at L l i
    unfolding frame_at put_frame read write
    put_across l i j a p q = write_other l (L.left i) (L.right i) (M.left j) (M.right j) a (d i j p q)

    put_either : (l : List Float) (i j : ℕ) (a b : Frame) → i < n → j < m → put_frame M (put_frame L l i b) j a ≡ put_frame L (put_frame M l j a) i b
    unfolding put_frame write
    put_either l i j a b p q = write_comm l (L.left i) (L.right i) (M.left j) (M.right j) a (d i j p q) b

    -- a step on the one leaves the frames of the other
    pub first_across : (g : Step) (k : ℕ) (l : List Float) (i : ℕ) → k ≤ m → i < n → frame_at L (with_first M g k l) i ≡ frame_at L l i
    first_across g zero l i w p = ap (λ (r : List Float). frame_at L r i) (first_zero M g l)
    first_across g (suc k) l i w p =
        ap (λ (r : List Float). frame_at L r i) (first_suc M g k l)
        ∙ put_across (with_first M g k l) i k (g k (frame_at M (with_first M g k l) k)) p w
        ∙ first_across g k l i (le_trans (le-suc k) w) p

    -- and may come before it or after it
    past_put : (f : Step) (k : ℕ) (l : List Float) (j : ℕ) (a : Frame) → k ≤ n → j < m → with_first L f k (put_frame M l j a) ≡ put_frame M (with_first L f k l) j a
    past_put f zero l j a w q = first_zero L f (put_frame M l j a) ∙ ap (λ (r : List Float). put_frame M r j a) (sym (first_zero L f l))
    past_put f (suc k) l j a w q =
        let old = with_first L f k l in
        first_suc L f k (put_frame M l j a)
        ∙ ap (turn L f k) (past_put f k l j a (le_trans (le-suc k) w) q)
        ∙ ap (λ (c : Frame). put_frame L (put_frame M old j a) k (f k c)) (put_across old k j a w q)
        ∙ sym (put_either old k j a (f k (frame_at L old k)) w q)
        ∙ ap (λ (r : List Float). put_frame M r j a) (sym (first_suc L f k l))

module _ {first n second m : ℕ} (L : Layout first n) (M : Layout second m) (d : Apart L M) where
  pub first_either : (f g : Step) (j k : ℕ) (l : List Float) → k ≤ n → j ≤ m → with_first L f k (with_first M g j l) ≡ with_first M g j (with_first L f k l)
  first_either f g zero k l w v = ap (with_first L f k) (first_zero M g l) ∙ sym (first_zero M g (with_first L f k l))
  first_either f g (suc j) k l w v =
      let old = with_first M g j l in
      ap (with_first L f k) (first_suc M g j l)
      ∙ past_put L M d f k old j (g j (frame_at M old j)) w v
      ∙ ap (λ (c : Frame). put_frame M (with_first L f k old) j (g j c)) (sym (first_across M L (apart_swap L M d) f k old j w v))
      ∙ ap (turn M g j) (first_either f g j k l w (le_trans (le-suc j) v))
      ∙ sym (first_suc M g j (with_first L f k l))

-- ---- a buffer of zeros

pub silent_at : {first n : ℕ} (L : Layout first n) → SidesApart L → (m i : ℕ) → i < n → first + 2 * n ≤ m → frame_at L (replicate m zero_sample) i ≡ zero_frame
unfolding frame_at pair
silent_at {first} {n} L D m i p h =
    ap₂ pair
    (get_or-replicate m (L.left i) zero_sample nan (below_far (L.left i) (first + 2 * n) m (D.left_in i p).1 h))
    (get_or-replicate m (L.right i) zero_sample nan (below_far (L.right i) (first + 2 * n) m (D.right_in i p).1 h))
