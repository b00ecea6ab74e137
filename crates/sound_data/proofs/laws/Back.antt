-- What is written as data is read back to the same samples. Assumes nothing.
use mathlib.Core.Path.{◌≡◌, refl, sym, ap, ap₂, ◌∙◌, subst}
use mathlib.Core.Logic.{◌⊎◌, inl, inr}
use mathlib.Core.List.{List, [], ◌∷◌, ◌++◌}
use Prim.Native.Nat.{ℕ, zero, suc, ◌+◌, ◌-◌, ◌*◌, ◌/◌, ◌%◌, ◌≤◌, ◌<◌}
use native.Mathlib.Nat.{mul-le-mul_right, suc-mul, mul-one, add_assoc, zero-add}
use native.Mathlib.Decide.{dec_le}
use native.Mathlib.Omega.{arith}
use lib.Dec.{T}
use lib.ListN.{length, get_or, get_or-append}
use lib.Seq.{get_or-append-add, ext_get_or}
use lib.Ieee.{Float, nan, binary32, fits}
use Rattle.laws.specs.Pieces.{pieces}
use Rattle.laws.proofs.laws.Pieces.{pieces-suc, pieces_cong, length-pieces, length_elements}
use Rattle.byte_order.specs.declared.bytes.ByteOrder.{ByteOrder}
use Rattle.byte_order.proofs.laws.Bytes.{number_same, number_of_bytes}
use Rattle.pcm.specs.declared.sample.Encoding.{Encoding}
use Rattle.pcm.specs.Sample.{Kept, width, sample_of, sample_at, pattern_of}
use Rattle.pcm.proofs.laws.Back.{pattern_fits, kept_back}
use Rattle.sound_data.specs.Data.{value_at, samples_in, encoded_at, data_of, ComesBack}
use Rattle.sound_data.proofs.laws.Frames.{get_or_elements, two_by_two}
use Rattle.sound_data.proofs.laws.Written.{length_encoded, length_written}

-- ---- pieces of one length

module _ {A : Type 0} (f : ℕ → List A) (w : ℕ) (each : (k : ℕ) → length (f k) ≡ w) where
  within : (k n i : ℕ) → k < n → i < w → k * w + i < n * w
  within k n i h l =
      let g : suc k * w ≤ n * w = mul-le-mul_right w h in
      omega (arith, suc-mul k w)

  length_all : (n : ℕ) → length (pieces f n) ≡ n * w
  length_all n = length-pieces f w n (λ k h. each k)

  pub get_or-pieces : (n k i : ℕ) (d : A) → k < n → i < w → get_or (pieces f n) (k * w + i) d ≡ get_or (f k) i d
  get_or-pieces zero k i d h l = absurd (omega arith)
  get_or-pieces (suc n) k i d h l =
      ap (λ (x : List A). get_or x (k * w + i) d) (pieces-suc f n)
      ∙ elim (dec_le n k) [
        | yes e ↦
            let z : k ≡ n = omega arith in
            let p : k * w + i ≡ length (pieces f n) + i = ap (λ (x : ℕ). x * w + i) z ∙ ap (λ (x : ℕ). x + i) (sym (length_all n)) in
            ap (λ (x : ℕ). get_or (pieces f n ++ f n) x d) p ∙ get_or-append-add (pieces f n) (f n) i d ∙ ap (λ (x : ℕ). get_or (f x) i d) (sym z)
        | no e ↦
            let b : k * w + i < length (pieces f n) = subst (λ (x : ℕ). k * w + i < x) (sym (length_all n)) (within k n i (omega arith) l) in
            get_or-append (pieces f n) (f n) d (k * w + i) b ∙ get_or-pieces n k i d (omega arith) l
      ]

-- a list by its elements
pub own_elements : (l : List Float) → pieces (λ j. get_or l j nan ∷ []) (length l) ≡ l
own_elements l =
    ext_get_or nan (pieces (λ j. get_or l j nan ∷ []) (length l)) l (length_elements (λ j. get_or l j nan) (length l))
    (λ i h. get_or_elements (λ j. get_or l j nan) (length l) i nan (subst (λ (n : ℕ). i < n) (length_elements (λ j. get_or l j nan) (length l)) h))

-- ---- a value of the data

module _ (encoding : Encoding) (order : ByteOrder) (samples : List Float) (step count : ℕ) (head : List ℕ) where
  value_back : (k : ℕ) → k < count → T (fits binary32 (get_or samples (k * step) nan)) → Kept encoding (get_or samples (k * step) nan)
      → value_at encoding order (head ++ pieces (encoded_at encoding order samples step) count) (length head) k ≡ get_or samples (k * step) nan
  unfolding value_at sample_at encoded_at
  value_back k h F K =
      let w = width encoding in
      let x = get_or samples (k * step) nan in
      let f = encoded_at encoding order samples step in
      let same = number_same order (head ++ pieces f count) (f k) (length head + k * w) 0 w
      (λ i l.
      ap (λ (z : ℕ). get_or (head ++ pieces f count) z 0) (add_assoc (length head) (k * w) i)
      ∙ get_or-append-add head (pieces f count) (k * w + i) 0
      ∙ get_or-pieces f w (length_encoded encoding order samples step) count k i 0 h l
      ∙ ap (λ (z : ℕ). get_or (f k) z 0) (sym (zero-add i))) in
      ap (sample_of encoding) (same ∙ number_of_bytes order w (pattern_of encoding x) (pattern_fits encoding x F)) ∙ kept_back encoding x F K

-- ---- frames

-- frames whose sides are the samples' own are the samples
own_frames : (l : List Float) (left right : ℕ → Float) → length l % 2 ≡ 0 → ((i : ℕ) → i < length l / 2 → left i ≡ get_or l (i * 2) nan)
    → ((i : ℕ) → i < length l / 2 → right i ≡ get_or l (i * 2 + 1) nan) → pieces (λ i. left i ∷ right i ∷ []) (length l / 2) ≡ l
own_frames l left right z p q =
    pieces_cong (λ i. left i ∷ right i ∷ []) (λ i. get_or l (i * 2) nan ∷ get_or l (i * 2 + 1) nan ∷ []) (length l / 2) (λ i h. ap₂ (λ (x y : Float). x ∷ y ∷ []) (p i h) (q i h))
    ∙ two_by_two (λ j. get_or l j nan) (length l / 2)
    ∙ ap (pieces (λ j. get_or l j nan ∷ [])) (whole (length l) z)
    ∙ own_elements l
  where
    whole : (n : ℕ) → n % 2 ≡ 0 → n / 2 * 2 ≡ n
    whole n h = omega arith

module _ (encoding : Encoding) (order : ByteOrder) (samples : List Float) (head : List ℕ) (even : length samples % 2 ≡ 0) where
  stereo_back : ComesBack encoding 2 samples → samples_in encoding order 2 (head ++ data_of encoding order 2 samples) (length head) (length samples / 2) ≡ samples
  unfolding samples_in data_of
  stereo_back c = own_frames samples (λ i. value (i * 2)) (λ i. value (i * 2 + 2 - 1)) even (λ i h. back (i * 2) (i * 2) (omega arith) (omega arith)) (λ i h. back (i * 2 + 2 - 1) (i * 2 + 1) (omega arith) (omega arith))
    where
      value : ℕ → Float
      value = value_at encoding order (head ++ pieces (encoded_at encoding order samples 1) (length samples / 2 * 2)) (length head)

      back : (k j : ℕ) → k ≡ j → j < length samples → value k ≡ get_or samples j nan
      back k j e h =
          let z : k * 1 ≡ j = mul-one k ∙ e in
          let g : k * 1 < length samples = omega arith in
          value_back encoding order samples 1 (length samples / 2 * 2) head k (omega arith) (c.fitting (k * 1) g) (c.kept (k * 1) g) ∙ ap (λ (n : ℕ). get_or samples n nan) z

  mono_back : ComesBack encoding 1 samples → samples_in encoding order 1 (head ++ data_of encoding order 1 samples) (length head) (length samples / 2) ≡ samples
  unfolding samples_in data_of
  mono_back c =
      own_frames samples (λ i. value (i * 1)) (λ i. value (i * 1 + 1 - 1)) even
      (λ i h. back (i * 1) i (mul-one i) h) (λ i h. back (i * 1 + 1 - 1) i (omega arith) h ∙ sym (c.agreeing refl i h))
    where
      value : ℕ → Float
      value = value_at encoding order (head ++ pieces (encoded_at encoding order samples 2) (length samples / 2 * 1)) (length head)

      back : (k i : ℕ) → k ≡ i → i < length samples / 2 → value k ≡ get_or samples (i * 2) nan
      back k i e h =
          let g : k * 2 < length samples = omega arith in
          value_back encoding order samples 2 (length samples / 2 * 1) head k (omega arith) (c.fitting (k * 2) g) (c.kept (k * 2) g) ∙ ap (λ (n : ℕ). get_or samples (n * 2) nan) e

  pub data_back : (channels : ℕ) → (channels ≡ 1) ⊎ (channels ≡ 2) → ComesBack encoding channels samples
      → samples_in encoding order channels (head ++ data_of encoding order channels samples) (length head) (length samples / 2) ≡ samples
  data_back channels (inl e) c =
      subst (λ (n : ℕ). ComesBack encoding n samples → samples_in encoding order n (head ++ data_of encoding order n samples) (length head) (length samples / 2) ≡ samples) (sym e) mono_back c
  data_back channels (inr e) c =
      subst (λ (n : ℕ). ComesBack encoding n samples → samples_in encoding order n (head ++ data_of encoding order n samples) (length head) (length samples / 2) ≡ samples) (sym e) stereo_back c

-- ---- how long the data are

pub length_data : (encoding : Encoding) (order : ByteOrder) (channels : ℕ) (samples : List Float) → length (data_of encoding order channels samples) ≡ length samples / 2 * channels * width encoding
unfolding data_of
length_data encoding order channels samples = length_written encoding order samples (2 / channels) (length samples / 2 * channels)
