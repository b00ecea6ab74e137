-- Frames in a sample buffer, as the loops write them. Assumes nothing.
use mathlib.Core.Path.{◌≡◌, sym, ap, ap₂, ◌∙◌, subst}
use mathlib.Core.Logic.{◌⊎◌, inl, inr}
use mathlib.Core.List.{List, [], ◌∷◌, ◌++◌, append_assoc}
use Prim.Native.Nat.{ℕ, zero, suc, ◌+◌, ◌-◌, ◌*◌, ◌/◌, ◌%◌, ◌≤◌, ◌<◌}
use native.Mathlib.Nat.{mul-le-mul_right, suc-mul, mul-one}
use native.Mathlib.Decide.{dec_le}
use native.Mathlib.Numerals.{add-one}
use native.Mathlib.Omega.{arith}
use lib.ListN.{length, get_or, set, get_or-append}
use lib.Seq.{get_or-append_seam}
use lib.Ieee.{Float, nan}
use Rattle.laws.specs.Loop.{changed}
use Rattle.laws.proofs.laws.Loop.{changed_is, changed_turn}
use Rattle.laws.specs.Pieces.{pieces}
use Rattle.laws.proofs.laws.Pieces.{pieces_zero, pieces-suc, pieces_cong, length_elements}
use Rattle.byte_order.specs.declared.bytes.ByteOrder.{ByteOrder}
use Rattle.pcm.specs.declared.sample.Encoding.{Encoding}
use Rattle.pcm.specs.Sample.{width, sample_at}
use Rattle.sound_data.specs.Data.{value_at, samples_in}

-- ---- places

-- element i of n elements of w bytes each, from a place on
pub inside : (start i n w l : ℕ) {v : ℕ} → w ≡ v → i < n → start + n * v ≤ l → start + i * w + v ≤ l
inside start i n w l {v} e h k =
    let g : suc i * v ≤ n * v = mul-le-mul_right v h in
    let z : i * w ≡ i * v = ap (λ (x : ℕ). i * x) e in
    omega (arith, suc-mul i v)

-- ---- elements one by one, and two by two

module _ {A : Type 0} (g : ℕ → A) where
  pub get_or_elements : (n k : ℕ) (d : A) → k < n → get_or (pieces (λ j. g j ∷ []) n) k d ≡ g k
  get_or_elements zero k d h = absurd (omega arith)
  get_or_elements (suc n) k d h =
      ap (λ (l : List A). get_or l k d) (pieces-suc (λ j. g j ∷ []) n)
      ∙ elim (dec_le n k) [
        | yes e ↦
            let z : k ≡ length (pieces (λ j. g j ∷ []) n) = omega (arith, length_elements g n) in
            ap (λ (i : ℕ). get_or (pieces (λ j. g j ∷ []) n ++ (g n ∷ [])) i d) z ∙ get_or-append_seam (pieces (λ j. g j ∷ []) n) (g n) [] d ∙ ap g (omega arith)
        | no e ↦
            get_or-append (pieces (λ j. g j ∷ []) n) (g n ∷ []) d k (omega (arith, length_elements g n)) ∙ get_or_elements n k d (omega arith)
      ]

  -- every element written
  pub all_elements : (l : List A) (d : A) → changed (λ j x. g j) (length l) l ≡ pieces (λ j. g j ∷ []) (length l)
  all_elements l d = sym (changed_is (λ j x. g j) l (pieces (λ j. g j ∷ []) (length l)) d (length_elements g (length l)) (λ k h. get_or_elements (length l) k d h))

  pub two_by_two : (n : ℕ) → pieces (λ i. g (i * 2) ∷ g (i * 2 + 1) ∷ []) n ≡ pieces (λ j. g j ∷ []) (n * 2)
  two_by_two zero = pieces_zero (λ i. g (i * 2) ∷ g (i * 2 + 1) ∷ []) ∙ sym (pieces_zero (λ j. g j ∷ []))
  two_by_two (suc n) =
      let one : ℕ → List A = λ j. g j ∷ [] in
      pieces-suc (λ i. g (i * 2) ∷ g (i * 2 + 1) ∷ []) n
      ∙ ap₂ (λ (l : List A) (k : ℕ). l ++ (g (n * 2) ∷ g k ∷ [])) (two_by_two n) (add-one (n * 2))
      ∙ sym (append_assoc (pieces one (n * 2)) (g (n * 2) ∷ []) (g (suc (n * 2)) ∷ []))
      ∙ ap (λ (l : List A). l ++ (g (suc (n * 2)) ∷ [])) (sym (pieces-suc one (n * 2)))
      ∙ sym (pieces-suc one (suc (n * 2)))
      ∙ ap (pieces one) (omega arith)

-- ---- the loops

module _ (encoding : Encoding) (order : ByteOrder) (bytes : List ℕ) (start : ℕ) where
  value : ℕ → Float
  value k = value_at encoding order bytes start k

  -- what a sample of the buffer is
  abbrev pub stereo_sample : ℕ → Float → Float
  stereo_sample j x = value_at encoding order bytes start j

  abbrev pub mono_sample : ℕ → Float → Float
  mono_sample j x = value_at encoding order bytes start (j / 2)

  pub value_is : {x : Float} (k w : ℕ) → w ≡ width encoding → x ≡ sample_at encoding order bytes (start + k * w) → x ≡ value_at encoding order bytes start k
  unfolding value_at
  value_is k w e p = p ∙ ap (λ (z : ℕ). sample_at encoding order bytes (start + k * z)) e

  in_twos : (n : ℕ) → n % 2 ≡ 0 → n / 2 * 2 ≡ n
  in_twos n h = omega arith

  -- the frames' samples, one by one
  pub stereo_elements : (n : ℕ) → samples_in encoding order 2 bytes start n ≡ pieces (λ j. value_at encoding order bytes start j ∷ []) (n * 2)
  unfolding samples_in
  stereo_elements n =
      let g = value_at encoding order bytes start in
      pieces_cong (λ i. g (i * 2) ∷ g (i * 2 + 2 - 1) ∷ []) (λ i. g (i * 2) ∷ g (i * 2 + 1) ∷ []) n (λ i k. ap (λ (z : ℕ). g (i * 2) ∷ g z ∷ []) (omega arith))
      ∙ two_by_two g n

  pub mono_elements : (n : ℕ) → samples_in encoding order 1 bytes start n ≡ pieces (λ j. value_at encoding order bytes start (j / 2) ∷ []) (n * 2)
  unfolding samples_in
  mono_elements n =
      let g = value_at encoding order bytes start in
      pieces_cong (λ i. g (i * 1) ∷ g (i * 1 + 1 - 1) ∷ []) (λ i. g (i * 2 / 2) ∷ g ((i * 2 + 1) / 2) ∷ []) n
      (λ i k. ap₂ (λ (y z : ℕ). g y ∷ g z ∷ []) (omega arith) (omega arith))
      ∙ two_by_two (λ j. g (j / 2)) n

  pub stereo_end : (l : List Float) → length l % 2 ≡ 0 → changed stereo_sample (length l) l ≡ samples_in encoding order 2 bytes start (length l / 2)
  stereo_end l h =
      let g = value_at encoding order bytes start in
      all_elements g l nan ∙ ap (pieces (λ j. g j ∷ [])) (sym (in_twos (length l) h)) ∙ sym (stereo_elements (length l / 2))

  pub mono_end : (l : List Float) → length l % 2 ≡ 0 → changed mono_sample (length l) l ≡ samples_in encoding order 1 bytes start (length l / 2)
  mono_end l h =
      let g = value_at encoding order bytes start in
      all_elements (λ j. g (j / 2)) l nan ∙ ap (pieces (λ j. g (j / 2) ∷ [])) (sym (in_twos (length l) h)) ∙ sym (mono_elements (length l / 2))

  pub stereo_turn : (i : ℕ) (l : List Float) {x : Float} {now : List Float} → i < length l → now ≡ changed stereo_sample i l
      → x ≡ value_at encoding order bytes start i → set now i x ≡ changed stereo_sample (i + 1) l
  stereo_turn i l {x} {now} h e v = ap (set now i) v ∙ changed_turn stereo_sample i l nan h e

  -- a frame of one channel: both sides are written
  pub mono_turn : (i : ℕ) (l : List Float) {x : Float} {now : List Float} → i * 2 + 1 < length l → now ≡ changed mono_sample (i * 2) l
      → x ≡ value_at encoding order bytes start i → set (set now (i * 2) x) (i * 2 + 1) x ≡ changed mono_sample ((i + 1) * 2) l
  mono_turn i l {x} {now} h e v =
      let g = value_at encoding order bytes start in
      let a : x ≡ g (i * 2 / 2) = v ∙ ap g (omega arith) in
      let b : x ≡ g ((i * 2 + 1) / 2) = v ∙ ap g (omega arith) in
      let first : set now (i * 2) x ≡ changed mono_sample (i * 2 + 1) l = ap (set now (i * 2)) a ∙ changed_turn mono_sample (i * 2) l nan (omega arith) e in
      ap (set (set now (i * 2) x) (i * 2 + 1)) b ∙ changed_turn mono_sample (i * 2 + 1) l nan h first ∙ ap (λ (k : ℕ). changed mono_sample k l) (omega arith)

-- ---- one channel or two

pub two_channels : (c : ℕ) → (c ≡ 1) ⊎ (c ≡ 2) → (c ≡ 1 → ⊥) → c ≡ 2
two_channels c (inl e) n = absurd (n e)
two_channels c (inr e) n = e

pub mono_room : (start n c w l : ℕ) → c ≡ 1 → start + n * c * w ≤ l → start + n * w ≤ l
mono_room start n c w l e h = subst (λ (x : ℕ). start + x * w ≤ l) (ap (λ (x : ℕ). n * x) e ∙ mul-one n) h

pub stereo_room : (start n c w l : ℕ) → c ≡ 2 → n % 2 ≡ 0 → start + n / 2 * c * w ≤ l → start + n * w ≤ l
stereo_room start n c w l e z h = subst (λ (x : ℕ). start + x * w ≤ l) (ap (λ (x : ℕ). n / 2 * x) e ∙ whole n z) h
  where
    whole : (n : ℕ) → n % 2 ≡ 0 → n / 2 * 2 ≡ n
    whole n z = omega arith

-- where the encoding is known
pub known_room : (a : Encoding) {b : Encoding} (start n l : ℕ) → a ≡ b → start + n * width a ≤ l → start + n * width b ≤ l
known_room a start n l e h = subst (λ (x : Encoding). start + n * width x ≤ l) e h

-- what was read for a known number of channels, or encoding
module _ (order : ByteOrder) (bytes : List ℕ) (start n : ℕ) {l : List Float} where
  pub sides_read : (encoding : Encoding) {channels k : ℕ} → channels ≡ k → l ≡ samples_in encoding order k bytes start n → l ≡ samples_in encoding order channels bytes start n
  sides_read encoding e p = p ∙ ap (λ (k : ℕ). samples_in encoding order k bytes start n) (sym e)

  pub known_read : (channels : ℕ) {encoding known : Encoding} → encoding ≡ known → l ≡ samples_in known order channels bytes start n → l ≡ samples_in encoding order channels bytes start n
  known_read channels e p = p ∙ ap (λ (x : Encoding). samples_in x order channels bytes start n) (sym e)
