-- The samples of data by the data's values, and the data of samples that were read. Assumes nothing.
use mathlib.Core.Path.{◌≡◌, refl, sym, ap, ◌∙◌, subst}
use mathlib.Core.Logic.{◌⊎◌, inl, inr}
use mathlib.Core.List.{List, [], ◌∷◌}
use Prim.Native.Nat.{ℕ, ◌+◌, ◌-◌, ◌*◌, ◌/◌, ◌<◌}
use native.Mathlib.Omega.{arith}
use lib.Dec.{T}
use lib.ListN.{length, get_or}
use lib.Ieee.{Float, nan, binary32, fits}
use Rattle.laws.specs.Pieces.{pieces}
use Rattle.laws.proofs.laws.Pieces.{pieces_cong, length-pieces}
use Rattle.byte_order.specs.declared.bytes.ByteOrder.{ByteOrder}
use Rattle.byte_order.specs.Bytes.{bytes_of}
use Rattle.pcm.specs.declared.sample.Encoding.{Encoding}
use Rattle.pcm.specs.Sample.{Kept, width, pattern_of}
use Rattle.sound_data.specs.Data.{value_at, samples_in, encoded_at, data_of, ComesBack}
use Rattle.sound_data.proofs.laws.Frames.{get_or_elements, stereo_elements, mono_elements}

module _ (encoding : Encoding) (order : ByteOrder) (bytes : List ℕ) (start : ℕ) where
  pub length_samples : (channels n : ℕ) → length (samples_in encoding order channels bytes start n) ≡ n * 2
  unfolding samples_in
  length_samples channels n =
      let g = value_at encoding order bytes start in
      length-pieces (λ i. g (i * channels) ∷ g (i * channels + channels - 1) ∷ []) 2 n (λ i h. refl)

  mono_sample : (n i : ℕ) → i < n * 2 → get_or (samples_in encoding order 1 bytes start n) i nan ≡ value_at encoding order bytes start (i * 1 / 2)
  mono_sample n i h =
      let g = value_at encoding order bytes start in
      ap (λ (l : List Float). get_or l i nan) (mono_elements encoding order bytes start n) ∙ get_or_elements (λ j. g (j / 2)) (n * 2) i nan h ∙ ap g (omega arith)

  stereo_sample : (n i : ℕ) → i < n * 2 → get_or (samples_in encoding order 2 bytes start n) i nan ≡ value_at encoding order bytes start (i * 2 / 2)
  stereo_sample n i h =
      let g = value_at encoding order bytes start in
      ap (λ (l : List Float). get_or l i nan) (stereo_elements encoding order bytes start n) ∙ get_or_elements g (n * 2) i nan h ∙ ap g (omega arith)

  module _ (to : Encoding) (into : ByteOrder) where
    -- value k in other bytes
    abbrev pub converted_value : ℕ → List ℕ
    converted_value k = bytes_of into (width to) (pattern_of to (value_at encoding order bytes start k))

    by_sample : (channels n : ℕ) (count : ℕ) → count ≡ n * channels
        → ((k : ℕ) → k < n * channels → get_or (samples_in encoding order channels bytes start n) (k * (2 / channels)) nan ≡ value_at encoding order bytes start k)
        → pieces (encoded_at to into (samples_in encoding order channels bytes start n) (2 / channels)) count ≡ pieces converted_value (n * channels)
    unfolding encoded_at
    by_sample channels n count e h =
        let f = encoded_at to into (samples_in encoding order channels bytes start n) (2 / channels) in
        ap (pieces f) e ∙ pieces_cong f converted_value (n * channels) (λ k l. ap (λ (x : Float). bytes_of into (width to) (pattern_of to x)) (h k l))

    halved : (n m channels : ℕ) → m ≡ n * 2 → m / 2 * channels ≡ n * channels
    halved n m channels e = let z : m / 2 ≡ n = omega arith in ap (λ (x : ℕ). x * channels) z

    mono_data : (n : ℕ) → data_of to into 1 (samples_in encoding order 1 bytes start n) ≡ pieces converted_value (n * 1)
    unfolding data_of
    mono_data n =
        by_sample 1 n _ (halved n (length (samples_in encoding order 1 bytes start n)) 1 (length_samples 1 n))
        (λ k h. mono_sample n (k * 2) (omega arith) ∙ ap (value_at encoding order bytes start) (omega arith))

    stereo_data : (n : ℕ) → data_of to into 2 (samples_in encoding order 2 bytes start n) ≡ pieces converted_value (n * 2)
    unfolding data_of
    stereo_data n =
        by_sample 2 n _ (halved n (length (samples_in encoding order 2 bytes start n)) 2 (length_samples 2 n))
        (λ k h. stereo_sample n (k * 1) (omega arith) ∙ ap (value_at encoding order bytes start) (omega arith))

    pub data_of_samples : (channels n : ℕ) → (channels ≡ 1) ⊎ (channels ≡ 2) → data_of to into channels (samples_in encoding order channels bytes start n) ≡ pieces converted_value (n * channels)
    data_of_samples channels n (inl e) = subst (λ (c : ℕ). data_of to into c (samples_in encoding order c bytes start n) ≡ pieces converted_value (n * c)) (sym e) (mono_data n)
    data_of_samples channels n (inr e) = subst (λ (c : ℕ). data_of to into c (samples_in encoding order c bytes start n) ≡ pieces converted_value (n * c)) (sym e) (stereo_data n)

  -- ---- samples that come back

  module _ (to : Encoding) (n : ℕ) where
    abbrev Each : ℕ → Type 0
    Each channels = (k : ℕ) → k < n * channels → T (fits binary32 (value_at encoding order bytes start k)) × Kept to (value_at encoding order bytes start k)

    mono_back : Each 1 → ComesBack to 1 (samples_in encoding order 1 bytes start n)
    mono_back h =
        let long = length_samples 1 n in
        record {
          fitting = λ i l. subst (λ (x : Float). T (fits binary32 x)) (sym (mono_sample n i (omega arith))) (h (i * 1 / 2) (omega arith)).0;
          kept = λ i l. subst (λ (x : Float). Kept to x) (sym (mono_sample n i (omega arith))) (h (i * 1 / 2) (omega arith)).1;
          agreeing = λ e i l.
              let z : (i * 2 + 1) * 1 / 2 ≡ i * 2 * 1 / 2 = omega arith in
              mono_sample n (i * 2 + 1) (omega arith) ∙ ap (value_at encoding order bytes start) z ∙ sym (mono_sample n (i * 2) (omega arith));
        }

    stereo_back : Each 2 → ComesBack to 2 (samples_in encoding order 2 bytes start n)
    stereo_back h =
        let long = length_samples 2 n in
        record {
          fitting = λ i l. subst (λ (x : Float). T (fits binary32 x)) (sym (stereo_sample n i (omega arith))) (h (i * 2 / 2) (omega arith)).0;
          kept = λ i l. subst (λ (x : Float). Kept to x) (sym (stereo_sample n i (omega arith))) (h (i * 2 / 2) (omega arith)).1;
          agreeing = λ e i l. absurd (omega arith);
        }

    pub samples_come_back : (channels : ℕ) → (channels ≡ 1) ⊎ (channels ≡ 2) → Each channels → ComesBack to channels (samples_in encoding order channels bytes start n)
    samples_come_back channels (inl e) h = subst (λ (c : ℕ). Each c → ComesBack to c (samples_in encoding order c bytes start n)) (sym e) mono_back h
    samples_come_back channels (inr e) h = subst (λ (c : ℕ). Each c → ComesBack to c (samples_in encoding order c bytes start n)) (sym e) stereo_back h
