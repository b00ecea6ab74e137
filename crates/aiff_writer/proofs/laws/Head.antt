-- The head's fields, put one behind the other. Assumes nothing.
use mathlib.Core.Path.{◌≡◌, refl, sym, ap}
use mathlib.Core.List.{List}
use Prim.Native.Nat.{ℕ, ◌+◌, ◌≤◌}
use native.Mathlib.Omega.{arith}
use lib.ListN.{length}
use Rattle.laws.specs.Pieces.{put_at}
use Rattle.byte_order.specs.declared.bytes.ByteOrder.TheVariants.{Big}
use Rattle.byte_order.specs.Bytes.{bytes_of}
use Rattle.byte_order.proofs.laws.Fields.{put_two, put_three, put_four, behind}
use Rattle.aiff_rate.specs.Rate.{rate_bytes}
use Rattle.aiff_sound.specs.Sound.{form_chunk, aiff, common_chunk, sound_chunk}
use Rattle.aiff_writer.specs.Write.{head_length, form_of, common_start, common_rest, sound_header_of, head_of}

length_form : (size : ℕ) → length (form_of size) ≡ 12
unfolding form_of bytes_of
length_form size = refl

length_start : (channels frames : ℕ) → length (common_start channels frames) ≡ 14
unfolding common_start bytes_of
length_start channels frames = refl

length_rest : (rate : ℕ) → length (common_rest rate) ≡ 12
unfolding common_rest rate_bytes bytes_of
length_rest rate = refl

pub length_head : (rate channels frames size : ℕ) → length (head_of rate channels frames size) ≡ head_length
unfolding head_of form_of common_start common_rest rate_bytes sound_header_of bytes_of
length_head rate channels frames size = refl

module _ (l : List ℕ) (h : head_length ≤ length l) where
  pub form_put : (size : ℕ) {n m k : List ℕ} → n ≡ put_at 0 (bytes_of Big 4 form_chunk) l → m ≡ put_at 4 (bytes_of Big 4 (46 + size)) n
      → k ≡ put_at 8 (bytes_of Big 4 aiff) m → k ≡ put_at 0 (form_of size) l
  unfolding form_of
  form_put size e f g = put_three 0 l (omega arith) _ _ _ e f g (behind Big 4 form_chunk 0 4 refl) (behind Big 4 (46 + size) 4 8 refl)

  pub start_put : (channels frames : ℕ) {n m k j : List ℕ} → n ≡ put_at 12 (bytes_of Big 4 common_chunk) l → m ≡ put_at 16 (bytes_of Big 4 18) n
      → k ≡ put_at 20 (bytes_of Big 2 channels) m → j ≡ put_at 22 (bytes_of Big 4 frames) k → j ≡ put_at 12 (common_start channels frames) l
  unfolding common_start
  start_put channels frames e f g i =
      put_four 12 l (omega arith) _ _ _ _ e f g i (behind Big 4 common_chunk 12 16 refl) (behind Big 4 18 16 20 refl) (behind Big 2 channels 20 22 refl)

  pub rest_put : (rate : ℕ) {n m : List ℕ} → n ≡ put_at 26 (bytes_of Big 2 16) l → m ≡ put_at 28 (rate_bytes rate) n → m ≡ put_at 26 (common_rest rate) l
  unfolding common_rest
  rest_put rate e f = put_two 26 l (omega arith) _ _ e f (behind Big 2 16 26 28 refl)

  pub sound_put : (size : ℕ) {n m k j : List ℕ} → n ≡ put_at 38 (bytes_of Big 4 sound_chunk) l → m ≡ put_at 42 (bytes_of Big 4 (8 + size)) n
      → k ≡ put_at 46 (bytes_of Big 4 0) m → j ≡ put_at 50 (bytes_of Big 4 0) k → j ≡ put_at 38 (sound_header_of size) l
  unfolding sound_header_of
  sound_put size e f g i =
      put_four 38 l (omega arith) _ _ _ _ e f g i (behind Big 4 sound_chunk 38 42 refl) (behind Big 4 (8 + size) 42 46 refl) (behind Big 4 0 46 50 refl)

  pub head_put : (rate channels frames size : ℕ) {n m k j : List ℕ} → n ≡ put_at 0 (form_of size) l → m ≡ put_at 12 (common_start channels frames) n
      → k ≡ put_at 26 (common_rest rate) m → j ≡ put_at 38 (sound_header_of size) k → j ≡ put_at 0 (head_of rate channels frames size) l
  unfolding head_of
  head_put rate channels frames size e f g i =
      put_four 0 l (omega arith) _ _ _ _ e f g i
      (ap (λ (x : ℕ). 0 + x) (sym (length_form size))) (ap (λ (x : ℕ). 12 + x) (sym (length_start channels frames))) (ap (λ (x : ℕ). 26 + x) (sym (length_rest rate)))
