-- The head's fields, put one behind the other. Assumes nothing.
use mathlib.Core.Path.{◌≡◌, refl, sym, ap, subst}
use mathlib.Core.List.{List}
use Prim.Native.Nat.{ℕ, ◌+◌, ◌*◌, ◌≤◌}
use native.Mathlib.Nat.{le_trans, mul-le-mul_right}
use native.Mathlib.Omega.{arith}
use lib.ListN.{length}
use Rattle.laws.specs.Pieces.{put_at}
use Rattle.pcm.specs.declared.sample.Encoding.{Encoding}
use Rattle.byte_order.specs.declared.bytes.ByteOrder.TheVariants.{Little, Big}
use Rattle.byte_order.specs.Bytes.{bytes_of}
use Rattle.byte_order.proofs.laws.Fields.{put_two, put_three, put_four, behind}
use Rattle.pcm.specs.Sample.{width}
use Rattle.wave_sound.specs.Sound.{riff, wave, format_chunk, data_chunk}
use Rattle.wave_writer.specs.Write.{tag_of, riff_of, format_start, format_rest, data_header_of, head_of}

-- ---- the parts of the head

pub length_riff : (size : ℕ) → length (riff_of size) ≡ 12
unfolding riff_of bytes_of
length_riff size = refl

pub length_start : (channels : ℕ) (encoding : Encoding) → length (format_start channels encoding) ≡ 12
unfolding format_start bytes_of
length_start channels encoding = refl

pub length_rest : (rate frame bits : ℕ) → length (format_rest rate frame bits) ≡ 12
unfolding format_rest bytes_of
length_rest rate frame bits = refl

pub length_head : (rate channels : ℕ) (encoding : Encoding) (size : ℕ) → length (head_of rate channels encoding size) ≡ 44
unfolding head_of riff_of format_start format_rest data_header_of bytes_of
length_head rate channels encoding size = refl

-- a frame has 8 bytes at most
pub frame_most : (channels w : ℕ) → channels ≤ 2 → w ≤ 4 → channels * w ≤ 8
frame_most channels w h k = le_trans (mul-le-mul_right w h) (omega arith)

pub second_most : (rate frame : ℕ) → rate ≤ 192000 → frame ≤ 8 → rate * frame ≤ 1536000
second_most rate frame h k = le_trans (mul-le-mul_right frame h) (omega arith)

module _ (l : List ℕ) (h : 44 ≤ length l) where
  pub riff_put : (size : ℕ) {n m k : List ℕ} → n ≡ put_at 0 (bytes_of Big 4 riff) l → m ≡ put_at 4 (bytes_of Little 4 (36 + size)) n
      → k ≡ put_at 8 (bytes_of Big 4 wave) m → k ≡ put_at 0 (riff_of size) l
  unfolding riff_of
  riff_put size e f g = put_three 0 l (omega arith) _ _ _ e f g (behind Big 4 riff 0 4 refl) (behind Little 4 (36 + size) 4 8 refl)

  pub start_put : (channels : ℕ) (encoding : Encoding) {tag : ℕ} {n m k j : List ℕ} → tag ≡ tag_of encoding → n ≡ put_at 12 (bytes_of Big 4 format_chunk) l → m ≡ put_at 16 (bytes_of Little 4 16) n
      → k ≡ put_at 20 (bytes_of Little 2 tag) m → j ≡ put_at 22 (bytes_of Little 2 channels) k → j ≡ put_at 12 (format_start channels encoding) l
  unfolding format_start
  start_put channels encoding {m = m} {k = k} z e f g i =
      put_four 12 l (omega arith) _ _ _ _ e f (subst (λ (x : ℕ). k ≡ put_at 20 (bytes_of Little 2 x) m) z g) i (behind Big 4 format_chunk 12 16 refl) (behind Little 4 16 16 20 refl) (behind Little 2 (tag_of encoding) 20 22 refl)

  pub rest_put : (rate frame bits : ℕ) {n m k j : List ℕ} → n ≡ put_at 24 (bytes_of Little 4 rate) l → m ≡ put_at 28 (bytes_of Little 4 (rate * frame)) n
      → k ≡ put_at 32 (bytes_of Little 2 frame) m → j ≡ put_at 34 (bytes_of Little 2 bits) k → j ≡ put_at 24 (format_rest rate frame bits) l
  unfolding format_rest
  rest_put rate frame bits e f g i =
      put_four 24 l (omega arith) _ _ _ _ e f g i (behind Little 4 rate 24 28 refl) (behind Little 4 (rate * frame) 28 32 refl) (behind Little 2 frame 32 34 refl)

  pub data_put : (size : ℕ) {n m : List ℕ} → n ≡ put_at 36 (bytes_of Big 4 data_chunk) l → m ≡ put_at 40 (bytes_of Little 4 size) n → m ≡ put_at 36 (data_header_of size) l
  unfolding data_header_of
  data_put size e f = put_two 36 l (omega arith) _ _ e f (behind Big 4 data_chunk 36 40 refl)

  pub head_put : (rate channels : ℕ) (encoding : Encoding) (size : ℕ) {w : ℕ} {n m k j : List ℕ} → w ≡ width encoding → n ≡ put_at 0 (riff_of size) l
      → m ≡ put_at 12 (format_start channels encoding) n → k ≡ put_at 24 (format_rest rate (channels * w) (w * 8)) m → j ≡ put_at 36 (data_header_of size) k
      → j ≡ put_at 0 (head_of rate channels encoding size) l
  unfolding head_of
  head_put rate channels encoding size {w} {n} {m} {k} z e f g i =
      put_four 0 l (omega arith) _ _ _ _ e f (subst (λ (x : ℕ). k ≡ put_at 24 (format_rest rate (channels * x) (x * 8)) m) z g) i
      (ap (λ (x : ℕ). 0 + x) (sym (length_riff size))) (ap (λ (x : ℕ). 12 + x) (sym (length_start channels encoding))) (ap (λ (x : ℕ). 24 + x) (sym (length_rest rate (channels * width encoding) (width encoding * 8))))
