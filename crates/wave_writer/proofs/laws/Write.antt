-- What the writer answers, in each case. Assumes nothing.
use mathlib.Core.Path.{◌≡◌, refl, sym, ap, ap₂, ◌∙◌, subst}
use mathlib.Core.Bool.{Bool, true, false, cond, ◌&&◌}
use mathlib.Core.List.{List}
use Prim.Native.Nat.{ℕ, zero, suc, ◌+◌, ◌-◌, ◌*◌, ◌/◌, ◌%◌, ◌≤◌, ◌<◌}
use native.Mathlib.Nat.{mul_comm, mul-le-mul_right}
use native.Mathlib.Omega.{arith}
use lib.Dec.{eqb, leb}
use lib.IntN.{pos}
use lib.ListN.{length, get_or, length-append}
use lib.Ieee.{Float, nan, binary32, le, neg, of_int}
use borrow.Author.Tests.{eq-eqb, ne_eqb, eqb-true, le-leb, lt-leb, leb-true}
use Rattle.laws.proofs.laws.Choice.{cond-true, cond-false, true-T}
use Rattle.laws.specs.Pieces.{put_at}
use Rattle.byte_order.specs.declared.bytes.ByteOrder.{ByteOrder}
use Rattle.byte_order.specs.declared.bytes.ByteOrder.TheVariants.{Little}
use Rattle.byte_order.proofs.laws.Fields.{put_both}
use Rattle.pcm.specs.declared.sample.Encoding.{Encoding}
use Rattle.pcm.specs.declared.sample.Encoding.TheVariants.{Pcm16, Float32}
use Rattle.pcm.specs.Sample.{InRange, width}
use Rattle.scene_tables.proofs.laws.Every.{every_at}
use Rattle.scene_questions.specs.Questions.{sample_ok, samples_ok}
use Rattle.sound_data.specs.Data.{data_of, AllInRange}
use Rattle.sound_data.proofs.laws.Back.{length_data}
use Rattle.std.specs.Prelude.{Option, Some, None}
use Rattle.wave_sound.specs.Sound.{channels_ok, rate_ok}
use Rattle.wave_sound.proofs.laws.Sound.{both, channels_are, width_pos}
use Rattle.wave_writer.specs.Write.{head_length, head_of, data_length, file_of, file_most, Writing, writing, length_ok, asked, answered, kind_of_bits, write_kind, write_of, bytes_with}
use Rattle.wave_writer.proofs.laws.Head.{length_head}

-- ---- lengths

module _ (head size room : ℕ) (h : head ≤ file_most) where
  pub size_above : file_most - head < size → false ≡ length_ok head size room
  unfolding length_ok
  size_above k = sym (ap (λ (t : Bool). t && eqb room (head + size)) (lt-leb (head + size) file_most (omega arith)))

  pub size_within : size ≤ file_most - head → eqb room (head + size) ≡ length_ok head size room
  unfolding length_ok
  size_within k = sym (ap (λ (t : Bool). t && eqb room (head + size)) (le-leb (head + size) file_most (omega arith)))

pub length_is : (head size room : ℕ) → length_ok head size room ≡ true → (head + size ≤ file_most) × (room ≡ head + size)
unfolding length_ok
length_is head size room e =
    let p = both (leb (head + size) file_most) (eqb room (head + size)) e in
    (leb-true (head + size) file_most p.0, eqb-true room (head + size) p.1)

-- n / 2 * channels * w, for one channel or two and 2 or 4 bytes
width_least : (encoding : Encoding) → 2 ≤ width encoding
unfolding width
width_least Pcm16 = omega arith
width_least Float32 = omega arith

even_width : (e : Encoding) (n : ℕ) → n * width e % 2 ≡ 0
unfolding width
even_width Pcm16 n = omega arith
even_width Float32 n = omega arith

pub data_even : (samples channels : ℕ) (encoding : Encoding) → data_length samples channels encoding % 2 ≡ 0
unfolding data_length
data_even samples channels encoding = even_width encoding (samples / 2 * channels)

pub own_length : (encoding : Encoding) (order : ByteOrder) (channels : ℕ) (samples : List Float) → length (data_of encoding order channels samples) ≡ data_length (length samples) channels encoding
unfolding data_length
own_length encoding order channels samples = length_data encoding order channels samples

module _ (samples channels : ℕ) (encoding : Encoding) (c : channels_ok channels ≡ true) where
  pub values_most : samples / 2 * channels ≤ samples
  values_most =
      let h : channels * (samples / 2) ≤ 2 * (samples / 2) = mul-le-mul_right (samples / 2) (channels_are channels c).1 in
      omega (arith, mul_comm (samples / 2) channels)

  pub size_most : samples / 2 * channels * width encoding ≤ samples * 4
  size_most =
      let h : width encoding * (samples / 2 * channels) ≤ 4 * (samples / 2 * channels) = mul-le-mul_right (samples / 2 * channels) (width_pos encoding).1 in
      omega (arith, mul_comm (samples / 2 * channels) (width encoding), values_most)

  pub size_least : 2 * (samples / 2) ≤ data_length samples channels encoding
  unfolding data_length
  size_least =
      let h : 1 * (samples / 2) ≤ channels * (samples / 2) = mul-le-mul_right (samples / 2) (channels_are channels c).0 in
      let k : 2 * (samples / 2 * channels) ≤ width encoding * (samples / 2 * channels) = mul-le-mul_right (samples / 2 * channels) (width_least encoding) in
      omega (arith, mul_comm (samples / 2) channels, mul_comm (samples / 2 * channels) (width encoding))

module _ (head samples channels : ℕ) (encoding : Encoding) where
  pub length_no_channels : channels_ok channels ≡ false → None ≡ bytes_with head samples channels encoding
  unfolding bytes_with
  length_no_channels n = sym (cond-false (channels_ok channels) _ None n)

  module _ (h : head ≤ file_most) (c : channels_ok channels ≡ true) where
    known : bytes_with head samples channels encoding ≡ cond (leb (head + data_length samples channels encoding) file_most) (Some (head + data_length samples channels encoding)) None
    unfolding bytes_with
    known = cond-true (channels_ok channels) _ None c

    pub length_fits : data_length samples channels encoding ≤ file_most - head → Some (head + data_length samples channels encoding) ≡ bytes_with head samples channels encoding
    length_fits k =
        let size = data_length samples channels encoding in
        sym (known ∙ cond-true (leb (head + size) file_most) _ None (le-leb (head + size) file_most (omega arith)))

    pub length_none : file_most - head < data_length samples channels encoding → None ≡ bytes_with head samples channels encoding
    length_none k =
        let size = data_length samples channels encoding in
        sym (known ∙ cond-false (leb (head + size) file_most) _ None (lt-leb (head + size) file_most (omega arith)))

    pub length_never : file_most < samples → None ≡ bytes_with head samples channels encoding
    length_never k = length_none (omega (arith, size_least samples channels encoding c))

-- ---- the samples

sample_in_range : (x : Float) → sample_ok x ≡ true → InRange x
unfolding sample_ok
sample_in_range x e =
    let low = le (neg (of_int binary32 (pos 1))) x in
    let high = le x (of_int binary32 (pos 1)) in
    let p = both low high e in
    record { not_below = true-T low p.0; not_above = true-T high p.1 }

pub all_in_range : (samples : List Float) → samples_ok samples ≡ true → AllInRange samples
unfolding samples_ok
all_in_range samples e = record { each = λ i h. sample_in_range (get_or samples i nan) (every_at (length samples) (λ j. sample_ok (get_or samples j nan)) i h e) }

-- ---- the questions, and what is known where none says no

pub record Writable (head rate channels : ℕ) (encoding : Encoding) (samples : List Float) (room : ℕ) : Type 0 where
  pub rated : rate_ok rate ≡ true
  pub sided : channels_ok channels ≡ true
  pub even : length samples % 2 ≡ 0
  pub in_range : AllInRange samples
  pub small : head + data_length (length samples) channels encoding ≤ file_most
  pub roomy : room ≡ head + data_length (length samples) channels encoding

-- a question that was passed, and what was asked behind it
pub picked : (b : Bool) (x n : ℕ) → (n ≡ 0 → ⊥) → cond b x n ≡ 0 → (b ≡ true) × (x ≡ 0)
picked true x n z e = (refl, e)
picked false x n z e = absurd (z e)

module _ (head rate channels : ℕ) (encoding : Encoding) (samples : List Float) (room : ℕ) where
  abbrev asked_by : Bool → Bool → Bool → Bool → Bool → ℕ
  asked_by a b c d e = cond a (cond b (cond c (cond d (cond e 0 10) 9) 8) 15) 4

  asked_by_lem : {a b c d e : Bool} → rate_ok rate ≡ a → channels_ok channels ≡ b → eqb (length samples % 2) 0 ≡ c → samples_ok samples ≡ d
      → length_ok head (data_length (length samples) channels encoding) room ≡ e → asked_by a b c d e ≡ asked head rate channels encoding samples room
  unfolding asked
  asked_by_lem p q r s t = cc

  pub asked_rate : rate_ok rate ≡ false → 4 ≡ asked head rate channels encoding samples room
  asked_rate p = asked_by_lem p refl refl refl refl

  module _ (p : rate_ok rate ≡ true) where
    pub asked_channels : channels_ok channels ≡ false → 15 ≡ asked head rate channels encoding samples room
    asked_channels q = asked_by_lem p q refl refl refl

    module _ (q : channels_ok channels ≡ true) where
      pub asked_odd : (length samples % 2 ≡ 0 → ⊥) → 8 ≡ asked head rate channels encoding samples room
      asked_odd r = asked_by_lem p q (ne_eqb (length samples % 2) 0 r) refl refl

      module _ (r : length samples % 2 ≡ 0) where
        pub asked_outside : samples_ok samples ≡ false → 9 ≡ asked head rate channels encoding samples room
        asked_outside s = asked_by_lem p q (eq-eqb (length samples % 2) 0 r) s refl

        module _ (s : samples_ok samples ≡ true) where
          pub asked-length : length_ok head (data_length (length samples) channels encoding) room ≡ false → 10 ≡ asked head rate channels encoding samples room
          asked-length t = asked_by_lem p q (eq-eqb (length samples % 2) 0 r) s t

          pub asked_all : length_ok head (data_length (length samples) channels encoding) room ≡ true → 0 ≡ asked head rate channels encoding samples room
          asked_all t = asked_by_lem p q (eq-eqb (length samples % 2) 0 r) s t

  pub none_asked : asked head rate channels encoding samples room ≡ 0 → Writable head rate channels encoding samples room
  unfolding asked
  none_asked e =
      let size = data_length (length samples) channels encoding in
      let p = picked (rate_ok rate) _ 4 (λ z. omega arith) e in
      let q = picked (channels_ok channels) _ 15 (λ z. omega arith) p.1 in
      let r = picked (eqb (length samples % 2) 0) _ 8 (λ z. omega arith) q.1 in
      let s = picked (samples_ok samples) _ 9 (λ z. omega arith) r.1 in
      let t = picked (length_ok head size room) 0 10 (λ z. omega arith) s.1 in
      let l = length_is head size room t.0 in
      record {
        rated = p.0;
        sided = q.0;
        even = eqb-true (length samples % 2) 0 r.0;
        in_range = all_in_range samples s.0;
        small = l.0;
        roomy = l.1;
      }

-- ---- the file

pub length_file : (rate channels : ℕ) (encoding : Encoding) (samples : List Float) → length (file_of rate channels encoding samples) ≡ head_length + data_length (length samples) channels encoding
unfolding file_of
length_file rate channels encoding samples =
    let size = data_length (length samples) channels encoding in
    length-append (head_of rate channels encoding size) (data_of encoding Little channels samples)
    ∙ ap₂ ◌+◌ (length_head rate channels encoding size) (own_length encoding Little channels samples)

module _ (rate channels : ℕ) (encoding : Encoding) (samples : List Float) (file : List ℕ) (w : Writable head_length rate channels encoding samples (length file)) where
  pub file_written : {size : ℕ} {n m : List ℕ} → size ≡ data_length (length samples) channels encoding → n ≡ put_at 0 (head_of rate channels encoding size) file
      → m ≡ put_at head_length (data_of encoding Little channels samples) n → m ≡ file_of rate channels encoding samples
  unfolding file_of
  file_written {size} {n} z e f =
      let all = data_length (length samples) channels encoding in
      put_both (head_of rate channels encoding all) (data_of encoding Little channels samples) file head_length (length_head rate channels encoding all)
      (w.roomy ∙ ap (λ (x : ℕ). head_length + x) (sym (own_length encoding Little channels samples)))
      (subst (λ (x : ℕ). n ≡ put_at 0 (head_of rate channels encoding x) file) z e) f

  pub data_room : head_length + length samples / 2 * channels * width encoding ≤ length file
  unfolding data_length
  data_room = omega (arith, w.roomy)

-- ---- the answers

module _ (written file : List ℕ) where
  pub answer_refused : (n : ℕ) → (n ≡ 0 → ⊥) → writing n file ≡ answered n written file
  unfolding answered
  answer_refused n z = sym (cond-false (eqb n 0) _ (writing n file) (ne_eqb n 0 z))

  pub answer_written : (n : ℕ) → n ≡ 0 → writing 0 written ≡ answered n written file
  unfolding answered
  answer_written n z = sym (cond-true (eqb n 0) _ (writing n file) (eq-eqb n 0 z))

  refused : {n : ℕ} {f g : List ℕ} → (n ≡ 0 → ⊥) → writing n f ≡ writing 0 g → ⊥
  refused z e = z (cc)

  same : {f g : List ℕ} → writing 0 f ≡ writing 0 g → g ≡ f
  same e = cc

  -- what is accepted
  pub answer_is : (n : ℕ) (made : List ℕ) → answered n written file ≡ writing 0 made → (n ≡ 0) × (made ≡ written)
  answer_is zero made e = (refl, same (answer_written 0 refl ∙ e))
  answer_is (suc n) made e = absurd (refused (λ z. omega arith) (answer_refused (suc n) (λ z. omega arith) ∙ e))

module _ (rate channels bits : ℕ) (samples : List Float) (file : List ℕ) where
  pub write_by : {w : Writing} {encoding : Encoding} → w ≡ write_kind (Some encoding) rate channels samples file → kind_of_bits bits ≡ Some encoding → w ≡ write_of rate channels bits samples file
  unfolding write_of
  write_by p e = p ∙ sym (ap (λ (k : Option Encoding). write_kind k rate channels samples file) e)

  pub write_other : {n : ℕ} → n ≡ cond (rate_ok rate) 15 4 → kind_of_bits bits ≡ None → writing n file ≡ write_of rate channels bits samples file
  unfolding write_of write_kind
  write_other z e = ap (λ (n : ℕ). writing n file) z ∙ sym (ap (λ (k : Option Encoding). write_kind k rate channels samples file) e)

module _ (rate channels : ℕ) (encoding : Encoding) (samples : List Float) (file : List ℕ) where
  pub known_is : answered (asked head_length rate channels encoding samples (length file)) (file_of rate channels encoding samples) file ≡ write_kind (Some encoding) rate channels samples file
  unfolding write_kind
  known_is = refl

  -- the same of a number that was answered
  pub known_refused : {n : ℕ} → (n ≡ 0 → ⊥) → n ≡ asked head_length rate channels encoding samples (length file) → writing n file ≡ write_kind (Some encoding) rate channels samples file
  known_refused {n} z e =
      let written = file_of rate channels encoding samples in
      answer_refused written file n z ∙ ap (λ (x : ℕ). answered x written file) e ∙ known_is

  pub known_written : {n : ℕ} {m : List ℕ} → n ≡ 0 → n ≡ asked head_length rate channels encoding samples (length file) → m ≡ file_of rate channels encoding samples
      → writing 0 m ≡ write_kind (Some encoding) rate channels samples file
  known_written {n} z e w =
      let written = file_of rate channels encoding samples in
      ap (writing 0) w ∙ answer_written written file n z ∙ ap (λ (x : ℕ). answered x written file) e ∙ known_is
