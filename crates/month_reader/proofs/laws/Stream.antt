-- Bytes in pieces: whole samples, and the bytes of a number that is cut. Assumes nothing.
use mathlib.Core.Logic.{◌⊎◌, inl, inr}
use mathlib.Core.Path.{◌≡◌, refl, sym, ap, ap₂, ◌∙◌}
use mathlib.Core.List.{List, [], ◌∷◌, ◌++◌, append_assoc, append-nil}
use Prim.Native.Nat.{ℕ, zero, suc, ◌+◌, ◌-◌, ◌*◌, ◌/◌, ◌%◌, ◌≤◌, ◌<◌}
use native.Mathlib.Nat.{add-zero}
use native.Mathlib.Omega.{arith}
use lib.ListN.{length, take, drop, set, get_or, length-append, length-drop, take-append-drop, get_or-append}
use lib.Seq.{length-take-le, take_all, drop_at, drop-drop, get_or-append-add}
use Rattle.laws.specs.Pieces.{pieces, begun}
use Rattle.laws.proofs.laws.Pieces.{pieces_zero, pieces-suc, pieces_cong, set_put, begun_nil, begun_all, begun_turn, length-begun}
use Rattle.byte_order.specs.declared.bytes.ByteOrder.TheVariants.{Little}
use Rattle.byte_order.specs.Bytes.{number_at}
use Rattle.byte_order.proofs.laws.Bytes.{number_same}
use Rattle.month.specs.Piece.{words_of}
use Rattle.month_reader.specs.declared.reading.Reading.{Reading}
use Rattle.month_reader.specs.declared.stream.Stream.{Stream}
use Rattle.month_reader.specs.Reading.{MixFile, reading_of, no_bytes, stream_of, WithWords, WithBytes, ReadingReached, Reached}

-- ---- the samples of two pieces

pieces_add : (f : ℕ → List ℕ) (k m : ℕ) → pieces f (k + m) ≡ pieces f k ++ pieces (λ i. f (k + i)) m
pieces_add f k zero = ap (pieces f) (add-zero k) ∙ sym (ap (λ (l : List ℕ). pieces f k ++ l) (pieces_zero (λ i. f (k + i))) ∙ append-nil (pieces f k))
pieces_add f k (suc m) =
    let g : ℕ → List ℕ = λ i. f (k + i) in
    ap (pieces f) (more k m)
    ∙ pieces-suc f (k + m)
    ∙ ap (λ (l : List ℕ). l ++ f (k + m)) (pieces_add f k m)
    ∙ append_assoc (pieces f k) (pieces g m) (f (k + m))
    ∙ ap (λ (l : List ℕ). pieces f k ++ l) (sym (pieces-suc g m))
  where
    more : (k m : ℕ) → k + suc m ≡ suc (k + m)
    more k m = omega arith

module _ (a b : List ℕ) (whole : length a % 4 ≡ 0) where
  first_word : (i : ℕ) → i < length a / 4 → number_at Little (a ++ b) (4 * i) 4 ≡ number_at Little a (4 * i) 4
  first_word i h = number_same Little (a ++ b) a (4 * i) (4 * i) 4 (λ j k. get_or-append a b 0 (4 * i + j) (omega arith))

  second_word : (i : ℕ) → number_at Little (a ++ b) (4 * (length a / 4 + i)) 4 ≡ number_at Little b (4 * i) 4
  second_word i =
      number_same Little (a ++ b) b (4 * (length a / 4 + i)) (4 * i) 4
      (λ j k. ap (λ (n : ℕ). get_or (a ++ b) n 0) (omega arith) ∙ get_or-append-add a b (4 * i + j) 0)

  pub words_append : words_of (a ++ b) ≡ words_of a ++ words_of b
  unfolding words_of
  words_append =
      let f : ℕ → List ℕ = λ i. number_at Little (a ++ b) (4 * i) 4 ∷ [] in
      ap (pieces f) (omega (arith, length-append a b))
      ∙ pieces_add f (length a / 4) (length b / 4)
      ∙ ap₂ ◌++◌
      (pieces_cong f (λ i. number_at Little a (4 * i) 4 ∷ []) (length a / 4) (λ i h. ap (λ (w : ℕ). w ∷ []) (first_word i h)))
      (pieces_cong (λ i. f (length a / 4 + i)) (λ i. number_at Little b (4 * i) 4 ∷ []) (length b / 4) (λ i h. ap (λ (w : ℕ). w ∷ []) (second_word i)))

pub words_short : (rest : List ℕ) → length rest < 4 → words_of rest ≡ []
unfolding words_of
words_short rest h =
    let f : ℕ → List ℕ = λ i. number_at Little rest (4 * i) 4 ∷ [] in
    ap (pieces f) (omega arith) ∙ pieces_zero f

-- ---- the whole samples and the rest of some bytes

pub record Cut (bytes : List ℕ) : Type 0 where
  pub whole : List ℕ
  pub rest : List ℕ
  pub is : bytes ≡ whole ++ rest
  pub even : length whole % 4 ≡ 0
  pub short : length rest < 4

cut : (bytes : List ℕ) → Cut bytes
cut bytes =
    let n = length bytes / 4 * 4 in
    let t : length (take n bytes) ≡ n = length-take-le n bytes (omega arith) in
    record {
      whole = take n bytes;
      rest = drop n bytes;
      is = sym (take-append-drop n bytes);
      even = omega (arith, t);
      short = omega (arith, length-drop n bytes);
    }

same_stream : {r r' : Reading} {h h' : List ℕ} {n n' : ℕ} → r ≡ r' → h ≡ h' → n ≡ n' → ◌≡◌ {A = Stream} (record { reading = r; held = h; count = n }) (record { reading = r'; held = h'; count = n' })
same_stream e f g = cc

stream_at : (done : List MixFile) (a rest : List ℕ) → length a % 4 ≡ 0 → length rest < 4
    → stream_of done (a ++ rest) ≡ record { reading = reading_of done (words_of a); held = begun rest no_bytes; count = length rest }
unfolding stream_of
stream_at done a rest w h =
    same_stream
    (ap (reading_of done) (words_append a rest w ∙ ap (λ (l : List ℕ). words_of a ++ l) (words_short rest h) ∙ append-nil (words_of a)))
    (ap (λ (l : List ℕ). begun l no_bytes) (drop_at a rest (length (a ++ rest) / 4 * 4) (omega (arith, length-append a rest))))
    (omega (arith, length-append a rest))

-- nothing is held
stream_whole : (done : List MixFile) (a : List ℕ) → length a % 4 ≡ 0 → stream_of done a ≡ record { reading = reading_of done (words_of a); held = no_bytes; count = 0 }
stream_whole done a w = ap (stream_of done) (sym (append-nil a)) ∙ stream_at done a [] w (omega arith) ∙ same_stream refl (begun_nil no_bytes) refl

held_more : (rest : List ℕ) (b : ℕ) → length rest < 4 → {held : List ℕ} {n : ℕ} → held ≡ begun rest no_bytes → n ≡ length rest → set held n b ≡ begun (rest ++ (b ∷ [])) no_bytes
held_more rest b h f g =
    ap₂ (λ (l : List ℕ) (n : ℕ). set l n b) f g
    ∙ set_put (begun rest no_bytes) (length rest) b (omega (arith, length-begun rest no_bytes (omega arith)))
    ∙ begun_turn rest (b ∷ []) no_bytes refl refl

no_bytes_lem : (l : List ℕ) → length l ≡ 0 → l ≡ []
no_bytes_lem [] h = refl
no_bytes_lem (x ∷ l) h = absurd (omega arith)

-- ---- what is kept

module _ (done : List MixFile) (bytes : List ℕ) (s : Stream) (e : s ≡ stream_of done bytes) where
  pub reading_is : s.reading ≡ reading_of done (words_of bytes)
  unfolding stream_of
  reading_is = ap (λ (x : Stream). x.reading) e

  pub count_is : s.count ≡ length bytes % 4
  unfolding stream_of
  count_is = ap (λ (x : Stream). x.count) e

  at_cut : (k : Cut bytes) → s ≡ record { reading = reading_of done (words_of k.whole); held = begun k.rest no_bytes; count = length k.rest }
  at_cut k = e ∙ ap (stream_of done) k.is ∙ stream_at done k.whole k.rest k.even k.short

  -- a byte more of a number that is not whole with it
  pub byte_held : (b : ℕ) → s.count < 3 → ◌≡◌ {A = Stream} (record { reading = s.reading; held = set s.held s.count b; count = s.count + 1 }) (stream_of done (bytes ++ (b ∷ [])))
  byte_held b h =
      let k = cut bytes in
      let a = k.whole in
      let d = at_cut k in
      let n = ap (λ (x : Stream). x.count) d in
      same_stream (ap (λ (x : Stream). x.reading) d) (held_more k.rest b k.short (ap (λ (x : Stream). x.held) d) n) (omega (arith, n, length-append k.rest (b ∷ [])))
      ∙ sym (stream_at done a (k.rest ++ (b ∷ [])) k.even (omega (arith, h, n, length-append k.rest (b ∷ []))))
      ∙ ap (stream_of done) (sym (append_assoc a k.rest (b ∷ [])) ∙ ap (λ (l : List ℕ). l ++ (b ∷ [])) (sym k.is))

  -- the byte that makes it whole
  pub byte_whole : (b : ℕ) → 3 ≤ s.count → {r : Reading} → WithWords s.reading (words_of (set s.held s.count b)) r
      → ◌≡◌ {A = Stream} (record { reading = r; held = no_bytes; count = 0 }) (stream_of done (bytes ++ (b ∷ [])))
  byte_whole b h {r} on =
      let k = cut bytes in
      let a = k.whole in
      let d = at_cut k in
      let n = ap (λ (x : Stream). x.count) d in
      let word = k.rest ++ (b ∷ []) in
      let size : length word ≡ 4 = omega (arith, h, n, k.short, length-append k.rest (b ∷ [])) in
      let held = held_more k.rest b k.short (ap (λ (x : Stream). x.held) d) n ∙ begun_all word no_bytes size in
      same_stream
      (on done (words_of a) (ap (λ (x : Stream). x.reading) d) ∙ ap (λ (l : List ℕ). reading_of done (words_of a ++ words_of l)) held ∙ ap (reading_of done) (sym (words_append a word k.even)))
      refl
      refl
      ∙ sym (stream_whole done (a ++ word) (omega (arith, k.even, size, length-append a word)))
      ∙ ap (stream_of done) (sym (append_assoc a k.rest (b ∷ [])) ∙ ap (λ (l : List ℕ). l ++ (b ∷ [])) (sym k.is))

  -- whole samples
  module _ (piece : List ℕ) (w : length piece % 4 ≡ 0) {r : Reading} (on : WithWords s.reading (words_of piece) r) where
    none_held : s.count ≡ 0 → ◌≡◌ {A = Stream} (record { reading = r; held = s.held; count = s.count }) (stream_of done (bytes ++ piece))
    none_held h =
        let k = cut bytes in
        let a = k.whole in
        let d = at_cut k in
        let n = ap (λ (x : Stream). x.count) d in
        let z = no_bytes_lem k.rest (omega (arith, h, n)) in
        let is : bytes ≡ a = k.is ∙ ap (λ (l : List ℕ). a ++ l) z ∙ append-nil a in
        same_stream
        (on done (words_of a) (ap (λ (x : Stream). x.reading) d) ∙ ap (reading_of done) (sym (words_append a piece k.even)))
        (ap (λ (x : Stream). x.held) d ∙ ap (λ (l : List ℕ). begun l no_bytes) z ∙ begun_nil no_bytes)
        h
        ∙ sym (stream_whole done (a ++ piece) (omega (arith, k.even, w, length-append a piece)))
        ∙ ap (λ (l : List ℕ). stream_of done (l ++ piece)) (sym is)

    none_read : length piece ≡ 0 → ◌≡◌ {A = Stream} (record { reading = r; held = s.held; count = s.count }) (stream_of done (bytes ++ piece))
    none_read h =
        let z = no_bytes_lem piece h in
        let k = cut bytes in
        let d = at_cut k in
        same_stream
        (on done (words_of k.whole) (ap (λ (x : Stream). x.reading) d)
        ∙ ap (λ (l : List ℕ). reading_of done (words_of k.whole ++ l)) (words_short piece (omega arith))
        ∙ ap (reading_of done) (append-nil (words_of k.whole)))
        (ap (λ (x : Stream). x.held) d)
        (ap (λ (x : Stream). x.count) d)
        ∙ sym (stream_at done k.whole k.rest k.even k.short)
        ∙ ap (stream_of done) (sym k.is ∙ sym (append-nil bytes) ∙ ap (λ (l : List ℕ). bytes ++ l) (sym z))

    pub whole_read : (s.count ≡ 0) ⊎ (length piece ≡ 0) → ◌≡◌ {A = Stream} (record { reading = r; held = s.held; count = s.count }) (stream_of done (bytes ++ piece))
    whole_read (inl h) = none_held h
    whole_read (inr h) = none_read h

pub mix_ended : (done : List MixFile) {r : Reading} → r ≡ reading_of done [] → ◌≡◌ {A = Stream} (record { reading = r; held = no_bytes; count = 0 }) (stream_of done [])
mix_ended done e = same_stream (e ∙ ap (reading_of done) (sym (words_short [] (omega arith)))) refl refl ∙ sym (stream_whole done [] refl)

-- a piece in three parts
pub three_parts : (piece : List ℕ) (f l : ℕ) → f ≤ l → l ≤ length piece → take f piece ++ (take (l - f) (drop f piece) ++ take (length piece - l) (drop l piece)) ≡ piece
three_parts piece f l h k =
    let g : l ≡ f + (l - f) = omega arith in
    ap (λ (p : List ℕ). take f piece ++ (take (l - f) (drop f piece) ++ p))
    (take_all (length piece - l) (drop l piece) (omega (arith, length-drop l piece)) ∙ ap (λ (n : ℕ). drop n piece) g ∙ sym (drop-drop (l - f) f piece))
    ∙ ap (λ (p : List ℕ). take f piece ++ p) (take-append-drop (l - f) (drop f piece))
    ∙ take-append-drop f piece

pub part_length : (piece : List ℕ) (f n : ℕ) → f + n ≤ length piece → length (take (f + n - f) (drop f piece)) ≡ n
part_length piece f n h = length-take-le (f + n - f) (drop f piece) (omega (arith, length-drop f piece)) ∙ omega arith

-- ---- that it was reached

pub reading_reached : (s : Stream) → Reached s → ReadingReached s.reading
reading_reached s R = record { done = R.done; words = words_of R.bytes; few = R.few; is = reading_is R.done R.bytes s R.is }

pub count_most : (s : Stream) → Reached s → s.count < 4
count_most s R = omega (arith, count_is R.done R.bytes s R.is)

pub goes_on : (s s' : Stream) (piece : List ℕ) → Reached s → WithBytes s piece s' → Reached s'
goes_on s s' piece R on = record { done = R.done; bytes = R.bytes ++ piece; few = R.few; is = on R.done R.bytes R.is }
