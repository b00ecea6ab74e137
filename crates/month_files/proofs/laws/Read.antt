-- Loops that read: lines and streams that go on, and mixes that were read to their ends. Assumes nothing.
use mathlib.Core.Path.{◌≡◌, refl, sym, ap, ap₂, ◌∙◌, subst}
use mathlib.Core.Bool.{Bool, true, false, cond}
use mathlib.Core.List.{List, [], ◌∷◌, ◌++◌, append_assoc, append-nil}
use Prim.Native.Nat.{ℕ, suc, ◌+◌, ◌*◌, ◌/◌, ◌≤◌, ◌<◌}
use native.Mathlib.Numerals.{add-one}
use native.Mathlib.Omega.{arith}
use borrow.Author.Tests.{eqb-true, eqb-false}
use lib.Dec.{eqb, leb}
use lib.ListN.{length, take, get_or, length-take}
use lib.Seq.{take-suc, take_all, take_at}
use Rattle.month.specs.Month.{most_mixes}
use Rattle.month_reader.specs.declared.stream.Stream.{Stream}
use Rattle.month_reader.specs.Reading.{MixFile, stream_of, WithBytes, WithEnd, Reached}
use Rattle.month_reader.proofs.laws.Stream.{goes_on}
use Rattle.month_files.specs.declared.lines.Lines.{Lines}
use Rattle.month_files.specs.Lines.{no_lines, line_byte, lines_from, line_count, formed, channels_of, head_bytes, lines_number, input_number}
use Rattle.month_files.specs.Month.{mix_files, WasRead, TextOf}
use Rattle.month_files.specs.Read.{MoreLines, AllLines, Further, channels_in, Ended, TextOfRead}
use Rattle.month_files.proofs.laws.Head.{first_lines, all_first}

-- ---- lines

lines_append : (l : Lines) (a b : List ℕ) → lines_from l (a ++ b) ≡ lines_from (lines_from l a) b
unfolding lines_from
lines_append l [] b = refl
lines_append l (x ∷ a) b = lines_append (line_byte l x) a b

pub more_none : (l : Lines) → MoreLines l l
unfolding lines_from
more_none l = record { bytes = []; is = refl }

pub more_then : (a b c : Lines) (piece : List ℕ) → MoreLines a b → c ≡ lines_from b piece → MoreLines a c
more_then a b c piece M e =
    record { bytes = M.bytes ++ piece; is = e ∙ ap (λ (l : Lines). lines_from l piece) M.is ∙ sym (lines_append a M.bytes piece) }

pub all_short : (head : List ℕ) (lines : Lines) → length head < head_bytes → lines ≡ lines_from no_lines head → AllLines head lines
all_short head lines h e =
    record {
      rest = [];
      first = sym (take_all head_bytes (head ++ []) (omega (arith, ap length (append-nil head))) ∙ append-nil head);
      is = e ∙ ap (lines_from no_lines) (sym (append-nil head));
    }

pub all_long : (head : List ℕ) (first lines : Lines) → length head ≡ head_bytes → first ≡ lines_from no_lines head → MoreLines first lines → AllLines head lines
all_long head first lines h e M =
    record {
      rest = M.bytes;
      first = sym (take_at head M.bytes head_bytes h);
      is = M.is ∙ ap (λ (l : Lines). lines_from l M.bytes) e ∙ sym (lines_append no_lines head M.bytes);
    }

pub lines_formed : (l : Lines) (text : List ℕ) {n : ℕ} → n ≡ lines_number l text → n ≡ 0 → formed text ≡ true
unfolding lines_number
lines_formed l text {n} e h = go (leb (line_count l) most_mixes) (formed text) refl e
  where
    go : (a b : Bool) → formed text ≡ b → n ≡ cond a (cond b 0 26) 24 → formed text ≡ true
    go false b f k = absurd (omega (arith, h, k))
    go true true f k = f
    go true false f k = absurd (omega (arith, h, k))

-- ---- a mix

pub further_none : (s : Stream) → Further s s
further_none s = record { bytes = []; is = λ done bytes e. e ∙ ap (stream_of done) (sym (append-nil bytes)) }

pub further_then : (a b c : Stream) (piece : List ℕ) → Further a b → WithBytes b piece c → Further a c
further_then a b c piece F on =
    record {
      bytes = F.bytes ++ piece;
      is = λ done bytes e. on done (bytes ++ F.bytes) (F.is done bytes e) ∙ ap (stream_of done) (append_assoc bytes F.bytes piece);
    }

pub still_reached : (s s' : Stream) → Reached s → Further s s' → Reached s'
still_reached s s' R F = goes_on s s' F.bytes R F.is

-- ---- mixes one after another

channels_snoc : (done : List MixFile) (m : MixFile) → channels_in (done ++ (m ∷ [])) ≡ channels_in done ++ (m.channels ∷ [])
unfolding channels_in
channels_snoc [] m = refl
channels_snoc (d ∷ done) m = ap (λ (l : List ℕ). d.channels ∷ l) (channels_snoc done m)

channels_length : (done : List MixFile) → length (channels_in done) ≡ length done
unfolding channels_in
channels_length [] = refl
channels_length (d ∷ done) = ap suc (channels_length done)

channels_count : (text : List ℕ) → length (channels_of text) ≡ length text / 2
unfolding channels_of
channels_count [] = refl
channels_count (d ∷ []) = refl
channels_count (d ∷ (f ∷ rest)) = omega (arith, channels_count rest)

pub ended_none : (cs : List ℕ) (s : Stream) → s ≡ stream_of [] [] → Ended (take 0 cs) s
unfolding channels_in
ended_none cs s e = record { done = []; channels_are = refl; is = e }

module _ (text : List ℕ) (i : ℕ) (s : Stream) (E : Ended (take i (channels_of text)) s) (few : i < most_mixes) where
  pub ended_reached : Reached s
  ended_reached =
      record {
        done = E.done;
        bytes = [];
        few = omega (arith, channels_length E.done, ap length E.channels_are, length-take i (channels_of text));
        is = E.is;
      }

  -- the next mix, read and ended
  pub ended_next : (s' s'' : Stream) (c : ℕ) → 2 * i + 1 < length text → Further s s' → c ≡ get_or (channels_of text) i 0 → WithEnd s' c s'' → Ended (take (i + 1) (channels_of text)) s''
  ended_next s' s'' c h F e on =
      record {
        done = E.done ++ (record { channels = c; bytes = F.bytes } ∷ []);
        channels_are =
            channels_snoc E.done (record { channels = c; bytes = F.bytes })
            ∙ ap₂ (λ (l : List ℕ) (x : ℕ). l ++ (x ∷ [])) E.channels_are e
            ∙ sym (ap (λ (n : ℕ). take n (channels_of text)) (add-one i) ∙ take-suc (channels_of text) i 0 (omega (arith, channels_count text)));
        is = on E.done F.bytes (F.is E.done [] E.is);
      }

pub ended_all : (text : List ℕ) (i : ℕ) (s : Stream) → length text / 2 ≤ i → Ended (take i (channels_of text)) s → Ended (channels_of text) s
ended_all text i s h E = subst (λ (cs : List ℕ). Ended cs s) (take_all i (channels_of text) (omega (arith, channels_count text))) E

-- ---- the whole month

bytes_in : List MixFile → List (List ℕ)
bytes_in [] = []
bytes_in (m ∷ ms) = m.bytes ∷ bytes_in ms

files_of : (done : List MixFile) → mix_files (channels_in done) (bytes_in done) ≡ done
unfolding mix_files channels_in bytes_in
files_of [] = refl
files_of (m ∷ ms) = ap (λ (l : List MixFile). m ∷ l) (files_of ms)

module _ (head : List ℕ) (lines : Lines) (stream : Stream) (A : AllLines head lines) (E : lines_number lines head ≡ 0 → Ended (channels_of head) stream) where
  abbrev input : List ℕ
  input = head ++ A.rest

  number_same : lines_number lines head ≡ input_number input
  number_same = ap₂ lines_number A.is A.first ∙ first_lines input

  pub record SomeFiles : Type 0 where
    pub files : List (List ℕ)
    pub is : WasRead input files head lines stream

  some_files : SomeFiles
  some_files = go (eqb (lines_number lines head) 0) refl
    where
      go : (b : Bool) → eqb (lines_number lines head) 0 ≡ b → SomeFiles
      go false e = record { files = []; is = record { first = A.first; lines_are = A.is; mixes_are = λ z. absurd (eqb-false (lines_number lines head) 0 e (number_same ∙ z)) } }
      go true e =
          let D = E (eqb-true (lines_number lines head) 0 e) in
          let files = bytes_in D.done in
          record {
            files = files;
            is =
                record {
                  first = A.first;
                  lines_are = A.is;
                  mixes_are = λ z. D.is ∙ ap (λ (ms : List MixFile). stream_of ms []) (sym (files_of D.done) ∙ ap (λ (cs : List ℕ). mix_files cs files) (D.channels_are ∙ ap channels_of (A.first ∙ all_first input z)));
                };
          }

-- what was read has a text, which is the one that was put
pub text_of_read : (head : List ℕ) (n : ℕ) (lines : Lines) (stream : Stream) {before after : List ℕ} {r : ℕ} → AllLines (take n head) lines
    → (lines_number lines (take n head) ≡ 0 → Ended (channels_of (take n head)) stream)
    → ((input : List ℕ) (files : List (List ℕ)) → WasRead input files (take n head) lines stream → TextOf input files before r after) → TextOfRead head before r after
text_of_read head n lines stream A E put =
    let S = some_files (take n head) lines stream A E in
    record { input = take n head ++ A.rest; files = S.files; count = n; first = A.first; is = put (take n head ++ A.rest) S.files S.is }
