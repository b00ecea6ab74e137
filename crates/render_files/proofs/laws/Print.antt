-- The lines that are printed, one after another. Assumes nothing.
use mathlib.Core.Path.{◌≡◌, sym, ap, subst}
use mathlib.Core.List.{List, [], ◌∷◌, ◌++◌, append_assoc}
use Prim.Native.Nat.{ℕ, ◌+◌, ◌*◌, ◌/◌, ◌%◌, ◌≤◌}
use native.Mathlib.Omega.{arith}
use lib.ListN.{length, get_or, length-append}
use lib.Ieee.{Float, nan, binary32, to_bits}
use Rattle.laws.specs.Pieces.{pieces, begun, put_at}
use Rattle.scene_tables.specs.Bytes.{bytes_of}
use Rattle.text_output.specs.Text.{decimal, steps32}
use Rattle.text_output.proofs.laws.Print.{put_then, pieces_most, begun_then}
use Rattle.text_output.proofs.laws.Print as text
use Rattle.render_files.specs.Program.{number_bytes, line_bytes, line, printed_output}

-- ---- a number

pub number_length : (n after : ℕ) → length (decimal n ++ (after ∷ [])) ≤ number_bytes
unfolding decimal
number_length n after = text.number_length steps32 n after

-- ---- a line

-- three numbers, each with the byte after it
pub line_is : (block place bits : ℕ) → line block place bits ≡ ((decimal block ++ (32 ∷ [])) ++ (decimal place ++ (32 ∷ []))) ++ (decimal bits ++ (10 ∷ []))
unfolding line
line_is block place bits = sym (simp append_assoc)

pub line-length : (block place bits : ℕ) → length (line block place bits) ≤ line_bytes
line-length block place bits =
    let a = decimal block ++ (32 ∷ []) in
    let b = decimal place ++ (32 ∷ []) in
    let c = decimal bits ++ (10 ∷ []) in
    omega (arith, ap length (line_is block place bits), length-append (a ++ b) c, length-append a b, number_length block 32, number_length place 32, number_length bits 10)

pub put_line : (at block place bits : ℕ) (l : List ℕ) {a b r : ℕ} {t u last : List ℕ} → at ≤ length l
    → (a ≡ at + length (decimal block ++ (32 ∷ []))) × (t ≡ put_at at (decimal block ++ (32 ∷ [])) l)
    → (b ≡ a + length (decimal place ++ (32 ∷ []))) × (u ≡ put_at a (decimal place ++ (32 ∷ [])) t)
    → (r ≡ b + length (decimal bits ++ (10 ∷ []))) × (last ≡ put_at b (decimal bits ++ (10 ∷ [])) u)
    → (r ≡ at + length (line block place bits)) × (last ≡ put_at at (line block place bits) l)
put_line at block place bits l {r = r} {last = last} h e f g =
    let two = put_then at (decimal block ++ (32 ∷ [])) (decimal place ++ (32 ∷ [])) l h e.0 e.1 f.0 f.1 in
    subst (λ (p : List ℕ). (r ≡ at + length p) × (last ≡ put_at at p l)) (sym (line_is block place bits))
    (put_then at ((decimal block ++ (32 ∷ [])) ++ (decimal place ++ (32 ∷ []))) (decimal bits ++ (10 ∷ [])) l h two.0 two.1 g.0 g.1)

-- the line of sample i
abbrev pub line_at : ℕ → List Float → ℕ → List ℕ
line_at width output i = line (i / width) (i % width) (to_bits binary32 (get_or output i nan))

pub lines_length : (width : ℕ) (output : List Float) (i : ℕ) → length (pieces (line_at width output) i) ≤ i * line_bytes
lines_length width output i = pieces_most (line_at width output) line_bytes i (λ j. line-length (j / width) (j % width) (to_bits binary32 (get_or output j nan)))

pub output_whole : (width : ℕ) (output : List Float) (l : List ℕ) {at n r : ℕ} {now last : List ℕ} → (at ≡ 0 + length (bytes_of "block place bits\n")) × (now ≡ put_at 0 (bytes_of "block place bits\n") l)
    → n ≡ length output → (r ≡ at + length (pieces (line_at width output) n)) × (last ≡ put_at at (pieces (line_at width output) n) now)
    → (r ≡ length (printed_output width output)) × (last ≡ begun (printed_output width output) l)
unfolding printed_output
output_whole width output l {at} {n} {r} {now} {last} e h f =
    begun_then (bytes_of "block place bits\n") (pieces (line_at width output) (length output)) l e
    (subst (λ (k : ℕ). (r ≡ at + length (pieces (line_at width output) k)) × (last ≡ put_at at (pieces (line_at width output) k) now)) h f)
