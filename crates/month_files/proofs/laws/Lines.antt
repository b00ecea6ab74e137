-- Lines byte by byte, and lines of one digit two bytes at a time. Assumes nothing.
use mathlib.Core.Path.{◌≡◌, refl, sym, ap, ◌∙◌}
use mathlib.Core.Bool.{Bool, true, false, not, ◌&&◌, true≢false}
use mathlib.Core.List.{List, [], ◌∷◌}
use Prim.Native.Nat.{ℕ, zero, suc, ◌+◌, ◌-◌, ◌*◌, ◌≤◌, ◌<◌}
use native.Mathlib.Numerals.{add-one}
use native.Mathlib.Omega.{arith}
use native.Mathlib.Decide.{dec_le}
use borrow.Author.Tests.{leb-true, ne_eqb, le-leb, lt-leb, lt-ltb, le-ltb}
use lib.Dec.{eqb, leb, ltb}
use lib.ListN.{length, take, drop, get_or, drop_of_length-le}
use lib.Seq.{drop-cons, take_all}
use Rattle.month.specs.Month.{most_mixes}
use Rattle.laws.proofs.laws.Choice.{and_left, and_right}
use Rattle.month_files.specs.declared.lines.Lines.{Lines}
use Rattle.month_files.specs.Lines.{line_byte, lines_from, formed, channels_of}

next : (l : List ℕ) (i : ℕ) → i < length l → drop i l ≡ get_or l i 0 ∷ drop (i + 1) l
next l i h = drop-cons l i 0 h ∙ ap (λ (n : ℕ). get_or l i 0 ∷ drop n l) (sym (add-one i))

-- ---- the lines of some bytes

pub lines_next : (l : Lines) (bytes : List ℕ) (i : ℕ) {now start : Lines} → i < length bytes → now ≡ line_byte l (get_or bytes i 0) → lines_from l (drop i bytes) ≡ start → lines_from now (drop (i + 1) bytes) ≡ start
unfolding lines_from
lines_next l bytes i h e f = ap (λ (x : Lines). lines_from x (drop (i + 1) bytes)) e ∙ sym (ap (lines_from l) (next bytes i h)) ∙ f

pub lines_end : (l : Lines) (bytes : List ℕ) (i : ℕ) {start : Lines} → length bytes ≤ i → lines_from l (drop i bytes) ≡ start → l ≡ start
unfolding lines_from
lines_end l bytes i h e = sym (ap (lines_from l) (drop_of_length-le bytes {i = i} h)) ∙ e

-- ---- lines of one digit

both : (a b c r : Bool) → a && (b && c) ≡ true → a && (b && (c && r)) ≡ r
both true true true r e = refl
both true true false r e = absurd (true≢false (sym e))
both true false c r e = absurd (true≢false (sym e))
both false b c r e = absurd (true≢false (sym e))

neither : (a b c r : Bool) → a && (b && c) ≡ false → a && (b && (c && r)) ≡ false
neither true true true r e = absurd (true≢false e)
neither true true false r e = refl
neither true false c r e = refl
neither false b c r e = refl

-- one line more
pub formed_next : (l : List ℕ) {b : Bool} → 2 ≤ length l → b ≡ (leb 49 (get_or l 0 0) && (leb (get_or l 0 0) 56 && eqb (get_or l 1 0) 10)) → b ≡ true → formed (take (length l - 2) (drop 2 l)) ≡ formed l
unfolding formed
formed_next [] h e t = absurd (omega arith)
formed_next (d ∷ []) h e t = absurd (omega arith)
formed_next (d ∷ (f ∷ rest)) h e t = ap formed (take_all (length (d ∷ (f ∷ rest)) - 2) rest (omega arith)) ∙ sym (both (leb 49 d) (leb d 56) (eqb f 10) (formed rest) (sym e ∙ t))

pub formed_stops : (l : List ℕ) {b : Bool} → 2 ≤ length l → b ≡ (leb 49 (get_or l 0 0) && (leb (get_or l 0 0) 56 && eqb (get_or l 1 0) 10)) → b ≡ false → false ≡ formed l
unfolding formed
formed_stops [] h e t = absurd (omega arith)
formed_stops (d ∷ []) h e t = absurd (omega arith)
formed_stops (d ∷ (f ∷ rest)) h e t = sym (neither (leb 49 d) (leb d 56) (eqb f 10) (formed rest) (sym e ∙ t))

pub formed_end : (l : List ℕ) {b : Bool} → length l < 2 → b ≡ eqb (length l) 0 → b ≡ formed l
unfolding formed
formed_end [] h e = e
formed_end (d ∷ []) h e = e ∙ ne_eqb (length (d ∷ [])) 0 (λ z. omega arith)
formed_end (d ∷ (f ∷ rest)) h e = absurd (omega arith)

-- ---- what they say

pub record Channels (text : List ℕ) (i : ℕ) : Type 0 where
  pub least : 49 ≤ get_or text (2 * i) 0
  pub most : get_or text (2 * i) 0 ≤ 56
  pub is : get_or text (2 * i) 0 - 48 ≡ get_or (channels_of text) i 0

pub channels_at : (text : List ℕ) (i : ℕ) → formed text ≡ true → 2 * i + 1 < length text → Channels text i
unfolding formed channels_of
channels_at [] i e h = absurd (omega arith)
channels_at (d ∷ []) i e h = absurd (omega arith)
channels_at (d ∷ (f ∷ rest)) zero e h =
    let t = leb d 56 && (eqb f 10 && formed rest) in
    record { least = leb-true 49 d (and_left (leb 49 d) t e); most = leb-true d 56 (and_left (leb d 56) (eqb f 10 && formed rest) (and_right (leb 49 d) t e)); is = refl }
channels_at (d ∷ (f ∷ rest)) (suc i) e h =
    let t = leb d 56 && (eqb f 10 && formed rest) in
    let r = channels_at rest i (and_right (eqb f 10) (formed rest) (and_right (leb d 56) (eqb f 10 && formed rest) (and_right (leb 49 d) t e))) (omega arith) in
    let g : get_or (d ∷ (f ∷ rest)) (2 * suc i) 0 ≡ get_or rest (2 * i) 0 = ap (λ (n : ℕ). get_or (d ∷ (f ∷ rest)) n 0) (twice i) in
    record { least = omega (arith, g, r.least); most = omega (arith, g, r.most); is = ap (λ (n : ℕ). n - 48) g ∙ r.is }
  where
    twice : (i : ℕ) → 2 * suc i ≡ suc (suc (2 * i))
    twice i = omega arith

-- ---- tests as the code makes them

pub pending_test : (n : ℕ) → leb most_mixes n ≡ not (leb (n + 1) most_mixes)
pending_test n = elim (dec_le most_mixes n) [
  | yes h ↦ le-leb most_mixes n h ∙ sym (ap not (lt-leb (n + 1) most_mixes (omega arith)))
  | no h ↦ lt-leb most_mixes n (omega arith) ∙ sym (ap not (le-leb (n + 1) most_mixes (omega arith)))
]

pub ended_test : (n : ℕ) → ltb most_mixes n ≡ not (leb (n + 0) most_mixes)
ended_test n = elim (dec_le n most_mixes) [
  | yes h ↦ le-ltb most_mixes n h ∙ sym (ap not (le-leb (n + 0) most_mixes (omega arith)))
  | no h ↦ lt-ltb most_mixes n (omega arith) ∙ sym (ap not (lt-leb (n + 0) most_mixes (omega arith)))
]
