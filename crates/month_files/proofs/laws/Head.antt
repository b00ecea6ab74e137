-- The first bytes of standard input are enough for its form. Assumes nothing.
use mathlib.Core.Path.{◌≡◌, refl, sym, ap, ◌∙◌}
use mathlib.Core.Bool.{Bool, true, false, cond, ◌&&◌, true≢false}
use mathlib.Core.List.{List, [], ◌∷◌}
use Prim.Native.Nat.{ℕ, ◌+◌, ◌*◌, ◌%◌, ◌≤◌, ◌<◌, min}
use native.Mathlib.Decide.{dec_le}
use native.Mathlib.Omega.{arith}
use borrow.Author.Tests.{leb-true, eqb-true, eq-eqb, ne_eqb}
use lib.Dec.{eqb, leb}
use lib.ListN.{length, take}
use lib.Seq.{length-take-le, take_all}
use Rattle.month.specs.Month.{most_mixes}
use Rattle.laws.proofs.laws.Choice.{and_left, and_right}
use Rattle.month_files.specs.declared.lines.Lines.{Lines}
use Rattle.month_files.specs.Lines.{no_lines, line_byte, lines_from, line_count, formed, lines_number, head_bytes, input_number}

-- ---- a text of lines of one digit has two bytes for each

formed_even : (text : List ℕ) → formed text ≡ true → length text % 2 ≡ 0
unfolding formed
formed_even [] e = refl
formed_even (d ∷ []) e = absurd (true≢false (sym e))
formed_even (d ∷ (f ∷ rest)) e =
    let t = leb d 56 && (eqb f 10 && formed rest) in
    omega (arith, formed_even rest (and_right (eqb f 10) (formed rest) (and_right (leb d 56) (eqb f 10 && formed rest) (and_right (leb 49 d) t e))))

digit_byte : (l : Lines) (d : ℕ) → d ≤ 56 → 49 ≤ d → line_byte l d ≡ record { feeds = l.feeds; pending = true }
unfolding line_byte
digit_byte l d h k = ap (λ (b : Bool). cond b (record { feeds = min (l.feeds + 1) (most_mixes + 1); pending = false }) (record { feeds = l.feeds; pending = true })) (ne_eqb d 10 (λ e. omega arith))

feed_byte : (l : Lines) (f : ℕ) → f ≡ 10 → line_byte l f ≡ record { feeds = min (l.feeds + 1) (most_mixes + 1); pending = false }
unfolding line_byte
feed_byte l f e = ap (λ (b : Bool). cond b (record { feeds = min (l.feeds + 1) (most_mixes + 1); pending = false }) (record { feeds = l.feeds; pending = true })) (eq-eqb f 10 e)

-- the line feeds counted, up to 1,001
formed-feeds : (text : List ℕ) (n : ℕ) → n ≤ most_mixes + 1 → formed text ≡ true
    → ((lines_from (record { feeds = n; pending = false }) text).feeds * 2 ≡ min (n * 2 + length text) ((most_mixes + 1) * 2))
unfolding formed lines_from
formed-feeds [] n h e = omega arith
formed-feeds (d ∷ []) n h e = absurd (true≢false (sym e))
formed-feeds (d ∷ (f ∷ rest)) n h e =
    let a = leb 49 d in
    let b = leb d 56 in
    let c = eqb f 10 in
    let t = and_right a (b && (c && formed rest)) e in
    let u = and_right b (c && formed rest) t in
    let first = digit_byte (record { feeds = n; pending = false }) d (leb-true d 56 (and_left b (c && formed rest) t)) (leb-true 49 d (and_left a (b && (c && formed rest)) e)) in
    let both = ap (λ (l : Lines). line_byte l f) first ∙ feed_byte (record { feeds = n; pending = true }) f (eqb-true f 10 (and_left c (formed rest) u)) in
    ap (λ (l : Lines). (lines_from l rest).feeds * 2) both
    ∙ formed-feeds rest (min (n + 1) (most_mixes + 1)) (omega arith) (and_right c (formed rest) u)
    ∙ omega arith

formed_short : (text : List ℕ) → formed text ≡ true → line_count (lines_from no_lines text) ≤ most_mixes → length text < head_bytes
unfolding line_count
formed_short text e h = omega (arith, formed-feeds text 0 (omega arith) e)

-- ---- the first bytes

pub first_lines : (input : List ℕ) → lines_number (lines_from no_lines input) (take head_bytes input) ≡ input_number input
unfolding lines_number
first_lines input = elim (dec_le (length input) head_bytes) [
  | yes h ↦ ap (λ (t : List ℕ). cond (leb (line_count (lines_from no_lines input)) most_mixes) (cond (formed t) 0 26) 24) (take_all head_bytes input h)
  | no h ↦ go (leb (line_count (lines_from no_lines input)) most_mixes) refl (formed (take head_bytes input)) (formed input) refl refl h
]
  where
    go : (a : Bool) → leb (line_count (lines_from no_lines input)) most_mixes ≡ a → (b c : Bool) → formed (take head_bytes input) ≡ b → formed input ≡ c → (length input ≤ head_bytes → ⊥)
        → ◌≡◌ {A = ℕ} (cond a (cond b 0 26) 24) (cond a (cond c 0 26) 24)
    go false e b c f g h = refl
    go true e false false f g h = refl
    go true e true c f g h = absurd (omega (arith, formed_even (take head_bytes input) f, length-take-le head_bytes input (omega arith)))
    go true e false true f g h = absurd (h (omega (arith, formed_short input g (leb-true (line_count (lines_from no_lines input)) most_mixes e))))

-- lines that are not refused are no longer than that
pub all_first : (input : List ℕ) → input_number input ≡ 0 → take head_bytes input ≡ input
unfolding lines_number
all_first input e = go (leb (line_count (lines_from no_lines input)) most_mixes) (formed input) refl refl e
  where
    go : (a b : Bool) → leb (line_count (lines_from no_lines input)) most_mixes ≡ a → formed input ≡ b → ◌≡◌ {A = ℕ} (cond a (cond b 0 26) 24) 0 → take head_bytes input ≡ input
    go false b f g k = absurd (omega (arith, k))
    go true false f g k = absurd (omega (arith, k))
    go true true f g k = take_all head_bytes input (omega (arith, formed_short input g (leb-true (line_count (lines_from no_lines input)) most_mixes f)))
