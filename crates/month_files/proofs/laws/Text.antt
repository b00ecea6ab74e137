-- The texts that are printed, as the code puts them one piece after another. Assumes nothing.
use mathlib.Core.Path.{◌≡◌, sym, ap, ◌∙◌, subst}
use mathlib.Core.Bool.{Bool, cond}
use mathlib.Core.List.{List, ◌++◌, append_assoc}
use Prim.Native.Nat.{ℕ, ◌+◌, ◌*◌, ◌≤◌}
use native.Mathlib.Omega.{arith}
use borrow.Author.Tests.{eq-eqb, ne_eqb}
use lib.ListN.{length, take, length-append}
use Rattle.laws.specs.Pieces.{begun, put_at}
use Rattle.scene_tables.specs.Bytes.{bytes_of}
use Rattle.text_output.specs.Text.{decimal_within, steps64, printed_refusal}
use Rattle.text_output.proofs.laws.Print.{put_then, put_start, number_length, begun_within}
use Rattle.month.specs.declared.totals.Totals.{Totals}
use Rattle.month_reader.specs.declared.reading.Reading.{Reading}
use Rattle.month_files.specs.Text.{number_then, three_numbers, printed_totals, printed_reading, number_bytes, name_of}

-- a piece stands from a place on, and the next place is behind it
abbrev pub Put : ℕ → List ℕ → List ℕ → ℕ → List ℕ → Type 0
Put at p l r now = (r ≡ at + length p) × (now ≡ put_at at p l)

-- the text begins with a piece
abbrev pub Begins : List ℕ → List ℕ → ℕ → List ℕ → Type 0
Begins p l r now = (r ≡ length p) × (now ≡ begun p l)

then : (at : ℕ) (p q l : List ℕ) {a r : ℕ} {now last : List ℕ} → at ≤ length l → Put at p l a now → Put a q now r last → Put at (p ++ q) l r last
then at p q l h e f = put_then at p q l h e.0 e.1 f.0 f.1

begins : (p l : List ℕ) {r : ℕ} {now : List ℕ} → Put 0 p l r now → Begins p l r now
begins p l e = (omega (arith, e.0), e.1 ∙ put_start p l)

-- ---- three numbers

pub three_put : (at a b c : ℕ) (l : List ℕ) {i j r : ℕ} {t u last : List ℕ} → at ≤ length l → Put at (number_then a 32) l i t → Put i (number_then b 32) t j u → Put j (number_then c 32) u r last
    → Put at (three_numbers a b c) l r last
unfolding three_numbers
three_put at a b c l {r = r} {last = last} h e f g =
    subst (λ (p : List ℕ). Put at p l r last) (append_assoc (number_then a 32) (number_then b 32) (number_then c 32))
    (then at (number_then a 32 ++ number_then b 32) (number_then c 32) l h (then at (number_then a 32) (number_then b 32) l h e f) g)

pub three_most : (a b c : ℕ) → length (three_numbers a b c) ≤ 3 * number_bytes
unfolding three_numbers
three_most a b c =
    omega
    (arith, length-append (number_then a 32) (number_then b 32 ++ number_then c 32), length-append (number_then b 32) (number_then c 32), number_length steps64 a 32, number_length steps64 b 32, number_length steps64 c 32)

-- ---- the totals

module _ (t : Totals) where
  abbrev names : List ℕ
  names = bytes_of "mixes frames full peak mix sample squares\n"

  abbrev counts : List ℕ
  counts = three_numbers t.mixes t.frames t.full

  abbrev place : List ℕ
  place = three_numbers t.peak.bits t.peak.mix t.peak.sample

  pub totals_put : (l : List ℕ) {i j k r : ℕ} {u v w last : List ℕ} → Put 0 names l i u → Put i counts u j v → Put j place v k w → Put k (number_then t.squares 10) w r last
      → Begins (printed_totals t) l r last
  unfolding printed_totals
  totals_put l {r = r} {last = last} e f g h =
      begins (names ++ (counts ++ (place ++ number_then t.squares 10))) l
      (subst (λ (p : List ℕ). Put 0 p l r last)
      (append_assoc (names ++ counts) place (number_then t.squares 10) ∙ append_assoc names counts (place ++ number_then t.squares 10))
      (then 0 ((names ++ counts) ++ place) (number_then t.squares 10) l (omega arith) (then 0 (names ++ counts) place l (omega arith) (then 0 names counts l (omega arith) e f) g) h))

-- ---- what is kept

pub reading_refused : (x : Reading) → (x.number ≡ 0 → ⊥) → printed_refusal x.number ≡ printed_reading x
unfolding printed_reading
reading_refused x h = sym (ap (λ (b : Bool). cond b (printed_totals x.totals) (printed_refusal x.number)) (ne_eqb x.number 0 h))

pub reading_printed : (x : Reading) → x.number ≡ 0 → printed_totals x.totals ≡ printed_reading x
unfolding printed_reading
reading_printed x h = sym (ap (λ (b : Bool). cond b (printed_totals x.totals) (printed_refusal x.number)) (eq-eqb x.number 0 h))

-- ---- a file's name

pub name_put : (mix : ℕ) (l : List ℕ) {i j r : ℕ} {t u last : List ℕ} → Put 0 (bytes_of "mix") l i t → Put i (decimal_within steps64 mix) t j u → Put j (bytes_of ".raw") u r last
    → Begins (name_of mix) l r last × ((r ≤ length last) × (r ≡ length (take r last)))
unfolding name_of
name_put mix l {r = r} {last = last} e f g =
    let p = bytes_of "mix" in
    let d = decimal_within steps64 mix in
    let q = bytes_of ".raw" in
    let b = begins (p ++ (d ++ q)) l (subst (λ (x : List ℕ). Put 0 x l r last) (append_assoc p d q) (then 0 (p ++ d) q l (omega arith) (then 0 p d l (omega arith) e f) g)) in
    (b, begun_within (p ++ (d ++ q)) l b)
