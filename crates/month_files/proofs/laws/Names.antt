-- The name of a mix's file is ASCII text. Assumes nothing.
use Rattle.std.proofs.Common.{◌≡◌, ℕ, zero, suc, ◌+◌, ◌<◌, ◌/◌, ◌%◌, ltb, Bool, true, false, cond, List, [], ◌∷◌, ◌++◌, length, take, drop, IsUtf8, IsAscii, arith, refl, sym, ap, ◌∙◌, subst, le_refl, take_all}
use Rattle.std.proofs.lemmas.Str.{IsUtf8-from_ascii, IsAscii-append}
use Rattle.std.proofs.lemmas.Str.Ascii.{IsAscii-nil, IsAscii-cons}
use Rattle.std.proofs.lemmas.Bool.{ltb-true}
use lib.Seq.{take-append-le}
use Rattle.laws.specs.Pieces.{begun}
use Rattle.scene_tables.specs.Bytes.{bytes_of}
use Rattle.text_output.specs.Text.{decimal_within, steps64}
use Rattle.month_files.specs.Text.{name_of}

one : (b : ℕ) → b < 128 → IsAscii (b ∷ [])
one b h = IsAscii-cons b [] h IsAscii-nil

decimal_ascii : (steps n : ℕ) → IsAscii (decimal_within steps n)
unfolding decimal_within
decimal_ascii zero n = one (48 + n % 10) (omega arith)
decimal_ascii (suc steps) n = go (ltb n 10) refl (decimal_within steps (n / 10)) (decimal_ascii steps (n / 10))
  where
    go : (b : Bool) → ltb n 10 ≡ b → (l : List ℕ) → IsAscii l → IsAscii (cond b ((48 + n) ∷ []) (l ++ ((48 + n % 10) ∷ [])))
    go true e l h = one (48 + n) (omega (arith, ltb-true n 10 e))
    go false e l h = IsAscii-append l _ h (one (48 + n % 10) (omega arith))

mix_ascii : IsAscii (bytes_of "mix")
unfolding bytes_of
mix_ascii = IsAscii-cons 109 (105 ∷ 120 ∷ []) (omega arith) (IsAscii-cons 105 (120 ∷ []) (omega arith) (one 120 (omega arith)))

raw_ascii : IsAscii (bytes_of ".raw")
unfolding bytes_of
raw_ascii = IsAscii-cons 46 (114 ∷ 97 ∷ 119 ∷ []) (omega arith) (IsAscii-cons 114 (97 ∷ 119 ∷ []) (omega arith) (IsAscii-cons 97 (119 ∷ []) (omega arith) (one 119 (omega arith))))

name_ascii : (mix : ℕ) → IsAscii (name_of mix)
unfolding name_of
name_ascii mix = IsAscii-append _ _ mix_ascii (IsAscii-append _ _ (decimal_ascii steps64 mix) raw_ascii)

-- what a text begins with
front : (p l : List ℕ) → take (length p) (begun p l) ≡ p
unfolding begun
front p l = take-append-le (length p) p (drop (length p) l) (le_refl _) ∙ take_all (length p) p (le_refl _)

pub name_utf8 : (mix : ℕ) (l : List ℕ) {r : ℕ} {last : List ℕ} → (r ≡ length (name_of mix)) × (last ≡ begun (name_of mix) l) → IsUtf8 (take r last)
name_utf8 mix l {last = last} e =
    subst IsUtf8 (sym (ap (λ (k : ℕ). take k last) e.0 ∙ ap (take (length (name_of mix))) e.1 ∙ front (name_of mix) l)) (IsUtf8-from_ascii (name_of mix) (name_ascii mix))
