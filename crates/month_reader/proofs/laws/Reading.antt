-- What is kept, by the questions that are passed so far, and how a piece or the end of a mix changes it. Assumes nothing.
use mathlib.Core.Path.{◌≡◌, refl, sym, ap, ap₂, ◌∙◌}
use mathlib.Core.Bool.{Bool, true, false, ◌&&◌}
use mathlib.Core.List.{List, [], ◌∷◌, ◌++◌, append_assoc, append-nil}
use Prim.Native.Nat.{ℕ, suc, ◌+◌, ◌/◌, ◌%◌, ◌^◌, ◌≤◌, ◌<◌}
use native.Mathlib.Omega.{arith}
use borrow.Author.Tests.{leb-true, leb-false, le-leb, lt-leb, eq-eqb, ne_eqb}
use lib.Dec.{eqb, leb}
use lib.ListN.{length, length-append}
use Rattle.month.specs.declared.totals.Totals.{Totals}
use Rattle.month.specs.Month.{one_bits, all_in, Mix, samples_of, totals, Short, most_mixes, most_samples}
use Rattle.month.specs.Piece.{words_of, largest, no_totals, with_samples, with_mix, Room}
use Rattle.laws.proofs.laws.Choice.{and_left, and_right, and_true, and_false}
use Rattle.month.proofs.laws.Words.{and_assoc, in_append, words_count}
use Rattle.month.proofs.laws.Peaks.{in_by_largest}
use Rattle.month.proofs.laws.Totals.{nothing_more, samples_append, full_most, squares_most, count_most, frames_most, totals_next, samples_of_append, totals_none}
use Rattle.month_reader.specs.declared.reading.Reading.{Reading}
use Rattle.month_reader.specs.Reading.{MixFile, mix_ok, mixes_ok, mixes_of, kept, reading_of, ReadingReached}

zero_plus : (n : ℕ) → n ≡ 0 + n
zero_plus n = omega arith

-- ---- the three cases

abbrev pub refused_by : ℕ → ℕ → Reading
refused_by number samples = record { number = number; totals = no_totals; samples = samples }

module _ (done : List MixFile) (ws : List ℕ) where
  abbrev pub ok_of : Bool
  ok_of = mixes_ok done && leb (length ws) most_samples

  abbrev pub in_of : Bool
  in_of = all_in (samples_of (mixes_of done) ++ ws)

  pub reading_broken : ok_of ≡ false → reading_of done ws ≡ refused_by 26 0
  unfolding reading_of kept
  reading_broken e = rw e

  pub reading_out : ok_of ≡ true → in_of ≡ false → reading_of done ws ≡ refused_by 25 (length ws)
  unfolding reading_of kept
  reading_out e f = rw (e, f)

  pub reading_good : ok_of ≡ true → in_of ≡ true → reading_of done ws ≡ record { number = 0; totals = with_samples (totals (mixes_of done)) 0 ws; samples = length ws }
  unfolding reading_of kept
  reading_good e f = rw (e, f)

pub data View (done : List MixFile) (ws : List ℕ) : Type 0 where
  broken : ok_of done ws ≡ false → View done ws
  out : ok_of done ws ≡ true → in_of done ws ≡ false → View done ws
  good : ok_of done ws ≡ true → in_of done ws ≡ true → View done ws

view : (done : List MixFile) (ws : List ℕ) → View done ws
view done ws = go (ok_of done ws) (in_of done ws) refl refl
  where
    go : (a b : Bool) → ok_of done ws ≡ a → in_of done ws ≡ b → View done ws
    go false b e f = broken e
    go true false e f = out e f
    go true true e f = good e f

number_of : {r s : Reading} → r ≡ s → r.number ≡ s.number
number_of e = ap (λ (x : Reading). x.number) e

samples_of_lem : {r s : Reading} → r ≡ s → r.samples ≡ s.samples
samples_of_lem e = ap (λ (x : Reading). x.samples) e

totals_of : {r s : Reading} → r ≡ s → r.totals ≡ s.totals
totals_of e = ap (λ (x : Reading). x.totals) e

same_reading : {a b : Totals} {m n : ℕ} → a ≡ b → m ≡ n → ◌≡◌ {A = Reading} (record { number = 0; totals = a; samples = m }) (record { number = 0; totals = b; samples = n })
same_reading p q = cc

-- ---- what is kept, by its number

module _ (done : List MixFile) (ws : List ℕ) (r : Reading) (e : r ≡ reading_of done ws) where
  pub is_broken : r.number ≡ 26 → ok_of done ws ≡ false
  is_broken h = go (view done ws)
    where
      go : View done ws → ok_of done ws ≡ false
      go (broken a) = a
      go (out a b) = absurd (omega (arith, h, number_of (e ∙ reading_out done ws a b)))
      go (good a b) = absurd (omega (arith, h, number_of (e ∙ reading_good done ws a b)))

  pub is_ok : (r.number ≡ 26 → ⊥) → ok_of done ws ≡ true
  is_ok h = go (view done ws)
    where
      go : View done ws → ok_of done ws ≡ true
      go (broken a) = absurd (h (number_of (e ∙ reading_broken done ws a)))
      go (out a b) = a
      go (good a b) = a

  pub is_out : (r.number ≡ 26 → ⊥) → (r.number ≡ 0 → ⊥) → in_of done ws ≡ false
  is_out h k = go (view done ws)
    where
      go : View done ws → in_of done ws ≡ false
      go (broken a) = absurd (h (number_of (e ∙ reading_broken done ws a)))
      go (out a b) = b
      go (good a b) = absurd (k (number_of (e ∙ reading_good done ws a b)))

  pub record Good : Type 0 where
    pub ok : ok_of done ws ≡ true
    pub in_range : in_of done ws ≡ true
    pub totals_is : r.totals ≡ with_samples (totals (mixes_of done)) 0 ws
    pub samples_is : r.samples ≡ length ws

  pub is_good : r.number ≡ 0 → Good
  is_good h = go (view done ws)
    where
      go : View done ws → Good
      go (broken a) = absurd (omega (arith, h, number_of (e ∙ reading_broken done ws a)))
      go (out a b) = absurd (omega (arith, h, number_of (e ∙ reading_out done ws a b)))
      go (good a b) = record { ok = a; in_range = b; totals_is = totals_of (e ∙ reading_good done ws a b); samples_is = samples_of_lem (e ∙ reading_good done ws a b) }

  pub samples_counted : (r.number ≡ 26 → ⊥) → r.samples ≡ length ws
  samples_counted h = go (view done ws)
    where
      go : View done ws → r.samples ≡ length ws
      go (broken a) = absurd (h (number_of (e ∙ reading_broken done ws a)))
      go (out a b) = samples_of_lem (e ∙ reading_out done ws a b)
      go (good a b) = samples_of_lem (e ∙ reading_good done ws a b)

  pub few_samples : r.samples ≤ most_samples
  few_samples = go (view done ws)
    where
      short : ok_of done ws ≡ true → length ws ≤ most_samples
      short a = leb-true (length ws) most_samples (and_right (mixes_ok done) (leb (length ws) most_samples) a)

      go : View done ws → r.samples ≤ most_samples
      go (broken a) = omega (arith, samples_of_lem (e ∙ reading_broken done ws a))
      go (out a b) = omega (arith, short a, samples_of_lem (e ∙ reading_out done ws a b))
      go (good a b) = omega (arith, short a, samples_of_lem (e ∙ reading_good done ws a b))

-- ---- a piece more

module _ (done : List MixFile) (ws v : List ℕ) where
  ok_stays_false : ok_of done ws ≡ false → ok_of done (ws ++ v) ≡ false
  ok_stays_false h = go (mixes_ok done) h
    where
      go : (b : Bool) → b && leb (length ws) most_samples ≡ false → b && leb (length (ws ++ v)) most_samples ≡ false
      go false k = refl
      go true k = lt-leb (length (ws ++ v)) most_samples (omega (arith, leb-false (length ws) most_samples k, length-append ws v))

  ok_long : most_samples < length ws + length v → ok_of done (ws ++ v) ≡ false
  ok_long h = ap (λ (b : Bool). mixes_ok done && b) (lt-leb (length (ws ++ v)) most_samples (omega (arith, length-append ws v))) ∙ and_false (mixes_ok done)

  ok_short : ok_of done ws ≡ true → length ws + length v ≤ most_samples → ok_of done (ws ++ v) ≡ true
  ok_short h k = ap₂ ◌&&◌ (and_left (mixes_ok done) (leb (length ws) most_samples) h) (le-leb (length (ws ++ v)) most_samples (omega (arith, length-append ws v)))

  in_later : in_of done (ws ++ v) ≡ in_of done ws && all_in v
  in_later = ap all_in (sym (append_assoc (samples_of (mixes_of done)) ws v)) ∙ in_append (samples_of (mixes_of done) ++ ws) v

  module _ (r : Reading) (e : r ≡ reading_of done ws) where
    pub words_none : length v ≡ 0 → r ≡ reading_of done (ws ++ v)
    words_none h = e ∙ ap (reading_of done) (sym (append-nil ws) ∙ ap (λ (l : List ℕ). ws ++ l) (sym (empty v h)))
      where
        empty : (l : List ℕ) → length l ≡ 0 → l ≡ []
        empty [] h = refl
        empty (x ∷ l) h = absurd (omega arith)

    pub words_broken : r.number ≡ 26 → r ≡ reading_of done (ws ++ v)
    words_broken h =
        let a = is_broken done ws r e h in
        e ∙ reading_broken done ws a ∙ sym (reading_broken done (ws ++ v) (ok_stays_false a))

    pub words_long : (r.number ≡ 26 → ⊥) → most_samples < r.samples + length v → refused_by 26 0 ≡ reading_of done (ws ++ v)
    words_long h k = sym (reading_broken done (ws ++ v) (ok_long (omega (arith, samples_counted done ws r e h))))

    module _ (h : r.number ≡ 26 → ⊥) (k : r.samples + length v ≤ most_samples) where
      later_ok : ok_of done (ws ++ v) ≡ true
      later_ok = ok_short (is_ok done ws r e h) (omega (arith, samples_counted done ws r e h))

      later_count : length (ws ++ v) ≡ r.samples + length v
      later_count = omega (arith, length-append ws v, samples_counted done ws r e h)

      pub words_out : (r.number ≡ 0 → ⊥) → refused_by 25 (r.samples + length v) ≡ reading_of done (ws ++ v)
      words_out l =
          ap (refused_by 25) (sym later_count)
          ∙ sym (reading_out done (ws ++ v) later_ok (in_later ∙ ap (λ (b : Bool). b && all_in v) (is_out done ws r e h l)))

      pub words_go_out : one_bits < largest v → refused_by 25 (r.samples + length v) ≡ reading_of done (ws ++ v)
      words_go_out l =
          ap (refused_by 25) (sym later_count)
          ∙ sym (reading_out done (ws ++ v) later_ok (in_later ∙ ap (λ (b : Bool). in_of done ws && b) (in_by_largest v ∙ lt-leb (largest v) one_bits l) ∙ and_false (in_of done ws)))

      pub words_good : r.number ≡ 0 → largest v ≤ one_bits → {t : Totals} → t ≡ with_samples r.totals r.samples v
          → ◌≡◌ {A = Reading} (record { number = 0; totals = t; samples = r.samples + length v }) (reading_of done (ws ++ v))
      words_good l m {t} f =
          let g = is_good done ws r e l in
          let i = in_later ∙ ap (λ (b : Bool). b && all_in v) g.in_range ∙ in_by_largest v ∙ le-leb (largest v) one_bits m in
          same_reading
          (f ∙ ap₂ (λ (u : Totals) (n : ℕ). with_samples u n v) g.totals_is (g.samples_is ∙ zero_plus (length ws)) ∙ samples_append (totals (mixes_of done)) 0 ws v)
          (sym later_count)
          ∙ sym (reading_good done (ws ++ v) later_ok i)

-- ---- the end of a mix

ok_append : (done more : List MixFile) → mixes_ok (done ++ more) ≡ mixes_ok done && mixes_ok more
unfolding mixes_ok
ok_append [] more = refl
ok_append (d ∷ done) more = ap (λ (b : Bool). mix_ok d && b) (ok_append done more) ∙ and_assoc (mix_ok d) (mixes_ok done) (mixes_ok more)

ok_snoc : (done : List MixFile) (m : MixFile) → mixes_ok (done ++ (m ∷ [])) ≡ mixes_ok done && mix_ok m
unfolding mixes_ok
ok_snoc done m = ok_append done (m ∷ []) ∙ ap (λ (b : Bool). mixes_ok done && b) (and_true (mix_ok m))

ok_fails : (m : MixFile) (more : List MixFile) → mix_ok m ≡ false → mixes_ok (m ∷ more) ≡ false
unfolding mixes_ok
ok_fails m more e = ap (λ (b : Bool). b && mixes_ok more) e

mixes_snoc : (done : List MixFile) (m : MixFile) → mixes_of (done ++ (m ∷ [])) ≡ mixes_of done ++ (record { channels = m.channels; samples = words_of m.bytes } ∷ [])
unfolding mixes_of
mixes_snoc [] m = refl
mixes_snoc (d ∷ done) m = ap (λ (l : List Mix). record { channels = d.channels; samples = words_of d.bytes } ∷ l) (mixes_snoc done m)

samples_single : (m : Mix) → samples_of (m ∷ []) ≡ m.samples
unfolding samples_of
samples_single m = append-nil m.samples

-- a test among three
first_fails : (a b c : Bool) → a ≡ false → a && (b && c) ≡ false
first_fails a b c e = ap (λ (t : Bool). t && (b && c)) e

second_fails : (a b c : Bool) → b ≡ false → a && (b && c) ≡ false
second_fails a b c e = ap (λ (t : Bool). a && (t && c)) e ∙ and_false a

third_fails : (a b c : Bool) → c ≡ false → a && (b && c) ≡ false
third_fails a b c e = ap (λ (t : Bool). a && (b && t)) e ∙ ap (λ (t : Bool). a && t) (and_false b) ∙ and_false a

module _ (done : List MixFile) (channels : ℕ) (bytes : List ℕ) where
  abbrev pub file : MixFile
  file = record { channels = channels; bytes = bytes }

  ok_end : ok_of (done ++ (file ∷ [])) [] ≡ mixes_ok done && mix_ok file
  ok_end = ap₂ ◌&&◌ (ok_snoc done file) (le-leb 0 most_samples (omega arith)) ∙ and_true (mixes_ok done && mix_ok file)

  in_end : in_of (done ++ (file ∷ [])) [] ≡ in_of done (words_of bytes)
  in_end =
      ap all_in
      (append-nil (samples_of (mixes_of (done ++ (file ∷ []))))
      ∙ ap samples_of (mixes_snoc done file)
      ∙ samples_of_append (mixes_of done) (record { channels = channels; samples = words_of bytes } ∷ [])
      ∙ ap (λ (l : List ℕ). samples_of (mixes_of done) ++ l) (samples_single (record { channels = channels; samples = words_of bytes })))

  -- a mix that fails question 26
  end_fails : mix_ok file ≡ false → refused_by 26 0 ≡ reading_of (done ++ (file ∷ [])) []
  end_fails h = sym (reading_broken (done ++ (file ∷ [])) [] (ok_end ∙ ap (λ (b : Bool). mixes_ok done && b) h ∙ and_false (mixes_ok done)))

  pub end_cut : (length bytes % 4 ≡ 0 → ⊥) → refused_by 26 0 ≡ reading_of (done ++ (file ∷ [])) []
  unfolding mix_ok
  end_cut h = end_fails (second_fails (leb (length bytes / 4) most_samples) (eqb (length bytes % 4) 0) (eqb (length bytes / 4 % channels) 0) (ne_eqb (length bytes % 4) 0 h))

  end_long : most_samples < length bytes / 4 → mix_ok file ≡ false
  unfolding mix_ok
  end_long h = first_fails (leb (length bytes / 4) most_samples) (eqb (length bytes % 4) 0) (eqb (length bytes / 4 % channels) 0) (lt-leb (length bytes / 4) most_samples h)

  end_broken : ok_of done (words_of bytes) ≡ false → refused_by 26 0 ≡ reading_of (done ++ (file ∷ [])) []
  end_broken h = go (mixes_ok done) refl
    where
      go : (b : Bool) → mixes_ok done ≡ b → refused_by 26 0 ≡ reading_of (done ++ (file ∷ [])) []
      go false k = sym (reading_broken (done ++ (file ∷ [])) [] (ok_end ∙ ap (λ (b : Bool). b && mix_ok file) k))
      go true k =
          end_fails (end_long (omega (arith, words_count bytes, leb-false (length (words_of bytes)) most_samples (ap (λ (b : Bool). b && leb (length (words_of bytes)) most_samples) (sym k) ∙ h))))

  module _ (r : Reading) (e : r ≡ reading_of done (words_of bytes)) where
    pub end_frames : (r.samples % channels ≡ 0 → ⊥) → refused_by 26 0 ≡ reading_of (done ++ (file ∷ [])) []
    unfolding mix_ok
    end_frames h = go (view done (words_of bytes))
      where
        fails : r.samples ≡ length (words_of bytes) → refused_by 26 0 ≡ reading_of (done ++ (file ∷ [])) []
        fails k =
            end_fails
            (third_fails (leb (length bytes / 4) most_samples) (eqb (length bytes % 4) 0) (eqb (length bytes / 4 % channels) 0)
            (ne_eqb (length bytes / 4 % channels) 0 (λ z. h (ap (λ (n : ℕ). n % channels) (k ∙ words_count bytes) ∙ z))))

        go : View done (words_of bytes) → refused_by 26 0 ≡ reading_of (done ++ (file ∷ [])) []
        go (broken a) = end_broken a
        go (out a b) = fails (samples_of_lem (e ∙ reading_out done (words_of bytes) a b))
        go (good a b) = fails (samples_of_lem (e ∙ reading_good done (words_of bytes) a b))

    module _ (w : length bytes % 4 ≡ 0) (f : r.samples % channels ≡ 0) where
      mix_passes : ok_of done (words_of bytes) ≡ true → r.samples ≡ length (words_of bytes) → ok_of (done ++ (file ∷ [])) [] ≡ true
      unfolding mix_ok
      mix_passes a k =
          let s = leb-true (length (words_of bytes)) most_samples (and_right (mixes_ok done) (leb (length (words_of bytes)) most_samples) a) in
          ok_end
          ∙ ap₂ ◌&&◌ (and_left (mixes_ok done) (leb (length (words_of bytes)) most_samples) a)
          (ap₂ ◌&&◌ (le-leb (length bytes / 4) most_samples (omega (arith, s, words_count bytes)))
          (ap₂ ◌&&◌ (eq-eqb (length bytes % 4) 0 w) (eq-eqb (length bytes / 4 % channels) 0 (ap (λ (n : ℕ). n % channels) (sym (k ∙ words_count bytes)) ∙ f))))

      pub end_number : (r.number ≡ 0 → ⊥) → refused_by r.number 0 ≡ reading_of (done ++ (file ∷ [])) []
      end_number h = go (view done (words_of bytes))
        where
          go : View done (words_of bytes) → refused_by r.number 0 ≡ reading_of (done ++ (file ∷ [])) []
          go (broken a) = ap (λ (n : ℕ). refused_by n 0) (number_of (e ∙ reading_broken done (words_of bytes) a)) ∙ end_broken a
          go (out a b) =
              let d = e ∙ reading_out done (words_of bytes) a b in
              ap (λ (n : ℕ). refused_by n 0) (number_of d) ∙ sym (reading_out (done ++ (file ∷ [])) [] (mix_passes a (samples_of_lem d)) (in_end ∙ b))
          go (good a b) = absurd (h (number_of (e ∙ reading_good done (words_of bytes) a b)))

      pub end_good : r.number ≡ 0 → {t : Totals} → t ≡ with_mix r.totals r.samples channels → ◌≡◌ {A = Reading} (record { number = 0; totals = t; samples = 0 }) (reading_of (done ++ (file ∷ [])) [])
      end_good h {t} k =
          let g = is_good done (words_of bytes) r e h in
          same_reading
          (k
          ∙ ap₂ (λ (u : Totals) (n : ℕ). with_mix u n channels) g.totals_is g.samples_is
          ∙ sym (totals_next (mixes_of done) (record { channels = channels; samples = words_of bytes }))
          ∙ ap totals (sym (mixes_snoc done file))
          ∙ nothing_more (mixes_of (done ++ (file ∷ []))))
          refl
          ∙ sym (reading_good (done ++ (file ∷ [])) [] (mix_passes g.ok g.samples_is) (in_end ∙ g.in_range))

-- where 26 is kept after some bytes of a mix, 26 it is, whatever the rest of that mix is and whatever mixes come behind it
pub broken_stays : (done more : List MixFile) (channels : ℕ) (bytes rest : List ℕ) → (reading_of done (words_of bytes)).number ≡ 26
    → (reading_of (done ++ (record { channels = channels; bytes = bytes ++ rest } ∷ more)) []).number ≡ 26
broken_stays done more channels bytes rest h =
    number_of (reading_broken (done ++ (file done channels (bytes ++ rest) ∷ more)) [] (ap (λ (b : Bool). b && leb 0 most_samples) (go (mixes_ok done) refl)))
  where
    long : mixes_ok done ≡ true → most_samples < length (bytes ++ rest) / 4
    long k =
        let f = ap (λ (b : Bool). b && leb (length (words_of bytes)) most_samples) (sym k) ∙ is_broken done (words_of bytes) (reading_of done (words_of bytes)) refl h in
        omega (arith, words_count bytes, leb-false (length (words_of bytes)) most_samples f, length-append bytes rest)

    go : (b : Bool) → mixes_ok done ≡ b → mixes_ok (done ++ (file done channels (bytes ++ rest) ∷ more)) ≡ false
    go false k = ok_append done (file done channels (bytes ++ rest) ∷ more) ∙ ap (λ (b : Bool). b && mixes_ok (file done channels (bytes ++ rest) ∷ more)) k
    go true k =
        ok_append done (file done channels (bytes ++ rest) ∷ more)
        ∙ ap (λ (b : Bool). mixes_ok done && b) (ok_fails (file done channels (bytes ++ rest)) more (end_long done channels (bytes ++ rest) (long k)))
        ∙ and_false (mixes_ok done)

-- ---- room in 64 bits

short_of : (done : List MixFile) → mixes_ok done ≡ true → Short (mixes_of done)
unfolding mixes_ok mixes_of mix_ok
short_of [] h = tt
short_of (m ∷ ms) h =
    let a = leb (length m.bytes / 4) most_samples in
    let b = eqb (length m.bytes % 4) 0 && eqb (length m.bytes / 4 % m.channels) 0 in
    (omega (arith, words_count m.bytes, leb-true (length m.bytes / 4) most_samples (and_left a b (and_left (a && b) (mixes_ok ms) h))), short_of ms (and_right (a && b) (mixes_ok ms) h))

count_of : (done : List MixFile) → length (mixes_of done) ≡ length done
unfolding mixes_of
count_of [] = refl
count_of (m ∷ ms) = ap suc (count_of ms)

pub room_for : (r : Reading) (R : ReadingReached r) (n : ℕ) → r.number ≡ 0 → r.samples + n ≤ most_samples → Room r.totals r.samples n
unfolding with_samples totals
room_for r R n h k =
    let g = is_good R.done R.words r R.is h in
    let ms = mixes_of R.done in
    let S = short_of R.done (and_left (mixes_ok R.done) (leb (length R.words) most_samples) g.ok) in
    let c = count_most ms S in
    let e = count_of R.done in
    record {
      mixes = omega (arith, ap (λ (t : Totals). t.mixes) g.totals_is, e, R.few);
      samples = k;
      full = omega (arith, ap (λ (t : Totals). t.full) g.totals_is, full_most (samples_of ms), full_most R.words, c, e, R.few, g.samples_is);
      squares = omega (arith, ap (λ (t : Totals). t.squares) g.totals_is, squares_most (samples_of ms), squares_most R.words, c, e, R.few, g.samples_is);
    }

pub room_for_mix : (r : Reading) (R : ReadingReached r) → r.number ≡ 0 → (r.totals.mixes < most_mixes) × (r.totals.frames + r.samples < 2 ^ 64)
unfolding with_samples totals
room_for_mix r R h =
    let g = is_good R.done R.words r R.is h in
    let ms = mixes_of R.done in
    let S = short_of R.done (and_left (mixes_ok R.done) (leb (length R.words) most_samples) g.ok) in
    let e = count_of R.done in
    (omega (arith, ap (λ (t : Totals). t.mixes) g.totals_is, e, R.few), omega (arith, ap (λ (t : Totals). t.frames) g.totals_is, frames_most ms, count_most ms S, e, R.few, few_samples R.done R.words r R.is))

pub nothing_read : ◌≡◌ {A = Reading} (record { number = 0; totals = no_totals; samples = 0 }) (reading_of [] [])
unfolding mixes_of samples_of mixes_ok all_in
nothing_read = same_reading (sym totals_none ∙ nothing_more []) refl ∙ sym (reading_good [] [] (le-leb 0 most_samples (omega arith)) refl)
