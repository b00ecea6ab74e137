-- The first bytes of the three files decide what is printed, so that the program need not read more: one more than question 1 allows, and those of one
-- sample more than question 12 allows. Assumes nothing.
use mathlib.Core.Path.{◌≡◌, refl, sym, ap, ap₂, ◌∙◌}
use mathlib.Core.Bool.{Bool, true, false}
use mathlib.Core.List.{List}
use Prim.Native.Nat.{ℕ, ◌/◌, ◌≤◌, ◌<◌}
use native.Mathlib.Omega.{arith}
use borrow.Author.Tests.{leb-true, leb-false, le-leb, lt-leb}
use lib.Dec.{leb}
use lib.ListN.{length, take}
use lib.Seq.{length-take-le, take_all}
use Rattle.limits.specs.Limits.{file_bytes}
use Rattle.scene_questions.specs.Questions.{size_ok, first_no}
use Rattle.scene_reader.specs.Answer.{read_questions}
use Rattle.text_output.specs.Text.{printed_refusal}
use Rattle.text_output.proofs.laws.Print.{same_text}
use Rattle.render_files.specs.Program.{most, program_answer, printed, scene_bytes, sample_bytes, FirstOf, TextOf}
use Rattle.render_files.proofs.laws.Program.{printed_refusal_lem, many_samples, many_visitor}

-- ---- a file of more bytes than question 1 allows

size_large : (file : List ℕ) → file_bytes < length file → size_ok file ≡ false
unfolding size_ok
size_large file h = rw (le-leb 1 (length file) (omega arith), lt-leb (length file) file_bytes h)

large_file : (file raw visitor_raw : List ℕ) → length raw / 4 ≤ most → length visitor_raw / 4 ≤ most → file_bytes < length file → program_answer file raw visitor_raw ≡ 1
unfolding program_answer read_questions first_no
large_file file raw visitor_raw few few_visitor h = rw (le-leb (length raw / 4) most few, le-leb (length visitor_raw / 4) most few_visitor, size_large file h)

-- ---- the first bytes

module _ (file : List ℕ) where
  refused_12 : (raw visitor_raw : List ℕ) → sample_bytes ≤ length raw → printed file raw visitor_raw ≡ printed_refusal 12
  refused_12 raw visitor_raw h = sym (printed_refusal_lem file raw visitor_raw 12 (λ e. omega arith) (many_samples file raw visitor_raw (omega arith)))

  refused_visitor : (raw visitor_raw : List ℕ) → length raw < sample_bytes → sample_bytes ≤ length visitor_raw → printed file raw visitor_raw ≡ printed_refusal 12
  refused_visitor raw visitor_raw k h = sym (printed_refusal_lem file raw visitor_raw 12 (λ e. omega arith) (many_visitor file raw visitor_raw (omega arith) (omega arith)))

  refused_1 : (raw visitor_raw : List ℕ) → length raw < sample_bytes → length visitor_raw < sample_bytes → scene_bytes ≤ length file → printed file raw visitor_raw ≡ printed_refusal 1
  refused_1 raw visitor_raw k l h = sym (printed_refusal_lem file raw visitor_raw 1 (λ e. omega arith) (large_file file raw visitor_raw (omega arith) (omega arith) (omega arith)))

first_of_scene : (file raw visitor_raw : List ℕ) → length raw < sample_bytes → length visitor_raw < sample_bytes → printed (take scene_bytes file) raw visitor_raw ≡ printed file raw visitor_raw
first_of_scene file raw visitor_raw k l = go (leb scene_bytes (length file)) refl
  where
    go : (b : Bool) → leb scene_bytes (length file) ≡ b → printed (take scene_bytes file) raw visitor_raw ≡ printed file raw visitor_raw
    go true e =
        let h = leb-true scene_bytes (length file) e in
        refused_1 (take scene_bytes file) raw visitor_raw k l (omega (arith, length-take-le scene_bytes file h)) ∙ sym (refused_1 file raw visitor_raw k l h)
    go false e = ap (λ (f : List ℕ). printed f raw visitor_raw) (take_all scene_bytes file (omega (arith, leb-false scene_bytes (length file) e)))

first_of_visitor : (file raw visitor_raw : List ℕ) → length raw < sample_bytes → printed (take scene_bytes file) raw (take sample_bytes visitor_raw) ≡ printed file raw visitor_raw
first_of_visitor file raw visitor_raw k = go (leb sample_bytes (length visitor_raw)) refl
  where
    go : (b : Bool) → leb sample_bytes (length visitor_raw) ≡ b → printed (take scene_bytes file) raw (take sample_bytes visitor_raw) ≡ printed file raw visitor_raw
    go true e =
        let h = leb-true sample_bytes (length visitor_raw) e in
        refused_visitor (take scene_bytes file) raw (take sample_bytes visitor_raw) k (omega (arith, length-take-le sample_bytes visitor_raw h)) ∙ sym (refused_visitor file raw visitor_raw k h)
    go false e =
        let h = leb-false sample_bytes (length visitor_raw) e in
        ap (printed (take scene_bytes file) raw) (take_all sample_bytes visitor_raw (omega (arith, h))) ∙ first_of_scene file raw visitor_raw k h

pub first_bytes : (file raw visitor_raw : List ℕ) → printed (take scene_bytes file) (take sample_bytes raw) (take sample_bytes visitor_raw) ≡ printed file raw visitor_raw
first_bytes file raw visitor_raw = go (leb sample_bytes (length raw)) refl
  where
    go : (b : Bool) → leb sample_bytes (length raw) ≡ b → printed (take scene_bytes file) (take sample_bytes raw) (take sample_bytes visitor_raw) ≡ printed file raw visitor_raw
    go true e =
        let h = leb-true sample_bytes (length raw) e in
        refused_12 (take scene_bytes file) (take sample_bytes raw) (take sample_bytes visitor_raw) (omega (arith, length-take-le sample_bytes raw h)) ∙ sym (refused_12 file raw visitor_raw h)
    go false e =
        let h = leb-false sample_bytes (length raw) e in
        ap (λ (r : List ℕ). printed (take scene_bytes file) r (take sample_bytes visitor_raw)) (take_all sample_bytes raw (omega (arith, h))) ∙ first_of_visitor file raw visitor_raw h

-- what was read of the files gives their text
pub read_text : (scene samples visitor before after : List ℕ) (m n v r : ℕ) → length scene ≡ scene_bytes → length samples ≡ sample_bytes → length visitor ≡ sample_bytes
    → TextOf (take m scene) (take n samples) (take v visitor) before r after
    → (file raw visitor_raw : List ℕ) → FirstOf file scene m → FirstOf raw samples n → FirstOf visitor_raw visitor v → TextOf file raw visitor_raw before r after
read_text scene samples visitor before after m n v r h k l e file raw visitor_raw p q w =
    same_text before
    (ap (λ (f : List ℕ). printed f (take n samples) (take v visitor)) (p ∙ ap (λ (i : ℕ). take i file) h)
    ∙ ap₂ (printed (take scene_bytes file)) (q ∙ ap (λ (i : ℕ). take i raw) k) (w ∙ ap (λ (i : ℕ). take i visitor_raw) l)
    ∙ first_bytes file raw visitor_raw)
    e
