-- Laws of the program's answer, as the code asks for it, and of what is then printed. Assumes nothing.
use mathlib.Core.Path.{◌≡◌, sym, ap, ap₂, ◌∙◌, subst}
use mathlib.Core.Bool.{Bool, cond}
use mathlib.Core.List.{List, [], ◌∷◌, ◌++◌}
use Prim.Native.Nat.{ℕ, ◌-◌, ◌*◌, ◌/◌, ◌%◌, ◌≤◌, ◌<◌}
use native.Mathlib.Nat.{mul-le-mul}
use native.Mathlib.Omega.{arith}
use borrow.Author.Tests.{lt-leb, le-leb, ne_eqb}
use lib.Dec.{eqb, leb}
use lib.ListN.{length, take, length-take}
use lib.Seq.{take_at}
use lib.Ieee.{Float, binary32, of_bits}
use Rattle.recordings.specs.Recordings.{Recordings, recordings}
use Rattle.float_bits.specs.Bits.{word_from}
use Rattle.laws.proofs.laws.Pieces.{length_elements}
use Rattle.scene_file.specs.Grammar.{tables_of}
use Rattle.scene_questions.specs.Questions.{answer, output_length, first_no}
use Rattle.scene_questions.proofs.laws.FirstNo.{refused_first, passed_first}
use Rattle.scene_reader.specs.declared.answer.Answer.{Answer}
use Rattle.scene.specs.declared.scene.Scene.{Scene}
use Rattle.scene.specs.Scene.{scene_of}
use Rattle.scene_reader.specs.Answer.{read_questions, answered}
use Rattle.accepted.specs.SceneOk.{SceneOk}
use Rattle.accepted.proofs.laws.Accepted.{accepted_ok, accepted_length}
use Rattle.renderer.specs.Renderer.{rendered}
use Rattle.room_desk.specs.Render.{output_of}
use Rattle.scene_reader.proofs.laws.Also.{read_numbered, read_passed}
use Rattle.scene_reader.proofs.laws.Answer.{answered_number, answered_scene}
use Rattle.scene_reader.proofs.laws.Length.{accepted_input}
use Rattle.room_desk.proofs.laws.Silence.{output_accepted}
use Rattle.text_output.specs.Text.{printed_refusal}
use Rattle.render_files.specs.Program.{samples_of, most, recordings_of, program_answer, printed_output, printed}

-- ---- parts that were lent and written, and are lent again

part_length : (n : ℕ) (l : List Float) → n ≤ length l → length (take (n - 0) l) ≡ n
part_length n l h = simp length-take (omega arith)

samples_length : (raw : List ℕ) → length (samples_of raw) ≡ length raw / 4
unfolding samples_of
samples_length raw = length_elements (λ i. of_bits binary32 (word_from raw (4 * i))) (length raw / 4)

pub samples_again : (raw : List ℕ) (last after : List Float) → last ≡ samples_of raw → take (length raw / 4 - 0) (last ++ after) ≡ samples_of raw
samples_again raw last after e = take_at last after (length raw / 4 - 0) (omega (arith, ap length e, samples_length raw)) ∙ e

pub render_again : (file : List ℕ) (samples : Recordings) (room last after : List Float) (count : ℕ) → count ≤ length room → answer file samples count ≡ 0 → last ≡ output_of file samples (take (count - 0) room)
    → length last ≡ length (take (count - 0) room) → take (count - 0) (last ++ after) ≡ rendered (scene_of (tables_of file)) samples
render_again file samples room last after count h yes_n e k =
    let all = part_length count room h in
    take_at last after (count - 0) (omega (arith, k, all)) ∙ e ∙ output_accepted file samples (take (count - 0) room) (ap (answer file samples) all ∙ yes_n)

-- ---- the answer

module _ (file raw visitor_raw : List ℕ) where
  pub printed_refusal_lem : (n : ℕ) → (n ≡ 0 → ⊥) → program_answer file raw visitor_raw ≡ n → printed_refusal n ≡ printed file raw visitor_raw
  unfolding printed
  printed_refusal_lem n h e = sym (rw (e, ne_eqb n 0 h))

  pub printed_output_lem : program_answer file raw visitor_raw ≡ 0
      → printed_output ((scene_of (tables_of file)).head.block * (scene_of (tables_of file)).head.channels) (rendered (scene_of (tables_of file)) (recordings_of raw visitor_raw)) ≡ printed file raw visitor_raw
  unfolding printed
  printed_output_lem e = sym (rw e)

  -- question 12 of the house's samples, and of the visitor's
  pub many_samples : most < length raw / 4 → program_answer file raw visitor_raw ≡ 12
  unfolding program_answer first_no
  many_samples h = rw (lt-leb (length raw / 4) most h)

  pub many_visitor : length raw / 4 ≤ most → most < length visitor_raw / 4 → program_answer file raw visitor_raw ≡ 12
  unfolding program_answer first_no
  many_visitor few h = rw (le-leb (length raw / 4) most few, lt-leb (length visitor_raw / 4) most h)

  -- ---- where the samples are few enough

  module _ (few : (length raw / 4 ≤ most) × (length visitor_raw / 4 ≤ most)) (samples visitor : List Float) (same : (samples ≡ samples_of raw) × (visitor ≡ samples_of visitor_raw))
      (whole visitor_whole : Bool) (is_whole : whole ≡ eqb (length raw % 4) 0) (is_visitor : visitor_whole ≡ eqb (length visitor_raw % 4) 0)
      (read : Answer) (is_read : read ≡ answered file (first_no (read_questions file (recordings samples visitor) whole visitor_whole))) where
    abbrev output : ℕ
    output = output_length (tables_of file)

    abbrev heard : Recordings
    heard = recordings samples visitor

    number : read.number ≡ first_no (read_questions file heard whole visitor_whole)
    number = answered_number file (first_no (read_questions file heard whole visitor_whole)) is_read

    -- question 12 of the samples says yes
    after_samples : program_answer file raw visitor_raw ≡ first_no (read_questions file heard whole visitor_whole ++ ((12, leb output most) ∷ []))
    unfolding program_answer first_no
    after_samples = rw (le-leb (length raw / 4) most few.0, le-leb (length visitor_raw / 4) most few.1, is_whole, is_visitor, same.0, same.1)

    pub number_refused : (read.number ≡ 0 → ⊥) → program_answer file raw visitor_raw ≡ read.number
    number_refused h =
        after_samples
        ∙ refused_first (read_questions file heard whole visitor_whole) ((12, leb output most) ∷ []) (λ z. h (number ∙ z))
        ∙ sym number

    -- ---- where questions 1 to 9 say yes

    module _ (yes_n : read.number ≡ 0) where
      after_all : program_answer file raw visitor_raw ≡ cond (leb output most) 0 12
      unfolding first_no
      after_all =
          after_samples
          ∙ passed_first (read_questions file heard whole visitor_whole) ((12, leb output most) ∷ []) (read_numbered file heard whole visitor_whole) (sym number ∙ yes_n)

      scene_is : read.scene ≡ scene_of (tables_of file)
      scene_is = answered_scene file (first_no (read_questions file heard whole visitor_whole)) is_read yes_n

      taken : answer file heard output ≡ 0
      taken = accepted_input file heard (read_passed file heard whole visitor_whole (sym number ∙ yes_n))

      pub scene_ok : SceneOk read.scene
      scene_ok = subst SceneOk (sym scene_is) (accepted_ok file heard output taken)

      length_is : read.scene.head.block * read.scene.head.blocks * read.scene.head.channels ≡ output
      length_is = ap (λ (s : Scene). s.head.block * s.head.blocks * s.head.channels) scene_is ∙ sym (accepted_length file heard output taken)

      pub answer_yes : answer file heard (read.scene.head.block * read.scene.head.blocks * read.scene.head.channels) ≡ 0
      answer_yes = ap (answer file heard) length_is ∙ taken

      -- question 12 of the output
      pub long_output : most < read.scene.head.block * read.scene.head.blocks * read.scene.head.channels → program_answer file raw visitor_raw ≡ 12
      long_output h = after_all ∙ rw (lt-leb output most (subst (λ (k : ℕ). most < k) length_is h))

      pub short_output : read.scene.head.block * read.scene.head.blocks * read.scene.head.channels ≤ most
          → printed_output (read.scene.head.block * read.scene.head.channels) (rendered (scene_of (tables_of file)) heard) ≡ printed file raw visitor_raw
      short_output h =
          ap (λ (s : Scene). printed_output (s.head.block * s.head.channels) (rendered (scene_of (tables_of file)) heard)) scene_is
          ∙ ap₂ (λ (l m : List Float). printed_output ((scene_of (tables_of file)).head.block * (scene_of (tables_of file)).head.channels) (rendered (scene_of (tables_of file)) (recordings l m))) same.0 same.1
          ∙ printed_output_lem (after_all ∙ rw (le-leb output most (subst (λ (k : ℕ). k ≤ most) length_is h)))

-- ---- bounds of an accepted scene, for the code's products

module _ (s : Scene) (ok : SceneOk s) where
  pub width_least : 1 ≤ s.head.block * s.head.channels
  width_least = mul-le-mul ok.block.0 ok.channels.0

  pub width_most : s.head.block * s.head.channels ≤ 4096
  width_most = mul-le-mul ok.block.1 ok.channels.1

  pub frames_most : s.head.block * s.head.blocks ≤ 524288
  frames_most = mul-le-mul ok.block.1 ok.blocks.1

  pub samples_most : s.head.block * s.head.blocks * s.head.channels ≤ 4194304
  samples_most = mul-le-mul frames_most ok.channels.1
