-- Laws of question 10: asked after the nine before it, of an accepted head. Assumes nothing.
use mathlib.Core.Path.{◌≡◌, refl, sym, ◌∙◌, ap, subst}
use mathlib.Core.Bool.{true, cond}
use mathlib.Core.List.{List, [], ◌∷◌}
use Prim.Native.Nat.{ℕ, ◌*◌, ◌≤◌}
use native.Mathlib.Nat.{mul-le-mul}
use native.Mathlib.Omega.{arith}
use borrow.Author.Tests.{eq-eqb, ne_eqb}
use lib.Dec.{eqb}
use mir.Syntax.{w64}
use mir.Val.{Fits}
use Rattle.recordings.specs.Recordings.{Recordings}
use Rattle.limits.specs.Limits.{block_frames_most, blocks_most, channels_most}
use Rattle.scene_file.specs.Grammar.{tables_of}
use Rattle.scene_questions.specs.Questions.{Question, output_length, first_no, input_questions, answer}
use Rattle.scene_questions.proofs.laws.FirstNo.{refused_first, passed_first}
use Rattle.scene.specs.declared.scene.Scene.{Scene}
use Rattle.scene_reader.specs.declared.answer.Answer.{Answer}
use Rattle.scene_reader.specs.Answer.{read_questions, refusal, answered}
use Rattle.accepted.specs.SceneOk.{SceneOk}
use Rattle.accepted.proofs.laws.Accepted.{accepted_ok, accepted_length}
use Rattle.scene_reader.proofs.laws.Also.{read_whole, input_numbered}
use Rattle.scene_reader.proofs.laws.Answer.{answered_number, answered_scene}

-- ---- the product

module _ (b n : ℕ) (small_b : b ≤ block_frames_most) (small_n : n ≤ blocks_most) where
  small : b * n ≤ 524288
  small = mul-le-mul small_b small_n

  pub product_fits : Fits w64 (b * n)
  product_fits = omega (arith, small)

  pub product_fits_all : (c : ℕ) → c ≤ channels_most → Fits w64 (b * n * c)
  product_fits_all c small_c =
      let k : b * n * c ≤ block_frames_most * blocks_most * channels_most = mul-le-mul small small_c in
      omega arith

-- ---- one question more

module _ (file : List ℕ) (samples : Recordings) (output : ℕ) where
  pub refused_input : (first_no (input_questions file samples) ≡ 0 → ⊥) → answer file samples output ≡ first_no (input_questions file samples)
  unfolding answer
  refused_input h = refused_first (input_questions file samples) ((10, eqb output (output_length (tables_of file))) ∷ []) h

  passed_input : first_no (input_questions file samples) ≡ 0 → answer file samples output ≡ cond (eqb output (output_length (tables_of file))) 0 10
  unfolding answer first_no
  passed_input e = passed_first (input_questions file samples) ((10, eqb output (output_length (tables_of file))) ∷ []) (input_numbered file samples) e

-- an output of its length
pub accepted_input : (file : List ℕ) (samples : Recordings) → first_no (input_questions file samples) ≡ 0 → answer file samples (output_length (tables_of file)) ≡ 0
accepted_input file samples e =
    passed_input file samples (output_length (tables_of file)) e ∙ rw (eq-eqb (output_length (tables_of file)) (output_length (tables_of file)) refl)

-- ---- after questions 1 to 9

module _ (file : List ℕ) (samples : Recordings) (r : Answer) (read : r ≡ answered file (first_no (read_questions file samples true true))) where
  isr : r ≡ answered file (first_no (input_questions file samples))
  isr = read ∙ ap (λ (qs : List Question). answered file (first_no qs)) (read_whole file samples)

  number_is : r.number ≡ first_no (input_questions file samples)
  number_is = answered_number file (first_no (input_questions file samples)) isr

  pub refused_before : (output : ℕ) → (r.number ≡ 0 → ⊥) → r ≡ answered file (answer file samples output)
  unfolding answered
  refused_before output h = rw (refused_input file samples output (λ z. h (number_is ∙ z))) isr

  module _ (yes_r : r.number ≡ 0) where
    passed : first_no (input_questions file samples) ≡ 0
    passed = sym number_is ∙ yes_r

    accepted : answer file samples (output_length (tables_of file)) ≡ 0
    accepted = accepted_input file samples passed

    pub scene_ok : SceneOk r.scene
    scene_ok =
        subst SceneOk (sym (answered_scene file (first_no (input_questions file samples)) isr yes_r)) (accepted_ok file samples (output_length (tables_of file)) accepted)

    module _ (output n : ℕ) (isn : n ≡ r.scene.head.block * r.scene.head.blocks * r.scene.head.channels) where
      length_is : n ≡ output_length (tables_of file)
      length_is =
          isn
          ∙ ap (λ (s : Scene). s.head.block * s.head.blocks * s.head.channels) (answered_scene file (first_no (input_questions file samples)) isr yes_r)
          ∙ sym (accepted_length file samples (output_length (tables_of file)) accepted)

      pub accepted_10 : output ≡ n → r ≡ answered file (answer file samples output)
      unfolding answered
      accepted_10 e =
          isr ∙ rw (passed, passed_input file samples output passed, eq-eqb output (output_length (tables_of file)) (e ∙ length_is))

      pub refused_10 : (output ≡ n → ⊥) → (q : Answer) → q ≡ refusal 10 → q ≡ answered file (answer file samples output)
      unfolding answered
      refused_10 h q e =
          rw (passed_input file samples output passed, ne_eqb output (output_length (tables_of file)) (λ z. h (z ∙ sym length_is))) e
