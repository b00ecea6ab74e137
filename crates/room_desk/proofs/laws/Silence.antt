-- What lies inside silent tracks is not heard (docs/SILENCE.md). Two accepted scenes that differ only inside muted or held tracks have outputs equal in every bit: one theorem over all pairs and all choices,
-- whatever the outputs held before. Its words are defined in `noninterference`: Removed, Silent (muted, held), Alike. Assumes nothing.
use mathlib.Core.Path.{◌≡◌, sym, ap, ◌∙◌}
use mathlib.Core.Bool.{true, cond}
use mathlib.Core.List.{List}
use Prim.Native.Nat.{ℕ}
use lib.Dec.{eqb}
use lib.ListN.{length}
use lib.Ieee.{Float}
use Rattle.recordings.specs.Recordings.{Recordings}
use Rattle.scene_file.specs.Grammar.{tables_of}
use Rattle.scene_questions.specs.Questions.{answer}
use Rattle.scene.specs.Scene.{scene_of}
use Rattle.accepted.proofs.laws.Passed.{file_passes}
use Rattle.accepted.proofs.laws.Accepted.{accepted_ok, accepted_samples}
use Rattle.renderer.specs.Renderer.{rendered}
use Rattle.noninterference.specs.Removed.{Choice}
use Rattle.noninterference.specs.Alike.{AreSamples, alike}
use Rattle.noninterference.proofs.laws.FromAlike.{first_left, second_left}
use Rattle.noninterference.proofs.laws.Show.{rendered_same}
use Rattle.room_desk.specs.Render.{output_of}
use Rattle.room_desk.proofs.laws.Run.{chunk_in_ok, routes_in}

-- an accepted scene's output is its render
pub output_accepted : (file : List ℕ) (samples : Recordings) (output : List Float) → answer file samples (length output) ≡ 0 → output_of file samples output ≡ rendered (scene_of (tables_of file)) samples
unfolding output_of
output_accepted file samples output e = ap (λ (n : ℕ). cond (eqb n 0) (rendered (scene_of (tables_of file)) samples) output) e

module _ (file₁ : List ℕ) (samples₁ : Recordings) (output₁ : List Float) (chosen₁ : Choice) (file₂ : List ℕ) (samples₂ : Recordings) (output₂ : List Float) (chosen₂ : Choice) where
  pub silence : AreSamples samples₁ → AreSamples samples₂ → answer file₁ samples₁ (length output₁) ≡ 0 → answer file₂ samples₂ (length output₂) ≡ 0
      → alike (tables_of file₁) samples₁ chosen₁ (tables_of file₂) samples₂ chosen₂ ≡ true
      → output_of file₁ samples₁ output₁ ≡ output_of file₂ samples₂ output₂
  silence fit₁ fit₂ e₁ e₂ same =
      let s₁ = scene_of (tables_of file₁) in
      let s₂ = scene_of (tables_of file₂) in
      let ok₁ = accepted_ok file₁ samples₁ (length output₁) e₁ in
      let ok₂ = accepted_ok file₂ samples₂ (length output₂) e₂ in
      let heard₁ = accepted_samples file₁ samples₁ (length output₁) e₁ in
      let heard₂ = accepted_samples file₂ samples₂ (length output₂) e₂ in
      let left₁ = first_left (tables_of file₁) samples₁ chosen₁ (tables_of file₂) samples₂ chosen₂ same fit₂ (length output₁) (file_passes file₁ samples₁ (length output₁) e₁).tables fit₁ in
      let left₂ = second_left (tables_of file₁) samples₁ chosen₁ (tables_of file₂) samples₂ chosen₂ same fit₂ (length output₂) (file_passes file₂ samples₂ (length output₂) e₂).tables in
      output_accepted file₁ samples₁ output₁ e₁
      ∙ rendered_same ok₁ heard₁ left₁ (λ b k p q. chunk_in_ok s₁ ok₁ b k samples₁ heard₁) (λ b k p q. routes_in s₁ ok₁ b k)
      ∙ sym (rendered_same ok₂ heard₂ left₂ (λ b k p q. chunk_in_ok s₂ ok₂ b k samples₂ heard₂) (λ b k p q. routes_in s₂ ok₂ b k))
      ∙ sym (output_accepted file₂ samples₂ output₂ e₂)
