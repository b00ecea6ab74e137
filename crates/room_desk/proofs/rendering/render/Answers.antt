-- `render` meets its contract. The test of the number is used by `omega` alone: so a test that turns scenes away unwritten is refused where the output
-- is told, at `unwritten`. Assumes nothing.
use mathlib.Core.Path.{◌≡◌, sym, ap, ◌∙◌, subst}
use Prim.Native.Nat.{◌*◌}
use native.Mathlib.Omega.{arith}
use lib.ListN.{length}
use Rattle.recordings.specs.Recordings.{recordings}
use Rattle.scene.specs.declared.scene.Scene.{Scene}
use Rattle.accepted.specs.SceneOk.{SceneOk, SamplesOk}
use Rattle.accepted.proofs.laws.Accepted.{accepted_ok, accepted_samples, accepted_length}
use Rattle.renderer.specs.Renderer.{rendered}
use Rattle.room_desk.specs.Render.{output_of}
use Rattle.noninterference.specs.Alike.{AreSamples}
use Rattle.scene_reader.proofs.laws.Answer.{answered_number, answered_scene}
use Rattle.room_desk.proofs.laws.Render.{output_refused}
use Rattle.room_desk.proofs.laws.Silence.{output_accepted, silence}
use Rattle.room_desk.proofs.rendering.render.Goals as goal

pub returns-then-read-ne0 : goal.returns-then-read-ne0
returns-then-read-ne0 c =
    let number = answered_number c.args.scene.now _ c.read_scene-read.ensures in
    let unwritten : c.args.output.now ≡ output_of c.args.scene.now (recordings c.args.samples.now c.args.visitor.now) c.args.output.now = output_refused c.args.scene.now (recordings c.args.samples.now c.args.visitor.now) c.args.output.now (λ e. omega (arith, c.if-read-ne0.true, number, e)) in
    record { number = number; output = unwritten; silence = λ file heard there chosen others fit e f same. absurd (omega (arith, c.if-read-ne0.true, number, e)) }

pub render_scene-requires : goal.render_scene-requires
render_scene-requires c =
    let n = length c.args.output.now in
    let number = answered_number c.args.scene.now _ c.read_scene-read.ensures in
    let passes : c.read_scene-read.result.number ≡ 0 = omega (arith, c.if-read-ne0.false) in
    let accepted = sym number ∙ passes in
    let scene = answered_scene c.args.scene.now _ c.read_scene-read.ensures passes in record { scene_ok = subst SceneOk (sym scene) (accepted_ok c.args.scene.now (recordings c.args.samples.now c.args.visitor.now) n accepted); samples_ok = subst (λ (s : Scene). SamplesOk s (recordings c.args.samples.now c.args.visitor.now)) (sym scene) (accepted_samples c.args.scene.now (recordings c.args.samples.now c.args.visitor.now) n accepted); output_sized = accepted_length c.args.scene.now (recordings c.args.samples.now c.args.visitor.now) n accepted ∙ ap (λ (s : Scene). s.head.block * s.head.blocks * s.head.channels) (sym scene) }

pub returns : goal.returns
returns c =
    let n = length c.args.output.now in
    let number = answered_number c.args.scene.now _ c.read_scene-read.ensures in
    let passes : c.read_scene-read.result.number ≡ 0 = omega (arith, c.if-read-ne0.false) in
    let accepted = sym number ∙ passes in
    let scene = answered_scene c.args.scene.now _ c.read_scene-read.ensures passes in
    let fit : AreSamples (recordings c.args.samples.now c.args.visitor.now) = (λ i h. c.shared_slice_known-2-1.given i, λ i h. c.shared_slice_known-3-1.given i) in
    let written = c.render_scene.ensures ∙ ap (λ (s : Scene). rendered s (recordings c.args.samples.now c.args.visitor.now)) scene ∙ sym (output_accepted c.args.scene.now (recordings c.args.samples.now c.args.visitor.now) c.args.output.now accepted) in record { number = sym accepted; output = written; silence = λ file heard there chosen others fits e f same. written ∙ silence c.args.scene.now (recordings c.args.samples.now c.args.visitor.now) c.args.output.now chosen file heard there others fit fits accepted f same }
