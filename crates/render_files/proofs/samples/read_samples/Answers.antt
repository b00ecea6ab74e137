-- `read_samples` meets its contract: i samples stand at the start. Assumes nothing.
use mathlib.Core.Path.{refl, sym, ap, ◌∙◌}
use mathlib.Core.List.{[], ◌∷◌}
use Prim.Native.Nat.{ℕ, ◌/◌, ◌*◌}
use lib.ListN.{length}
use lib.Ieee.{Float, binary32, of_bits}
use borrow.Author.Rules.{rules}
use Rattle.laws.proofs.laws.Pieces.{begun_zero, begun_next, begun_end, length_elements, set_put}
use Rattle.float_bits.specs.Bits.{word_from}
use Rattle.render_files.specs.Program.{samples_of}
use Rattle.render_files.proofs.samples.read_samples.Goals as goal

pub loop-i-init : goal.loop-i-init
loop-i-init c = (search rules, refl, begun_zero _ _)

pub loop-i-preserved : goal.loop-i-preserved
unfolding word_from
loop-i-preserved c =
    let f : ℕ → Float = λ j. of_bits binary32 (word_from c.args.raw.now (4 * j)) in
    (search rules, search rules, begun_next (λ j. f j ∷ []) c.loop-i.i c.args.samples.now c.loop-i.invariant.2 (sym (length_elements f c.loop-i.i)) (ap (λ (x : Float). x ∷ []) (c.f32_from_bits.ensures ∙ ap (of_bits binary32) c.word.ensures)) (set_put c.loop-i.samples c.loop-i.i c.f32_from_bits.result (search rules)))

pub returns : goal.returns
unfolding samples_of
returns c =
    let f : ℕ → Float = λ j. of_bits binary32 (word_from c.args.raw.now (4 * j)) in
    begun_end (λ j. f j ∷ []) c.args.samples.now (search rules) (length_elements f (length c.args.raw.now / 4) ∙ sym c.requires) c.loop-i.invariant.2
