-- `fours_ok` meets its contract: all before place 4 i are right. Assumes nothing.
use Rattle.std.proofs.Common.{rules, sym, ap, ◌∙◌, ℕ, ◌*◌, ◌/◌, length, get_or}
use native.Mathlib.Omega.{arith}
use lib.Ieee.{nan}
use Rattle.scene_tables.specs.Bytes.{every}
use Rattle.scene_tables.proofs.laws.Every.{every_none}
use Rattle.scene_questions.specs.Questions.{sample_ok}
use Rattle.scene_questions.proofs.laws.Samples.{four_failed, four_passed}
use Rattle.scene_questions.proofs.samples.fours_ok.Goals as goal

pub loop-i-init : goal.loop-i-init
loop-i-init c = every_none (λ i. sample_ok (get_or c.args.samples.now i nan))

pub returns-then-not-four_ok : goal.returns-then-not-four_ok
returns-then-not-four_ok c =
    four_failed (λ i. sample_ok (get_or c.args.samples.now i nan)) (c.loop-i.i * 4) (length c.args.samples.now / 4 * 4) (omega (arith, c.loop-i-test.true)) (sym c.if-not-four_ok.true ∙ c.four_ok.ensures)

pub loop-i-preserved : goal.loop-i-preserved
loop-i-preserved c =
    four_passed (λ i. sample_ok (get_or c.args.samples.now i nan)) (c.loop-i.i * 4) _ (omega arith) c.loop-i.invariant (sym c.four_ok.ensures ∙ c.if-not-four_ok.false)

pub returns : goal.returns
returns c = sym c.loop-i.invariant ∙ ap (λ (n : ℕ). every (n * 4) (λ i. sample_ok (get_or c.args.samples.now i nan))) (search rules)
