-- `samples_ok` meets its contract: the whole fours, and of the rest none is refused. Assumes nothing.
use Rattle.std.proofs.Common.{sym, ap, ◌∙◌, ◌-◌, ◌*◌, ◌/◌, length, take, drop}
use Rattle.std.proofs.lemmas.Slice.{between_to_end}
use native.Mathlib.Omega.{arith}
use Rattle.scene_questions.specs.Questions.{samples_ok}
use Rattle.scene_questions.proofs.laws.Samples.{none_refused, rest_asked, fours_failed}
use Rattle.scene_questions.proofs.samples.samples_ok.Goals as goal

pub returns-then-not-fours_ok : goal.returns-then-not-fours_ok
returns-then-not-fours_ok c = fours_failed c.args.samples.now (length c.args.samples.now / 4 * 4) (omega arith) (sym c.if-not-fours_ok.true ∙ c.fours_ok.ensures)

pub returns : goal.returns
returns c =
    let all = c.args.samples.now in
    let k = length all / 4 * 4 in
    none_refused (take (length all - k) (drop k all)) c.refused.result c.refused.ensures
    ∙ ap samples_ok (between_to_end all k (length all) (omega arith))
    ∙ rest_asked all k (omega arith) (sym c.fours_ok.ensures ∙ c.if-not-fours_ok.false)
