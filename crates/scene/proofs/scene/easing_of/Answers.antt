-- `easing_of` meets its contract. Assumes nothing.
use Rattle.std.proofs.Common.{rules}
use Rattle.scene.proofs.laws.LineValues.{easing_linear, easing_in, easing_out, easing_in_out}
use Rattle.scene.proofs.scene.easing_of.Goals as goal

pub returns-then-easing-eq-ZERO : goal.returns-then-easing-eq-ZERO
returns-then-easing-eq-ZERO c = search (easing_linear, rules)

pub returns-then-easing-eq-ONE : goal.returns-then-easing-eq-ONE
returns-then-easing-eq-ONE c = search (easing_in, rules)

pub returns-then-easing-eq-TWO : goal.returns-then-easing-eq-TWO
returns-then-easing-eq-TWO c = search (easing_out, rules)

pub returns : goal.returns
returns c = search (easing_in_out, rules)
