-- `is_form` meets its contract. Assumes nothing.
use mathlib.Core.Path.{ap, ◌∙◌}
use Prim.Native.Nat.{ℕ}
use native.Mathlib.Omega.{arith}
use lib.Dec.{eqb}
use Rattle.iff_chunks.specs.Chunks.{identifier_at}
use Rattle.iff_chunks.proofs.laws.Walk.{form_short, form_other, form_is}
use borrow.Author.Rules.{rules}
use Rattle.iff_chunks.proofs.form.is_form.Goals as goal

pub returns-then-file-lt-HEAD : goal.returns-then-file-lt-HEAD
returns-then-file-lt-HEAD c = form_short c.args.file.now c.args.outer c.args.form (search rules)

pub returns-then-number4_at-outer : goal.returns-then-number4_at-outer
unfolding identifier_at
returns-then-number4_at-outer c = form_other c.args.file.now c.args.outer c.args.form (search rules) (λ e. absurd (omega (arith, e, c.number4_at.ensures, c.if-number4_at-outer.true)))

pub returns : goal.returns
unfolding identifier_at
returns c = ap (λ (x : ℕ). eqb x c.args.form) c.number4_at-2.ensures ∙ form_is c.args.file.now c.args.outer c.args.form (search rules) (omega (arith, c.number4_at.ensures, c.if-number4_at-outer.false))
