-- `walk` meets its contract: at each turn what is left of the walk comes to what the whole walk does. Assumes nothing.
use mathlib.Core.Path.{ap, ◌∙◌}
use Prim.Native.Nat.{ℕ}
use native.Mathlib.Omega.{arith}
use borrow.Author.Rules.{rules}
use Rattle.iff_chunks.specs.Chunks.{identifier_at, size_at, noted}
use Rattle.iff_chunks.proofs.laws.Walk.{walks_start, walks_rest, walks_past, walks_on, walks_end}
use Rattle.iff_chunks.proofs.form.walk.Goals as goal

pub loop-at-init : goal.loop-at-init
loop-at-init c = (search rules, walks_start c.args.order c.args.a c.args.b c.args.file.now)

pub returns-then-file-at-lt-HEADER : goal.returns-then-file-at-lt-HEADER
returns-then-file-at-lt-HEADER c = walks_rest c.args.order c.args.a c.args.b c.args.file.now c.loop-at.at c.loop-at.first c.loop-at.second _ c.loop-at.invariant.1 (search rules) (search rules)

pub returns-then-file-at : goal.returns-then-file-at
unfolding identifier_at size_at
returns-then-file-at c = walks_past c.args.order c.args.a c.args.b c.args.file.now c.loop-at.at c.loop-at.first c.loop-at.second _ c.loop-at.invariant.1 c.number4_at-size.ensures (c.noted-first.ensures ∙ ap (λ (i : ℕ). noted c.loop-at.first i c.args.a c.loop-at.at) c.number4_at-identifier.ensures) (c.noted-second.ensures ∙ ap (λ (i : ℕ). noted c.loop-at.second i c.args.b c.loop-at.at) c.number4_at-identifier.ensures) (search rules) (search rules)

pub loop-at-preserved : goal.loop-at-preserved
unfolding identifier_at size_at
loop-at-preserved c = (search rules, walks_on c.args.order c.args.a c.args.b c.args.file.now c.loop-at.at c.loop-at.first c.loop-at.second _ c.loop-at.invariant.1 c.number4_at-size.ensures (c.noted-first.ensures ∙ ap (λ (i : ℕ). noted c.loop-at.first i c.args.a c.loop-at.at) c.number4_at-identifier.ensures) (c.noted-second.ensures ∙ ap (λ (i : ℕ). noted c.loop-at.second i c.args.b c.loop-at.at) c.number4_at-identifier.ensures) (search rules) (omega arith))

pub returns : goal.returns
returns c = walks_end c.args.order c.args.a c.args.b c.args.file.now c.loop-at.at c.loop-at.first c.loop-at.second _ c.loop-at.invariant.1 (search rules)
