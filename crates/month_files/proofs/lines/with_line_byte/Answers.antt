-- `with_line_byte` meets its contract. Assumes nothing.
use mathlib.Core.Path.{sym, ap, ◌∙◌}
use mathlib.Core.Bool.{Bool, false, true, cond}
use Prim.Native.Nat.{ℕ, ◌+◌, min}
use borrow.Author.Tests.{eq-eqb, ne_eqb}
use Rattle.month.specs.Month.{most_mixes}
use Rattle.month_files.specs.Lines.{line_byte}
use Rattle.month_files.proofs.lines.with_line_byte.Goals as goal

pub returns-then-byte-eq-LINE_FEED : goal.returns-then-byte-eq-LINE_FEED
unfolding line_byte
returns-then-byte-eq-LINE_FEED c =
    ap (λ (n : ℕ). record { feeds = n; pending = false }) c.one_more.ensures
    ∙ sym (ap (λ (b : Bool). cond b (record { feeds = min (c.args.lines.feeds + 1) (most_mixes + 1); pending = false }) (record { feeds = c.args.lines.feeds; pending = true })) (eq-eqb c.args.byte 10 c.if-byte-eq-LINE_FEED.true))

pub returns : goal.returns
unfolding line_byte
returns c = sym (ap (λ (b : Bool). cond b (record { feeds = min (c.args.lines.feeds + 1) (most_mixes + 1); pending = false }) (record { feeds = c.args.lines.feeds; pending = true })) (ne_eqb c.args.byte 10 c.if-byte-eq-LINE_FEED.false))
