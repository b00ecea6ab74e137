-- `hand_over` meets its contract: the bytes up to a place were handed over. Assumes nothing.
use mathlib.Core.Path.{◌≡◌, sym, ap, ◌∙◌}
use mathlib.Core.List.{List, ◌++◌, append_assoc, append-nil}
use Prim.Native.Nat.{ℕ, ◌+◌, ◌-◌}
use native.Mathlib.Omega.{arith}
use lib.ListN.{take, drop}
use lib.Seq.{take-add, take_all}
use Rattle.month_reader.specs.declared.stream.Stream.{Stream}
use Rattle.month_reader.specs.Reading.{stream_of, WithBytes}
use Rattle.month_reader.proofs.laws.Stream.{goes_on}
use borrow.Author.Rules.{rules}
use Rattle.test_month.proofs.hand_over.Goals as goal

-- the bytes up to a place, and those from there up to another
hand_next : (bytes : List ℕ) (at n : ℕ) (a b c : Stream) → WithBytes a (take at bytes) b → WithBytes b (take (at + 1 + n - at) (drop at bytes)) c → WithBytes a (take (at + 1 + n) bytes) c
hand_next bytes at n a b c f g done before e =
    let m : at + (at + 1 + n - at) ≡ at + 1 + n = omega arith in
    g done (before ++ take at bytes) (f done before e)
    ∙ ap (stream_of done)
    (append_assoc before (take at bytes) (take (at + 1 + n - at) (drop at bytes))
    ∙ ap (λ (l : List ℕ). before ++ l) (sym (take-add at (at + 1 + n - at) bytes) ∙ ap (λ (k : ℕ). take k bytes) m))

pub loop-at-init : goal.loop-at-init
loop-at-init c = (search rules, λ done before e. e ∙ ap (stream_of done) (sym (append-nil before)))

pub with_piece-all-requires : goal.with_piece-all-requires
with_piece-all-requires c = goes_on c.args.stream c.loop-at.all (take c.loop-at.at c.args.bytes.now) c.requires c.loop-at.invariant.1

pub loop-at-preserved : goal.loop-at-preserved
loop-at-preserved c = (search rules, hand_next c.args.bytes.now c.loop-at.at c.min.result c.args.stream c.loop-at.all c.with_piece-all.result c.loop-at.invariant.1 c.with_piece-all.ensures)

pub returns : goal.returns
returns c =
    let bytes = c.args.bytes.now in
    λ done before e. c.loop-at.invariant.1 done before e ∙ ap (λ (p : List ℕ). stream_of done (before ++ p)) (take_all c.loop-at.at bytes (search rules))
