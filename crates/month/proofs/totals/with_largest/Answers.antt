-- `with_largest` meets its contract. Assumes nothing.
use mathlib.Core.Logic.{inl, inr}
use mathlib.Core.Path.{refl, sym, ap, ◌∙◌}
use Prim.Native.Nat.{ℕ, ◌+◌}
use native.Mathlib.Omega.{arith}
use Rattle.month.specs.Month.{higher}
use Rattle.month.specs.Piece.{words_of, largest, first_of}
use Rattle.month.proofs.laws.Peaks.{kept_peak, new_peak, same_peak, peak_of, piece_peak}
use Rattle.month.proofs.laws.Words.{words_count}
use borrow.Author.Rules.{rules}
use Rattle.month.proofs.totals.with_largest.Goals as goal
use Rattle.month.proofs.totals.with_largest.Goals.{then-peak-ne0+else-most-peak, else-peak-ne0}

pub returns-then-most-peak : goal.returns-then-most-peak
returns-then-most-peak c =
    let ws = words_of c.args.piece.now in
    let e = piece_peak c.args.mix c.args.before ws (search rules) (omega (arith, words_count c.args.piece.now, c.requires.largest_of_the_piece.0)) in
    kept_peak c.args.peak (peak_of c.args.mix c.args.before ws) (search rules) (omega (arith, c.requires.largest_of_the_piece.1, c.if-most-peak.true)) ∙ sym (ap (higher c.args.peak) e)

pub returns : goal.returns
returns c =
    let ws = words_of c.args.piece.now in
    let e = piece_peak c.args.mix c.args.before ws (search rules) (omega (arith, words_count c.args.piece.now, c.requires.largest_of_the_piece.0)) in
    same_peak c.args.most c.args.mix (c.args.before + c.first_of.result + 1) (largest ws) c.args.mix (c.args.before + first_of (largest ws) ws + 1) c.requires.largest_of_the_piece.1 refl (omega (arith, c.first_of.ensures.1, ap (λ (m : ℕ). first_of m ws) c.requires.largest_of_the_piece.1))
    ∙ new_peak c.args.peak (peak_of c.args.mix c.args.before ws) (elim c.if-peak-ne0.branch [ then-peak-ne0+else-most-peak a ↦ inr (omega (arith, a.if-most-peak.false, c.requires.largest_of_the_piece.1)) | else-peak-ne0 b ↦ inl (omega (arith, b.if-peak-ne0.false)) ])
    ∙ sym (ap (higher c.args.peak) e)
