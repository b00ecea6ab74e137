-- `with_piece` meets its contract: what makes the held number whole, whole samples, and the rest. Assumes nothing.
use mathlib.Core.Logic.{inl, inr, ⊎_elim}
use mathlib.Core.Path.{◌≡◌, sym, ap, ◌∙◌}
use mathlib.Core.List.{List, ◌++◌, append_assoc}
use Prim.Native.Nat.{ℕ, ◌+◌, ◌-◌, ◌*◌, ◌/◌}
use native.Mathlib.Omega.{arith}
use lib.ListN.{length, take, drop, length-append}
use lib.Seq.{length-take-le}
use Rattle.month_reader.specs.Reading.{stream_of}
use Rattle.month_reader.proofs.laws.Stream.{three_parts, part_length, goes_on, count_is, count_most}
use borrow.Author.Rules.{rules}
use Rattle.month_reader.proofs.stream.with_piece.Goals as goal

pub missing-first-requires : goal.missing-first-requires
missing-first-requires c = count_most c.args.stream c.requires

pub slice_bounds-with_bytes-end : goal.slice_bounds-with_bytes-end
slice_bounds-with_bytes-end c = sym (length-take-le c.missing-first.result c.args.piece.now (search rules))

pub with_whole-whole-requires : goal.with_whole-whole-requires
with_whole-whole-requires c =
    let piece = c.args.piece.now in
    let f = c.missing-first.result in
    let n = (length piece - f) / 4 * 4 in
    let R = c.requires in
    let on = c.with_bytes-begun.ensures in
    let long : length (take f piece) ≡ f = length-take-le f piece (search rules) in
    let count = count_is c.requires.done (c.requires.bytes ++ take f piece) c.with_bytes-begun.result (on c.requires.done c.requires.bytes c.requires.is) in
    let was = count_is c.requires.done c.requires.bytes c.args.stream c.requires.is in
    let size : length (take (f + n - f) (drop f piece)) ≡ n = part_length piece f n (omega (arith, c.missing-first.ensures.0)) in
    record { stream_reachable = goes_on c.args.stream c.with_bytes-begun.result (take f piece) R on; whole_samples = (omega (arith, size), ⊎_elim (λ a. inl (omega (arith, a, count, was, long, length-append c.requires.bytes (take f piece)))) (λ a. inr (omega (arith, a, size))) c.missing-first.ensures.1) }

pub with_bytes-requires : goal.with_bytes-requires
with_bytes-requires c =
    let piece = c.args.piece.now in
    let f = c.missing-first.result in
    let n = (length piece - f) / 4 * 4 in
    goes_on c.with_bytes-begun.result c.with_whole-whole.result (take (f + n - f) (drop f piece)) (goes_on c.args.stream c.with_bytes-begun.result (take f piece) c.requires c.with_bytes-begun.ensures) c.with_whole-whole.ensures

pub returns : goal.returns
returns c =
    let piece = c.args.piece.now in
    let f = c.missing-first.result in
    let n = (length piece - f) / 4 * 4 in
    let p = take f piece in
    let q = take (f + n - f) (drop f piece) in
    let r = take (length piece - (f + n)) (drop (f + n) piece) in
    λ done bytes e.
    c.with_bytes.ensures done ((bytes ++ p) ++ q) (c.with_whole-whole.ensures done (bytes ++ p) (c.with_bytes-begun.ensures done bytes e))
    ∙ ap (stream_of done) (append_assoc (bytes ++ p) q r ∙ append_assoc bytes p (q ++ r) ∙ ap (λ (l : List ℕ). bytes ++ l) (three_parts piece f (f + n) (omega arith) (omega (arith, c.missing-first.ensures.0))))
