-- `put_decimal` meets its contract: the last digit comes after those of a tenth. The measure is `steps`. Assumes nothing.
use mathlib.Core.Path.{◌≡◌, sym, ap, ◌∙◌, subst}
use mathlib.Core.List.{List, [], ◌∷◌, ◌++◌}
use Prim.Native.Nat.{◌+◌, ◌-◌, ◌/◌, ℕ, ◌<◌}
use native.Mathlib.Omega.{arith}
use lib.ListN.{length, set}
use borrow.Author.Rules.{rules}
use Rattle.laws.specs.Pieces.{put_at}
use Rattle.text_output.specs.Text.{decimal_within}
use Rattle.text_output.proofs.laws.Print.{put_one, put_last, decimal_zero, decimal_short, decimal_long, decimal_length}
use Rattle.text_output.proofs.+put_decimal.Goals as goal

pub returns-then-steps-eq0 : goal.returns-then-steps-eq0
returns-then-steps-eq0 t c =
    let args = c.args in
    let whole = put_one args.at args.text.now c.digit.result (search rules) (decimal_zero args.steps args.n c.if-steps-eq0.true ∙ ap (λ (x : ℕ). x ∷ []) (sym c.digit.ensures)) in
    record { place = whole.0; text = whole.1 }

pub returns-then-n-lt10 : goal.returns-then-n-lt10
returns-then-n-lt10 t c =
    let args = c.args in
    let whole = put_one args.at args.text.now c.digit-then-n-lt10.result (search rules) (decimal_short args.steps args.n c.if-steps-eq0.false c.if-n-lt10.true ∙ ap (λ (x : ℕ). x ∷ []) (sym c.digit-then-n-lt10.ensures)) in
    record { place = whole.0; text = whole.1 }

pub bounds-text-end : goal.bounds-text-end
bounds-text-end t c =
    let args = c.args in
    let call = c.put_decimal-end in
    omega (arith, c.requires, c.if-steps-eq0.false, call.ensures.place, call.auto.text, decimal_length (args.steps - 1) (args.n / 10))

pub overflow_add-result-2 : goal.overflow_add-result-2
overflow_add-result-2 t c =
    let args = c.args in
    let call = c.put_decimal-end in
    omega (arith, c.requires, c.if-steps-eq0.false, call.ensures.place, call.auto.text, decimal_length (args.steps - 1) (args.n / 10))

pub returns : goal.returns
returns t c =
    let args = c.args in
    let call = c.put_decimal-end in
    let less = args.steps - 1 in
    let digits = decimal_within less (args.n / 10) in
    let long = decimal_long args.steps args.n c.if-steps-eq0.false c.if-n-lt10.false in
    let inside : call.result < length call.new.text = omega (arith, c.requires, c.if-steps-eq0.false, call.ensures.place, call.auto.text, decimal_length less (args.n / 10)) in
    let whole = subst (λ (q : List ℕ). (call.result + 1 ≡ args.at + length q) × (set call.new.text call.result c.digit-2.result ≡ put_at args.at q args.text.now))
    (sym (long ∙ ap (λ (x : ℕ). digits ++ (x ∷ [])) (sym c.digit-2.ensures)))
    (put_last args.at digits args.text.now c.digit-2.result (omega (arith, c.requires)) inside call.ensures.place call.ensures.text) in
    record { place = whole.0; text = whole.1 }
