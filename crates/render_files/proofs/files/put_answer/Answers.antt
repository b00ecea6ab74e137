-- `put_answer` meets its contract: the first question that says no decides. Assumes nothing.
use mathlib.Core.Path.{refl}
use native.Mathlib.Nat.{le_trans}
use native.Mathlib.Omega.{arith}
use Rattle.text_output.proofs.laws.Print.{same_text}
use Rattle.render_files.proofs.laws.Program.{printed_refusal_lem, number_refused, scene_ok, answer_yes, long_output, short_output, width_least, width_most, frames_most, samples_most}
use Rattle.render_files.proofs.files.put_answer.Goals as goal

pub returns-then-number-ne0 : goal.returns-then-number-ne0
returns-then-number-ne0 c =
    let whole = same_text c.args.text.now
    (printed_refusal_lem c.args.file.now c.args.raw.now c.args.visitor_raw.now c.read_input-read.result.number c.if-number-ne0.true (number_refused c.args.file.now c.args.raw.now c.args.visitor_raw.now c.requires.samples_fit c.args.samples.now c.args.visitor.now c.requires.samples_of_raw _ _ refl refl c.read_input-read.result c.read_input-read.ensures c.if-number-ne0.true))
    (c.put_refusal.ensures.length, c.put_refusal.ensures.text) in record { length = whole.0; text = whole.1 }

pub overflow_mul-width : goal.overflow_mul-width
overflow_mul-width c = omega (arith, width_most c.read_input-read.result.scene (scene_ok c.args.file.now c.args.raw.now c.args.visitor_raw.now c.requires.samples_fit c.args.samples.now c.args.visitor.now c.requires.samples_of_raw _ _ refl refl c.read_input-read.result c.read_input-read.ensures c.if-number-ne0.false))

pub overflow_mul-count : goal.overflow_mul-count
overflow_mul-count c = omega (arith, frames_most c.read_input-read.result.scene (scene_ok c.args.file.now c.args.raw.now c.args.visitor_raw.now c.requires.samples_fit c.args.samples.now c.args.visitor.now c.requires.samples_of_raw _ _ refl refl c.read_input-read.result c.read_input-read.ensures c.if-number-ne0.false))

pub overflow_mul-count-2 : goal.overflow_mul-count-2
overflow_mul-count-2 c = omega (arith, samples_most c.read_input-read.result.scene (scene_ok c.args.file.now c.args.raw.now c.args.visitor_raw.now c.requires.samples_fit c.args.samples.now c.args.visitor.now c.requires.samples_of_raw _ _ refl refl c.read_input-read.result c.read_input-read.ensures c.if-number-ne0.false))

pub returns-then-count-gt-MOST : goal.returns-then-count-gt-MOST
returns-then-count-gt-MOST c =
    let whole = same_text c.args.text.now
    (printed_refusal_lem c.args.file.now c.args.raw.now c.args.visitor_raw.now 12 (λ e. omega arith) (long_output c.args.file.now c.args.raw.now c.args.visitor_raw.now c.requires.samples_fit c.args.samples.now c.args.visitor.now c.requires.samples_of_raw _ _ refl refl c.read_input-read.result c.read_input-read.ensures c.if-number-ne0.false c.if-count-gt-MOST.true))
    (c.put_refusal-then-count-gt-MOST.ensures.length, c.put_refusal-then-count-gt-MOST.ensures.text) in record { length = whole.0; text = whole.1 }

pub put_render-requires : goal.put_render-requires
put_render-requires c =
    let yes_n = c.if-number-ne0.false in
    let few = c.if-count-gt-MOST.false in
    record { width_not_zero = width_least c.read_input-read.result.scene (scene_ok c.args.file.now c.args.raw.now c.args.visitor_raw.now c.requires.samples_fit c.args.samples.now c.args.visitor.now c.requires.samples_of_raw _ _ refl refl c.read_input-read.result c.read_input-read.ensures yes_n); room_for_output = (few, le_trans few c.requires.room_for_output); not_refused = answer_yes c.args.file.now c.args.raw.now c.args.visitor_raw.now c.requires.samples_fit c.args.samples.now c.args.visitor.now c.requires.samples_of_raw _ _ refl refl c.read_input-read.result c.read_input-read.ensures yes_n }

pub returns : goal.returns
returns c = let whole = same_text c.args.text.now (short_output c.args.file.now c.args.raw.now c.args.visitor_raw.now c.requires.samples_fit c.args.samples.now c.args.visitor.now c.requires.samples_of_raw _ _ refl refl c.read_input-read.result c.read_input-read.ensures c.if-number-ne0.false c.if-count-gt-MOST.false) (c.put_render.ensures.length, c.put_render.ensures.text) in record { length = whole.0; text = whole.1 }
