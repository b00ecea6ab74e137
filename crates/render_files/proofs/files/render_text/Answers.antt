-- `render_text` meets its contract: question 12 of the samples comes first, of the house's and then of the visitor's. Assumes nothing.
use native.Mathlib.Omega.{arith}
use Rattle.text_output.proofs.laws.Print.{same_text, begun_within}
use Rattle.render_files.specs.Program.{printed}
use Rattle.render_files.proofs.laws.Program.{printed_refusal_lem, many_samples, many_visitor}
use Rattle.render_files.proofs.files.render_text.Goals as goal

pub returns-then-raw-gt-MOST : goal.returns-then-raw-gt-MOST
returns-then-raw-gt-MOST c =
    let text = same_text c.args.text.now (printed_refusal_lem c.args.file.now c.args.raw.now c.args.visitor_raw.now 12 (λ e. omega arith) (many_samples c.args.file.now c.args.raw.now c.args.visitor_raw.now c.if-raw-gt-MOST.true)) (c.put_refusal.ensures.length, c.put_refusal.ensures.text) in
    record { length = text.0; text = text.1; within = begun_within (printed c.args.file.now c.args.raw.now c.args.visitor_raw.now) c.args.text.now text }

pub returns-then-visitor_raw-gt-MOST : goal.returns-then-visitor_raw-gt-MOST
returns-then-visitor_raw-gt-MOST c =
    let text = same_text c.args.text.now (printed_refusal_lem c.args.file.now c.args.raw.now c.args.visitor_raw.now 12 (λ e. omega arith) (many_visitor c.args.file.now c.args.raw.now c.args.visitor_raw.now c.if-raw-gt-MOST.false c.if-visitor_raw-gt-MOST.true)) (c.put_refusal-then-visitor_raw-gt-MOST.ensures.length, c.put_refusal-then-visitor_raw-gt-MOST.ensures.text) in
    record { length = text.0; text = text.1; within = begun_within (printed c.args.file.now c.args.raw.now c.args.visitor_raw.now) c.args.text.now text }

pub returns : goal.returns
returns c =
    record { length = c.put_files.ensures.length; text = c.put_files.ensures.text; within = begun_within (printed c.args.file.now c.args.raw.now c.args.visitor_raw.now) c.args.text.now (c.put_files.ensures.length, c.put_files.ensures.text) }
