-- `read_input` meets its contract: the tables in their places are the file's. Assumes nothing.
use mathlib.Core.Path.{refl, sym, ap, ◌∙◌}
use mathlib.Core.Bool.{true}
use mathlib.Core.List.{[]}
use native.Mathlib.Omega.{arith}
use borrow.Author.Tests.{not-false}
use borrow.Author.Rules.{rules}
use Rattle.recordings.specs.Recordings.{recordings}
use Rattle.scene_reader.proofs.laws.Answer.{answered_1, answered_2, answered_n, answered_0, counts_known, placings_known, small_file, ok_of, number_some}
use Rattle.scene_reader.specs.Answer.{number, number_of}
use Rattle.scene_reader.proofs.laws.Read.{read_low}
use Rattle.scene_reader.proofs.answer.read_input.Goals as goal

pub returns-then-not-size_ok : goal.returns-then-not-size_ok
returns-then-not-size_ok c = search (answered_1, rules)

pub read_tables-layout-requires : goal.read_tables-layout-requires
read_tables-layout-requires c = omega (arith, small_file _ (recordings [] []) true true _ c.size_ok.ensures c.if-not-size_ok.false-raw)

pub returns-then-not-layout : goal.returns-then-not-layout
returns-then-not-layout c = search (answered_2, rules)

pub ask_tables-asked-requires : goal.ask_tables-asked-requires
ask_tables-asked-requires c = read_low _ _ _ _ c.read_tables-layout.ensures (not-false _ c.if-not-layout.false) (small_file _ (recordings [] []) true true _ c.size_ok.ensures c.if-not-size_ok.false-raw)

pub returns-in-Err : goal.returns-in-Err
returns-in-Err c = answered_n _ _ _ _ _ c.size_ok.ensures c.if-not-size_ok.false-raw _ _ _ c.read_tables-layout.ensures c.if-not-layout.false (number c.in-Err.question) (sym (ap number_of c.in-Err.is) ∙ c.ask_tables-asked.ensures) _ (number_some _) c.refused-in-Err.ensures

pub scene_of-scene-requires : goal.scene_of-scene-requires
scene_of-scene-requires c = record { tables_in_range = read_low _ _ _ _ c.read_tables-layout.ensures (not-false _ c.if-not-layout.false) (small_file _ (recordings [] []) true true _ c.size_ok.ensures c.if-not-size_ok.false-raw); counts_fit = counts_known _ _ _ _ _ c.size_ok.ensures c.if-not-size_ok.false-raw _ _ _ c.read_tables-layout.ensures c.if-not-layout.false 0 (sym (ap number_of (ok_of _ c.in_default.not-Err)) ∙ c.ask_tables-asked.ensures) refl; placings_ok = placings_known _ _ _ _ _ c.size_ok.ensures c.if-not-size_ok.false-raw _ _ _ c.read_tables-layout.ensures c.if-not-layout.false 0 (sym (ap number_of (ok_of _ c.in_default.not-Err)) ∙ c.ask_tables-asked.ensures) refl }

pub returns : goal.returns
returns c = answered_0 _ _ _ _ _ c.size_ok.ensures c.if-not-size_ok.false-raw _ _ _ c.read_tables-layout.ensures c.if-not-layout.false 0 (sym (ap number_of (ok_of _ c.in_default.not-Err)) ∙ c.ask_tables-asked.ensures) refl _ c.scene_of-scene.ensures
