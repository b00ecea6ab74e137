-- An answer of 0 is questions that all said yes: one law over the list of questions, read off at each place. Assumes nothing.
use mathlib.Core.Path.{◌≡◌, refl, sym, ◌∙◌}
use mathlib.Core.Bool.{true}
use mathlib.Core.List.{List, [], ◌∷◌, ◌++◌}
use Prim.Native.Nat.{ℕ}
use lib.Dec.{eqb}
use Rattle.recordings.specs.Recordings.{Recordings, from_house, from_visitor}
use Rattle.scene_tables.specs.Tables.{tracks, routes, sounds, placings}
use Rattle.scene_file.specs.Grammar.{tables_of}
use Rattle.scene_questions.specs.Questions.{Tables, rows_at, size_ok, spelled_ok, lines_ok, ranges_ok, references_ok, depths_fit, routes_fit, placings_fit, sounds_fit, samples_ok, output_length, first_no, table_questions, input_questions, answer}
use Rattle.scene_questions.proofs.laws.FirstNo.{question_at, numbered, yes_at}

-- questions 3 to 10, of the tables
pub record TablesPass (ts : Tables) (samples : Recordings) (output : ℕ) : Type 0 where
  pub lines : lines_ok ts ≡ true
  pub ranges : ranges_ok ts ≡ true
  pub references : references_ok ts ≡ true
  pub depths : depths_fit (rows_at ts tracks) ≡ true
  pub routes : routes_fit (rows_at ts routes) ≡ true
  pub placings : placings_fit (rows_at ts placings) ≡ true
  pub house_sounds : sounds_fit (rows_at ts sounds) from_house samples.house ≡ true
  pub visitor_sounds : sounds_fit (rows_at ts sounds) from_visitor samples.visitor ≡ true
  pub house_inside : samples_ok samples.house ≡ true
  pub visitor_inside : samples_ok samples.visitor ≡ true
  pub long : eqb output (output_length ts) ≡ true

-- all ten, of the file
pub record FilePasses (file : List ℕ) (samples : Recordings) (output : ℕ) : Type 0 where
  pub size : size_ok file ≡ true
  pub spelled : spelled_ok file ≡ true
  pub tables : TablesPass (tables_of file) samples output

pub tables_pass : (ts : Tables) (samples : Recordings) (output : ℕ) → first_no (table_questions ts samples ++ ((10, eqb output (output_length ts)) ∷ [])) ≡ 0
    → TablesPass ts samples output
unfolding table_questions numbered
tables_pass ts samples output e =
    let yes : (i : ℕ) → (question_at (table_questions ts samples ++ ((10, eqb output (output_length ts)) ∷ [])) i).1 ≡ true =
    yes_at (table_questions ts samples ++ ((10, eqb output (output_length ts)) ∷ [])) refl e in
    record {
      lines = yes 0;
      ranges = yes 1;
      references = yes 2;
      depths = yes 3;
      routes = yes 4;
      placings = yes 5;
      house_sounds = yes 6;
      visitor_sounds = yes 7;
      house_inside = yes 8;
      visitor_inside = yes 9;
      long = yes 10;
    }

pub file_passes : (file : List ℕ) (samples : Recordings) (output : ℕ) → answer file samples output ≡ 0 → FilePasses file samples output
unfolding answer input_questions table_questions numbered first_no
file_passes file samples output e =
    let ten = input_questions file samples ++ ((10, eqb output (output_length (tables_of file))) ∷ []) in
    let yes : (i : ℕ) → (question_at ten i).1 ≡ true = yes_at ten refl e in
    record { size = yes 0; spelled = yes 1; tables = tables_pass (tables_of file) samples output (sym (rw (yes 0, yes 1)) ∙ e) }
