-- Rows of facts: a program's text, and its faults of names: the kind of each and where it begins.
use Rattle.std.proofs.Common.{ℕ, true, false, List, [], ◌∷◌, Result, Ok, Err}
use Rattle.std.specs.Str.{chars}
use Rattle.tree_spec.specs.Tree.{Tree}
use Rattle.grammar_spec.specs.Reader.Source.{Fault}
use Rattle.grammar_spec.proofs.reader.Rows.{Row, read_text, plain_syntax, full_syntax, opened}
use Rattle.judge_names_spec.specs.Faults.{FaultKind, NameFault, row}
use Rattle.judge_names_spec.specs.Walk.{name_faults, name_faults_in}

-- each by its row in the table, and where it begins
abbrev pub told : List NameFault → List ℕ
told [] = []
told (e ∷ es) = row e.kind ∷ e.place.lo.0 ∷ told es

abbrev pub told_of : Result Tree Fault → List ℕ
told_of (Ok t) = told (name_faults t)
told_of (Err f) = 0 ∷ []

abbrev pub wanted_of : List (FaultKind × ℕ) → List ℕ
wanted_of [] = []
wanted_of (f ∷ fs) = row f.0 ∷ f.1 ∷ wanted_of fs

-- a script, a module, and its faults; one without
unfoldable pub script_has : List ℕ → List (FaultKind × ℕ) → Row
script_has text faults = record { text = text; got = told_of (read_text false plain_syntax text); wanted = wanted_of faults }

unfoldable pub module_has : List ℕ → List (FaultKind × ℕ) → Row
module_has text faults = record { text = text; got = told_of (read_text true full_syntax text); wanted = wanted_of faults }

unfoldable pub good_script : List ℕ → Row
good_script text = record { text = text; got = told_of (read_text false plain_syntax text); wanted = [] }

unfoldable pub good_module : List ℕ → Row
good_module text = record { text = text; got = told_of (read_text true full_syntax text); wanted = [] }

unfoldable pub opened_rows : ℕ
unfolding opened chars script_has module_has good_script good_module name_faults name_faults_in
opened_rows = 0
