-- Rows of facts: a program's text, what its names stand for, and which words keep their meaning.
use Rattle.std.proofs.Common.{ℕ, ◌+◌, true, false, List, [], ◌∷◌, ◌++◌, Result, Ok, Err, codes}
use Rattle.tree_spec.specs.Tree.{Tree}
use Rattle.grammar_spec.specs.Reader.Source.{Fault}
use Rattle.grammar_spec.proofs.reader.Rows.{Row, read_text, plain_syntax, full_syntax, opened}
use Rattle.judge_scopes_spec.specs.Scopes.{Binder, free, binder, no_variable, Told, stands, keep, told, kept_words}

-- `free`, `none`, or two figures: a depth and an index
abbrev pub binder_text : Binder → List ℕ
binder_text free = codes "free"
binder_text (binder depth index) = (depth + 48) ∷ 46 ∷ (index + 48) ∷ []
binder_text no_variable = codes "none"

-- two texts, with a blank between them where the second has something
abbrev pub spaced : List ℕ → List ℕ → List ℕ
spaced a [] = a
spaced a (c ∷ cs) = a ++ 32 ∷ c ∷ cs

-- names, each with what it stands for: `x:0.1 y:free`
abbrev pub names_text : List Told → List ℕ
names_text [] = []
names_text (stands i b ∷ ts) = spaced (i.sym ++ 58 ∷ binder_text b) (names_text ts)
names_text (keep n ∷ ts) = names_text ts

abbrev pub words_text : List (List ℕ) → List ℕ
words_text [] = []
words_text (w ∷ ws) = spaced w (words_text ws)

abbrev pub names_in : Result Tree Fault → List ℕ
names_in (Ok t) = names_text (told t)
names_in (Err f) = codes "no program"

abbrev pub words_in : Result Tree Fault → List ℕ
words_in (Ok t) = words_text (kept_words t)
words_in (Err f) = codes "no program"

-- a script, a module: what its names stand for
unfoldable pub script_names : List ℕ → List ℕ → Row
script_names text wanted = record { text = text; got = names_in (read_text false plain_syntax text); wanted = wanted }

unfoldable pub module_names : List ℕ → List ℕ → Row
module_names text wanted = record { text = text; got = names_in (read_text true full_syntax text); wanted = wanted }

-- the words that keep their meaning
unfoldable pub script_words : List ℕ → List ℕ → Row
script_words text wanted = record { text = text; got = words_in (read_text false plain_syntax text); wanted = wanted }

unfoldable pub module_words : List ℕ → List ℕ → Row
module_words text wanted = record { text = text; got = words_in (read_text true full_syntax text); wanted = wanted }

unfoldable pub opened_rows : ℕ
unfolding opened script_names module_names script_words module_words
opened_rows = 0
