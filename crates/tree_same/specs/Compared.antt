-- Whether parts say the same whose place decides what counts.
use Rattle.std.specs.Prelude.{Bool, false, not, ◌&&◌, codes, bytes_eq}
use Rattle.tree_spec.specs.Tree.{Tree, Trees, str_lit}
use Rattle.tree_program_spec.specs.Program.{program, property_key, arguments, texts, is_escaped}
use Rattle.tree_program_spec.specs.Equal.{equal, equal_all}

-- whether two keys of properties say the same (13.2.5): a word is the string of its text
unfoldable pub same_keys : Tree → Tree → Bool
same_keys t u = equal (property_key (program t)) (property_key (program u))

-- whether the arguments of two `new` say the same (13.3.5): none at all are an empty list
unfoldable pub same_arguments : Tree → Tree → Bool
same_arguments t u = equal (arguments (program t)) (arguments (program u))

-- whether the texts of two tagged templates say the same (13.2.8.4): what counts is their spelling
unfoldable pub same_spellings : Trees → Trees → Bool
same_spellings ts us = equal_all (texts ts) (texts us)

-- whether an expression as a statement is `use strict` without an escape (11.2.1)
abbrev pub is_use_strict : Tree → Bool
is_use_strict (str_lit span units raw) = bytes_eq units (codes "use strict") && not (is_escaped raw)
is_use_strict t = false
