-- How regular expressions are written: as they were read (ECMA-262, 12.9.5).
use Rattle.std.specs.Prelude.{ℕ, List, ◌∷◌, ◌++◌}
use Rattle.lex_pieces.specs.Characters.{is_name_part}
use Rattle.lex_pieces.specs.RegExps.{IsRegExp}
use Rattle.lex_pieces.specs.Runs.{Ends}

-- a regular expression, by its body and its flags, before a text
abbrev pub reg_exp_text : List ℕ → List ℕ → List ℕ → List ℕ
reg_exp_text body flags m = 47 ∷ body ++ 47 ∷ (flags ++ m)

-- It is read as its body and flags, before whatever goes on no name.
abbrev pub RegExpIsRead : Type 0
RegExpIsRead = (text body flags before rest : List ℕ) → IsRegExp text body flags before → Ends is_name_part rest
    → IsRegExp (reg_exp_text body flags rest) body flags rest
