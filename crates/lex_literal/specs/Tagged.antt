-- Tagged templates stand as they were read (ECMA-262, 12.9.6).
use Rattle.std.specs.Prelude.{ℕ, List, Option, ◌++◌}
use Rattle.lex_literal.specs.declared.template.Ending.{Ending}
use Rattle.lex_literal.specs.Templates.{Ends, SpellsPiece}

-- A raw text is read as the same piece, whichever end it has and whatever follows that.
abbrev pub TaggedIsRead : Type 0
TaggedIsRead = (raw before behind : List ℕ) (units : Option (List ℕ)) (e : Ending) → SpellsPiece raw units e before behind
    → (f : Ending) (after rest : List ℕ) → Ends f after rest → SpellsPiece raw units f (raw ++ after) rest
