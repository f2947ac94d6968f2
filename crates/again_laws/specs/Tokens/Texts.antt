-- The texts of punctuators and words, by the kinds of their tokens (ECMA-262, 12.7.2 and 12.8).
use Rattle.std.specs.Prelude.{ℕ, Bool, ◌||◌, List, [], ◌∷◌, codes, bytes_eq}
use Rattle.base_token.specs.Kinds.{hash_kind, mul_kind, right_brace_kind, arrow_kind, dot_kind, dot_dot_dot_kind, left_paren_kind, right_paren_kind, left_bracket_kind, right_bracket_kind, left_brace_kind, semicolon_kind, comma_kind, colon_kind, question_mark_kind, assign_kind, at_kind, back_quote_kind, dollar_brace_kind}
use Rattle.base_token.specs.Words.{own_words, text_among}

-- punctuators that are no operator of an expression, and those that stand elsewhere as well
abbrev pub punctuators : List (ℕ × List ℕ)
punctuators =
    (arrow_kind, codes "=>") ∷
    (dot_kind, codes ".") ∷
    (dot_dot_dot_kind, codes "...") ∷
    (left_paren_kind, codes "(") ∷
    (right_paren_kind, codes ")") ∷
    (left_bracket_kind, codes "[") ∷
    (right_bracket_kind, codes "]") ∷
    (left_brace_kind, codes "{") ∷
    (right_brace_kind, codes "}") ∷
    (semicolon_kind, codes ";") ∷
    (comma_kind, codes ",") ∷
    (colon_kind, codes ":") ∷
    (question_mark_kind, codes "?") ∷
    (assign_kind, codes "=") ∷
    (back_quote_kind, codes "`") ∷
    (hash_kind, codes "#") ∷
    (at_kind, codes "@") ∷
    (mul_kind, codes "*") ∷
    []

abbrev pub mark_text : ℕ → List ℕ
mark_text k = text_among punctuators k

-- what ends the characters of a template (12.9.6)
abbrev pub endings : List (ℕ × List ℕ)
endings = (back_quote_kind, codes "`") ∷ (dollar_brace_kind, codes "${") ∷ []

abbrev pub ending_text : ℕ → List ℕ
ending_text k = text_among endings k

-- words with a kind of their own
abbrev pub word_text : ℕ → List ℕ
word_text k = text_among own_words k

-- `use strict` without an escape (11.2.1)
abbrev pub is_strict_text : List ℕ → Bool
is_strict_text own = bytes_eq own (codes "\"use strict\"") || bytes_eq own (codes "'use strict'")
