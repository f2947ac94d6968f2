-- What contracts see of a token of the code.
use Rattle.std.specs.Prelude.{ℕ, Option, Some, None, Result, Ok, Err, List}
use Rattle.std.specs.Cow.{cow_str_bytes}
use Rattle.base_token.specs.Kinds.{arrow_kind, hash_kind, at_kind, dot_kind, dot_dot_dot_kind, bang_kind, left_paren_kind, right_paren_kind, left_bracket_kind, right_bracket_kind, left_brace_kind, right_brace_kind, semicolon_kind, comma_kind, back_quote_kind, template_kind, colon_kind, dollar_brace_kind, question_mark_kind, plus_plus_kind, minus_minus_kind, tilde_kind, str_kind, regex_kind, num_kind, big_int_kind, shebang_kind, error_kind}
use Rattle.base_token.specs.Tokens.{SpecToken, Spot, bare, word_token, Quoted, Piece, Pattern, Numeral, BigNumeral, Line, Faulty}
use Rattle.base_token.specs.OperatorKinds.{bin_op_kind, assign_op_kind}
use Rattle.base_token.specs.WordViews.{word_view, word_kind_number}
use Rattle.base_token.specs.declared.token.Token.{Token}
use Rattle.base_token.specs.declared.token.Token.TheVariants as token
use Rattle.base_token.specs.declared.token.TokenKind.{TokenKind}
use Rattle.base_token.specs.declared.token.TokenKind.TheVariants as kind
use Rattle.base_token.specs.declared.token.TokenAndSpan.{TokenAndSpan}

-- the kind of a token without what it spells
abbrev pub token_kind_number : TokenKind → ℕ
token_kind_number (kind.Word word) = word_kind_number word
token_kind_number kind.Arrow = arrow_kind
token_kind_number kind.Hash = hash_kind
token_kind_number kind.At = at_kind
token_kind_number kind.Dot = dot_kind
token_kind_number kind.DotDotDot = dot_dot_dot_kind
token_kind_number kind.Bang = bang_kind
token_kind_number kind.LParen = left_paren_kind
token_kind_number kind.RParen = right_paren_kind
token_kind_number kind.LBracket = left_bracket_kind
token_kind_number kind.RBracket = right_bracket_kind
token_kind_number kind.LBrace = left_brace_kind
token_kind_number kind.RBrace = right_brace_kind
token_kind_number kind.Semi = semicolon_kind
token_kind_number kind.Comma = comma_kind
token_kind_number kind.BackQuote = back_quote_kind
token_kind_number kind.Template = template_kind
token_kind_number kind.Colon = colon_kind
token_kind_number (kind.BinOp op) = bin_op_kind op
token_kind_number (kind.AssignOp op) = assign_op_kind op
token_kind_number kind.DollarLBrace = dollar_brace_kind
token_kind_number kind.QuestionMark = question_mark_kind
token_kind_number kind.PlusPlus = plus_plus_kind
token_kind_number kind.MinusMinus = minus_minus_kind
token_kind_number kind.Tilde = tilde_kind
token_kind_number kind.Str = str_kind
token_kind_number kind.Regex = regex_kind
token_kind_number kind.Num = num_kind
token_kind_number kind.BigInt = big_int_kind
token_kind_number kind.Shebang = shebang_kind
token_kind_number kind.Error = error_kind

-- the units of a piece of a template, where no escape is bad
abbrev pub cooked_units : {E : Type 0} → Result (List ℕ) E → Option (List ℕ)
cooked_units (Ok units) = Some units
cooked_units (Err e) = None

-- a token
abbrev pub token_view : Token → SpecToken
token_view (token.Word word) = word_token (word_view word)
token_view token.Arrow = bare arrow_kind
token_view token.Hash = bare hash_kind
token_view token.At = bare at_kind
token_view token.Dot = bare dot_kind
token_view token.DotDotDot = bare dot_dot_dot_kind
token_view token.Bang = bare bang_kind
token_view token.LParen = bare left_paren_kind
token_view token.RParen = bare right_paren_kind
token_view token.LBracket = bare left_bracket_kind
token_view token.RBracket = bare right_bracket_kind
token_view token.LBrace = bare left_brace_kind
token_view token.RBrace = bare right_brace_kind
token_view token.Semi = bare semicolon_kind
token_view token.Comma = bare comma_kind
token_view token.BackQuote = bare back_quote_kind
token_view (token.Template raw cooked) = record { kind = template_kind; content = Piece raw.now (cooked_units cooked) }
token_view token.Colon = bare colon_kind
token_view (token.BinOp op) = bare (bin_op_kind op)
token_view (token.AssignOp op) = bare (assign_op_kind op)
token_view token.DollarLBrace = bare dollar_brace_kind
token_view token.QuestionMark = bare question_mark_kind
token_view token.PlusPlus = bare plus_plus_kind
token_view token.MinusMinus = bare minus_minus_kind
token_view token.Tilde = bare tilde_kind
token_view (token.Str units raw) = record { kind = str_kind; content = Quoted units raw.now }
token_view (token.Regex exp flags) = record { kind = regex_kind; content = Pattern exp.now flags.now }
token_view (token.Num value raw) = record { kind = num_kind; content = Numeral value raw.now }
token_view (token.BigInt radix digits raw) = record { kind = big_int_kind; content = BigNumeral radix (cow_str_bytes digits) raw.now }
token_view (token.Shebang text) = record { kind = shebang_kind; content = Line text.now }
token_view (token.Error error) = record { kind = error_kind; content = Faulty error }

-- a token in its text
abbrev pub spot_view : TokenAndSpan → Spot
spot_view t = record { token = token_view t.token; line_break = t.had_line_break; lo = t.span.lo.0; hi = t.span.hi.0 }
