-- The kinds of punctuators.
use Rattle.std.specs.Prelude.{Bool, true, false}
use Rattle.base_token.specs.declared.token.TokenKind.{TokenKind}
use Rattle.base_token.specs.declared.token.TokenKind.TheVariants as kind

-- whether a token of the kind holds nothing besides its kind and is no `${`
abbrev pub is_mark : TokenKind → Bool
is_mark (kind.Word word) = false
is_mark kind.Template = false
is_mark kind.Str = false
is_mark kind.Regex = false
is_mark kind.Num = false
is_mark kind.BigInt = false
is_mark kind.Shebang = false
is_mark kind.Error = false
is_mark kind.DollarLBrace = false
is_mark _ = true
