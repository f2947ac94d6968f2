-- Names as words (12.7).
use Rattle.std.specs.Prelude.{ℕ, Bool, ◌&&◌, List, string_bytes}
use Rattle.base_token.specs.declared.context.Context.{Context}
use Rattle.base_token.specs.Reserved.{is_reserved_in}
use Rattle.lex_pieces.specs.declared.names.Name.{Name}
use Rattle.lex_pieces.specs.declared.names.Name.TheVariants.{Bare, Escaped}

-- the bytes of a name without its escapes (12.7.1, StringValue)
abbrev pub name_bytes : Name → List ℕ
name_bytes (Bare own) = own.now
name_bytes (Escaped own) = string_bytes own

-- Whether a word of this text, with an escape or not, is a reserved word with an escape (12.7.2, 13.1.1): it stands only where any name may, reserved or not.
abbrev pub is_escaped_reserved : Context → List ℕ → Bool → Bool
is_escaped_reserved context text escaped = escaped && is_reserved_in context text
