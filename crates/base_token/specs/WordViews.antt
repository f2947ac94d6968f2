-- What contracts see of a word of the code: its token.
use Rattle.std.specs.Prelude.{ℕ}
use Rattle.std.specs.Cow.{cow_str_bytes}
use Rattle.base_token.specs.Kinds.{null_kind, true_kind, false_kind, name_kind}
use Rattle.base_token.specs.Words.{SpecWord, own_word, plain_name}
use Rattle.base_token.specs.WordKinds.{keyword_kind, known_kind}
use Rattle.base_token.specs.declared.word.IdentLike.{IdentLike}
use Rattle.base_token.specs.declared.word.IdentLike.TheVariants.{Known, Other}
use Rattle.base_token.specs.declared.word.IdentKind.{IdentKind}
use Rattle.base_token.specs.declared.word.IdentKind.TheVariants.{Known as KnownKind, Other as OtherKind}
use Rattle.base_token.specs.declared.word.Word.{Word}
use Rattle.base_token.specs.declared.word.Word.TheVariants.{Keyword, Null, True, False, Ident}
use Rattle.base_token.specs.declared.word.WordKind.{WordKind}
use Rattle.base_token.specs.declared.word.WordKind.TheVariants.{Keyword as KeywordKind, Null as NullKind, True as TrueKind, False as FalseKind, Ident as NameKind}

-- a name's token
abbrev pub name_view : IdentLike → SpecWord
name_view (Known known) = own_word (known_kind known)
name_view (Other text) = plain_name (cow_str_bytes text)

-- a word's token
abbrev pub word_view : Word → SpecWord
word_view (Keyword keyword) = own_word (keyword_kind keyword)
word_view Null = own_word null_kind
word_view True = own_word true_kind
word_view False = own_word false_kind
word_view (Ident name) = name_view name

-- the kind of a name without its text
abbrev pub name_kind_number : IdentKind → ℕ
name_kind_number (KnownKind known) = known_kind known
name_kind_number OtherKind = name_kind

-- the kind of a word without its text
abbrev pub word_kind_number : WordKind → ℕ
word_kind_number (KeywordKind keyword) = keyword_kind keyword
word_kind_number NullKind = null_kind
word_kind_number TrueKind = true_kind
word_kind_number FalseKind = false_kind
word_kind_number (NameKind name) = name_kind_number name
