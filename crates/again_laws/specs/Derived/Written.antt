-- What the text written of a tree spells: its raw texts and keys, and the arguments of `new`.
use Rattle.std.specs.Prelude.{ℕ, Bool, true, false, ◌||◌, if◌then◌else◌, List, Some, codes, bytes_eq}
use Rattle.std.specs.Str.{chars}
use Rattle.base_token.specs.Utf16.{utf16}
use Rattle.base_token.specs.declared.place.Span.{Span}
use Rattle.tree_spec.specs.Places.{no_place}
use Rattle.tree_spec.specs.Tree.{Tree, none, ident_name, str_lit, list, absent}
use Rattle.print_spelling.specs.declared.style.Style.{Style}
use Rattle.print_spelling.specs.String.Names.{is_quoted_key}
use Rattle.print_spelling.specs.Number.Numbers.{before_member}
use Rattle.print_layout_spec.specs.declared.look.Look.{Look}
use Rattle.print_layout_spec.specs.declared.look.Stand.{Stand}
use Rattle.print_layout_spec.specs.declared.look.Stand.TheVariants.{Head, Tagged}
use Rattle.print_layout_spec.specs.Looks.{formats}
use Rattle.print_layout_spec.specs.Literals.{key_bytes, string_bytes, number_bytes, big_bytes, quasi_bytes}
use Rattle.again_laws.specs.Derived.Redo.{Mode, Plain, Headed, Raw, Leaves, nowhere}

-- the place that a stand of the layout is
abbrev pub mode_of : Stand → Mode
mode_of Head = Headed
mode_of Tagged = Raw
mode_of _ = Plain

-- the arguments of `new` without any: parentheses are written, or not
abbrev pub given_none : Bool → Tree
given_none true = list none
given_none false = absent

-- the arguments of `new`: formatted, and at a head, it has parentheses
abbrev pub new_arguments : Look → Bool → Tree → Tree
new_arguments look head absent = given_none (formats look || head)
new_arguments look head (list none) = given_none (formats look || head)
new_arguments look head args = args

-- a word of these characters as a key: the word, or in ASCII alone a string of its units
abbrev pub word_key : Style → List ℕ → Tree
word_key style sym = if is_quoted_key style (chars sym) then str_lit no_place (utf16 (chars sym)) (Some (key_bytes style sym)) else ident_name no_place sym

abbrev pub written_key : Style → Tree → Tree
written_key style (ident_name span sym) = word_key style sym
written_key style t = t

-- the key of the constructor: the word, also where it was a string
abbrev pub constructor_word : Bool → Tree → Tree
constructor_word true t = ident_name no_place (codes "constructor")
constructor_word false t = t

abbrev pub written_constructor_key : Tree → Tree
written_constructor_key (str_lit span units raw) = constructor_word (bytes_eq units (codes "constructor")) (str_lit span units raw)
written_constructor_key t = t

-- What the text written in a look spells, with the places of names that were read and of those that are written kept as these.
abbrev pub leaves_by : Look → (ℕ → Span) → (ℕ → Span) → Leaves
leaves_by look read written = record {
  string = λ units raw. Some (string_bytes look.style units raw);
  number = λ before value raw. Some (if before then before_member (number_bytes look.style value raw) else number_bytes look.style value raw);
  big = λ radix digits raw. Some (big_bytes look.style radix digits raw);
  quasi = λ tagged raw. quasi_bytes look.style tagged raw;
  arguments = λ head args. new_arguments look head args;
  key = λ t. written_key look.style t;
  constructor_key = λ t. written_constructor_key t;
  read = read;
  written = written;
}

abbrev pub leaves_of : Look → Leaves
leaves_of look = leaves_by look nowhere nowhere
