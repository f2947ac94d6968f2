-- Members of classes as they are made, and the parts of their reading functions that have a function of their own.
use Rattle.std.specs.Prelude.{ℕ, Bool, not, ◌&&◌, if◌then◌else◌, List, [], Ok}
use Rattle.base_token.specs.Kinds.{get_kind, set_kind, accessor_kind}
use Rattle.base_token.specs.declared.place.Span.{Span}
use Rattle.tree_spec.specs.Tree.{Tree, none, plain_method, class_method, private_method, class_prop, private_prop, constructor, function}
use Rattle.grammar_spec.specs.Tokens.Input.{Code, kind2, brk2}
use Rattle.grammar_spec.specs.Tokens.Operators.{starts_key}
use Rattle.grammar_spec.specs.Tokens.Shape.{is_private, constructs}
use Rattle.grammar_spec.specs.Reader.Source.{◌>>=◌, Stream, State, Read, Inner, input, bound, spanned, at, iterate}
use Rattle.grammar_spec.specs.Reader.Statements.{field_value, class_getter, class_setter, accessor_by, field_or_method, member_step}

-- a method, by whether its key is a private name (15.7)
abbrev pub method_of : Span → Tree → Tree → ℕ → Bool → Tree
method_of s k f kind_ is_static = if is_private k then private_method s k f kind_ is_static else class_method s k f kind_ is_static

-- the constructor that a function makes (15.7)
abbrev pub constructor_from : Span → Tree → Tree → Tree
constructor_from s k (function t ps ds b g a) = constructor s k ps b
constructor_from s k f = f

-- a method, or a constructor where it may be one by its key and stands where one may
abbrev pub plain_method_of : Span → Tree → Tree → Bool → Bool → Tree
plain_method_of s k f is_static may_construct = if constructs k && may_construct then constructor_from s k f else method_of s k f plain_method is_static

-- a field, by whether its key is a private name (15.7)
abbrev pub field_of : Span → Tree → Tree → Bool → Tree
field_of s k v is_static = if is_private k then private_prop s k v is_static none else class_prop s k v is_static none

module _ {S : Type 0} (m : Stream S) (inner : Inner S) where
  -- a field, after its key, which ends so where it has no value (15.7)
  unfoldable pub field_by : Code → ℕ → Bool → ℕ → Tree → Read S Tree
  field_by c start is_static e k s = field_value m inner c e s >>= λ v.
      if is_private k then Ok (private_prop (spanned m start v.1) k v.0 is_static none, v.1) else Ok (class_prop (spanned m start v.1) k v.0 is_static none, v.1)

  -- `accessor` before a key on its line
  abbrev pub starts_accessor : Code → State S → Bool
  starts_accessor c s = c.syntax.auto_accessors && (at m accessor_kind s && (starts_key (kind2 (input m s)) && not (brk2 (input m s))))

  -- a member that is no generator, no `async` method, no getter and no setter
  abbrev pub last_member : Code → ℕ → Bool → Read S Tree
  last_member c start is_static s = if starts_accessor c s then accessor_by m inner c start is_static s else field_or_method m inner c start is_static s

  -- a word before a key
  abbrev pub before_key : ℕ → State S → Bool
  before_key k s = at m k s && starts_key (kind2 (input m s))

  -- a member that is no generator and no `async` method
  abbrev pub word_member : Code → ℕ → Bool → Read S Tree
  word_member c start is_static s =
      if before_key get_kind s then class_getter m inner c start is_static s
      else (if before_key set_kind s then class_setter m inner c start is_static s
      else last_member c start is_static s)

  -- the members of a class, after their brace (15.7)
  unfoldable pub member_list : Code → Read S (List Tree)
  member_list c s = iterate (bound m) (member_step m inner c) [] s
