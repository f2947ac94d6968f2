-- The parts of a layout that many nodes share.
use Rattle.std.proofs.Common.{ℕ, Bool, true, false, ◌&&◌, ◌==◌, not, if◌then◌else◌, List, Option, Some, None, codes, refl}
use Rattle.std.specs.Str.{IsUtf8, IsAscii}
use Rattle.base_number.specs.Numbers.{SpecNumber, number_digits}
use Rattle.base_token.specs.declared.place.Span.{Span}
use Rattle.base_token.specs.Words.{own_text}
use Rattle.tree_spec.specs.Tree.{Tree, Trees, none, more, plain_method, tpl_element}
use Rattle.print_gaps.specs.Edges.{starts_with_word}
use Rattle.print_spelling.specs.String.CodePoints.{AreUnits}
use Rattle.print_layout_spec.specs.declared.look.Look.{Look}
use Rattle.print_layout_spec.specs.declared.look.Stand.{Stand}
use Rattle.print_layout_spec.specs.Looks.{Laid, meant, refused, template_end, ◌·◌, when, semi, end, gap_or}
use Rattle.print_layout_spec.specs.Literals.{name, identifier, key_word, hash_name, string, number, big_integer}
use Rattle.print_layout_spec.specs.Layout.{word, comma, comma_line, in_parens, indented, indented_or_line, closing, hashbang, from, attributes, initial, field_value, function_tail, method_marks, after_static, class_head, class_tail, point_before, number_before, as_expression, quasi, in_braces, imports, exports, is_tagged, optional_dot, new_target, import_meta, is_variables}
use Rattle.again_laws.proofs.tokens.Ascii.{ascii}
use Rattle.again_laws.specs.Derived.Redo.{Mode}
use Rattle.again_laws.specs.Derived.Every.{every}
use Rattle.again_laws.specs.Text.Texts.{IsUtf8If, HasText}
use Rattle.again_laws.proofs.text.LayoutUtf8.{Textual, ok, ◌▸◌, piece, given, when_text, if_text, maybe}
use Rattle.again_laws.proofs.text.NumberUtf8.{number_utf8, member_utf8, big_utf8}
use Rattle.again_laws.proofs.text.TextUtf8.{name_utf8, key_utf8, string_utf8, quasi_utf8, own_utf8}

pub in_parens_text : {f : Laid} → Textual f → Textual (in_parens f)
in_parens_text x = ok refl ▸ x ▸ ok refl

pub hashbang_text : (line : Option (List ℕ)) → IsUtf8If line → Textual (hashbang line)
hashbang_text None u = ok refl
hashbang_text (Some said) u = record { so = (((ascii (codes "#!") refl).utf8, (u, tt)), tt) }

pub marks_text : (waits generates : Bool) → Textual (method_marks waits generates)
marks_text waits generates = when_text _ (piece refl ▸ piece refl) ▸ maybe _ _ refl

pub point_before_text : (prop : Tree) → Textual (point_before prop)
point_before_text prop = maybe _ _ refl

pub optional_dot_text : Textual optional_dot
optional_dot_text = ok refl

pub new_target_text : Textual new_target
new_target_text = ok refl

pub import_meta_text : Textual import_meta
import_meta_text = ok refl

pub back_quote_text : Textual (meant (template_end (codes "`")))
back_quote_text = ok refl

pub refused_text : Textual refused
refused_text = ok refl

pub optional_point_text : (optional : Bool) (prop : Tree) → Textual (if optional then optional_dot else point_before prop)
optional_point_text optional prop = if_text optional optional_dot_text (point_before_text prop)

-- behind an exported declaration
pub exported_text : (span : Span) (decl : Tree) → Textual (when (is_variables decl) (semi · end span))
exported_text span decl = when_text _ (piece refl ▸ piece refl)

pub as_expression_text : (s : Stand) (span : Span) → Textual (as_expression s span)
as_expression_text s span = maybe _ _ refl

module _ (look : Look) where
  pub comma_text : Textual (comma look)
  comma_text = ok refl ▸ maybe _ _ refl

  pub comma_line_text : Textual (comma_line look)
  comma_line_text = ok refl ▸ maybe _ _ refl

  pub closing_text : (t : Tree) → Textual (closing look t)
  unfolding closing
  closing_text t = when_text _ (maybe _ _ refl ▸ maybe _ _ refl)

  pub from_text : {f : Laid} → Textual f → Textual (from look f)
  from_text x = ok refl ▸ maybe _ _ refl ▸ x

  assert_text : (b : Bool) → Textual (word (if b then codes "assert" else codes "with"))
  assert_text true = ok refl
  assert_text false = ok refl

  pub attributes_text : {f : Laid} (t : Tree) → Textual f → Textual (attributes look t f)
  attributes_text t x = when_text _ (maybe _ _ refl ▸ assert_text look.asserts ▸ maybe _ _ refl ▸ x)

  pub initial_text : {f : Laid} (t : Tree) → Textual f → Textual (initial look t f)
  initial_text t x = when_text _ (maybe _ _ refl ▸ piece refl ▸ maybe _ _ refl ▸ x)

  pub field_value_text : {f : Laid} (t : Tree) → Textual f → Textual (field_value look t f)
  field_value_text t x = initial_text t (if_text _ (in_parens_text x) x)

  pub function_tail_text : {f g : Laid} → Textual f → Textual g → Textual (function_tail look f g)
  function_tail_text x y = in_parens_text x ▸ maybe _ _ refl ▸ y

  pub indented_text : {f : Laid} (ts : Trees) → Textual f → Textual (indented look ts f)
  indented_text none x = ok refl
  indented_text (more t ts) x = maybe _ _ refl ▸ maybe _ _ refl ▸ x ▸ maybe _ _ refl ▸ maybe _ _ refl

  pub indented_or_line_text : {f : Laid} (ts : Trees) → Textual f → Textual (indented_or_line look ts f)
  indented_or_line_text none x = maybe _ _ refl
  indented_or_line_text (more t ts) x = maybe _ _ refl ▸ maybe _ _ refl ▸ x ▸ maybe _ _ refl ▸ maybe _ _ refl

  pub after_static_text : (kind : ℕ) (generates waits : Bool) (key : Tree) → Textual (after_static look kind generates waits key)
  after_static_text kind generates waits key = if_text (kind == plain_method && not waits) (if_text generates (maybe _ _ refl) (maybe _ _ refl)) (piece refl)

  pub method_start_text : (kind : ℕ) (generates waits : Bool) (key : Tree) → Textual (if kind == plain_method then method_marks waits generates else word (own_text kind) · gap_or look (starts_with_word key))
  method_start_text kind generates waits key = if_text (kind == plain_method) (marks_text waits generates) (given (own_utf8 kind) ▸ maybe _ _ refl)

  pub class_head_text : {f g : Laid} (id parent : Tree) → Textual f → Textual g → Textual (class_head look id f parent g)
  class_head_text id parent x y = ok refl ▸ when_text _ (piece refl ▸ x) ▸ when_text _ (piece refl ▸ piece refl ▸ maybe _ _ refl ▸ y)

  pub class_tail_text : {f : Laid} (span : Span) (members : Trees) → Textual f → Textual (class_tail look span members f)
  class_tail_text span members x = maybe _ _ refl ▸ ok refl ▸ indented_or_line_text members x ▸ ok refl

  pub in_braces_text : {f : Laid} → Textual f → Textual (in_braces look f)
  in_braces_text x = ok refl ▸ maybe _ _ refl ▸ x ▸ maybe _ _ refl ▸ ok refl

  pub imports_text : {f g : Laid} (ts : Trees) → Textual f → Textual g → Textual (imports look ts f g)
  imports_text none x y = ok refl
  imports_text (more t ts) x y = x ▸ if_text _ (when_text _ comma_text ▸ in_braces_text y ▸ maybe _ _ refl) (piece refl) ▸ ok refl ▸ maybe _ _ refl

  pub exports_text : {f : Laid} (ts : Trees) → Textual f → Textual (exports look ts f)
  exports_text ts x = when_text _ (when_text _ comma_text ▸ if_text _ (in_braces_text x) (piece refl ▸ maybe _ _ refl ▸ piece refl))

  -- ---- names and literals

  pub name_text : (span : Span) (sym : List ℕ) → IsUtf8 sym → Textual (name look span sym)
  name_text span sym u = ok refl ▸ ok refl ▸ given (name_utf8 look.style sym u)

  pub identifier_text : (span : Span) (sym : List ℕ) → IsUtf8 sym → Textual (identifier look span sym)
  identifier_text span sym u = record { so = name_utf8 look.style sym u }

  pub key_word_text : (span : Span) (sym : List ℕ) → IsUtf8 sym → Textual (key_word look span sym)
  key_word_text span sym u = ok refl ▸ ok refl ▸ given (key_utf8 look.style sym u)

  pub hash_name_text : (span : Span) (sym : List ℕ) → IsUtf8 sym → Textual (hash_name look span sym)
  hash_name_text span sym u = ok refl ▸ ok refl ▸ name_text span sym u ▸ ok refl

  pub string_text : (span : Span) (units : List ℕ) (raw : Option (List ℕ)) → AreUnits units × IsUtf8If raw → Textual (string look span units raw)
  string_text span units raw u = ok refl ▸ ok refl ▸ given (string_utf8 look.style units raw u.0 u.1) ▸ maybe _ _ refl

  pub number_text : (span : Span) (value : SpecNumber) (raw : Option (List ℕ)) → IsAscii (number_digits value) × IsUtf8If raw → Textual (number look span value raw)
  number_text span value raw u = ok refl ▸ ok refl ▸ given (number_utf8 look.style value raw u.0 u.1)

  pub number_before_text : (span : Span) (value : SpecNumber) (raw : Option (List ℕ)) (prop : Tree) → IsAscii (number_digits value) × IsUtf8If raw → Textual (number_before look span value raw prop)
  number_before_text span value raw prop u =
      ok refl ▸ if_text _ (number_text span value raw u) (piece refl ▸ piece refl ▸ given (member_utf8 _ (number_utf8 look.style value raw u.0 u.1)))

  pub big_integer_text : (span : Span) (radix : ℕ) (digits : List ℕ) (raw : Option (List ℕ)) → IsUtf8 digits × IsUtf8If raw → Textual (big_integer look span radix digits raw)
  big_integer_text span radix digits raw u = ok refl ▸ ok refl ▸ given (big_utf8 look.style radix digits raw u.0 u.1) ▸ ok refl

  pub quasi_text : (s : Stand) (mode : Mode) (t : Tree) → every HasText mode t → Textual (quasi look s t)
  quasi_text s mode (tpl_element span is_last raw cooked) h = ok refl ▸ record { so = (quasi_utf8 look.style (is_tagged s) raw h, tt) } ▸ ok refl
  quasi_text s mode _ h = ok refl
