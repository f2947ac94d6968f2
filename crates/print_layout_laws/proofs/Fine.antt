-- A layout in which nothing is refused, and the parts that many nodes share.
use Rattle.std.proofs.Common.{◌≡◌, ℕ, Bool, true, false, ◌&&◌, ◌==◌, not, if◌then◌else◌, List, Option, Some, None, refl, sym, true≢false}
use Rattle.std.proofs.lemmas.Bool.{or_from}
use Rattle.base_proofs.proofs.Bools.{or_first, or_second}
use Rattle.base_number.specs.Numbers.{SpecNumber}
use Rattle.base_token.specs.declared.place.Span.{Span}
use Rattle.base_token.specs.Words.{own_text}
use Rattle.tree_spec.specs.Tree.{Tree, Trees, none, more, plain_method, tpl_element}
use Rattle.print_gaps.specs.Edges.{starts_with_word}
use Rattle.print_pages_spec.specs.Pieces.{Piece}
use Rattle.print_layout_spec.specs.declared.look.Look.{Look}
use Rattle.print_layout_spec.specs.declared.look.Stand.{Stand}
use Rattle.print_layout_spec.specs.Looks.{Laid, Meaning, ◌·◌, nothing, one, meant, both, is_refused, when, semi, end, gap_or}
use Rattle.print_layout_spec.specs.Literals.{name, identifier, number}
use Rattle.print_layout_spec.specs.Layout.{word, comma, in_parens, indented, indented_or_line, closing, hashbang, from, attributes, initial, field_value, function_tail, method_marks, after_static, class_head, class_tail, number_before, quasi, in_braces, imports, exports, is_variables}

pub record Fine (f : Laid) : Type 0 where
  pub so : is_refused f ≡ false

infixr 35 ◌▸◌
pub ◌▸◌ : {f g : Laid} → Fine f → Fine g → Fine (both f g)
a ▸ b = record { so = or_from _ _ a.so b.so }

pub first : {f g : Laid} → Fine (both f g) → Fine f
first h = record { so = or_first _ _ h.so }

pub second : {f g : Laid} → Fine (both f g) → Fine g
second h = record { so = or_second _ _ h.so }

-- a piece, texts that are together one token, and nothing
pub ok : {x : Piece} → Fine (one x)
ok = record { so = refl }

pub token : {m : Meaning} → Fine (meant m)
token = record { so = refl }

pub empty : Fine nothing
empty = record { so = refl }

pub when_fine : {f : Laid} (b : Bool) → Fine f → Fine (when b f)
when_fine true x = x
when_fine false x = empty

pub if_fine : {f g : Laid} (b : Bool) → Fine f → Fine g → Fine (if b then f else g)
if_fine true x y = x
if_fine false x y = y

-- the first of two, where a test holds
pub then_fine : {f : Laid} (g : Laid) (b : Bool) → b ≡ true → Fine f → Fine (if b then f else g)
then_fine g true e x = x
then_fine g false e x = absurd (true≢false (sym e))

-- a piece that a test asks for
pub maybe : (b : Bool) (x : Piece) → Fine (when b (one x))
maybe b x = when_fine b ok

pub in_parens_fine : {f : Laid} → Fine f → Fine (in_parens f)
in_parens_fine x = ok ▸ x ▸ ok

pub hashbang_fine : (line : Option (List ℕ)) → Fine (hashbang line)
hashbang_fine None = empty
hashbang_fine (Some said) = token ▸ ok

-- behind an exported declaration
pub ended_fine : (t : Tree) (span : Span) → Fine (when (is_variables t) (semi · end span))
ended_fine t span = when_fine _ (ok ▸ ok)

pub marks_fine : (waits generates : Bool) → Fine (method_marks waits generates)
marks_fine waits generates = when_fine _ (ok ▸ ok) ▸ maybe _ _

module _ (look : Look) where
  pub comma_fine : Fine (comma look)
  comma_fine = ok ▸ maybe _ _

  pub name_fine : (span : Span) (sym : List ℕ) → Fine (name look span sym)
  name_fine span sym = ok ▸ ok ▸ ok

  pub identifier_fine : (span : Span) (sym : List ℕ) → Fine (identifier look span sym)
  identifier_fine span sym = record { so = refl }

  pub number_fine : (span : Span) (value : SpecNumber) (raw : Option (List ℕ)) → Fine (number look span value raw)
  number_fine span value raw = ok ▸ ok ▸ ok

  pub number_before_fine : (span : Span) (value : SpecNumber) (raw : Option (List ℕ)) (prop : Tree) → Fine (number_before look span value raw prop)
  number_before_fine span value raw prop = ok ▸ if_fine _ (ok ▸ ok ▸ ok) (ok ▸ ok ▸ ok)

  pub closing_fine : (t : Tree) → Fine (closing look t)
  unfolding closing
  closing_fine t = when_fine _ (maybe _ _ ▸ maybe _ _)

  pub from_fine : {f : Laid} → Fine f → Fine (from look f)
  from_fine x = ok ▸ maybe _ _ ▸ x

  pub attributes_fine : {f : Laid} (t : Tree) → Fine f → Fine (attributes look t f)
  attributes_fine t x = when_fine _ (maybe _ _ ▸ ok ▸ maybe _ _ ▸ x)

  pub initial_fine : {f : Laid} (t : Tree) → Fine f → Fine (initial look t f)
  initial_fine t x = when_fine _ (maybe _ _ ▸ ok ▸ maybe _ _ ▸ x)

  pub field_value_fine : {f : Laid} (t : Tree) → Fine f → Fine (field_value look t f)
  field_value_fine t x = initial_fine t (if_fine _ (in_parens_fine x) x)

  pub function_tail_fine : {f g : Laid} → Fine f → Fine g → Fine (function_tail look f g)
  function_tail_fine x y = in_parens_fine x ▸ maybe _ _ ▸ y

  pub indented_fine : {f : Laid} (ts : Trees) → Fine f → Fine (indented look ts f)
  indented_fine none x = empty
  indented_fine (more t ts) x = maybe _ _ ▸ maybe _ _ ▸ x ▸ maybe _ _ ▸ maybe _ _

  pub indented_or_line_fine : {f : Laid} (ts : Trees) → Fine f → Fine (indented_or_line look ts f)
  indented_or_line_fine none x = maybe _ _
  indented_or_line_fine (more t ts) x = maybe _ _ ▸ maybe _ _ ▸ x ▸ maybe _ _ ▸ maybe _ _

  pub after_static_fine : (kind : ℕ) (generates waits : Bool) (key : Tree) → Fine (after_static look kind generates waits key)
  after_static_fine kind generates waits key = if_fine (kind == plain_method && not waits) (if_fine generates (maybe _ _) (maybe _ _)) ok

  pub method_start_fine : (kind : ℕ) (generates waits : Bool) (key : Tree) → Fine (if kind == plain_method then method_marks waits generates else word (own_text kind) · gap_or look (starts_with_word key))
  method_start_fine kind generates waits key = if_fine (kind == plain_method) (marks_fine waits generates) (ok ▸ maybe _ _)

  pub class_head_fine : {f g : Laid} (id parent : Tree) → Fine f → Fine g → Fine (class_head look id f parent g)
  class_head_fine id parent x y = ok ▸ when_fine _ (ok ▸ x) ▸ when_fine _ (ok ▸ ok ▸ maybe _ _ ▸ y)

  pub class_tail_fine : {f : Laid} (span : Span) (members : Trees) → Fine f → Fine (class_tail look span members f)
  class_tail_fine span members x = maybe _ _ ▸ ok ▸ indented_or_line_fine members x ▸ ok ▸ ok

  pub quasi_fine : (s : Stand) (t : Tree) → Fine (quasi look s t)
  quasi_fine s (tpl_element span is_last raw cooked) = ok ▸ token ▸ ok
  quasi_fine s _ = empty

  pub in_braces_fine : {f : Laid} → Fine f → Fine (in_braces look f)
  in_braces_fine x = ok ▸ maybe _ _ ▸ x ▸ maybe _ _ ▸ ok

  pub imports_fine : {f g : Laid} (ts : Trees) → Fine f → Fine g → Fine (imports look ts f g)
  imports_fine none x y = empty
  imports_fine (more t ts) x y = x ▸ if_fine _ (when_fine _ comma_fine ▸ in_braces_fine y ▸ maybe _ _) ok ▸ ok ▸ maybe _ _

  pub exports_fine : {f : Laid} (ts : Trees) → Fine f → Fine (exports look ts f)
  exports_fine ts x = when_fine _ (when_fine _ comma_fine ▸ if_fine _ (in_braces_fine x) (ok ▸ maybe _ _ ▸ ok))
