-- The layout of a tree: what is written for each kind of node. It reads no place but to mark it.
use Rattle.std.specs.Prelude.{ℕ, ◌+◌, Bool, true, false, not, ◌&&◌, ◌||◌, ◌==◌, if◌then◌else◌, List, [], ◌∷◌, Option, Some, None, is_some, codes}
use Rattle.base_number.specs.Numbers.{SpecNumber}
use Rattle.base_token.specs.Kinds.{new_kind}
use Rattle.base_token.specs.Operators.{operator_text}
use Rattle.base_token.specs.Words.{own_text}
use Rattle.base_token.specs.declared.place.Span.{Span}
use Rattle.print_gaps.specs.Tree.{Tree, Trees, none, more, plain_method, script, es_module, import_decl, export_decl, named_export, export_default_decl, export_default_expr, export_all, import_named_specifier, import_default_specifier, import_star_as_specifier, export_namespace_specifier, export_default_specifier, export_named_specifier, block_stmt, empty_stmt, debugger_stmt, with_stmt, return_stmt, labeled_stmt, break_stmt, continue_stmt, if_stmt, switch_stmt, switch_case, throw_stmt, try_stmt, catch_clause, while_stmt, do_while_stmt, for_stmt, for_in_stmt, for_of_stmt, expr_stmt, class_decl, fn_decl, var_decl, using_decl, var_declarator, function, param, decorator, class, constructor, class_method, private_method, class_prop, private_prop, static_block, auto_accessor, ident_name, computed_prop_name, private_name, this_expr, array_lit, object_lit, fn_expr, unary_expr, update_expr, bin_expr, assign_expr, member_expr, super_prop_expr, cond_expr, call_expr, new_expr, seq_expr, ident, tpl, tpl_element, tagged_tpl, arrow_expr, class_expr, yield_expr, meta_prop_expr, await_expr, paren_expr, opt_chain_expr, opt_call, super, import, invalid, expr_or_spread, spread_element, key_value_prop, assign_prop, getter_prop, setter_prop, method_prop, str_lit, bool_lit, null_lit, number_lit, big_int_lit, regex_lit, binding_ident, array_pat, rest_pat, object_pat, assign_pat, key_value_pat_prop, assign_pat_prop, expr_pat, list, absent, hole}
use Rattle.print_gaps.specs.Places.{place_of}
use Rattle.print_gaps.specs.Edges.{is_there, starts_with_word, ends_with_word, is_word_operator, gap_before, gap_after, gap_of_unary}
use Rattle.print_pages_spec.specs.Pieces.{Piece}
use Rattle.print_layout_spec.specs.declared.look.Look.{Look}
use Rattle.print_layout_spec.specs.declared.look.Stand.{Stand}
use Rattle.print_layout_spec.specs.declared.look.Stand.TheVariants.{Alone, Operand, Body, Head, Key, Tagged}
use Rattle.print_layout_spec.specs.Looks.{Laid, nothing, meant, refused, regular_expression, template_characters, template_end, hashbang_comment, touching, ◌·◌, listed, text, brace, blank, line_always, semi, semi_kept, commit, when, formats, gap, line, deeper, back, gap_or, start, end, last}
use Rattle.print_layout_spec.specs.Literals.{name, identifier, key_word, hash_name, string, number, number_before_point, big_integer, quasi_bytes}
use Rattle.print_layout_spec.specs.Words.{sign_of}

abbrev pub marked_as_operand : Stand → Bool
marked_as_operand Operand = false
marked_as_operand s = true

abbrev pub marked_as_body : Stand → Bool
marked_as_body Body = false
marked_as_body s = true

abbrev pub is_head : Stand → Bool
is_head Head = true
is_head s = false

abbrev pub is_tagged : Stand → Bool
is_tagged Tagged = true
is_tagged s = false

abbrev pub is_key : Stand → Bool
is_key Key = true
is_key s = false

-- ---- what a layout asks of parts

abbrev pub is_empty : Trees → Bool
is_empty none = true
is_empty ts = false

abbrev pub count : Trees → ℕ
count none = 0
count (more t ts) = count ts + 1

abbrev pub ends_with_hole : Trees → Bool
ends_with_hole none = false
ends_with_hole (more hole none) = true
ends_with_hole (more t ts) = ends_with_hole ts

abbrev pub is_block : Tree → Bool
is_block (block_stmt span stmts) = true
is_block t = false

abbrev pub is_sequence : Tree → Bool
is_sequence (seq_expr span exprs) = true
is_sequence t = false

abbrev pub is_variables : Tree → Bool
is_variables (var_decl span kind decls) = true
is_variables (using_decl span is_await decls) = true
is_variables t = false

-- a string or a computed key, which no word runs into
abbrev pub is_bracketed_key : Tree → Bool
is_bracketed_key (str_lit span units raw) = true
is_bracketed_key (computed_prop_name span e) = true
is_bracketed_key t = false

abbrev pub is_computed : Tree → Bool
is_computed (computed_prop_name span e) = true
is_computed t = false

-- a pattern in brackets, which no word runs into
abbrev pub is_bracketed_name : Tree → Bool
is_bracketed_name (array_pat span elems) = true
is_bracketed_name (object_pat span props) = true
is_bracketed_name (rest_pat span dots arg) = true
is_bracketed_name t = false

abbrev pub starts_bracketed : Trees → Bool
starts_bracketed (more (var_declarator span name_ init) ds) = is_bracketed_name name_
starts_bracketed ds = false

-- a single name, whose arrow may go without parentheses
abbrev pub is_one_name : Trees → Bool
is_one_name (more (binding_ident span id) none) = true
is_one_name ps = false

abbrev pub has_arguments : Tree → Bool
has_arguments (list (more t ts)) = true
has_arguments t = false

abbrev pub is_default : Tree → Bool
is_default (import_default_specifier span local) = true
is_default t = false

abbrev pub starts_with_default : Trees → Bool
starts_with_default (more t ts) = is_default t
starts_with_default none = false

abbrev pub is_named : Tree → Bool
is_named (import_named_specifier span local imported) = true
is_named t = false

abbrev pub has_named : Trees → Bool
has_named none = false
has_named (more t ts) = is_named t || has_named ts

abbrev pub has_default : Trees → Bool
has_default none = false
has_default (more t ts) = is_default t || has_default ts

abbrev pub is_namespace : Tree → Bool
is_namespace (export_namespace_specifier span name_) = true
is_namespace t = false

abbrev pub is_no_namespace : Tree → Bool
is_no_namespace t = not (is_namespace t)

abbrev pub has_namespace : Trees → Bool
has_namespace none = false
has_namespace (more t ts) = is_namespace t || has_namespace ts

abbrev pub has_other : Trees → Bool
has_other none = false
has_other (more t ts) = not (is_namespace t) || has_other ts

-- ---- parts that many nodes share

abbrev pub word : List ℕ → Laid
word bytes = text bytes

-- between the parts of a list: on one line, and on a line each
abbrev pub comma : Look → Laid
comma look = text (codes ",") · gap look

abbrev pub comma_line : Look → Laid
comma_line look = text (codes ",") · line look

abbrev pub in_parens : Laid → Laid
in_parens f = text (codes "(") · f · text (codes ")")

-- parts on lines of their own, one level deeper; without parts, and for a class and a `switch` then
abbrev pub indented : Look → Trees → Laid → Laid
indented look none f = nothing
indented look ts f = line look · deeper look · f · back look · line look

abbrev pub indented_or_line : Look → Trees → Laid → Laid
indented_or_line look none f = line look
indented_or_line look ts f = line look · deeper look · f · back look · line look

-- What stands behind a statement: nothing behind a block, a semicolon behind variables, and the end of its line.
unfoldable pub closing : Look → Tree → Laid
closing look t = when (not (is_block t)) (when (is_variables t) semi · line look)

-- a hashbang, on a line of its own in any style
abbrev pub hashbang : Option (List ℕ) → Laid
hashbang None = nothing
hashbang (Some said) = meant (hashbang_comment said) · line_always

abbrev pub from : Look → Laid → Laid
from look source = word (codes "from") · gap look · source

-- import attributes
abbrev pub attributes : Look → Tree → Laid → Laid
attributes look with_ f = when (is_there with_) (gap look · word (if look.asserts then codes "assert" else codes "with") · gap look · f)

-- `= value`
abbrev pub initial : Look → Tree → Laid → Laid
initial look value f = when (is_there value) (gap look · text (codes "=") · gap look · f)

-- the value of a field, which is in parentheses where it has commas
abbrev pub field_value : Look → Tree → Laid → Laid
field_value look value f = initial look value (if is_sequence value then in_parens f else f)

-- the parameters and the body of a function
abbrev pub function_tail : Look → Laid → Laid → Laid
function_tail look params body = in_parens params · gap look · body

-- `async` and `*` of a method
abbrev pub method_marks : Bool → Bool → Laid
method_marks waits generates = when waits (word (codes "async") · blank) · when generates (text (codes "*"))

-- behind `static` of a method
abbrev pub after_static : Look → ℕ → Bool → Bool → Tree → Laid
after_static look kind generates waits key =
    if kind == plain_method && not waits then (if generates then gap look else gap_or look (starts_with_word key)) else blank

-- the name and the parent of a class, and its members
abbrev pub class_head : Look → Tree → Laid → Tree → Laid → Laid
class_head look id id_laid parent parent_laid =
    word (codes "class") · when (is_there id) (blank · id_laid)
    · when (is_there parent) (blank · word (codes "extends") · gap_or look (starts_with_word parent) · parent_laid)

abbrev pub class_tail : Look → Span → Trees → Laid → Laid
class_tail look span members f = gap look · text (codes "{") · indented_or_line look members f · last span · brace

-- `new.target` and `import.meta` (13.3.12), and what goes on with an optional chain (13.3.9)
abbrev pub new_target : Laid
new_target = meant (touching (codes "new" ∷ codes "." ∷ codes "target" ∷ []))

abbrev pub import_meta : Laid
import_meta = meant (touching (codes "import" ∷ codes "." ∷ codes "meta" ∷ []))

abbrev pub optional_dot : Laid
optional_dot = meant (touching (codes "?" ∷ codes "." ∷ []))

-- before the name of a member: a point, and none before a bracket
abbrev pub point_before : Tree → Laid
point_before prop = when (not (is_computed prop)) (text (codes "."))

-- a number as the object of a member
abbrev pub number_before : Look → Span → SpecNumber → Option (List ℕ) → Tree → Laid
number_before look span value raw prop =
    start span · (if is_computed prop then number look span value raw else number_before_point look span value raw)

-- A literal as an expression marks its start, and then once more as itself; as a key and as a source it marks its own alone.
abbrev pub as_expression : Stand → Span → Laid
as_expression s span = when (not (is_key s)) (start span)

-- a piece of a template
abbrev pub quasi : Look → Stand → Tree → Laid
quasi look s (tpl_element span is_last raw cooked) = start span · meant (template_characters (quasi_bytes look.style (is_tagged s) raw)) · end span
quasi look s t = nothing

-- names in braces
abbrev pub in_braces : Look → Laid → Laid
in_braces look items = text (codes "{") · gap look · items · gap look · brace

-- What is imported, and `from`: the default name and the namespace in their order, and then the names.
abbrev pub imports : Look → Trees → Laid → Laid → Laid
imports look none heads names = nothing
imports look ts heads names =
    heads
    · (if has_named ts then when (has_default ts) (comma look) · in_braces look names · gap look else blank)
    · word (codes "from") · gap look

-- The names in braces behind the namespace, where there are names or no namespace. Between no names one blank is enough.
abbrev pub exports : Look → Trees → Laid → Laid
exports look ts names =
    when (has_other ts || not (has_namespace ts))
    (when (has_namespace ts) (comma look) · (if has_other ts then in_braces look names else text (codes "{") · gap look · brace))

-- ---- the layout

abbrev mutual
  pub laid : Look → Stand → Tree → Laid
  -- programs and modules
  laid look s (script span body shebang) = when (is_empty body) (start span) · hashbang shebang · statements look body · when (not look.omits_last) commit
  laid look s (es_module span body shebang) = when (is_empty body) (start span) · hashbang shebang · statements look body · when (not look.omits_last) commit
  laid look s (import_decl span specifiers src with_) =
      start span · word (codes "import") · (if starts_with_default specifiers then blank else gap look) · imports look specifiers (import_heads look false specifiers) (named_items look is_named false specifiers)
      · laid look Key src · attributes look with_ (laid look Alone with_) · semi · end span
  laid look s (import_named_specifier span local absent) = start span · laid look Alone local · end span
  laid look s (import_named_specifier span local imported) =
      start span · laid look Key imported · blank · word (codes "as") · blank · laid look Alone local · end span
  laid look s (import_default_specifier span local) = laid look Alone local
  laid look s (import_star_as_specifier span local) = text (codes "*") · gap look · word (codes "as") · blank · laid look Alone local
  laid look s (export_decl span (class_decl cs id (class at decorators body parent))) =
      start span · each look decorators · word (codes "export") · blank · start cs · class_head look id (laid look Alone id) parent (laid look Alone parent) · class_tail look at body (rows look false body)
  laid look s (export_decl span decl) = start span · word (codes "export") · blank · laid look Alone decl · when (is_variables decl) (semi · end span)
  laid look s (named_export span specifiers src with_) =
      start span · word (codes "export") · gap look · first_namespace look specifiers
      · exports look specifiers (named_items look is_no_namespace false specifiers)
      · when (is_there src) ((if has_namespace specifiers && not (has_other specifiers) then blank else gap look) · from look (laid look Key src) · attributes look with_ (laid look Alone with_))
      · semi · end span
  laid look s (export_namespace_specifier span name_) = start span · text (codes "*") · gap look · word (codes "as") · blank · laid look Key name_ · end span
  laid look s (export_named_specifier span orig absent) = start span · laid look Key orig · end span
  laid look s (export_named_specifier span orig exported) = start span · laid look Key orig · blank · word (codes "as") · blank · laid look Key exported · end span
  laid look s (export_default_specifier span exported) = refused
  laid look s (export_default_decl span (class_expr cs id (class at decorators body parent))) =
      start span · each look decorators · word (codes "export") · blank · word (codes "default") · blank · start cs · class_head look id (laid look Alone id) parent (laid look Alone parent) · class_tail look at body (rows look false body)
  laid look s (export_default_decl span decl) = start span · word (codes "export") · blank · word (codes "default") · blank · laid look Alone decl
  laid look s (export_default_expr span e) =
      start span · word (codes "export") · blank · word (codes "default") · gap_or look (starts_with_word e) · laid look Alone e · semi · end span
  laid look s (export_all span src with_) =
      start span · word (codes "export") · gap look · text (codes "*") · gap look · from look (laid look Key src) · attributes look with_ (laid look Alone with_) · semi · end span
  -- statements
  laid look s (expr_stmt span e) = laid look Alone e · semi
  laid look s (empty_stmt span) = semi_kept
  laid look s (debugger_stmt span) = commit · start span · word (codes "debugger") · end span · semi
  laid look s (with_stmt span obj body) =
      commit · start span · word (codes "with") · gap look · in_parens (laid look Alone obj) · laid look Alone body · closing look body
  laid look s (return_stmt span arg) = commit · start span · word (codes "return") · when (is_there arg) (gap_or look (starts_with_word arg) · laid look Alone arg) · semi
  laid look s (throw_stmt span arg) = start span · word (codes "throw") · gap_or look (starts_with_word arg) · laid look Alone arg · semi
  laid look s (labeled_stmt span label body) = commit · laid look Alone label · text (codes ":") · gap look · laid look Alone body · closing look body
  laid look s (break_stmt span label) = commit · start span · word (codes "break") · when (is_there label) (blank · laid look Alone label) · semi
  laid look s (continue_stmt span label) = commit · start span · word (codes "continue") · when (is_there label) (blank · laid look Alone label) · semi
  laid look s (if_stmt span test cons alt) =
      commit · start span · word (codes "if") · gap look · in_parens (laid look Alone test) · gap look · laid look Alone cons · closing look cons
      · when (is_there alt) (when (is_block cons) (gap look) · word (codes "else") · gap_or look (starts_with_word alt) · laid look Alone alt · closing look alt)
  laid look s (switch_stmt span discriminant cases) =
      commit · start span · word (codes "switch") · in_parens (laid look Alone discriminant) · text (codes "{") · indented_or_line look cases (rows look false cases) · last span · brace
  laid look s (switch_case span test body) =
      start span · (if is_there test then word (codes "case") · gap_or look (starts_with_word test) · laid look Alone test else word (codes "default")) · text (codes ":")
      · when (not (is_empty body)) (line look · deeper look · rows look true body · back look)
  laid look s (try_stmt span block handler finalizer) =
      commit · start span · word (codes "try") · gap look · laid look Alone block · when (is_there handler) (gap look · laid look Alone handler)
      · when (is_there finalizer) (gap look · word (codes "finally") · laid look Alone finalizer)
  laid look s (catch_clause span param_ body) =
      start span · word (codes "catch") · gap look · when (is_there param_) (in_parens (laid look Alone param_)) · gap look · laid look Alone body
  laid look s (while_stmt span test body) =
      commit · start span · word (codes "while") · in_parens (laid look Alone test) · laid look Alone body · closing look body
  laid look s (do_while_stmt span test body) =
      commit · start span · word (codes "do") · gap_or look (starts_with_word body) · laid look Alone body · closing look body
      · word (codes "while") · gap look · in_parens (laid look Alone test) · semi · end span
  laid look s (for_stmt span init test update body) =
      commit · start span · word (codes "for") · text (codes "(") · laid look Alone init · semi_kept · when (is_there test) (gap look · laid look Alone test)
      · semi_kept · when (is_there update) (gap look · laid look Alone update) · text (codes ")") · laid look Alone body · closing look body
  laid look s (for_in_stmt span left right body) =
      commit · start span · word (codes "for") · text (codes "(") · laid look Alone left · gap_or look (ends_with_word left) · word (codes "in") · gap_or look (starts_with_word right)
      · laid look Alone right · text (codes ")") · laid look Alone body · closing look body
  laid look s (for_of_stmt span is_await left right body) =
      commit · start span · word (codes "for") · when is_await (blank · word (codes "await")) · gap look · text (codes "(") · laid look Alone left · gap_or look (ends_with_word left)
      · word (codes "of") · gap_or look (starts_with_word right) · laid look Alone right · text (codes ")") · laid look Alone body · closing look body
  laid look s (block_stmt span stmts) =
      when (marked_as_body s) (start span) · text (codes "{") · indented look stmts (rows look true stmts) · last span · brace
  -- declarations
  laid look s (var_decl span kind decls) =
      commit · start span · word (own_text kind) · (if starts_bracketed decls then gap look else blank) · separated look (comma look) decls
  laid look s (using_decl span is_await decls) =
      commit · when is_await (word (codes "await") · blank) · word (codes "using") · blank · separated look (comma look) decls
  laid look s (var_declarator span name_ init) =
      start span · laid look Alone name_ · initial look init (laid look Alone init)
  laid look s (fn_decl span id (function at params decorators body generates waits)) =
      commit · start span · when waits (word (codes "async") · blank) · word (codes "function") · (if generates then text (codes "*") · gap look else blank)
      · laid look Alone id · function_tail look (separated look (comma look) params) (laid look Body body)
  laid look s (class_decl span id (class at decorators body parent)) =
      start span · each look decorators · class_head look id (laid look Alone id) parent (laid look Alone parent) · class_tail look at body (rows look false body)
  -- functions and classes
  laid look s (function at params decorators body generates waits) = function_tail look (separated look (comma look) params) (laid look Body body)
  laid look s (class at decorators body parent) = class_tail look at body (rows look false body)
  laid look s (param span decorators pat) = start span · each look decorators · laid look Alone pat · end span
  laid look s (decorator span e) = start span · text (codes "@") · laid look Alone e · line_always · end span
  laid look s (constructor span key params body) =
      start span · word (codes "constructor") · in_parens (separated look (comma look) params) · laid look Alone body
  laid look s (class_method span key (function at params decorators body generates waits) kind is_static) =
      start span · each look decorators · when is_static (word (codes "static") · after_static look kind generates waits key)
      · (if kind == plain_method then method_marks waits generates else word (own_text kind) · gap_or look (starts_with_word key))
      · laid look Key key · in_parens (separated look (comma look) params) · gap look · laid look Alone body
  laid look s (private_method span key (function at params decorators body generates waits) kind is_static) =
      start span · when is_static (word (codes "static") · blank)
      · (if kind == plain_method then method_marks waits generates else word (own_text kind) · blank)
      · laid look Key key · function_tail look (separated look (comma look) params) (laid look Body body)
  laid look s (class_prop span key value is_static decorators) =
      start span · each look decorators · when is_static (word (codes "static") · blank) · laid look Key key · field_value look value (laid look Alone value) · semi · end span
  laid look s (private_prop span key value is_static decorators) =
      start span · each look decorators · when is_static (word (codes "static") · blank) · laid look Key key · field_value look value (laid look Alone value) · semi · end span
  laid look s (auto_accessor span key value is_static decorators) =
      each look decorators · when is_static (word (codes "static") · blank) · word (codes "accessor") · blank · laid look Key key
      · initial look value (laid look Alone value) · semi
  laid look s (static_block span body) = start span · word (codes "static") · laid look Alone body · end span
  -- keys and names
  laid look s (ident_name span sym) = if is_key s then key_word look span sym else name look span sym
  laid look s (computed_prop_name span e) = start span · text (codes "[") · laid look Alone e · text (codes "]") · end span
  laid look s (private_name span sym) = hash_name look span sym
  laid look s (ident span sym) = identifier look span sym
  laid look s (binding_ident span (ident at sym)) = identifier look span sym
  -- expressions
  laid look s (this_expr span) = commit · start span · word (codes "this") · end span
  laid look s (super span) = commit · start span · word (codes "super") · end span
  laid look s (import span) = commit · start span · word (codes "import") · end span
  laid look s (meta_prop_expr span kind) = start span · (if kind == new_kind then new_target else import_meta)
  laid look s (array_lit span elems) =
      start span · text (codes "[")
      · indented look elems (separated look (comma_line look) elems · when (ends_with_hole elems) (comma look))
      · text (codes "]") · end span
  laid look s (object_lit span props) =
      start span · text (codes "{") · indented look props (separated look (comma_line look) props) · last span · brace
  laid look s (fn_expr span id (function at params decorators body generates waits)) =
      commit · start span · when waits (word (codes "async") · blank) · word (codes "function") · when generates (text (codes "*"))
      · when (is_there id) (blank · laid look Alone id) · function_tail look (separated look (comma look) params) (laid look Body body)
  laid look s (class_expr span id (class at decorators body parent)) =
      start span · each look decorators · class_head look id (laid look Alone id) parent (laid look Alone parent) · class_tail look at body (rows look false body)
  laid look s (unary_expr span op arg) =
      start span · text (sign_of op) · (if is_word_operator op then gap_or look (starts_with_word arg) else when (gap_of_unary op arg) blank) · laid look Alone arg
  laid look s (update_expr span op true arg) = start span · text (sign_of op) · laid look Alone arg
  laid look s (update_expr span op false arg) = start span · laid look Alone arg · text (sign_of op)
  laid look s (bin_expr span op left right) =
      when (marked_as_operand s) (start span) · laid look Operand left · gap_or look (gap_before op left) · text (operator_text op)
      · gap_or look (gap_after op right) · laid look Alone right
  laid look s (assign_expr span op left right) = laid look Alone left · gap look · text (operator_text op) · gap look · laid look Alone right
  laid look s (cond_expr span test cons alt) =
      start span · laid look Alone test · gap look · text (codes "?") · gap look · laid look Alone cons · gap look · text (codes ":") · gap look · laid look Alone alt
  laid look s (call_expr span callee args) =
      commit · start span · laid look Head callee · in_parens (separated look (comma look) args)
  laid look s (new_expr span callee args) =
      commit · start span · word (codes "new") · gap_or look (starts_with_word callee) · laid look Head callee
      · when (formats look || (has_arguments args || is_head s)) (in_parens (laid look Alone args))
  laid look s (list items) = separated look (comma look) items
  laid look s (seq_expr span exprs) = start span · separated look (comma look) exprs
  laid look s (member_expr span (number_lit at value raw) prop) = start span · number_before look at value raw prop · point_before prop · laid look Alone prop · end span
  laid look s (member_expr span obj prop) = start span · laid look Head obj · point_before prop · laid look Alone prop · end span
  laid look s (super_prop_expr span obj prop) = start span · laid look Alone obj · point_before prop · laid look Alone prop
  laid look s (opt_chain_expr span optional (member_expr at (number_lit place value raw) prop)) =
      (if optional then start place · number look place value raw · optional_dot else number_before look place value raw prop · point_before prop) · laid look Alone prop
  laid look s (opt_chain_expr span optional (member_expr at obj prop)) =
      laid look Head obj · (if optional then optional_dot else point_before prop) · laid look Alone prop
  laid look s (opt_chain_expr span optional (opt_call at callee args)) =
      laid look Head callee · when optional optional_dot · in_parens (separated look (comma look) args)
  laid look s (opt_call at callee args) = laid look Head callee · in_parens (separated look (comma look) args)
  laid look s (paren_expr span e) = commit · start span · text (codes "(") · laid look Alone e · last span · text (codes ")")
  laid look s (arrow_expr span params body waits) =
      start span · when waits (word (codes "async") · when (formats look || is_one_name params) blank)
      · (if is_one_name params && not (formats look) then separated look (comma look) params else in_parens (separated look (comma look) params))
      · text (codes "=>") · (if is_block body then laid look Body body else deeper look · laid look Alone body · back look)
  laid look s (yield_expr span arg true) = start span · word (codes "yield") · text (codes "*") · when (is_there arg) (gap look · laid look Alone arg)
  laid look s (yield_expr span arg false) = start span · word (codes "yield") · when (is_there arg) (gap_or look (starts_with_word arg) · laid look Alone arg)
  laid look s (await_expr span arg) = start span · word (codes "await") · blank · laid look Alone arg
  laid look s (invalid span) = refused
  laid look s (expr_or_spread span spread e) = when (is_some spread) (text (codes "...")) · laid look Alone e
  laid look s (spread_element span e) = start span · text (codes "...") · laid look Alone e · end span
  -- properties
  laid look s (key_value_prop span key value) = start (place_of key) · laid look Key key · text (codes ":") · gap look · laid look Alone value
  laid look s (assign_prop span key value) = start span · laid look Alone key · text (codes "=") · laid look Alone value
  laid look s (getter_prop span key body) =
      start span · word (codes "get") · (if is_bracketed_key key then gap look else blank) · laid look Key key · gap look · text (codes "(") · text (codes ")") · gap look · laid look Alone body
  laid look s (setter_prop span key param_ body) =
      start span · word (codes "set") · (if is_bracketed_key key then gap look else blank) · laid look Key key · gap look · in_parens (laid look Alone param_) · laid look Alone body
  laid look s (method_prop span key (function at params decorators body generates waits)) =
      start span · method_marks waits generates · laid look Key key · gap look · function_tail look (separated look (comma look) params) (laid look Body body)
  -- literals
  laid look s (str_lit span units raw) = as_expression s span · string look span units raw
  laid look s (number_lit span value raw) = as_expression s span · number look span value raw
  laid look s (big_int_lit span radix digits raw) = as_expression s span · big_integer look span radix digits raw
  laid look s (bool_lit span value) = start span · word (if value then codes "true" else codes "false")
  laid look s (null_lit span) = start span · word (codes "null")
  laid look s (regex_lit span body flags) = start span · meant (regular_expression body flags)
  -- templates
  laid look s (tpl span exprs quasis) =
      if count quasis == count exprs + 1 then start span · text (codes "`") · template look s exprs quasis · meant (template_end (codes "`")) · end span else refused
  laid look s (tagged_tpl span tag tpl_) = start span · laid look Head tag · laid look Tagged tpl_ · end span
  laid look s (tpl_element span is_last raw cooked) = quasi look s (tpl_element span is_last raw cooked)
  -- patterns
  laid look s (array_pat span elems) =
      start span · text (codes "[") · separated look (comma look) elems · when (ends_with_hole elems) (comma look) · text (codes "]") · end span
  laid look s (object_pat span props) =
      start span · text (codes "{") · when (not (is_empty props)) (gap look · separated look (comma look) props · gap look) · brace · end span
  laid look s (rest_pat span dots arg) = start dots · text (codes "...") · end dots · laid look Alone arg
  laid look s (assign_pat span left right) = start span · laid look Alone left · gap look · text (codes "=") · gap look · laid look Alone right · end span
  laid look s (key_value_pat_prop span key value) = start span · laid look Key key · text (codes ":") · gap look · laid look Alone value · end span
  laid look s (assign_pat_prop span key value) =
      start span · laid look Alone key · initial look value (laid look Alone value) · end span
  laid look s (expr_pat e) = laid look Alone e
  laid look s absent = nothing
  laid look s hole = nothing
  laid look s t = refused

  -- statements of a program, each closed
  pub statements : Look → Trees → Laid
  statements look none = nothing
  statements look (more t ts) = laid look Alone t · closing look t · statements look ts

  -- statements of a block and of a case, members, cases: a line between two of them
  pub rows : Look → Bool → Trees → Laid
  rows look closed none = nothing
  rows look closed (more t none) = laid look Alone t · when closed (closing look t)
  rows look closed (more t ts) = laid look Alone t · when closed (closing look t) · line look · rows look closed ts

  -- parts of a list with something between two of them
  pub separated : Look → Laid → Trees → Laid
  separated look between none = nothing
  separated look between (more t none) = laid look Alone t
  separated look between (more t ts) = laid look Alone t · between · separated look between ts

  -- decorators, one after the other
  pub each : Look → Trees → Laid
  each look none = nothing
  each look (more t ts) = laid look Alone t · each look ts

  -- the default name and the namespace of an import; the mark says whether a default name came before
  pub import_heads : Look → Bool → Trees → Laid
  import_heads look seen none = nothing
  import_heads look seen (more t ts) =
      if is_default t then laid look Alone t · import_heads look true ts
      else (if is_named t then import_heads look seen ts
      else when seen (comma look) · laid look Alone t · import_heads look seen ts)

  -- those of the names of an import or an export that stand in braces; the mark says whether one came before
  pub named_items : Look → (Tree → Bool) → Bool → Trees → Laid
  named_items look stands started none = nothing
  named_items look stands started (more t ts) =
      if stands t then when started (comma look) · laid look Alone t · named_items look stands true ts
      else named_items look stands started ts

  -- the first namespace of an export
  pub first_namespace : Look → Trees → Laid
  first_namespace look none = nothing
  first_namespace look (more t ts) = if is_namespace t then laid look Alone t else first_namespace look ts

  -- the pieces of a template with the expressions between them
  pub template : Look → Stand → Trees → Trees → Laid
  template look s exprs (more q none) = quasi look s q
  template look s (more e es) (more q qs) = quasi look s q · meant (template_end (codes "${")) · laid look Alone e · brace · template look s es qs
  template look s exprs quasis = nothing

-- ---- what is written

-- the pieces of a tree, and of a statement or an item of a module
abbrev pub pieces : Look → Tree → List Piece
pieces look t = listed (laid look Alone t) []
