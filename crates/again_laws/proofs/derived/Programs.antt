-- A tree given anew is the same program.
use Rattle.std.proofs.Common.{◌≡◌, ℕ, Bool, true, false, not, ◌&&◌, ◌||◌, if◌then◌else◌, List, [], Option, Some, None, refl, sym, ap, ap₂, ◌∙◌, codes, bytes_eq, chars}
use Rattle.std.proofs.lemmas.Slice.Eq.{bytes_eq-Decides}
use Rattle.base_token.specs.declared.place.Span.{Span}
use Rattle.base_token.specs.Utf16.{utf16}
use Rattle.tree_spec.specs.Places.{no_place}
use Rattle.tree_spec.specs.Tree.{Tree, Trees, none, more, script, es_module, import_decl, export_decl, named_export, export_default_decl, export_default_expr, export_all, import_named_specifier, import_default_specifier, import_star_as_specifier, export_namespace_specifier, export_default_specifier, export_named_specifier, block_stmt, empty_stmt, debugger_stmt, with_stmt, return_stmt, labeled_stmt, break_stmt, continue_stmt, if_stmt, switch_stmt, switch_case, throw_stmt, try_stmt, catch_clause, while_stmt, do_while_stmt, for_stmt, for_in_stmt, for_of_stmt, expr_stmt, class_decl, fn_decl, var_decl, using_decl, var_declarator, function, param, decorator, class, constructor, class_method, private_method, class_prop, private_prop, static_block, auto_accessor, ident_name, computed_prop_name, private_name, this_expr, array_lit, object_lit, fn_expr, unary_expr, update_expr, bin_expr, assign_expr, member_expr, super_prop_expr, cond_expr, call_expr, new_expr, seq_expr, ident, tpl, tpl_element, tagged_tpl, arrow_expr, class_expr, yield_expr, meta_prop_expr, await_expr, paren_expr, opt_chain_expr, opt_call, super, import, invalid, expr_or_spread, spread_element, key_value_prop, assign_prop, getter_prop, setter_prop, method_prop, str_lit, bool_lit, null_lit, number_lit, big_int_lit, regex_lit, binding_ident, array_pat, rest_pat, object_pat, assign_pat, key_value_pat_prop, assign_pat_prop, expr_pat, invalid_pat, invalid_target, list, absent, hole}
use Rattle.tree_program_spec.specs.Program.{program, programs, property_key, arguments, is_escaped, stated, line_ends, texts, with_texts, spelled, placed as placed_program}
use Rattle.print_layout_spec.specs.declared.look.Look.{Look}
use Rattle.print_layout_spec.specs.Looks.{formats}
use Rattle.again_laws.specs.Derived.Redo.{Mode, Plain, Headed, Raw, is_head, object_mode, chain_mode, quasi_mode, placed, Leaves, kept_at, redo, redos}
use Rattle.again_laws.specs.Derived.Every.{every, every_all}
use Rattle.again_laws.specs.Derived.Written.{leaves_by, new_arguments, given_none, written_key, written_constructor_key}
use Rattle.again_laws.specs.Derived.Faithful.{AreElements, HasElements, Faithful}
use Rattle.again_laws.specs.Derived.Laws.{SameProgram}
use Rattle.again_laws.proofs.derived.Ascii.{ascii_chars}
use Rattle.again_laws.proofs.derived.Keys.{KeyIs, key_is, as_it_was, as_string, ConstructorKeyIs, constructor_key_is, constructor_as_it_was, as_word}

-- `use strict` without an escape
abbrev is_plain : List ℕ → Option (List ℕ) → Bool
is_plain u w = bytes_eq u (codes "use strict") && not (is_escaped w)

module _ (P : Mode → Tree → Type 0) (l : Leaves) where
  -- what is asked of what is given anew
  record Tells : Type 0 where
    strings : (m : Mode) (s : Span) (u : List ℕ) (w : Option (List ℕ)) → P m (str_lit s u w) → is_plain u (l.string u w) ≡ is_plain u w
    quasis : (w : List ℕ) → l.quasi true w ≡ w
    elements : (m : Mode) (s : Span) (es qs : Trees) → P m (tpl s es qs) → AreElements qs
    arguments_kept : (b : Bool) (a : Tree) → arguments (program (l.arguments b a)) ≡ arguments (program a)
    key : (k : Tree) → program (redo l Plain k) ≡ program k → property_key (program (l.key (redo l Plain k))) ≡ property_key (program k)
    constructor_key : (k : Tree) → program (redo l Plain k) ≡ program k → property_key (program (l.constructor_key (redo l Plain k))) ≡ property_key (program k)

  module _ (tells : Tells) where
    stated_same : (e : Tree) → every P Plain e → (p : Tree) → stated (redo l Plain e) p ≡ stated e p
    stated_same (str_lit s u w) h p = ap (λ (v : Bool). if v then str_lit no_place u (Some []) else p) (tells.strings Plain s u w h)
    stated_same _ h p = refl

    spread_same : (s : Option Span) → placed_program (placed s) ≡ placed_program s
    spread_same None = refl
    spread_same (Some s) = refl

    texts_same : (qs : Trees) → AreElements qs → texts (redos l Raw qs) ≡ texts qs
    texts_same none h = refl
    texts_same (more (tpl_element s tail raw cooked) qs) h = ap₂ (λ (w : List ℕ) (us : Trees). more (tpl_element no_place tail (line_ends w) None) us) (tells.quasis raw) (texts_same qs h)
    texts_same (more _ qs) h = absurd h

    spelled_same : (q : Tree) → every P Raw q → (p : Tree) → spelled (redo l Raw q) p ≡ spelled q p
    spelled_same (tpl s es qs) h p = ap (λ (us : Trees). with_texts us p) (texts_same qs (tells.elements Raw s es qs h.0))
    spelled_same _ h p = refl

    mutual
      same : (mode : Mode) (t : Tree) → every P mode t → program (redo l mode t) ≡ program t
      same mode (script span body shebang) e = rw (same_all Plain body e.1) refl
      same mode (es_module span body shebang) e = rw (same_all Plain body e.1) refl
      same mode (import_decl span specifiers src with_) e = rw (same_all Plain specifiers e.1, same Plain src e.2, same Plain with_ e.3) refl
      same mode (export_decl span decl) e = rw (same Plain decl e.1) refl
      same mode (named_export span specifiers src with_) e = rw (same_all Plain specifiers e.1, same Plain src e.2, same Plain with_ e.3) refl
      same mode (export_default_decl span decl) e = rw (same Plain decl e.1) refl
      same mode (export_default_expr span expr) e = rw (same Plain expr e.1) refl
      same mode (export_all span src with_) e = rw (same Plain src e.1, same Plain with_ e.2) refl
      same mode (import_named_specifier span local imported) e = rw (same Plain local e.1, same Plain imported e.2) refl
      same mode (import_default_specifier span local) e = rw (same Plain local e.1) refl
      same mode (import_star_as_specifier span local) e = rw (same Plain local e.1) refl
      same mode (export_namespace_specifier span name) e = rw (same Plain name e.1) refl
      same mode (export_default_specifier span exported) e = rw (same Plain exported e.1) refl
      same mode (export_named_specifier span orig exported) e = rw (same Plain orig e.1, same Plain exported e.2) refl
      same mode (block_stmt span stmts) e = rw (same_all Plain stmts e.1) refl
      same mode (empty_stmt span) e = refl
      same mode (debugger_stmt span) e = refl
      same mode (with_stmt span obj body) e = rw (same Plain obj e.1, same Plain body e.2) refl
      same mode (return_stmt span arg) e = rw (same Plain arg e.1) refl
      same mode (labeled_stmt span label body) e = rw (same Plain label e.1, same Plain body e.2) refl
      same mode (break_stmt span label) e = rw (same Plain label e.1) refl
      same mode (continue_stmt span label) e = rw (same Plain label e.1) refl
      same mode (if_stmt span test cons alt) e = rw (same Plain test e.1, same Plain cons e.2, same Plain alt e.3) refl
      same mode (switch_stmt span discriminant cases) e = rw (same Plain discriminant e.1, same_all Plain cases e.2) refl
      same mode (switch_case span test cons) e = rw (same Plain test e.1, same_all Plain cons e.2) refl
      same mode (throw_stmt span arg) e = rw (same Plain arg e.1) refl
      same mode (try_stmt span block handler finalizer) e = rw (same Plain block e.1, same Plain handler e.2, same Plain finalizer e.3) refl
      same mode (catch_clause span param_ body) e = rw (same Plain param_ e.1, same Plain body e.2) refl
      same mode (while_stmt span test body) e = rw (same Plain test e.1, same Plain body e.2) refl
      same mode (do_while_stmt span test body) e = rw (same Plain test e.1, same Plain body e.2) refl
      same mode (for_stmt span init test update body) e = rw (same Plain init e.1, same Plain test e.2, same Plain update e.3, same Plain body e.4) refl
      same mode (for_in_stmt span left right body) e = rw (same Plain left e.1, same Plain right e.2, same Plain body e.3) refl
      same mode (for_of_stmt span is_await left right body) e = rw (same Plain left e.1, same Plain right e.2, same Plain body e.3) refl
      same mode (expr_stmt span expr) e = ap (λ (t : Tree). expr_stmt no_place t) (stated_same expr e.1 (program (redo l Plain expr)) ∙ ap (λ (p : Tree). stated expr p) (same Plain expr e.1))
      same mode (class_decl span ident_ class_) e = rw (same Plain ident_ e.1, same Plain class_ e.2) refl
      same mode (fn_decl span ident_ function_) e = rw (same Plain ident_ e.1, same Plain function_ e.2) refl
      same mode (var_decl span kind decls) e = rw (same_all Plain decls e.1) refl
      same mode (using_decl span is_await decls) e = rw (same_all Plain decls e.1) refl
      same mode (var_declarator span name init) e = rw (same Plain name e.1, same Plain init e.2) refl
      same mode (function span params decorators body is_generator is_async) e = rw (same_all Plain params e.1, same_all Plain decorators e.2, same Plain body e.3) refl
      same mode (param span decorators pat) e = rw (same_all Plain decorators e.1, same Plain pat e.2) refl
      same mode (decorator span expr) e = rw (same Plain expr e.1) refl
      same mode (class span decorators body super_class) e = rw (same_all Plain decorators e.1, same_all Plain body e.2, same Plain super_class e.3) refl
      same mode (constructor span key params body) e = rw (tells.constructor_key key (same Plain key e.1), same_all Plain params e.2, same Plain body e.3) refl
      same mode (class_method span key function_ kind is_static) e = rw (tells.key key (same Plain key e.1), same Plain function_ e.2) refl
      same mode (private_method span key function_ kind is_static) e = rw (same Plain key e.1, same Plain function_ e.2) refl
      same mode (class_prop span key value is_static decorators) e = rw (tells.key key (same Plain key e.1), same Plain value e.2, same_all Plain decorators e.3) refl
      same mode (private_prop span key value is_static decorators) e = rw (same Plain key e.1, same Plain value e.2, same_all Plain decorators e.3) refl
      same mode (static_block span body) e = rw (same Plain body e.1) refl
      same mode (auto_accessor span key value is_static decorators) e = rw (tells.key key (same Plain key e.1), same Plain value e.2, same_all Plain decorators e.3) refl
      same mode (ident_name span sym) e = refl
      same mode (computed_prop_name span expr) e = rw (same Plain expr e.1) refl
      same mode (private_name span name) e = refl
      same mode (this_expr span) e = refl
      same mode (array_lit span elems) e = rw (same_all Plain elems e.1) refl
      same mode (object_lit span props) e = rw (same_all Plain props e.1) refl
      same mode (fn_expr span ident_ function_) e = rw (same Plain ident_ e.1, same Plain function_ e.2) refl
      same mode (unary_expr span op arg) e = rw (same Plain arg e.1) refl
      same mode (update_expr span op prefix arg) e = rw (same Plain arg e.1) refl
      same mode (bin_expr span op left right) e = rw (same Plain left e.1, same Plain right e.2) refl
      same mode (assign_expr span op left right) e = rw (same Plain left e.1, same Plain right e.2) refl
      same mode (member_expr span obj prop) e = rw (same (object_mode mode prop) obj e.1, same Plain prop e.2) refl
      same mode (super_prop_expr span obj prop) e = rw (same Plain obj e.1, same Plain prop e.2) refl
      same mode (cond_expr span test cons alt) e = rw (same Plain test e.1, same Plain cons e.2, same Plain alt e.3) refl
      same mode (call_expr span callee args) e = rw (same Headed callee e.1, same_all Plain args e.2) refl
      same mode (new_expr span callee args) e = ap₂ (λ (t u : Tree). new_expr no_place t u) (same Headed callee e.1) (tells.arguments_kept (is_head mode) (redo l Plain args) ∙ ap arguments (same Plain args e.2))
      same mode (seq_expr span exprs) e = rw (same_all Plain exprs e.1) refl
      same mode (ident span sym) e = refl
      same mode (tpl span exprs quasis) e = rw (same_all Plain exprs e.1, same_all (quasi_mode mode) quasis e.2) refl
      same mode (tpl_element span tail raw cooked) e = refl
      same mode (tagged_tpl span tag tpl_) e = ap₂ (λ (t u : Tree). tagged_tpl no_place t u) (same Headed tag e.1) (spelled_same tpl_ e.2 (program (redo l Raw tpl_)) ∙ ap (λ (p : Tree). spelled tpl_ p) (same Raw tpl_ e.2))
      same mode (arrow_expr span params body is_async) e = rw (same_all Plain params e.1, same Plain body e.2) refl
      same mode (class_expr span ident_ class_) e = rw (same Plain ident_ e.1, same Plain class_ e.2) refl
      same mode (yield_expr span arg delegate) e = rw (same Plain arg e.1) refl
      same mode (meta_prop_expr span kind) e = refl
      same mode (await_expr span arg) e = rw (same Plain arg e.1) refl
      same mode (paren_expr span expr) e = rw (same Plain expr e.1) refl
      same mode (opt_chain_expr span optional base) e = rw (same (chain_mode optional) base e.1) refl
      same mode (opt_call span callee args) e = rw (same Headed callee e.1, same_all Plain args e.2) refl
      same mode (super span) e = refl
      same mode (import span) e = refl
      same mode (invalid span) e = refl
      same mode (expr_or_spread span spread expr) e = ap₂ (λ (s : Option Span) (t : Tree). expr_or_spread no_place s t) (spread_same spread) (same Plain expr e.1)
      same mode (spread_element span expr) e = rw (same Plain expr e.1) refl
      same mode (key_value_prop span key value) e = rw (tells.key key (same Plain key e.1), same Plain value e.2) refl
      same mode (assign_prop span key value) e = rw (same Plain key e.1, same Plain value e.2) refl
      same mode (getter_prop span key body) e = rw (tells.key key (same Plain key e.1), same Plain body e.2) refl
      same mode (setter_prop span key param_ body) e = rw (tells.key key (same Plain key e.1), same Plain param_ e.2, same Plain body e.3) refl
      same mode (method_prop span key function_) e = rw (tells.key key (same Plain key e.1), same Plain function_ e.2) refl
      same mode (str_lit span units raw) e = refl
      same mode (bool_lit span value) e = refl
      same mode (null_lit span) e = refl
      same mode (number_lit span value raw) e = refl
      same mode (big_int_lit span radix digits raw) e = refl
      same mode (regex_lit span exp flags) e = refl
      same mode (binding_ident span id) e = rw (same Plain id e.1) refl
      same mode (array_pat span elems) e = rw (same_all Plain elems e.1) refl
      same mode (rest_pat span dot3_token arg) e = rw (same Plain arg e.1) refl
      same mode (object_pat span props) e = rw (same_all Plain props e.1) refl
      same mode (assign_pat span left right) e = rw (same Plain left e.1, same Plain right e.2) refl
      same mode (key_value_pat_prop span key value) e = rw (tells.key key (same Plain key e.1), same Plain value e.2) refl
      same mode (assign_pat_prop span key value) e = rw (same Plain key e.1, same Plain value e.2) refl
      same mode (expr_pat expr) e = rw (same Plain expr e.1) refl
      same mode (invalid_pat span) e = refl
      same mode (invalid_target span) e = refl
      same mode (list items) e = rw (same_all Plain items e.1) refl
      same mode absent e = refl
      same mode hole e = refl

      same_all : (mode : Mode) (ts : Trees) → every_all P mode ts → programs (redos l mode ts) ≡ programs ts
      same_all mode none e = refl
      same_all mode (more t ts) e = ap₂ (λ (u : Tree) (us : Trees). more u us) (same mode t e.0) (same_all mode ts e.1)

-- ---- as it was, and as the text written has it

kept_tells : (places : ℕ → Span) → Tells HasElements (kept_at places)
kept_tells places = record {
  strings = λ m s u w h. refl;
  quasis = λ w. refl;
  elements = λ m s es qs h. h;
  arguments_kept = λ b a. refl;
  key = λ k e. ap property_key e;
  constructor_key = λ k e. ap property_key e;
}

given_program : (v : Bool) → arguments (program (given_none v)) ≡ list none
given_program true = refl
given_program false = refl

arguments_same : (look : Look) (b : Bool) (a : Tree) → arguments (program (new_arguments look b a)) ≡ arguments (program a)
arguments_same look b absent = given_program (formats look || b)
arguments_same look b (list none) = given_program (formats look || b)
arguments_same look b (list (more t ts)) = refl
arguments_same look b _ = refl

key_same : (look : Look) (read written : ℕ → Span) (k : Tree) → program (redo (leaves_by look read written) Plain k) ≡ program k → property_key (program (written_key look.style (redo (leaves_by look read written) Plain k))) ≡ property_key (program k)
key_same look read written k h = by (key_is look.style (leaves_by look read written) k)
  where
    by : KeyIs look.style (leaves_by look read written) k → property_key (program (written_key look.style (redo (leaves_by look read written) Plain k))) ≡ property_key (program k)
    by (as_it_was e) = ap (λ (t : Tree). property_key (program t)) e ∙ ap property_key h
    by (as_string s n i q e) = ap (λ (t : Tree). property_key (program t)) e ∙ sym (ap (λ (t : Tree). property_key (program t)) i)

constructor_units : (u : List ℕ) → bytes_eq u (codes "constructor") ≡ true → str_lit no_place (utf16 (chars (codes "constructor"))) None ≡ str_lit no_place u None
constructor_units u e = ap (λ (v : List ℕ). str_lit no_place (utf16 v) None) (ascii_chars (codes "constructor") refl) ∙ ap (λ (v : List ℕ). str_lit no_place v None) (sym ((bytes_eq-Decides u (codes "constructor")).0 e))

constructor_key_same : (look : Look) (read written : ℕ → Span) (k : Tree) → program (redo (leaves_by look read written) Plain k) ≡ program k → property_key (program (written_constructor_key (redo (leaves_by look read written) Plain k))) ≡ property_key (program k)
constructor_key_same look read written k h = by (constructor_key_is (leaves_by look read written) k)
  where
    by : ConstructorKeyIs (leaves_by look read written) k → property_key (program (written_constructor_key (redo (leaves_by look read written) Plain k))) ≡ property_key (program k)
    by (constructor_as_it_was e) = ap (λ (t : Tree). property_key (program t)) e ∙ ap property_key h
    by (as_word s u w i q e) = ap (λ (t : Tree). property_key (program t)) e ∙ (constructor_units u q ∙ sym (ap (λ (t : Tree). property_key (program t)) i))

written_tells : (look : Look) (read written : ℕ → Span) → Tells (Faithful look) (leaves_by look read written)
written_tells look read written = record {
  strings = λ m s u w h. h.plain;
  quasis = λ w. refl;
  elements = λ m s es qs h. h;
  arguments_kept = arguments_same look;
  key = key_same look read written;
  constructor_key = constructor_key_same look read written;
}

pub same_program : SameProgram
same_program look read written m t u f h s = sym (same HasElements (kept_at written) (kept_tells written) Plain u h) ∙ (ap program (s.so Plain) ∙ same (Faithful look) (leaves_by look read written) (written_tells look read written) m t f)
