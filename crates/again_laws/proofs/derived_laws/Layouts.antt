-- The layout of a tree given anew is alike, where keys stay as they are.
use Rattle.std.proofs.Common.{◌≡◌, ℕ, ◌+◌, Bool, true, false, not, ◌&&◌, ◌||◌, ◌==◌, if◌then◌else◌, refl, sym, ap, ap₂, ◌∙◌, true≢false}
use Rattle.base_token.specs.declared.place.Span.{Span}
use Rattle.tree_spec.specs.Places.{no_place, place_of}
use Rattle.tree_spec.specs.Tree.{Tree, Trees, none, more, script, es_module, import_decl, export_decl, named_export, export_default_decl, export_default_expr, export_all, import_named_specifier, import_default_specifier, import_star_as_specifier, export_namespace_specifier, export_named_specifier, block_stmt, debugger_stmt, with_stmt, return_stmt, labeled_stmt, break_stmt, continue_stmt, if_stmt, switch_stmt, switch_case, throw_stmt, try_stmt, catch_clause, while_stmt, do_while_stmt, for_stmt, for_in_stmt, for_of_stmt, expr_stmt, class_decl, fn_decl, var_decl, using_decl, var_declarator, function, param, decorator, class, constructor, class_method, private_method, class_prop, private_prop, static_block, auto_accessor, ident_name, computed_prop_name, private_name, this_expr, array_lit, object_lit, fn_expr, unary_expr, update_expr, bin_expr, assign_expr, member_expr, super_prop_expr, cond_expr, call_expr, new_expr, seq_expr, ident, tpl, tpl_element, tagged_tpl, arrow_expr, class_expr, yield_expr, meta_prop_expr, await_expr, paren_expr, opt_chain_expr, opt_call, super, import, expr_or_spread, spread_element, key_value_prop, assign_prop, getter_prop, setter_prop, method_prop, str_lit, bool_lit, null_lit, number_lit, big_int_lit, regex_lit, binding_ident, array_pat, rest_pat, object_pat, assign_pat, key_value_pat_prop, assign_pat_prop, expr_pat, list, absent}
use Rattle.print_layout_spec.specs.declared.look.Look.{Look}
use Rattle.print_layout_spec.specs.declared.look.Stand.{Stand}
use Rattle.print_layout_spec.specs.declared.look.Stand.TheVariants.{Alone, Operand, Body, Head, Key, Tagged}
use Rattle.print_layout_spec.specs.Looks.{Laid, ◌·◌, formats, start}
use Rattle.print_layout_spec.specs.Layout.{laid, statements, rows, separated, each, import_heads, named_items, first_namespace, template, comma, comma_line, is_named, is_no_namespace, is_head, is_computed, is_tagged as is_tagged_stand, has_arguments, number_before, point_before, optional_dot}
use Rattle.print_layout_spec.specs.Literals.{number}
use Rattle.again_laws.specs.Derived.Redo.{Mode, Plain, Headed, Pointed, Raw, is_tagged, is_asked, is_pointed, is_head as is_head_mode, object_mode, quasi_mode, Leaves, kept_at, redo, redos, Redone}
use Rattle.again_laws.specs.Derived.Written.{new_arguments, given_none}
use Rattle.print_layout_laws.proofs.Alike.{Alike, seen, same, ◌▸◌, if_same, if_alike, when_same, when_alike, start_alike, end_alike, last_alike}
use Rattle.again_laws.proofs.derived_laws.Questions
use Rattle.again_laws.proofs.derived_laws.Literals.{Spelt, name_alike, identifier_alike, key_word_alike, hash_name_alike, string_alike, number_alike, number_at, number_before_alike, quasi_alike, big_integer_alike}
use Rattle.again_laws.proofs.derived_laws.Parts as Parts
use Rattle.again_laws.proofs.derived_rules.Members.{laid_member, object, is_number}

key_mark : (lv : Leaves) (key : Tree) → Alike false (start (place_of (redo lv Plain key))) (start (place_of key))
key_mark lv key = record { so = refl }

of_both : (b : Bool) → (b && true) ≡ false → b ≡ false
of_both true e = e
of_both false e = refl

after : {f g k : Laid} → Alike false f g → Alike false g k → Alike false f k
after a b = record { so = a.so ∙ b.so }

untagged : (m : Mode) (p : Tree) → is_tagged_stand Head ≡ is_tagged (object_mode m p)
untagged m p = by (is_asked m || is_computed p)
  where
    by : (v : Bool) → false ≡ is_tagged (if v then Headed else Pointed)
    by true = refl
    by false = refl

unasked : (m : Mode) (p : Tree) → is_asked (object_mode m p) ≡ false
unasked m p = by (is_asked m || is_computed p)
  where
    by : (v : Bool) → is_asked (if v then Headed else Pointed) ≡ false
    by true = refl
    by false = refl

quasi_tagged : (m : Mode) → is_tagged (quasi_mode m) ≡ is_tagged m
quasi_tagged Raw = refl
quasi_tagged _ = refl

-- how a tree stands and is written again
pub record Fits (s : Stand) (m : Mode) (number : Bool) : Type 0 where
  pub tagged : is_tagged_stand s ≡ is_tagged m
  pub asked : is_asked m ≡ false
  pub plain : number ≡ true → is_pointed m ≡ false

at_alone : (b : Bool) → Fits Alone Plain b
at_alone b = record { tagged = refl; asked = refl; plain = λ e. refl }

at_operand : (b : Bool) → Fits Operand Plain b
at_operand b = record { tagged = refl; asked = refl; plain = λ e. refl }

at_body : (b : Bool) → Fits Body Plain b
at_body b = record { tagged = refl; asked = refl; plain = λ e. refl }

at_key : (b : Bool) → Fits Key Plain b
at_key b = record { tagged = refl; asked = refl; plain = λ e. refl }

at_head : (b : Bool) → Fits Head Headed b
at_head b = record { tagged = refl; asked = refl; plain = λ e. refl }

at_tag : (b : Bool) → Fits Tagged Raw b
at_tag b = record { tagged = refl; asked = refl; plain = λ e. refl }

at_object : (m : Mode) (p : Tree) (b : Bool) → b ≡ false → Fits Head (object_mode m p) b
at_object m p b n = record { tagged = untagged m p; asked = unasked m p; plain = λ e. absurd (true≢false (sym e ∙ n)) }

redo_number : (lv : Leaves) (m : Mode) (t : Tree) → is_number (redo lv m t) ≡ is_number t
redo_number lv m (number_lit at v w) = refl
redo_number lv m _ = refl

object_laid : (look : Look) (o k : Tree) → is_number o ≡ false → object look o k ≡ laid look Head o
object_laid look (number_lit at v w) k e = absurd (true≢false e)
object_laid look _ k e = refl

as_object : (look : Look) (u o k l : Tree) → is_number u ≡ is_number o → is_number o ≡ false → Alike false (laid look Head u) (laid look Head o) → Alike false (object look u k) (object look o l)
as_object look u o k l e f a = record { so = ap (λ (z : Laid). seen false z) (object_laid look u k (e ∙ f)) ∙ (a.so ∙ sym (ap (λ (z : Laid). seen false z) (object_laid look o l f))) }

-- a member of a chain, behind its object
abbrev pub asked_part : Look → Tree → Laid → Laid
asked_part look (number_lit at v w) g = (start at · number look at v w · optional_dot) · g
asked_part look o g = laid look Head o · optional_dot · g

abbrev pub point_part : Look → Tree → Tree → Laid → Laid
point_part look (number_lit at v w) k g = (number_before look at v w k · point_before k) · g
point_part look o k g = laid look Head o · point_before k · g

laid_asked : (look : Look) (st : Stand) (s t : Span) (o k : Tree) → laid look st (opt_chain_expr s true (member_expr t o k)) ≡ asked_part look o (laid look Alone k)
laid_asked look st s t (number_lit at v w) k = refl
laid_asked look st s t _ k = refl

laid_point : (look : Look) (st : Stand) (s t : Span) (o k : Tree) → laid look st (opt_chain_expr s false (member_expr t o k)) ≡ point_part look o k (laid look Alone k)
laid_point look st s t (number_lit at v w) k = refl
laid_point look st s t _ k = refl

asked_plain : (look : Look) (o : Tree) (g : Laid) → is_number o ≡ false → asked_part look o g ≡ (laid look Head o · optional_dot · g)
asked_plain look (number_lit at v w) g e = absurd (true≢false e)
asked_plain look _ g e = refl

point_plain : (look : Look) (o k : Tree) (g : Laid) → is_number o ≡ false → point_part look o k g ≡ (laid look Head o · point_before k · g)
point_plain look (number_lit at v w) k g e = absurd (true≢false e)
point_plain look _ k g e = refl

through : {f g k l : Laid} → f ≡ g → k ≡ l → Alike false g l → Alike false f k
through e f a = record { so = ap (λ (z : Laid). seen false z) e ∙ (a.so ∙ sym (ap (λ (z : Laid). seen false z) f)) }

-- these spellings, but for keys, which stay as they are
abbrev pub keyless : Leaves → Leaves
keyless given = record given { key = λ t. t }

module _ (given : Leaves) (look : Look) (h : Spelt look (keyless given)) where
  object_alike : (m : Mode) → is_asked m ≡ false → (obj prop : Tree) → (is_number obj ≡ false → Alike false (laid look Head (redo (keyless given) (object_mode m prop) obj)) (laid look Head obj)) → Alike false (object look (redo (keyless given) (object_mode m prop) obj) (redo (keyless given) Plain prop)) (object look obj prop)
  object_alike m a (number_lit at value raw) prop f = number_before_alike (keyless given) look h m a at value raw prop (redo (keyless given) Plain prop) (Questions.same_is_computed (keyless given) Plain prop)
  object_alike m a obj prop f = as_object look (redo (keyless given) (object_mode m prop) obj) obj (redo (keyless given) Plain prop) prop (redo_number (keyless given) (object_mode m prop) obj) refl (f refl)

  asked_alike : {f g : Laid} (obj : Tree) → (is_number obj ≡ false → Alike false (laid look Head (redo (keyless given) Headed obj)) (laid look Head obj)) → Alike false f g → Alike false (asked_part look (redo (keyless given) Headed obj) f) (asked_part look obj g)
  asked_alike (number_lit at value raw) f x = (start_alike at ▸ number_alike (keyless given) look h at value raw ▸ same) ▸ x
  asked_alike obj f x = through (asked_plain look (redo (keyless given) Headed obj) _ (redo_number (keyless given) Headed obj)) (asked_plain look obj _ refl) (f refl ▸ same ▸ x)

  point_alike : {f g : Laid} (obj prop : Tree) → (is_number obj ≡ false → Alike false (laid look Head (redo (keyless given) (object_mode Plain prop) obj)) (laid look Head obj)) → Alike false f g → Alike false (point_part look (redo (keyless given) (object_mode Plain prop) obj) (redo (keyless given) Plain prop) f) (point_part look obj prop g)
  point_alike (number_lit at value raw) prop f x = (number_before_alike (keyless given) look h Plain refl at value raw prop (redo (keyless given) Plain prop) (Questions.same_is_computed (keyless given) Plain prop) ▸ Parts.point_before_alike (keyless given) look Plain prop) ▸ x
  point_alike obj prop f x = through (point_plain look (redo (keyless given) (object_mode Plain prop) obj) (redo (keyless given) Plain prop) _ (redo_number (keyless given) (object_mode Plain prop) obj)) (point_plain look obj prop _ refl) (f refl ▸ Parts.point_before_alike (keyless given) look Plain prop ▸ x)

  mutual
    pub laid_alike : (s : Stand) (m : Mode) (t : Tree) → Fits s m (is_number t) → Alike false (laid look s (redo (keyless given) m t)) (laid look s t)
    -- programs and modules
    laid_alike s m (script span body shebang) f = when_alike _ _ (Questions.same_is_empty (keyless given) body) (start_alike span) ▸ same ▸ statements_alike body ▸ same
    laid_alike s m (es_module span body shebang) f = when_alike _ _ (Questions.same_is_empty (keyless given) body) (start_alike span) ▸ same ▸ statements_alike body ▸ same
    laid_alike s m (import_decl span specifiers src with_) f =
        start_alike span ▸ same ▸ if_alike _ _ (Questions.same_starts_with_default (keyless given) specifiers) same same
        ▸ Parts.imports_alike (keyless given) look specifiers (import_heads_alike false specifiers) (named_items_alike is_named ((λ t. Questions.same_is_named (keyless given) Plain t)) false specifiers)
        ▸ laid_alike Key Plain src (at_key (is_number src)) ▸ Parts.attributes_alike (keyless given) look Plain with_ (laid_alike Alone Plain with_ (at_alone (is_number with_))) ▸ same ▸ end_alike span
    laid_alike s m (import_named_specifier span local absent) f = start_alike span ▸ laid_alike Alone Plain local (at_alone (is_number local)) ▸ end_alike span
    laid_alike s m (import_named_specifier span local imported) f = start_alike span ▸ laid_alike Key Plain imported (at_key (is_number imported)) ▸ same ▸ same ▸ same ▸ laid_alike Alone Plain local (at_alone (is_number local)) ▸ end_alike span
    laid_alike s m (import_default_specifier span local) f = laid_alike Alone Plain local (at_alone (is_number local))
    laid_alike s m (import_star_as_specifier span local) f = same ▸ same ▸ same ▸ same ▸ laid_alike Alone Plain local (at_alone (is_number local))
    laid_alike s m (export_decl span (class_decl cs id (class at decorators body parent))) f =
        start_alike span ▸ each_alike decorators ▸ same ▸ same ▸ start_alike cs ▸ Parts.class_head_alike (keyless given) look Plain id parent (laid_alike Alone Plain id (at_alone (is_number id))) (laid_alike Alone Plain parent (at_alone (is_number parent)))
        ▸ Parts.class_tail_alike (keyless given) look at body (rows_alike false body)
    laid_alike s m (export_decl span decl) f = start_alike span ▸ same ▸ same ▸ laid_alike Alone Plain decl (at_alone (is_number decl)) ▸ Parts.exported_alike (keyless given) look Plain span decl
    laid_alike s m (named_export span specifiers src with_) f =
        start_alike span ▸ same ▸ same ▸ first_namespace_alike specifiers
        ▸ Parts.exports_alike (keyless given) look specifiers (named_items_alike is_no_namespace ((λ t. Questions.same_is_no_namespace (keyless given) Plain t)) false specifiers)
        ▸ Parts.there_alike (keyless given) look Plain src
        (if_alike _ _ (ap₂ (λ b c. b && not c) (Questions.same_has_namespace (keyless given) specifiers) (Questions.same_has_other (keyless given) specifiers)) same same
        ▸ (same ▸ same ▸ laid_alike Key Plain src (at_key (is_number src))) ▸ Parts.attributes_alike (keyless given) look Plain with_ (laid_alike Alone Plain with_ (at_alone (is_number with_))))
        ▸ same ▸ end_alike span
    laid_alike s m (export_namespace_specifier span name) f = start_alike span ▸ same ▸ same ▸ same ▸ same ▸ laid_alike Key Plain name (at_key (is_number name)) ▸ end_alike span
    laid_alike s m (export_named_specifier span orig absent) f = start_alike span ▸ laid_alike Key Plain orig (at_key (is_number orig)) ▸ end_alike span
    laid_alike s m (export_named_specifier span orig exported) f = start_alike span ▸ laid_alike Key Plain orig (at_key (is_number orig)) ▸ same ▸ same ▸ same ▸ laid_alike Key Plain exported (at_key (is_number exported)) ▸ end_alike span
    laid_alike s m (export_default_decl span (class_expr cs id (class at decorators body parent))) f =
        start_alike span ▸ each_alike decorators ▸ same ▸ same ▸ same ▸ same ▸ start_alike cs ▸ Parts.class_head_alike (keyless given) look Plain id parent (laid_alike Alone Plain id (at_alone (is_number id))) (laid_alike Alone Plain parent (at_alone (is_number parent)))
        ▸ Parts.class_tail_alike (keyless given) look at body (rows_alike false body)
    laid_alike s m (export_default_decl span decl) f = start_alike span ▸ same ▸ same ▸ same ▸ same ▸ laid_alike Alone Plain decl (at_alone (is_number decl))
    laid_alike s m (export_default_expr span e) f = start_alike span ▸ same ▸ same ▸ same ▸ Parts.before_word (keyless given) look Plain e ▸ laid_alike Alone Plain e (at_alone (is_number e)) ▸ same ▸ end_alike span
    laid_alike s m (export_all span src with_) f =
        start_alike span ▸ same ▸ same ▸ same ▸ same ▸ (same ▸ same ▸ laid_alike Key Plain src (at_key (is_number src))) ▸ Parts.attributes_alike (keyless given) look Plain with_ (laid_alike Alone Plain with_ (at_alone (is_number with_))) ▸ same ▸ end_alike span
    -- statements
    laid_alike s m (expr_stmt span e) f = laid_alike Alone Plain e (at_alone (is_number e)) ▸ same
    laid_alike s m (debugger_stmt span) f = same ▸ start_alike span ▸ same ▸ end_alike span ▸ same
    laid_alike s m (with_stmt span obj body) f =
        same ▸ start_alike span ▸ same ▸ same ▸ Parts.in_parens_alike (keyless given) look (laid_alike Alone Plain obj (at_alone (is_number obj))) ▸ laid_alike Alone Plain body (at_alone (is_number body)) ▸ Parts.closing_alike (keyless given) look Plain body
    laid_alike s m (return_stmt span arg) f =
        same ▸ start_alike span ▸ same ▸ Parts.there_alike (keyless given) look Plain arg (Parts.before_word (keyless given) look Plain arg ▸ laid_alike Alone Plain arg (at_alone (is_number arg))) ▸ same
    laid_alike s m (throw_stmt span arg) f = start_alike span ▸ same ▸ Parts.before_word (keyless given) look Plain arg ▸ laid_alike Alone Plain arg (at_alone (is_number arg)) ▸ same
    laid_alike s m (labeled_stmt span label body) f = same ▸ laid_alike Alone Plain label (at_alone (is_number label)) ▸ same ▸ same ▸ laid_alike Alone Plain body (at_alone (is_number body)) ▸ Parts.closing_alike (keyless given) look Plain body
    laid_alike s m (break_stmt span label) f = same ▸ start_alike span ▸ same ▸ Parts.there_alike (keyless given) look Plain label (same ▸ laid_alike Alone Plain label (at_alone (is_number label))) ▸ same
    laid_alike s m (continue_stmt span label) f = same ▸ start_alike span ▸ same ▸ Parts.there_alike (keyless given) look Plain label (same ▸ laid_alike Alone Plain label (at_alone (is_number label))) ▸ same
    laid_alike s m (if_stmt span test cons alt) f =
        same ▸ start_alike span ▸ same ▸ same ▸ Parts.in_parens_alike (keyless given) look (laid_alike Alone Plain test (at_alone (is_number test))) ▸ same ▸ laid_alike Alone Plain cons (at_alone (is_number cons)) ▸ Parts.closing_alike (keyless given) look Plain cons
        ▸ Parts.there_alike (keyless given) look Plain alt
        (when_alike _ _ (Questions.same_is_block (keyless given) Plain cons) same ▸ same ▸ Parts.before_word (keyless given) look Plain alt ▸ laid_alike Alone Plain alt (at_alone (is_number alt)) ▸ Parts.closing_alike (keyless given) look Plain alt)
    laid_alike s m (switch_stmt span discriminant cases) f =
        same ▸ start_alike span ▸ same ▸ Parts.in_parens_alike (keyless given) look (laid_alike Alone Plain discriminant (at_alone (is_number discriminant))) ▸ same
        ▸ Parts.indented_or_line_alike (keyless given) look cases (rows_alike false cases) ▸ last_alike span ▸ same
    laid_alike s m (switch_case span test body) f =
        start_alike span ▸ if_alike _ _ (Questions.same_is_there (keyless given) Plain test) (same ▸ Parts.before_word (keyless given) look Plain test ▸ laid_alike Alone Plain test (at_alone (is_number test))) same ▸ same
        ▸ when_alike _ _ (ap (λ b. not b) (Questions.same_is_empty (keyless given) body)) (same ▸ same ▸ rows_alike true body ▸ same)
    laid_alike s m (try_stmt span block handler finalizer) f =
        same ▸ start_alike span ▸ same ▸ same ▸ laid_alike Alone Plain block (at_alone (is_number block)) ▸ Parts.there_alike (keyless given) look Plain handler (same ▸ laid_alike Alone Plain handler (at_alone (is_number handler)))
        ▸ Parts.there_alike (keyless given) look Plain finalizer (same ▸ same ▸ laid_alike Alone Plain finalizer (at_alone (is_number finalizer)))
    laid_alike s m (catch_clause span param_ body) f =
        start_alike span ▸ same ▸ same ▸ Parts.there_alike (keyless given) look Plain param_ (Parts.in_parens_alike (keyless given) look (laid_alike Alone Plain param_ (at_alone (is_number param_)))) ▸ same ▸ laid_alike Alone Plain body (at_alone (is_number body))
    laid_alike s m (while_stmt span test body) f =
        same ▸ start_alike span ▸ same ▸ Parts.in_parens_alike (keyless given) look (laid_alike Alone Plain test (at_alone (is_number test))) ▸ laid_alike Alone Plain body (at_alone (is_number body)) ▸ Parts.closing_alike (keyless given) look Plain body
    laid_alike s m (do_while_stmt span test body) f =
        same ▸ start_alike span ▸ same ▸ Parts.before_word (keyless given) look Plain body ▸ laid_alike Alone Plain body (at_alone (is_number body)) ▸ Parts.closing_alike (keyless given) look Plain body
        ▸ same ▸ same ▸ Parts.in_parens_alike (keyless given) look (laid_alike Alone Plain test (at_alone (is_number test))) ▸ same ▸ end_alike span
    laid_alike s m (for_stmt span init test update body) f =
        same ▸ start_alike span ▸ same ▸ same ▸ laid_alike Alone Plain init (at_alone (is_number init)) ▸ same ▸ Parts.there_alike (keyless given) look Plain test (same ▸ laid_alike Alone Plain test (at_alone (is_number test)))
        ▸ same ▸ Parts.there_alike (keyless given) look Plain update (same ▸ laid_alike Alone Plain update (at_alone (is_number update))) ▸ same ▸ laid_alike Alone Plain body (at_alone (is_number body)) ▸ Parts.closing_alike (keyless given) look Plain body
    laid_alike s m (for_in_stmt span left right body) f =
        same ▸ start_alike span ▸ same ▸ same ▸ laid_alike Alone Plain left (at_alone (is_number left)) ▸ Parts.behind_word (keyless given) look Plain left ▸ same ▸ Parts.before_word (keyless given) look Plain right
        ▸ laid_alike Alone Plain right (at_alone (is_number right)) ▸ same ▸ laid_alike Alone Plain body (at_alone (is_number body)) ▸ Parts.closing_alike (keyless given) look Plain body
    laid_alike s m (for_of_stmt span is_await left right body) f =
        same ▸ start_alike span ▸ same ▸ same ▸ same ▸ same ▸ laid_alike Alone Plain left (at_alone (is_number left)) ▸ Parts.behind_word (keyless given) look Plain left ▸ same ▸ Parts.before_word (keyless given) look Plain right
        ▸ laid_alike Alone Plain right (at_alone (is_number right)) ▸ same ▸ laid_alike Alone Plain body (at_alone (is_number body)) ▸ Parts.closing_alike (keyless given) look Plain body
    laid_alike s m (block_stmt span stmts) f = when_same _ (start_alike span) ▸ same ▸ Parts.indented_alike (keyless given) look stmts (rows_alike true stmts) ▸ last_alike span ▸ same
    -- declarations
    laid_alike s m (var_decl span kind decls) f = same ▸ start_alike span ▸ same ▸ if_alike _ _ (Questions.same_starts_bracketed (keyless given) decls) same same ▸ commas_alike decls
    laid_alike s m (using_decl span is_await decls) f = same ▸ same ▸ same ▸ same ▸ commas_alike decls
    laid_alike s m (var_declarator span name init) f = start_alike span ▸ laid_alike Alone Plain name (at_alone (is_number name)) ▸ Parts.initial_alike (keyless given) look Plain init (laid_alike Alone Plain init (at_alone (is_number init)))
    laid_alike s m (fn_decl span id (function at params decorators body generates waits)) f =
        same ▸ start_alike span ▸ same ▸ same ▸ same ▸ laid_alike Alone Plain id (at_alone (is_number id)) ▸ Parts.function_tail_alike (keyless given) look (commas_alike params) (laid_alike Body Plain body (at_body (is_number body)))
    laid_alike s m (class_decl span id (class at decorators body parent)) f =
        start_alike span ▸ each_alike decorators ▸ Parts.class_head_alike (keyless given) look Plain id parent (laid_alike Alone Plain id (at_alone (is_number id))) (laid_alike Alone Plain parent (at_alone (is_number parent)))
        ▸ Parts.class_tail_alike (keyless given) look at body (rows_alike false body)
    -- functions and classes
    laid_alike s m (function at params decorators body generates waits) f = Parts.function_tail_alike (keyless given) look (commas_alike params) (laid_alike Body Plain body (at_body (is_number body)))
    laid_alike s m (class at decorators body parent) f = Parts.class_tail_alike (keyless given) look at body (rows_alike false body)
    laid_alike s m (param span decorators pat) f = start_alike span ▸ each_alike decorators ▸ laid_alike Alone Plain pat (at_alone (is_number pat)) ▸ end_alike span
    laid_alike s m (decorator span e) f = start_alike span ▸ same ▸ laid_alike Alone Plain e (at_alone (is_number e)) ▸ same ▸ end_alike span
    laid_alike s m (constructor span key params body) f = start_alike span ▸ same ▸ Parts.in_parens_alike (keyless given) look (commas_alike params) ▸ laid_alike Alone Plain body (at_alone (is_number body))
    laid_alike s m (class_method span key (function at params decorators body generates waits) kind is_static) f =
        start_alike span ▸ each_alike decorators ▸ when_same _ (same ▸ Parts.after_static_alike (keyless given) look Plain kind generates waits key)
        ▸ Parts.method_start_alike (keyless given) look Plain kind generates waits key
        ▸ laid_alike Key Plain key (at_key (is_number key)) ▸ Parts.in_parens_alike (keyless given) look (commas_alike params) ▸ same ▸ laid_alike Alone Plain body (at_alone (is_number body))
    laid_alike s m (private_method span key (function at params decorators body generates waits) kind is_static) f =
        start_alike span ▸ same ▸ same ▸ laid_alike Key Plain key (at_key (is_number key)) ▸ Parts.function_tail_alike (keyless given) look (commas_alike params) (laid_alike Body Plain body (at_body (is_number body)))
    laid_alike s m (class_prop span key value is_static decorators) f =
        start_alike span ▸ each_alike decorators ▸ same ▸ laid_alike Key Plain key (at_key (is_number key)) ▸ Parts.field_value_alike (keyless given) look Plain value (laid_alike Alone Plain value (at_alone (is_number value))) ▸ same ▸ end_alike span
    laid_alike s m (private_prop span key value is_static decorators) f =
        start_alike span ▸ each_alike decorators ▸ same ▸ laid_alike Key Plain key (at_key (is_number key)) ▸ Parts.field_value_alike (keyless given) look Plain value (laid_alike Alone Plain value (at_alone (is_number value))) ▸ same ▸ end_alike span
    laid_alike s m (auto_accessor span key value is_static decorators) f =
        each_alike decorators ▸ same ▸ same ▸ same ▸ laid_alike Key Plain key (at_key (is_number key)) ▸ Parts.initial_alike (keyless given) look Plain value (laid_alike Alone Plain value (at_alone (is_number value))) ▸ same
    laid_alike s m (static_block span body) f = start_alike span ▸ same ▸ laid_alike Alone Plain body (at_alone (is_number body)) ▸ end_alike span
    -- keys and names
    laid_alike s m (ident_name span sym) f = if_same _ (key_word_alike (keyless given) look h span sym) (name_alike (keyless given) look h span sym)
    laid_alike s m (computed_prop_name span e) f = start_alike span ▸ same ▸ laid_alike Alone Plain e (at_alone (is_number e)) ▸ same ▸ end_alike span
    laid_alike s m (private_name span sym) f = hash_name_alike (keyless given) look h span sym
    laid_alike s m (ident span sym) f = identifier_alike (keyless given) look h (given.read span.lo.0).lo span sym
    laid_alike s m (binding_ident span (ident at sym)) f = identifier_alike (keyless given) look h no_place.lo span sym
    -- expressions
    laid_alike s m (this_expr span) f = same ▸ start_alike span ▸ same ▸ end_alike span
    laid_alike s m (super span) f = same ▸ start_alike span ▸ same ▸ end_alike span
    laid_alike s m (import span) f = same ▸ start_alike span ▸ same ▸ end_alike span
    laid_alike s m (meta_prop_expr span kind) f = start_alike span ▸ same
    laid_alike s m (array_lit span elems) f =
        start_alike span ▸ same ▸ Parts.indented_alike (keyless given) look elems (lines_alike elems ▸ when_alike _ _ (Questions.same_ends_with_hole (keyless given) elems) same) ▸ same ▸ end_alike span
    laid_alike s m (object_lit span props) f = start_alike span ▸ same ▸ Parts.indented_alike (keyless given) look props (lines_alike props) ▸ last_alike span ▸ same
    laid_alike s m (fn_expr span id (function at params decorators body generates waits)) f =
        same ▸ start_alike span ▸ same ▸ same ▸ same ▸ Parts.there_alike (keyless given) look Plain id (same ▸ laid_alike Alone Plain id (at_alone (is_number id)))
        ▸ Parts.function_tail_alike (keyless given) look (commas_alike params) (laid_alike Body Plain body (at_body (is_number body)))
    laid_alike s m (class_expr span id (class at decorators body parent)) f =
        start_alike span ▸ each_alike decorators ▸ Parts.class_head_alike (keyless given) look Plain id parent (laid_alike Alone Plain id (at_alone (is_number id))) (laid_alike Alone Plain parent (at_alone (is_number parent)))
        ▸ Parts.class_tail_alike (keyless given) look at body (rows_alike false body)
    laid_alike s m (unary_expr span op arg) f =
        start_alike span ▸ same ▸ if_same _ (Parts.before_word (keyless given) look Plain arg) (when_alike _ _ (Questions.same_gap_of_unary (keyless given) Plain op arg) same) ▸ laid_alike Alone Plain arg (at_alone (is_number arg))
    laid_alike s m (update_expr span op true arg) f = start_alike span ▸ same ▸ laid_alike Alone Plain arg (at_alone (is_number arg))
    laid_alike s m (update_expr span op false arg) f = start_alike span ▸ laid_alike Alone Plain arg (at_alone (is_number arg)) ▸ same
    laid_alike s m (bin_expr span op left right) f =
        when_same _ (start_alike span) ▸ laid_alike Operand Plain left (at_operand (is_number left)) ▸ Parts.before_operator (keyless given) look Plain op left ▸ same ▸ Parts.behind_operator (keyless given) look Plain op right ▸ laid_alike Alone Plain right (at_alone (is_number right))
    laid_alike s m (assign_expr span op left right) f = laid_alike Alone Plain left (at_alone (is_number left)) ▸ same ▸ same ▸ same ▸ laid_alike Alone Plain right (at_alone (is_number right))
    laid_alike s m (cond_expr span test cons alt) f =
        start_alike span ▸ laid_alike Alone Plain test (at_alone (is_number test)) ▸ same ▸ same ▸ same ▸ laid_alike Alone Plain cons (at_alone (is_number cons)) ▸ same ▸ same ▸ same ▸ laid_alike Alone Plain alt (at_alone (is_number alt))
    laid_alike s m (call_expr span callee args) f = same ▸ start_alike span ▸ laid_alike Head Headed callee (at_head (is_number callee)) ▸ Parts.in_parens_alike (keyless given) look (commas_alike args)
    laid_alike s m (new_expr span callee args) f =
        same ▸ start_alike span ▸ same ▸ Parts.before_word (keyless given) look Headed callee ▸ laid_alike Head Headed callee (at_head (is_number callee))
        ▸ when_alike _ _ (ap (λ b. formats look || (b || is_head s)) (h.given_there (is_head_mode m) (redo (keyless given) Plain args) ∙ Questions.same_has_arguments (keyless given) Plain args))
        (Parts.in_parens_alike (keyless given) look (after (h.given_laid (is_head_mode m) (redo (keyless given) Plain args)) (laid_alike Alone Plain args (at_alone (is_number args)))))
    laid_alike s m (list items) f = commas_alike items
    laid_alike s m (seq_expr span exprs) f = start_alike span ▸ commas_alike exprs
    laid_alike s m (member_expr span obj prop) f = through (laid_member look s no_place (redo (keyless given) (object_mode m prop) obj) (redo (keyless given) Plain prop)) (laid_member look s span obj prop)
        (start_alike span ▸ object_alike m f.asked obj prop (λ e. laid_alike Head (object_mode m prop) obj (at_object m prop (is_number obj) e)) ▸ Parts.point_before_alike (keyless given) look Plain prop ▸ laid_alike Alone Plain prop (at_alone (is_number prop)) ▸ end_alike span)
    laid_alike s m (super_prop_expr span obj prop) f = start_alike span ▸ laid_alike Alone Plain obj (at_alone (is_number obj)) ▸ Parts.point_before_alike (keyless given) look Plain prop ▸ laid_alike Alone Plain prop (at_alone (is_number prop))
    laid_alike s m (opt_chain_expr span true (member_expr at obj prop)) f = through (laid_asked look s no_place no_place (redo (keyless given) Headed obj) (redo (keyless given) Plain prop)) (laid_asked look s span at obj prop) (asked_alike obj (λ e. laid_alike Head Headed obj (at_head (is_number obj))) (laid_alike Alone Plain prop (at_alone (is_number prop))))
    laid_alike s m (opt_chain_expr span false (member_expr at obj prop)) f = through (laid_point look s no_place no_place (redo (keyless given) (object_mode Plain prop) obj) (redo (keyless given) Plain prop)) (laid_point look s span at obj prop) (point_alike obj prop (λ e. laid_alike Head (object_mode Plain prop) obj (at_object Plain prop (is_number obj) e)) (laid_alike Alone Plain prop (at_alone (is_number prop))))
    laid_alike s m (opt_chain_expr span optional (opt_call at callee args)) f = laid_alike Head Headed callee (at_head (is_number callee)) ▸ same ▸ Parts.in_parens_alike (keyless given) look (commas_alike args)
    laid_alike s m (opt_call at callee args) f = laid_alike Head Headed callee (at_head (is_number callee)) ▸ Parts.in_parens_alike (keyless given) look (commas_alike args)
    laid_alike s m (paren_expr span e) f = same ▸ start_alike span ▸ same ▸ laid_alike Alone Plain e (at_alone (is_number e)) ▸ last_alike span ▸ same
    laid_alike s m (arrow_expr span params body waits) f =
        start_alike span ▸ when_same _ (same ▸ when_alike _ _ (ap (λ b. formats look || b) (Questions.same_is_one_name (keyless given) params)) same)
        ▸ if_alike _ _ (ap (λ b. b && not (formats look)) (Questions.same_is_one_name (keyless given) params)) (commas_alike params) (Parts.in_parens_alike (keyless given) look (commas_alike params))
        ▸ same ▸ if_alike _ _ (Questions.same_is_block (keyless given) Plain body) (laid_alike Body Plain body (at_body (is_number body))) (same ▸ laid_alike Alone Plain body (at_alone (is_number body)) ▸ same)
    laid_alike s m (yield_expr span arg true) f = start_alike span ▸ same ▸ same ▸ Parts.there_alike (keyless given) look Plain arg (same ▸ laid_alike Alone Plain arg (at_alone (is_number arg)))
    laid_alike s m (yield_expr span arg false) f = start_alike span ▸ same ▸ Parts.there_alike (keyless given) look Plain arg (Parts.before_word (keyless given) look Plain arg ▸ laid_alike Alone Plain arg (at_alone (is_number arg)))
    laid_alike s m (await_expr span arg) f = start_alike span ▸ same ▸ same ▸ laid_alike Alone Plain arg (at_alone (is_number arg))
    laid_alike s m (expr_or_spread span spread e) f = when_alike _ _ (Questions.same_spread (keyless given) spread) same ▸ laid_alike Alone Plain e (at_alone (is_number e))
    laid_alike s m (spread_element span e) f = start_alike span ▸ same ▸ laid_alike Alone Plain e (at_alone (is_number e)) ▸ end_alike span
    -- properties
    laid_alike s m (key_value_prop span key value) f = key_mark (keyless given) key ▸ laid_alike Key Plain key (at_key (is_number key)) ▸ same ▸ same ▸ laid_alike Alone Plain value (at_alone (is_number value))
    laid_alike s m (assign_prop span key value) f = start_alike span ▸ laid_alike Alone Plain key (at_alone (is_number key)) ▸ same ▸ laid_alike Alone Plain value (at_alone (is_number value))
    laid_alike s m (getter_prop span key body) f =
        start_alike span ▸ same ▸ if_alike _ _ (Questions.same_is_bracketed_key (keyless given) Plain key) same same ▸ laid_alike Key Plain key (at_key (is_number key)) ▸ same ▸ same ▸ same ▸ same ▸ laid_alike Alone Plain body (at_alone (is_number body))
    laid_alike s m (setter_prop span key param_ body) f =
        start_alike span ▸ same ▸ if_alike _ _ (Questions.same_is_bracketed_key (keyless given) Plain key) same same ▸ laid_alike Key Plain key (at_key (is_number key)) ▸ same
        ▸ Parts.in_parens_alike (keyless given) look (laid_alike Alone Plain param_ (at_alone (is_number param_))) ▸ laid_alike Alone Plain body (at_alone (is_number body))
    laid_alike s m (method_prop span key (function at params decorators body generates waits)) f =
        start_alike span ▸ same ▸ laid_alike Key Plain key (at_key (is_number key)) ▸ same ▸ Parts.function_tail_alike (keyless given) look (commas_alike params) (laid_alike Body Plain body (at_body (is_number body)))
    -- literals
    laid_alike s m (str_lit span units raw) f = Parts.as_expression_alike (keyless given) look s span ▸ string_alike (keyless given) look h span units raw
    laid_alike s m (number_lit span value raw) f = Parts.as_expression_alike (keyless given) look s span ▸ number_at (keyless given) look h (is_pointed m) (f.plain refl) span value raw
    laid_alike s m (big_int_lit span radix digits raw) f = Parts.as_expression_alike (keyless given) look s span ▸ big_integer_alike (keyless given) look h span radix digits raw
    laid_alike s m (bool_lit span value) f = start_alike span ▸ same
    laid_alike s m (null_lit span) f = start_alike span ▸ same
    laid_alike s m (regex_lit span body flags) f = start_alike span ▸ same
    -- templates
    laid_alike s m (tpl span exprs quasis) f =
        if_alike _ _ (ap₂ (λ n m. n == m + 1) (Questions.same_count (keyless given) (quasi_mode m) quasis) (Questions.same_count (keyless given) Plain exprs))
        (start_alike span ▸ same ▸ template_alike s (quasi_mode m) (f.tagged ∙ sym (quasi_tagged m)) exprs quasis ▸ same ▸ end_alike span) same
    laid_alike s m (tagged_tpl span tag tpl_) f = start_alike span ▸ laid_alike Head Headed tag (at_head (is_number tag)) ▸ laid_alike Tagged Raw tpl_ (at_tag (is_number tpl_)) ▸ end_alike span
    laid_alike s m (tpl_element span is_last raw cooked) f = quasi_alike (keyless given) look h s m f.tagged (tpl_element span is_last raw cooked)
    -- patterns
    laid_alike s m (array_pat span elems) f = start_alike span ▸ same ▸ commas_alike elems ▸ when_alike _ _ (Questions.same_ends_with_hole (keyless given) elems) same ▸ same ▸ end_alike span
    laid_alike s m (object_pat span props) f =
        start_alike span ▸ same ▸ when_alike _ _ (ap (λ b. not b) (Questions.same_is_empty (keyless given) props)) (same ▸ commas_alike props ▸ same) ▸ same ▸ end_alike span
    laid_alike s m (rest_pat span dots arg) f = start_alike dots ▸ same ▸ end_alike dots ▸ laid_alike Alone Plain arg (at_alone (is_number arg))
    laid_alike s m (assign_pat span left right) f = start_alike span ▸ laid_alike Alone Plain left (at_alone (is_number left)) ▸ same ▸ same ▸ same ▸ laid_alike Alone Plain right (at_alone (is_number right)) ▸ end_alike span
    laid_alike s m (key_value_pat_prop span key value) f = start_alike span ▸ laid_alike Key Plain key (at_key (is_number key)) ▸ same ▸ same ▸ laid_alike Alone Plain value (at_alone (is_number value)) ▸ end_alike span
    laid_alike s m (assign_pat_prop span key value) f = start_alike span ▸ laid_alike Alone Plain key (at_alone (is_number key)) ▸ Parts.initial_alike (keyless given) look Plain value (laid_alike Alone Plain value (at_alone (is_number value))) ▸ end_alike span
    laid_alike s m (expr_pat e) f = laid_alike Alone Plain e (at_alone (is_number e))
    laid_alike s m _ f = same

    statements_alike : (ts : Trees) → Alike false (statements look (redos (keyless given) Plain ts)) (statements look ts)
    statements_alike none = same
    statements_alike (more t ts) = laid_alike Alone Plain t (at_alone (is_number t)) ▸ Parts.closing_alike (keyless given) look Plain t ▸ statements_alike ts

    rows_alike : (closed : Bool) (ts : Trees) → Alike false (rows look closed (redos (keyless given) Plain ts)) (rows look closed ts)
    rows_alike closed none = same
    rows_alike closed (more t none) = laid_alike Alone Plain t (at_alone (is_number t)) ▸ when_same _ (Parts.closing_alike (keyless given) look Plain t)
    rows_alike closed (more t (more u ts)) = laid_alike Alone Plain t (at_alone (is_number t)) ▸ when_same _ (Parts.closing_alike (keyless given) look Plain t) ▸ same ▸ rows_alike closed (more u ts)

    commas_alike : (ts : Trees) → Alike false (separated look (comma look) (redos (keyless given) Plain ts)) (separated look (comma look) ts)
    commas_alike none = same
    commas_alike (more t none) = laid_alike Alone Plain t (at_alone (is_number t))
    commas_alike (more t (more u ts)) = laid_alike Alone Plain t (at_alone (is_number t)) ▸ same ▸ commas_alike (more u ts)

    lines_alike : (ts : Trees) → Alike false (separated look (comma_line look) (redos (keyless given) Plain ts)) (separated look (comma_line look) ts)
    lines_alike none = same
    lines_alike (more t none) = laid_alike Alone Plain t (at_alone (is_number t))
    lines_alike (more t (more u ts)) = laid_alike Alone Plain t (at_alone (is_number t)) ▸ same ▸ lines_alike (more u ts)

    each_alike : (ts : Trees) → Alike false (each look (redos (keyless given) Plain ts)) (each look ts)
    each_alike none = same
    each_alike (more t ts) = laid_alike Alone Plain t (at_alone (is_number t)) ▸ each_alike ts

    import_heads_alike : (seen : Bool) (ts : Trees) → Alike false (import_heads look seen (redos (keyless given) Plain ts)) (import_heads look seen ts)
    import_heads_alike seen none = same
    import_heads_alike seen (more t ts) =
        if_alike _ _ (Questions.same_is_default (keyless given) Plain t) (laid_alike Alone Plain t (at_alone (is_number t)) ▸ import_heads_alike true ts)
        (if_alike _ _ (Questions.same_is_named (keyless given) Plain t) (import_heads_alike seen ts) (same ▸ laid_alike Alone Plain t (at_alone (is_number t)) ▸ import_heads_alike seen ts))

    named_items_alike : (stands : Tree → Bool) → ((t : Tree) → stands (redo (keyless given) Plain t) ≡ stands t) → (started : Bool) (ts : Trees)
        → Alike false (named_items look stands started (redos (keyless given) Plain ts)) (named_items look stands started ts)
    named_items_alike stands e started none = same
    named_items_alike stands e started (more t ts) = if_alike _ _ (e t) (same ▸ laid_alike Alone Plain t (at_alone (is_number t)) ▸ named_items_alike stands e true ts) (named_items_alike stands e started ts)

    first_namespace_alike : (ts : Trees) → Alike false (first_namespace look (redos (keyless given) Plain ts)) (first_namespace look ts)
    first_namespace_alike none = same
    first_namespace_alike (more t ts) = if_alike _ _ (Questions.same_is_namespace (keyless given) Plain t) (laid_alike Alone Plain t (at_alone (is_number t))) (first_namespace_alike ts)

    template_alike : (s : Stand) (m : Mode) → is_tagged_stand s ≡ is_tagged m → (exprs quasis : Trees) → Alike false (template look s (redos (keyless given) Plain exprs) (redos (keyless given) m quasis)) (template look s exprs quasis)
    template_alike s m fit none none = same
    template_alike s m fit none (more q none) = quasi_alike (keyless given) look h s m fit q
    template_alike s m fit none (more q (more r qs)) = same
    template_alike s m fit (more e es) none = same
    template_alike s m fit (more e es) (more q none) = quasi_alike (keyless given) look h s m fit q
    template_alike s m fit (more e es) (more q (more r qs)) = quasi_alike (keyless given) look h s m fit q ▸ same ▸ laid_alike Alone Plain e (at_alone (is_number e)) ▸ same ▸ template_alike s m fit es (more r qs)

-- ---- the tree that is this one but for spellings

pub alike_with : (given : Leaves) (two : Look) → Spelt two (kept_at given.written) → Spelt two (keyless given) → (t u : Tree) → Redone (keyless given) Plain t u → Alike false (laid two Alone u) (laid two Alone t)
alike_with given two k w t u s = record {
  so = sym (laid_alike (kept_at given.written) two k Alone Plain u (at_alone (is_number u))).so ∙ (ap (λ (v : Tree). seen false (laid two Alone v)) (s.so Plain) ∙ (laid_alike given two w Alone Plain t (at_alone (is_number t))).so);
}

pub given_there : (one : Look) (b : Bool) (a : Tree) → has_arguments (new_arguments one b a) ≡ has_arguments a
given_there one b absent = by (formats one || b)
  where
    by : (v : Bool) → has_arguments (given_none v) ≡ false
    by true = refl
    by false = refl
given_there one b (list none) = by (formats one || b)
  where
    by : (v : Bool) → has_arguments (given_none v) ≡ false
    by true = refl
    by false = refl
given_there one b (list (more t ts)) = refl
given_there one b _ = refl

pub given_laid : (one two : Look) (b : Bool) (a : Tree) → Alike false (laid two Alone (new_arguments one b a)) (laid two Alone a)
given_laid one two b absent = by (formats one || b)
  where
    by : (v : Bool) → Alike false (laid two Alone (given_none v)) (laid two Alone absent)
    by true = same
    by false = same
given_laid one two b (list none) = by (formats one || b)
  where
    by : (v : Bool) → Alike false (laid two Alone (given_none v)) (laid two Alone absent)
    by true = same
    by false = same
given_laid one two b (list (more t ts)) = same
given_laid one two b _ = same

pub kept_spelt : (two : Look) (places : ℕ → Span) → Spelt two (kept_at places)
kept_spelt two places = record { strings = λ u w. refl; directives = λ u w. refl; numbers = λ v w. refl; pointed = λ v w. refl; bigs = λ r d w. refl; quasis = λ b w. refl; given_there = λ b a. refl; given_laid = λ b a. same }
