-- Every tree takes tokens, but a program, which may be empty.
use Rattle.std.proofs.Common.{◌≡◌, ℕ, ◌+◌, ◌<◌, ◌≤◌, ◌⊎◌, inl, inr, Bool, true, false, ◌&&◌, ◌||◌, ◌==◌, eqb, if◌then◌else◌, List, [], ◌∷◌, length, Option, Some, None, refl, sym, ap, ⊎_elim, true≢false, arith}
use Rattle.std.proofs.lemmas.Bool.{eqb-true, or_cases}
use Rattle.base_token.specs.declared.place.Span.{Span}
use Rattle.base_token.specs.Kinds.{accessor_kind, arrow_kind, hash_kind, dot_kind, dot_dot_dot_kind, left_paren_kind, left_bracket_kind, left_brace_kind, right_brace_kind, comma_kind, back_quote_kind, semicolon_kind, question_mark_kind, str_kind, num_kind, big_int_kind, regex_kind, mul_kind, this_kind, null_kind, true_kind, false_kind, await_kind, break_kind, catch_kind, continue_kind, debugger_kind, do_kind, for_kind, if_kind, return_kind, switch_kind, throw_kind, try_kind, while_kind, with_kind, new_kind, super_kind, class_kind, export_kind, import_kind, yield_kind, get_kind, set_kind, static_kind, using_kind, function_kind, target_kind, meta_kind, assign_kind, template_kind, colon_kind}
use Rattle.tree_spec.specs.Tree.{Tree, Trees, none, more, script, es_module, import_decl, export_decl, named_export, export_default_decl, export_default_expr, export_all, import_named_specifier, import_default_specifier, import_star_as_specifier, export_namespace_specifier, export_named_specifier, block_stmt, empty_stmt, debugger_stmt, with_stmt, return_stmt, labeled_stmt, break_stmt, continue_stmt, if_stmt, switch_stmt, switch_case, throw_stmt, try_stmt, catch_clause, while_stmt, do_while_stmt, for_stmt, for_in_stmt, for_of_stmt, expr_stmt, class_decl, fn_decl, var_decl, using_decl, var_declarator, function, param, class, constructor, class_method, private_method, class_prop, private_prop, static_block, auto_accessor, ident_name, computed_prop_name, private_name, this_expr, array_lit, object_lit, fn_expr, unary_expr, update_expr, bin_expr, assign_expr, member_expr, super_prop_expr, cond_expr, call_expr, new_expr, seq_expr, ident, tpl, tpl_element, tagged_tpl, arrow_expr, class_expr, yield_expr, meta_prop_expr, await_expr, paren_expr, opt_chain_expr, opt_call, super, import, expr_or_spread, spread_element, key_value_prop, assign_prop, getter_prop, setter_prop, method_prop, str_lit, bool_lit, null_lit, number_lit, big_int_lit, regex_lit, binding_ident, array_pat, rest_pat, object_pat, assign_pat, key_value_pat_prop, assign_pat_prop, expr_pat, list, absent, plain_method}
use Rattle.grammar_spec.specs.Tokens.Input.{PlacedToken, Input, Code, kind, rest, others, Takes, TakesWord, with_in, assigning, binding, in_list, turned_strict, in_field, alone, setting, by, without_in, in_arrow}
use Rattle.grammar_spec.specs.Tokens.Operators.{plain_end, source_end, exports_end, key_end}
use Rattle.grammar_spec.specs.Tokens.Shape.{level, is_absent, is_hole, is_binding, is_bound_name, is_item_pat, is_key, is_private, is_item, is_use_strict, is_directive, is_star_import, is_default_import, is_star_export, is_named_import, is_default_case, is_param, is_declarator, is_string, is_element, is_prop, is_named_export, ends, field_end, function_parts, FunctionParts, count_of, declarators_end}
use Rattle.grammar_spec.specs.Children.{Child, child, By, is_ident, Sorted, Listed, CommaThen, Commas, Items, Ends, AtEnd, Expr, is_module_item}
use Rattle.grammar_spec.specs.Expressions.{TemplateSpans, ImportArguments, Bracketed, Dotted, Arguments, Optional, TemplateLiteral}
use Rattle.grammar_spec.specs.Patterns.{Item, Property}
use Rattle.grammar_spec.specs.Statements.{Cases, ClosesBlock, ClosesCase, ForRest, Over, Clause, InParens, UsingBindings, Bindings, ForOpen, ForAwaitOpen, is_var_word, statement_end, starts_head}
use Rattle.grammar_spec.specs.Functions.{Parameters, SetParameter, Members, Closes, Body, Star, Async, Static, FunctionHead, ArrowHead, ArrowPattern, BareName, Method, Initial, ClassMethod, Field}
use Rattle.grammar_spec.specs.Modules.{ImportClause, AfterDefault, NamedImports, Source, ExportName, Specified, ExportList, Hashbang}
use Rattle.grammar_spec.specs.Grammar.{Produces, children}
use Rattle.grammar_laws.proofs.complete_base.Yields.{len, shorter}
use Rattle.grammar_laws.proofs.complete_base.Trees.{by_cases, by_unary, by_update, takes, some_word, some_binary, some_assign}

-- ---- lengths

passed_of : (ps : List PlacedToken) → length (others ps) ≤ length ps
passed_of [] = omega arith
passed_of (p ∷ ps) = omega arith

passed : (a b : Input) → rest a ≡ b → len b ≤ len a
passed a b e = omega (arith, passed_of a.places, ap (λ (z : Input). len z) e)

same : (a b : Input) → a ≡ b → len b ≤ len a
same a b e = omega (arith, ap (λ (z : Input). len z) e)

-- how many tokens a tree takes at least
abbrev pub least : Tree → ℕ
least (script s ss l) = 0
least (es_module s ss l) = 0
least (expr_pat e) = least e
least _ = 1

pub level_least : (t : Tree) → 1 ≤ level t → least t ≡ 1
level_least (script s ss l) h = absurd (omega arith)
level_least (es_module s ss l) h = absurd (omega arith)
level_least (expr_pat e) h = absurd (omega arith)
level_least _ h = refl

binding_least : (t : Tree) → is_binding t ≡ true → least t ≡ 1
binding_least (script s ss l) h = absurd (true≢false (sym h))
binding_least (es_module s ss l) h = absurd (true≢false (sym h))
binding_least (expr_pat e) h = absurd (true≢false (sym h))
binding_least _ h = refl

bound_least : (t : Tree) → is_bound_name t ≡ true → least t ≡ 1
bound_least (script s ss l) h = absurd (true≢false (sym h))
bound_least (es_module s ss l) h = absurd (true≢false (sym h))
bound_least (expr_pat e) h = absurd (true≢false (sym h))
bound_least _ h = refl

item_least : (t : Tree) → is_item_pat true t ≡ true → least t ≡ 1
item_least (script s ss l) h = absurd (true≢false (sym h))
item_least (es_module s ss l) h = absurd (true≢false (sym h))
item_least (expr_pat e) h = absurd (true≢false (sym h))
item_least _ h = refl

key_least : (t : Tree) → is_key t ≡ true → least t ≡ 1
key_least (script s ss l) h = absurd (true≢false (sym h))
key_least (es_module s ss l) h = absurd (true≢false (sym h))
key_least (expr_pat e) h = absurd (true≢false (sym h))
key_least _ h = refl

private_least : (t : Tree) → is_private t ≡ true → least t ≡ 1
private_least (script s ss l) h = absurd (true≢false (sym h))
private_least (es_module s ss l) h = absurd (true≢false (sym h))
private_least (expr_pat e) h = absurd (true≢false (sym h))
private_least _ h = refl

string_least : (t : Tree) → is_string t ≡ true → least t ≡ 1
string_least (script s ss l) h = absurd (true≢false (sym h))
string_least (es_module s ss l) h = absurd (true≢false (sym h))
string_least (expr_pat e) h = absurd (true≢false (sym h))
string_least _ h = refl

pub item_takes : (t : Tree) → is_item t ≡ true → least t ≡ 1
item_takes (script s ss l) h = absurd (true≢false (sym h))
item_takes (es_module s ss l) h = absurd (true≢false (sym h))
item_takes (expr_pat e) h = absurd (true≢false (sym h))
item_takes _ h = refl

ident_least : (t : Tree) → is_ident t ≡ true → least t ≡ 1
ident_least (ident s n) h = refl
ident_least _ h = absurd (true≢false (sym h))

var_some : (k : ℕ) → is_var_word k ≡ true → 1 ≤ k
var_some k h = ⊎_elim (λ (e : eqb k 117 ≡ true). omega (arith, eqb-true k 117 e)) (λ h. ⊎_elim (λ (e : eqb k 118 ≡ true). omega (arith, eqb-true k 118 e)) (λ (e : eqb k 119 ≡ true). omega (arith, eqb-true k 119 e)) (or_cases (eqb k 118) (eqb k 119) h)) (or_cases (eqb k 117) _ h)

-- ---- productions, where their parts take tokens

-- the trees of a list take tokens
abbrev pub Shrinks : Tree → Type 0
Shrinks t = (c : Code) (ts r : Input) → Produces t c ts r → len r + least t ≤ len ts

abbrev AllShrink : Trees → Type 0
AllShrink none = Unit {0}
AllShrink (more t ts) = Shrinks t × AllShrink ts

-- what a part of a list produces
abbrev Told : (Child → Input → Input → Type 0) → Type 0
Told P = (x : Tree) (m n : Input) → P (child x (λ y. Produces x y)) m n → (d : Code) × Produces x d m n

told_sorted : (f : Tree → Bool) (c : Code) → Told (Sorted f c)
told_sorted f c x m n h = (c, h.1)

listed_cut : (holes : Bool) (P : Child → Input → Input → Type 0) (c : Code) (close : ℕ) (e : Told P) (xs : Trees) (ts r : Input) → AllShrink xs → Listed holes P c close (children xs) ts r → len r ≤ len ts
listed_cut holes P c close e none ts r a h = passed ts r h.2
listed_cut holes P c close e (more x xs) ts r a h = by_cases (holes && is_hole x) _ _ (len r ≤ len ts) h
    (λ q k. omega (arith, passed ts k.0 k.1.2, listed_cut holes P c close e xs k.0 r a.1 k.2))
    (λ q k. let y = e x ts k.0 k.1 in let z : len k.0 + least x ≤ len ts = a.0 y.0 ts k.0 y.1 in
    ⊎_elim (λ j. omega (arith, z, passed k.0 j.1 j.2.2, listed_cut holes P c close e xs j.1 r a.1 j.3)) (λ j. omega (arith, z, passed k.0 r j.1.2)) k.2)

commas_cut : (P : Child → Input → Input → Type 0) (c : Code) (e : Told P) (xs : Trees) (ts r : Input) → AllShrink xs → CommaThen P c (children xs) ts r → len r ≤ len ts
commas_cut P c e none ts r a h = same ts r h
commas_cut P c e (more x xs) ts r a h = let y = e x h.0 h.1 h.3 in omega (arith, passed ts h.0 h.2.2, a.0 y.0 h.0 h.1 y.1, commas_cut P c e xs h.1 r a.1 h.4)

each_cut : (P : Child → Input → Input → Type 0) (c : Code) (e : Told P) (xs : Trees) (ts r : Input) → AllShrink xs → Commas P c (children xs) ts r → len r ≤ len ts
each_cut P c e none ts r a h = absurd h
each_cut P c e (more x xs) ts r a h = let y = e x ts h.0 h.1 in omega (arith, a.0 y.0 ts h.0 y.1, commas_cut P c e xs h.0 r a.1 h.2)

pub ends_cut : (c : Code) (e : ℕ) (m r : Input) → Ends c e m r → len r ≤ len m
ends_cut c e m r (inl h) = passed m r h.2
ends_cut c e m r (inr h) = same m r h.2

items_cut : (may : Tree → Bool) (close : Code → Input → Input → Type 0) (f : (c : Code) (m n : Input) → close c m n → len n ≤ len m) (ss : Trees) (c : Code) (b : Bool) (ts r : Input) → AllShrink ss → Items may close c b (children ss) ts r → len r ≤ len ts
items_cut may close f none c b ts r a h = f c ts r h
items_cut may close f (more s ss) c b ts r a h = omega (arith, a.0 (in_list c) ts h.0 h.2, items_cut may close f ss (if b && is_use_strict s then turned_strict c else c) (b && is_directive s) h.0 r a.1 h.3)

brace_cut : (c : Code) (m n : Input) → Takes c right_brace_kind m n → len n ≤ len m
brace_cut c m n h = passed m n h.2

body_cut : (ss : Trees) (c : Code) (s : Span) (ts r : Input) → AllShrink ss → Body c s (children ss) ts r → len r < len ts
body_cut ss c s ts r a h = omega (arith, takes left_brace_kind ts h.0 h.1.0 (omega arith) h.1.2, items_cut is_item Closes brace_cut ss c true h.0 r a h.2)

star_cut : (b : Bool) (c : Code) (ts r : Input) → Star b c ts r → len r ≤ len ts
star_cut true c ts r h = passed ts r h.2
star_cut false c ts r h = same ts r h

async_cut : (b : Bool) (c : Code) (ts r : Input) → Async b c ts r → len r ≤ len ts
async_cut true c ts r h = passed ts r h.0.3
async_cut false c ts r h = same ts r h

static_cut : (b : Bool) (c : Code) (ts r : Input) → Static b c ts r → len r ≤ len ts
static_cut true c ts r h = passed ts r h.3
static_cut false c ts r h = same ts r h

head_cut : (g a : Bool) (c : Code) (ts r : Input) → FunctionHead g a c ts r → len r < len ts
head_cut g a c ts r h = omega (arith, async_cut a c ts h.0 h.2, takes function_kind h.0 h.1 h.3.0 (omega arith) h.3.3, star_cut g c h.1 r h.4)

parameters_cut : (ps : Trees) (c : Code) (ts r : Input) → AllShrink ps → Parameters c (children ps) ts r → len r ≤ len ts
parameters_cut ps c ts r a h = omega (arith, passed ts h.0 h.1.2, listed_cut false (Sorted is_param c) c 8 (told_sorted is_param c) ps h.0 r a h.2)

set_cut : (ps : Trees) (c : Code) (ts r : Input) → AllShrink ps → SetParameter c (children ps) ts r → len r ≤ len ts
set_cut none c ts r a h = absurd h
set_cut (more x xs) c ts r a h = omega (arith, passed ts h.0 h.4.2, a.0 c h.0 h.1 h.5.1, passed h.1 r h.6.2)

bare_cut : (ps : Trees) (c : Code) (ts r : Input) → AllShrink ps → BareName c (children ps) ts r → len r ≤ len ts
bare_cut none c ts r a h = absurd h
bare_cut (more x xs) c ts r a h = omega (arith, a.0 c ts r h.1.1)

arrow_cut : (i : Bool) (ps : Trees) (c : Code) (ts r : Input) → AllShrink ps → ArrowHead i c (children ps) ts r → len r < len ts
arrow_cut i ps c ts r a h = let y : len h.1 ≤ len h.0 = ⊎_elim (λ k. bare_cut ps c h.0 h.1 a k) (λ k. omega (arith, passed h.0 k.0 k.1.2, listed_cut false (ArrowPattern c) c 8 (λ x m n q. (binding (with_in c), q.1)) ps k.0 h.1 a k.2)) h.3 in
    omega (arith, async_cut i c ts h.0 h.2, y, takes arrow_kind h.1 r h.5.0 (omega arith) h.5.2)

members_cut : (xs : Trees) (c : Code) (ts r : Input) → AllShrink xs → Members c (children xs) ts r → len r ≤ len ts
members_cut none c ts r a h = passed ts r h.2
members_cut (more x xs) c ts r a h = omega (arith, a.0 c ts h.0 h.1.1, members_cut xs c h.0 r a.1 h.2)

cases_cut : (xs : Trees) (c : Code) (b : Bool) (ts r : Input) → AllShrink xs → Cases c b (children xs) ts r → len r ≤ len ts
cases_cut none c b ts r a h = passed ts r h.2
cases_cut (more x xs) c b ts r a h = omega (arith, a.0 c ts h.0 h.2.1, cases_cut xs c (b || is_default_case x) h.0 r a.1 h.3)

spans_cut : (b : Bool) (es qs : Trees) (c : Code) (ts r : Input) → AllShrink es → AllShrink qs → TemplateSpans b c (children es) (children qs) ts r → len r ≤ len ts
spans_cut b none none c ts r a z h = absurd h
spans_cut b (more e es) none c ts r a z h = absurd h
spans_cut b none (more q qs) c ts r a z h = omega (arith, z.0 c ts h.0 h.4.1, passed h.0 r h.5.2)
spans_cut b (more e es) (more q qs) c ts r a z h = omega (arith, z.0 c ts h.0 h.6.1, passed h.0 h.1 h.7.2, a.0 (assigning (with_in c)) h.1 h.2 h.8.1, passed h.2 h.3 h.9.2, spans_cut b es qs c h.3 r a.1 z.1 h.10)

import_cut : (xs : Trees) (c : Code) (ts r : Input) → AllShrink xs → ImportArguments c (children xs) ts r → len r ≤ len ts
import_cut none c ts r a h = absurd h
import_cut (more x xs) c ts r a h = by_cases c.syntax.import_attributes _ _ (len r ≤ len ts) h.1 (λ q y. listed_cut false (Sorted is_element c) c 8 (told_sorted is_element c) (more x xs) ts r a y.1) (λ q y. omega (arith, a.0 c ts y.1 y.2.1, passed y.1 r y.3.2))

bindings_cut : (k : ℕ) (ds : Trees) (c : Code) (ts r : Input) → AllShrink ds → Bindings c k (children ds) ts r → len r < len ts
bindings_cut k ds c ts r a h = omega (arith, takes k ts h.0 h.2.0 (var_some k h.1) h.2.3, each_cut (Sorted is_declarator c) c (told_sorted is_declarator c) ds h.0 r a h.3)

using_cut : (w : Bool) (ds : Trees) (c : Code) (ts r : Input) → AllShrink ds → UsingBindings c w (children ds) ts r → len r < len ts
using_cut false ds c ts r a h = omega (arith, takes using_kind ts h.0 h.2.0 (omega arith) h.2.3, each_cut (Sorted is_declarator c) c (told_sorted is_declarator c) ds h.0 r a h.5)
using_cut true ds c ts r a h = omega (arith, takes await_kind ts h.0 h.4.0 (omega arith) h.4.3, passed h.0 h.1 h.6.3, each_cut (Sorted is_declarator c) c (told_sorted is_declarator c) ds h.1 r a h.9)

parens_cut : (e : Tree) (c : Code) (ts r : Input) → Shrinks e → InParens c (child e (λ y. Produces e y)) ts r → len r ≤ len ts
parens_cut e c ts r a h = omega (arith, passed ts h.0 h.2.2, a (assigning c) h.0 h.1 h.3.1, passed h.1 r h.4.2)

clause_cut : (close : ℕ) (e : Tree) (c : Code) (ts r : Input) → Shrinks e → Clause c close (child e (λ y. Produces e y)) ts r → len r ≤ len ts
clause_cut close e c ts r a h = let y : len h.0 ≤ len ts = by_cases (is_absent e) _ _ (len h.0 ≤ len ts) h.1 (λ q x. same ts h.0 x) (λ q x. omega (arith, a (assigning c) ts h.0 x.1)) in omega (arith, y, passed h.0 r h.2.2)

rest_cut : (t u b : Tree) (c : Code) (ts r : Input) → Shrinks t → Shrinks u → Shrinks b → ForRest c (child t (λ y. Produces t y)) (child u (λ y. Produces u y)) (child b (λ y. Produces b y)) ts r → len r ≤ len ts
rest_cut t u b c ts r x y z h = omega (arith, clause_cut 13 t c ts h.0 x h.2, clause_cut 8 u c h.0 h.1 y h.3, z (alone c) h.1 r h.4.1)

over_cut : (word l : ℕ) (e b : Tree) (c : Code) (ts r : Input) → Shrinks e → Shrinks b → Over c word l (child e (λ y. Produces e y)) (child b (λ y. Produces b y)) ts r → len r ≤ len ts
over_cut word l e b c ts r x y h = omega (arith, passed ts h.0 h.3.3, x (assigning c) h.0 h.1 h.4.1, passed h.1 h.2 h.5.2, y (alone c) h.2 r h.6.1)

init_cut : (i : Tree) (c : Code) (ts r : Input) → Shrinks i → By (is_absent i) (ts ≡ r) ((starts_head ts ≡ true) × Expr 1 (without_in c) (child i (λ y. Produces i y)) ts r) → len r ≤ len ts
init_cut i c ts r a h = by_cases (is_absent i) _ _ (len r ≤ len ts) h (λ q x. same ts r x) (λ q x. omega (arith, a (assigning (without_in c)) ts r x.1.1))

open_cut : (c : Code) (ts r : Input) → ForOpen c ts r → len r < len ts
open_cut c ts r h = omega (arith, takes for_kind ts h.0 h.1.0 (omega arith) h.1.3, passed h.0 r h.2.2)

await_open_cut : (w : Bool) (c : Code) (ts r : Input) → ForAwaitOpen w c ts r → len r < len ts
await_open_cut false c ts r h = open_cut c ts r h
await_open_cut true c ts r h = omega (arith, takes for_kind ts h.0 h.3.0 (omega arith) h.3.3, passed h.0 h.1 h.4.3, passed h.1 r h.5.2)

-- a function, and a method, with what stands before it
made_function : (s : Span) (n f : Tree) (c : Code) (ts r : Input) → Produces (fn_decl s n f) c ts r → (m : Input) × (o : Input) × (len m < len ts) × Produces n c m o × Produces f (setting false c) o r
made_function s n (function t ps ds b g a) c ts r h = (h.0, h.1, head_cut g a c ts h.0 h.2, h.3.1, h.4)
made_function s n _ c ts r h = absurd h

made_expression : (s : Span) (n f : Tree) (c : Code) (ts r : Input) → Produces (fn_expr s n f) c ts r → (m : Input) × (o : Input) × (d : Code) × (len m < len ts) × By (is_absent n) (m ≡ o) ((is_ident n ≡ true) × Produces n d m o) × Produces f (setting false c) o r
made_expression s n (function t ps ds b g a) c ts r h = (h.0, h.1, by g a c, head_cut g a c ts h.0 h.2, by_name h.3, h.4)
  where
    by_name : By (is_absent n) (h.0 ≡ h.1) (Sorted is_ident (by g a c) (child n (λ y. Produces n y)) h.0 h.1) → By (is_absent n) (h.0 ≡ h.1) ((is_ident n ≡ true) × Produces n (by g a c) h.0 h.1)
    by_name k = by_cases (is_absent n) _ _ (By (is_absent n) (h.0 ≡ h.1) ((is_ident n ≡ true) × Produces n (by g a c) h.0 h.1)) k (λ q x. rw q x) (λ q x. rw q (x.0, x.1))
made_expression s n _ c ts r h = absurd h

method_parts : (k : ℕ) (key f : Tree) (own : FunctionParts) (c : Code) (ts r : Input) → Method c k (child key (λ y. Produces key y)) own (child f (λ y. Produces f y)) ts r → (m : Input) × (o : Input) × (b : Bool) × (len m ≤ len ts) × Produces key c m o × Produces f (setting b c) o r
method_parts k key f q c ts r h = by_cases (k == plain_method) _ _ _ h
    (λ e x. (x.0, x.1, false, omega (arith, async_cut q.async c ts x.2.0 x.2.1, star_cut q.generator c x.2.0 x.0 x.2.2), x.3, x.4))
    (λ e x. (x.0, x.1, (k == set_kind), passed ts x.0 x.5.3, x.6, x.7))

object_method : (s : Span) (k f : Tree) (c : Code) (ts r : Input) → Produces (method_prop s k f) c ts r → (m : Input) × (o : Input) × (b : Bool) × (len m ≤ len ts) × Produces k c m o × Produces f (setting b c) o r × (least f ≡ 1)
object_method s k (function t ps ds b g a) c ts r h = let y = method_parts plain_method k (function t ps ds b g a) (record { span = t; generator = g; async = a; count = count_of ps }) c ts r h.1 in (y.0, y.1, y.2, y.3, y.4, y.5, refl)
object_method s k _ c ts r h = absurd h

made_method : (may : Tree → Bool) (s : Span) (k f : Tree) (m : ℕ) (i : Bool) (c : Code) (ts r : Input) → ClassMethod may c s (child k (λ y. Produces k y)) (child f (λ y. Produces f y)) (function_parts f) m i ts r
    → (x : Input) × (o : Input) × (b : Bool) × (len x ≤ len ts) × Produces k c x o × Produces f (setting b c) o r × (least f ≡ 1)
made_method may s k (function t ps ds b g a) m i c ts r h = let y = method_parts m k (function t ps ds b g a) (record { span = t; generator = g; async = a; count = count_of ps }) c h.0 r h.4 in (y.0, y.1, y.2, omega (arith, static_cut i c ts h.0 h.3, y.3), y.4, y.5, refl)
made_method may s k _ m i c ts r h = absurd h

initial_cut : (e : ℕ) (v : Tree) (c : Code) (ts r : Input) → Shrinks v → Initial c e (child v (λ y. Produces v y)) ts r → len r ≤ len ts
initial_cut e v c ts r a h = by_cases (is_absent v) _ _ (len r ≤ len ts) h (λ q x. ends_cut c e ts r x) (λ q x. omega (arith, passed ts x.0 x.2.2, a (assigning (in_field c)) x.0 x.1 x.3.1, ends_cut c (ends v) x.1 r x.4))

field_cut : (may : Tree → Bool) (s : Span) (k v : Tree) (i : Bool) (ds : Trees) (c : Code) (ts r : Input) → Shrinks k → Shrinks v → least k ≡ 1 → Field may c s (child k (λ y. Produces k y)) (child v (λ y. Produces v y)) i (children ds) ts r → len r < len ts
field_cut may s k v i ds c ts r a z l h = omega (arith, l, static_cut i c ts h.0 h.4, a c h.0 h.1 h.5, initial_cut (field_end i (kind h.0)) v c h.1 r z h.6)

bracketed_cut : (l : ℕ) (s : Span) (e : Tree) (c : Code) (ts r : Input) → Shrinks e → Bracketed l c s (child e (λ y. Produces e y)) ts r → len r < len ts
bracketed_cut l s e c ts r a h = omega (arith, takes left_bracket_kind ts h.0 h.2.0 (omega arith) h.2.2, a (assigning (with_in c)) h.0 h.1 h.3.1, passed h.1 r h.4.2)

dotted_cut : (b : Bool) (k : Tree) (c : Code) (ts r : Input) → Shrinks k → Dotted b c (child k (λ y. Produces k y)) ts r → len r < len ts
dotted_cut b k c ts r a h = omega (arith, takes dot_kind ts h.0 h.1.0 (omega arith) h.1.2, a c h.0 r h.2.1)

arguments_cut : (xs : Trees) (c : Code) (ts r : Input) → AllShrink xs → Arguments c (children xs) ts r → len r < len ts
arguments_cut xs c ts r a h = omega (arith, takes left_paren_kind ts h.0 h.1.0 (omega arith) h.1.2, listed_cut false (Sorted is_element c) c 8 (told_sorted is_element c) xs h.0 r a h.2)

optional_cut : (c : Code) (ts r : Input) → Optional c ts r → len r < len ts
optional_cut c ts r h = omega (arith, takes question_mark_kind ts h.0 h.1.0 (omega arith) h.1.2, passed h.0 r h.2.2)

template_cut : (b : Bool) (s : Span) (es qs : Trees) (c : Code) (ts r : Input) → AllShrink es → AllShrink qs → TemplateLiteral b c s (children es) (children qs) ts r → len r < len ts
template_cut b s es qs c ts r a z h = omega (arith, takes back_quote_kind ts h.0 h.1.0 (omega arith) h.1.2, spans_cut b es qs c h.0 r a z h.2)

-- modules
pub export_name_cut : (o : Option (List ℕ × Span)) (t : Tree) (c : Code) (ts r : Input) → Shrinks t → ExportName c o (child t (λ y. Produces t y)) ts r → len r < len ts
export_name_cut (Some n) t c ts r a h = shorter ts r (some_word ts h.0.0) h.0.3
export_name_cut None t c ts r a h = omega (arith, string_least t h.0, a c ts r h.1)

source_cut : (f w : Tree) (c : Code) (ts r : Input) → Shrinks f → Shrinks w → Source c (child f (λ y. Produces f y)) (child w (λ y. Produces w y)) ts r → len r ≤ len ts
source_cut f w c ts r a z h = let y : len r ≤ len h.0 = by_cases (is_absent w) _ _ (len r ≤ len h.0) h.2 (λ q x. ends_cut c source_end h.0 r x)
    (λ q x. let v : len x.1.0 ≤ len h.0 = ⊎_elim (λ k. passed h.0 x.1.0 k.3) (λ k. passed h.0 x.1.0 k.1.3) x.1.2 in omega (arith, v, z c x.1.0 x.0 x.1.4, ends_cut c plain_end x.0 r x.2)) in omega (arith, a c ts h.0 h.1.1, y)

named_imports_cut : (xs : Trees) (c : Code) (ts r : Input) → AllShrink xs → NamedImports c (children xs) ts r → len r ≤ len ts
named_imports_cut xs c ts r a h = omega (arith, passed ts h.0 h.1.2, listed_cut false (Sorted is_named_import c) c 12 (told_sorted is_named_import c) xs h.0 r a h.2)

after_default_cut : (xs : Trees) (c : Code) (ts r : Input) → AllShrink xs → AfterDefault c (children xs) ts r → len r ≤ len ts
after_default_cut none c ts r a (inl h) = same ts r h
after_default_cut none c ts r a (inr h) = omega (arith, passed ts h.0 h.1.2, named_imports_cut none c h.0 r tt h.2)
after_default_cut (more x xs) c ts r a h = let y : len r ≤ len h.0 = by_cases (is_star_import x) _ _ (len r ≤ len h.0) h.2 (λ q k. omega (arith, a.0 c h.0 r k.1)) (λ q k. named_imports_cut (more x xs) c h.0 r a k) in omega (arith, passed ts h.0 h.1.2, y)

import_clause_cut : (xs : Trees) (c : Code) (ts r : Input) → AllShrink xs → ImportClause c (children xs) ts r → len r ≤ len ts
import_clause_cut none c ts r a (inl h) = same ts r h
import_clause_cut none c ts r a (inr h) = omega (arith, named_imports_cut none c ts h.0 tt h.1, passed h.0 r h.2.3)
import_clause_cut (more x xs) c ts r a h = let y : len h.0 ≤ len ts = by_cases (is_default_import x) _ _ (len h.0 ≤ len ts) h.1 (λ q k. omega (arith, a.0 c ts k.0 k.1, after_default_cut xs c k.0 h.0 a.1 k.2))
    (λ q k. by_cases (is_star_import x) _ _ (len h.0 ≤ len ts) k (λ e j. omega (arith, a.0 c ts h.0 j.1)) (λ e j. named_imports_cut (more x xs) c ts h.0 a j)) in omega (arith, y, passed h.0 r h.2.3)

export_list_cut : (xs : Trees) (f w : Tree) (c : Code) (ts r : Input) → AllShrink xs → Shrinks f → Shrinks w → ExportList c (children xs) (child f (λ y. Produces f y)) (child w (λ y. Produces w y)) ts r → len r ≤ len ts
export_list_cut xs f w c ts r a z v h = let y : len r ≤ len h.0 = by_cases (is_absent f) _ _ (len r ≤ len h.0) h.2 (λ q x. ends_cut c exports_end h.0 r x.1) (λ q x. omega (arith, passed h.0 x.0 x.1.3, source_cut f w c x.0 r z v x.2)) in
    omega (arith, passed ts h.1.0 h.1.1.2, listed_cut false (Sorted is_named_export c) c 12 (told_sorted is_named_export c) xs h.1.0 h.0 a h.1.2, y)

specified_cut : (xs : Trees) (f w : Tree) (c : Code) (ts r : Input) → AllShrink xs → Shrinks f → Shrinks w → Specified c (children xs) (child f (λ y. Produces f y)) (child w (λ y. Produces w y)) ts r → len r ≤ len ts
specified_cut none f w c ts r a z v h = export_list_cut none f w c ts r tt z v h
specified_cut (more x xs) f w c ts r a z v h = by_cases (is_star_export x) _ _ (len r ≤ len ts) h (λ q k. omega (arith, a.0 c ts k.1.0 k.1.2, passed k.1.0 k.1.1 k.1.3.3, source_cut f w c k.1.1 r z v k.1.4)) (λ q k. export_list_cut (more x xs) f w c ts r a z v k)

last_word : (c : Code) (k : ℕ) (ts r : Input) → ((k ≡ new_kind) × TakesWord c target_kind ts r) ⊎ ((k ≡ import_kind) × TakesWord c meta_kind ts r) → len r ≤ len ts
last_word c k ts r (inl h) = passed ts r h.1.3
last_word c k ts r (inr h) = passed ts r h.1.3

closed_cut : (c : Code) (ts r : Input) → Takes c semicolon_kind ts r ⊎ ((kind ts ≡ semicolon_kind → ⊥) × (ts ≡ r)) → len r ≤ len ts
closed_cut c ts r (inl h) = passed ts r h.2
closed_cut c ts r (inr h) = same ts r h.1

hashbang_cut : (l : Option (List ℕ)) (c : Code) (ts r : Input) → Hashbang c l ts r → len r ≤ len ts
hashbang_cut None c ts r h = same ts r h
hashbang_cut (Some l) c ts r h = passed ts r h.1.2

end_cut : (c : Code) (m n : Input) → AtEnd c m n → len n ≤ len m
end_cut c m n h = same m n h.1

case_cut : (c : Code) (m n : Input) → ClosesCase c m n → len n ≤ len m
case_cut c m n h = same m n h.1

-- ---- every tree

mutual
  pub cut : (t : Tree) → Shrinks t
  cut (this_expr s) c ts r h = omega (arith, takes this_kind ts r h.0.0 (omega arith) h.0.3)
  cut (null_lit s) c ts r h = omega (arith, takes null_kind ts r h.0.0 (omega arith) h.0.3)
  cut (bool_lit s true) c ts r h = omega (arith, takes true_kind ts r h.0.0 (omega arith) h.0.3)
  cut (bool_lit s false) c ts r h = omega (arith, takes false_kind ts r h.0.0 (omega arith) h.0.3)
  cut (ident s n) c ts r h = omega (arith, shorter ts r (some_word ts h.0.0) h.0.5)
  cut (ident_name s n) c ts r h = omega (arith, shorter ts r (some_word ts h.0.0) h.0.3)
  cut (private_name s n) c ts r h = omega (arith, takes hash_kind ts h.0 h.1.0 (omega arith) h.1.2, passed h.0 r h.3.3)
  cut (str_lit s u w) c ts r h = omega (arith, takes str_kind ts r h.3.0 (omega arith) h.3.2)
  cut (number_lit s u w) c ts r h = omega (arith, takes num_kind ts r h.3.0 (omega arith) h.3.2)
  cut (big_int_lit s b u w) c ts r h = omega (arith, takes big_int_kind ts r h.3.0 (omega arith) h.3.2)
  cut (regex_lit s u w) c ts r h = omega (arith, takes regex_kind ts r h.1.0 (omega arith) h.1.2)
  cut (expr_or_spread s None e) c ts r h = omega (arith, level_least e (omega (arith, h.0.0)), cut e _ ts r h.0.1)
  cut (expr_or_spread s (Some d) e) c ts r h = omega (arith, takes dot_dot_dot_kind ts h.0 h.1.0 (omega arith) h.1.2, cut e _ h.0 r h.3.1)
  cut (array_lit s xs) c ts r h = omega (arith, takes left_bracket_kind ts h.0 h.1.0 (omega arith) h.1.2, listed_cut true (Sorted is_element c) c 10 (told_sorted is_element c) xs h.0 r (cuts xs) h.2)
  cut (object_lit s xs) c ts r h = omega (arith, takes left_brace_kind ts h.0 h.1.0 (omega arith) h.1.2, listed_cut false (Sorted is_prop c) c 12 (told_sorted is_prop c) xs h.0 r (cuts xs) h.2)
  cut (key_value_prop s k v) c ts r h = omega (arith, cut k _ ts h.0 h.2.1, takes colon_kind h.0 h.1 h.3.0 (omega arith) h.3.2, cut v _ h.1 r h.4.1)
  cut (assign_prop s k v) c ts r h = omega (arith, cut k _ ts h.0 h.2.1, takes assign_kind h.0 h.1 h.3.0 (omega arith) h.3.2, cut v _ h.1 r h.4.1)
  cut (spread_element s e) c ts r h = omega (arith, takes dot_dot_dot_kind ts h.0 h.1.0 (omega arith) h.1.2, cut e _ h.0 r h.2.1)
  cut (computed_prop_name s e) c ts r h = omega (arith, bracketed_cut 2 s e c ts r (λ d m n y. cut e d m n y) h)
  cut (tpl_element s t w u) c ts r h = omega (arith, takes template_kind ts r h.1.0 (omega arith) h.1.2)
  cut (tpl s es qs) c ts r h = omega (arith, template_cut false s es qs c ts r (cuts es) (cuts qs) h)
  cut (paren_expr s e) c ts r h = omega (arith, takes left_paren_kind ts h.0 h.2.0 (omega arith) h.2.2, cut e _ h.0 h.1 h.3.1, passed h.1 r h.4.2)
  cut (member_expr s o (computed_prop_name t e)) c ts r h = omega (arith, cut o _ ts h.0 h.2.1, bracketed_cut 1 t e c h.0 r (λ d m n y. cut e d m n y) h.3)
  cut (member_expr s o k) c ts r h = omega (arith, cut o (assigning c) ts h.0 h.2.1, dotted_cut true k c h.0 r (λ d m n y. cut k d m n y) h.3)
  cut (super_prop_expr s (super t) (computed_prop_name q e)) c ts r h = omega (arith, takes super_kind ts h.0 h.1.0 (omega arith) h.1.3, bracketed_cut 1 q e c h.0 r (λ d m n y. cut e d m n y) h.3)
  cut (super_prop_expr s (super t) k) c ts r h = omega (arith, takes super_kind ts h.0 h.1.0 (omega arith) h.1.3, dotted_cut false k c h.0 r (λ d m n y. cut k d m n y) h.3)
  cut (super_prop_expr s _ k) c ts r h = absurd h
  cut (call_expr s (super t) xs) c ts r h = omega (arith, takes super_kind ts h.0 h.1.0 (omega arith) h.1.3, arguments_cut xs c h.0 r (cuts xs) h.3)
  cut (call_expr s (import t) xs) c ts r h = omega (arith, takes import_kind ts h.0 h.2.0 (omega arith) h.2.3, passed h.0 h.1 h.4.2, import_cut xs c h.1 r (cuts xs) h.5)
  cut (call_expr s f xs) c ts r h = omega (arith, cut f (assigning c) ts h.0 h.2.1, arguments_cut xs c h.0 r (cuts xs) h.3)
  cut (new_expr s f absent) c ts r h = omega (arith, takes new_kind ts h.0 h.1.0 (omega arith) h.1.3, cut f _ h.0 r h.3)
  cut (new_expr s f (list xs)) c ts r h = omega (arith, takes new_kind ts h.0 h.2.0 (omega arith) h.2.3, cut f _ h.0 h.1 h.3.1, arguments_cut xs c h.1 r (cuts xs) h.4)
  cut (new_expr s f _) c ts r h = absurd h
  cut (opt_chain_expr s true (member_expr t o (computed_prop_name b e))) c ts r h = omega (arith, cut o _ ts h.0 h.2.1, optional_cut c h.0 h.1 h.3, bracketed_cut 1 b e c h.1 r (λ d m n y. cut e d m n y) h.4)
  cut (opt_chain_expr s true (member_expr t o k)) c ts r h = omega (arith, cut o (assigning c) ts h.0 h.2.1, optional_cut c h.0 h.1 h.3, cut k c h.1 r h.4.1)
  cut (opt_chain_expr s false (member_expr t o (computed_prop_name b e))) c ts r h = omega (arith, cut o (assigning c) ts h.0 h.2, bracketed_cut 1 b e c h.0 r (λ d m n y. cut e d m n y) h.3)
  cut (opt_chain_expr s false (member_expr t o k)) c ts r h = omega (arith, cut o (assigning c) ts h.0 h.2, dotted_cut true k c h.0 r (λ d m n y. cut k d m n y) h.3)
  cut (opt_chain_expr s true (opt_call t f xs)) c ts r h = omega (arith, cut f (assigning c) ts h.0 h.2.1, optional_cut c h.0 h.1 h.3, arguments_cut xs c h.1 r (cuts xs) h.4)
  cut (opt_chain_expr s false (opt_call t f xs)) c ts r h = omega (arith, cut f (assigning c) ts h.0 h.2, arguments_cut xs c h.0 r (cuts xs) h.3)
  cut (opt_chain_expr s q _) c ts r h = absurd h
  cut (tagged_tpl s t (tpl q es qs)) c ts r h = omega (arith, cut t _ ts h.0 h.2.1, template_cut true q es qs c h.0 r (cuts es) (cuts qs) h.3)
  cut (tagged_tpl s t _) c ts r h = absurd h
  cut (meta_prop_expr s k) c ts r h = omega (arith, passed ts h.0 h.2.3, takes dot_kind h.0 h.1 h.3.0 (omega arith) h.3.2, last_word c k h.1 r h.4)
  cut (update_expr s op true a) c ts r h = omega (arith, takes op ts h.0 h.2.0 (by_update op (λ o. 1 ≤ o) h.1 (omega arith) (omega arith)) h.2.2, cut a _ h.0 r h.3.1)
  cut (update_expr s op false a) c ts r h = omega (arith, takes op h.0 r h.4.0 (by_update op (λ o. 1 ≤ o) h.1 (omega arith) (omega arith)) h.4.2, cut a _ ts h.0 h.2.1)
  cut (unary_expr s op a) c ts r h = omega (arith, takes op ts h.0 h.2.0 (by_unary op (λ o. 1 ≤ o) h.1 (omega arith) (omega arith) (omega arith) (omega arith) (omega arith) (omega arith) (omega arith)) h.2.3, cut a _ h.0 r h.3.1)
  cut (await_expr s a) c ts r h = omega (arith, takes await_kind ts h.0 h.2.0 (omega arith) h.2.3, cut a _ h.0 r h.3.1)
  cut (bin_expr s op a b) c ts r h = omega (arith, cut a _ ts h.0 h.4, takes op h.0 h.1 h.5.0 (some_binary c op h.2) h.5.3, cut b _ h.1 r h.6.1)
  cut (cond_expr s a b t) c ts r h = omega (arith, cut a _ ts h.0 h.4.1, takes question_mark_kind h.0 h.1 h.5.0 (omega arith) h.5.2, cut b _ h.1 h.2 h.6.1, passed h.2 h.3 h.7.2, cut t _ h.3 r h.8.1)
  cut (assign_expr s op a b) c ts r h = omega (arith, cut a _ ts h.0 h.4, takes op h.0 h.1 h.5.0 (some_assign op h.2) h.5.2, cut b _ h.1 r h.6.1)
  cut (arrow_expr s ps (block_stmt b ss) i) c ts r h = omega (arith, arrow_cut i ps c ts h.0 (cuts ps) h.1, body_cut ss _ b h.0 r (cuts ss) h.2)
  cut (arrow_expr s ps e i) c ts r h = omega (arith, arrow_cut i ps c ts h.0 (cuts ps) h.1, cut e (assigning (in_arrow i c)) h.0 r h.3.1)
  cut (yield_expr s absent g) c ts r h = omega (arith, takes yield_kind ts r h.1.1.0 (omega arith) h.1.1.3)
  cut (yield_expr s a true) c ts r h = omega (arith, takes yield_kind ts h.0 h.3.0 (omega arith) h.3.3, passed h.0 h.1 h.5.2, cut a (assigning c) h.1 r h.6.1)
  cut (yield_expr s a false) c ts r h = omega (arith, takes yield_kind ts h.0 h.2.0 (omega arith) h.2.3, cut a (assigning c) h.0 r h.4.1)
  cut (seq_expr s none) c ts r h = absurd h
  cut (seq_expr s (more x none)) c ts r h = absurd h
  cut (seq_expr s (more x (more y ys))) c ts r h = omega (arith, cut x _ ts h.0 h.1.1, takes comma_kind h.0 h.2.0 h.2.2.0 (omega arith) h.2.2.2, cut y _ h.2.0 h.2.1 h.2.3.1, commas_cut (Expr 2 c) c (λ v m n q. (assigning c, q.1)) ys h.2.1 r (cuts ys) h.2.4)
  cut (binding_ident s (ident t n)) c ts r h = omega (arith, shorter ts r (some_word ts h.1.0.0) h.1.0.5)
  cut (binding_ident s _) c ts r h = absurd h
  cut (array_pat s xs) c ts r h = omega (arith, takes left_bracket_kind ts h.0 h.1.0 (omega arith) h.1.2, listed_cut true (Item c) c 10 (λ x m n q. (with_in c, q.1)) xs h.0 r (cuts xs) h.2)
  cut (object_pat s xs) c ts r h = omega (arith, takes left_brace_kind ts h.0 h.1.0 (omega arith) h.1.2, listed_cut false (Property c) c 12 (λ x m n q. (with_in c, q.2)) xs h.0 r (cuts xs) h.2)
  cut (assign_pat s a e) c ts r h = omega (arith, cut a _ ts h.0 h.3, takes assign_kind h.0 h.1 h.4.0 (omega arith) h.4.2, cut e _ h.1 r h.5.1)
  cut (rest_pat s d a) c ts r h = omega (arith, takes dot_dot_dot_kind ts h.0 h.1.0 (omega arith) h.1.2, cut a _ h.0 r h.4)
  cut (key_value_pat_prop s k a) c ts r h = omega (arith, cut k _ ts h.0 h.2.1, takes colon_kind h.0 h.1 h.3.0 (omega arith) h.3.2, cut a _ h.1 r h.4.1)
  cut (assign_pat_prop s k e) c ts r h = omega (arith, bound_least k h.1.0, cut k _ ts h.0 h.1.1, by_cases (is_absent e) _ _ (len r ≤ len h.0) h.2 (λ q x. same h.0 r x) (λ q x. omega (arith, passed h.0 x.0 x.1.2, cut e _ x.0 r x.2.1)))
  cut (param s ds a) c ts r h = omega (arith, item_least a h.1, cut a _ ts r h.2)
  cut (function s ps ds (block_stmt b ss) g a) c ts r h = omega (arith, by_cases c.sets _ _ (len h.0 ≤ len ts) h.2 (λ q x. set_cut ps _ ts h.0 (cuts ps) x) (λ q x. parameters_cut ps _ ts h.0 (cuts ps) x), body_cut ss _ b h.0 r (cuts ss) h.3)
  cut (function s ps ds _ g a) c ts r h = absurd h
  cut (fn_decl s n f) c ts r h = let y = made_function s n f c ts r h in omega (arith, y.2, cut n _ y.0 y.1 y.3, cut f _ y.1 r y.4)
  cut (fn_expr s n f) c ts r h = let y = made_expression s n f c ts r h in omega (arith, y.3, by_cases (is_absent n) _ _ (len y.1 ≤ len y.0) y.4 (λ q x. same y.0 y.1 x) (λ q x. omega (arith, cut n _ y.0 y.1 x.1)), cut f _ y.1 r y.5)
  cut (method_prop s k f) c ts r h = let y = object_method s k f c ts r h in omega (arith, y.3, cut k _ y.0 y.1 y.4, cut f _ y.1 r y.5, y.6)
  cut (getter_prop s k (block_stmt b ss)) c ts r h = omega (arith, takes get_kind ts h.0 h.4.0 (omega arith) h.4.3, cut k _ h.0 h.1 h.5.1, passed h.1 h.2 h.6.2, passed h.2 h.3 h.7.2, body_cut ss _ b h.3 r (cuts ss) h.8)
  cut (getter_prop s k _) c ts r h = absurd h
  cut (setter_prop s k a (block_stmt b ss)) c ts r h = omega (arith, takes set_kind ts h.0 h.5.0 (omega arith) h.5.3, cut k _ h.0 h.1 h.6.1, passed h.1 h.2 h.7.2, cut a _ h.2 h.3 h.10, passed h.3 h.4 h.11.2, body_cut ss _ b h.4 r (cuts ss) h.12)
  cut (setter_prop s k a _) c ts r h = absurd h
  cut (class s ds ms k) c ts r h = omega (arith, by_cases (is_absent k) _ _ (len h.0 ≤ len ts) h.3 (λ q x. same ts h.0 x) (λ q x. omega (arith, passed ts x.0 x.1.3, cut k _ x.0 h.0 x.2.1)), takes left_brace_kind h.0 h.1 h.4.0 (omega arith) h.4.2, members_cut ms c h.1 r (cuts ms) h.5)
  cut (class_decl s n k) c ts r h = omega (arith, takes class_kind ts h.0 h.2.0 (omega arith) h.2.3, cut n _ h.0 h.1 h.3.1, cut k _ h.1 r h.4)
  cut (class_expr s n k) c ts r h = omega (arith, takes class_kind ts h.0 h.2.0 (omega arith) h.2.3, by_cases (is_absent n) _ _ (len h.1 ≤ len h.0) h.3 (λ q x. same h.0 h.1 x) (λ q x. omega (arith, cut n _ h.0 h.1 x.1)), cut k _ h.1 r h.4)
  cut (constructor s k ps (block_stmt b ss)) c ts r h = omega (arith, cut k _ ts h.0 h.3, parameters_cut ps _ h.0 h.1 (cuts ps) h.4, body_cut ss _ b h.1 r (cuts ss) h.5)
  cut (constructor s k ps _) c ts r h = absurd h
  cut (class_method s k f m i) c ts r h = let y = made_method is_key s k f m i c ts r h in omega (arith, y.3, cut k _ y.0 y.1 y.4, cut f _ y.1 r y.5, y.6)
  cut (private_method s k f m i) c ts r h = let y = made_method is_private s k f m i c ts r h in omega (arith, y.3, cut k _ y.0 y.1 y.4, cut f _ y.1 r y.5, y.6)
  cut (class_prop s k v i ds) c ts r h = omega (arith, field_cut is_key s k v i ds c ts r (λ d m n y. cut k d m n y) (λ d m n y. cut v d m n y) (key_least k h.3) h)
  cut (private_prop s k v i ds) c ts r h = omega (arith, field_cut is_private s k v i ds c ts r (λ d m n y. cut k d m n y) (λ d m n y. cut v d m n y) (private_least k h.3) h)
  cut (auto_accessor s k v i ds) c ts r h = omega (arith, static_cut i c ts h.0 h.5, takes accessor_kind h.0 h.1 h.6.0 (omega arith) h.6.3, cut k _ h.1 h.2 h.8.1, initial_cut key_end v c h.2 r (λ d m n y. cut v d m n y) h.9)
  cut (static_block s (block_stmt b ss)) c ts r h = omega (arith, takes static_kind ts h.0 h.2.0 (omega arith) h.2.3, passed h.0 h.1 h.3.2, items_cut is_item Closes brace_cut ss _ false h.1 r (cuts ss) h.4)
  cut (static_block s _) c ts r h = absurd h
  cut (block_stmt s ss) c ts r h = omega (arith, takes left_brace_kind ts h.0 h.1.0 (omega arith) h.1.2, items_cut is_item ClosesBlock brace_cut ss c false h.0 r (cuts ss) h.2)
  cut (empty_stmt s) c ts r h = omega (arith, takes semicolon_kind ts r h.0.0 (omega arith) h.0.2)
  cut (debugger_stmt s) c ts r h = omega (arith, takes debugger_kind ts h.0 h.1.0 (omega arith) h.1.3, ends_cut c plain_end h.0 r h.2)
  cut (var_decl s k ds) c ts r h = omega (arith, bindings_cut k ds c ts h.0 (cuts ds) h.1, ends_cut c (declarators_end ds) h.0 r h.2)
  cut (using_decl s w ds) c ts r h = omega (arith, using_cut w ds c ts h.0 (cuts ds) h.1, ends_cut c (declarators_end ds) h.0 r h.2)
  cut (var_declarator s n e) c ts r h = omega (arith, binding_least n h.1, cut n _ ts h.0 h.2, by_cases (is_absent e) _ _ (len r ≤ len h.0) h.3 (λ q x. same h.0 r x) (λ q x. omega (arith, passed h.0 x.0 x.1.2, cut e _ x.0 r x.2.1)))
  cut (expr_stmt s e) c ts r h = omega (arith, level_least e (omega (arith, h.2.0)), cut e _ ts h.0 h.2.1, ends_cut c (statement_end c ts e) h.0 r h.3)
  cut (if_stmt s t a b) c ts r h = omega (arith, takes if_kind ts h.0 h.3.0 (omega arith) h.3.3, parens_cut t c h.0 h.1 (λ d m n y. cut t d m n y) h.4, cut a _ h.1 h.2 h.5.1, by_cases (is_absent b) _ _ (len r ≤ len h.2) h.6 (λ q x. same h.2 r x.1) (λ q x. omega (arith, passed h.2 x.0 x.1.3, cut b _ x.0 r x.2.1)))
  cut (do_while_stmt s t b) c ts r h = omega (arith, takes do_kind ts h.0 h.4.0 (omega arith) h.4.3, cut b _ h.0 h.1 h.5.1, passed h.1 h.2 h.6.3, parens_cut t c h.2 h.3 (λ d m n y. cut t d m n y) h.7, closed_cut c h.3 r h.8)
  cut (while_stmt s t b) c ts r h = omega (arith, takes while_kind ts h.0 h.2.0 (omega arith) h.2.3, parens_cut t c h.0 h.1 (λ d m n y. cut t d m n y) h.3, cut b _ h.1 r h.4.1)
  cut (for_stmt s (var_decl v k ds) t u b) c ts r h = omega (arith, open_cut c ts h.0 h.3, bindings_cut k ds (without_in c) h.0 h.1 (cuts ds) h.4, passed h.1 h.2 h.6.2, rest_cut t u b c h.2 r (λ d m n y. cut t d m n y) (λ d m n y. cut u d m n y) (λ d m n y. cut b d m n y) h.7)
  cut (for_stmt s (using_decl v w ds) t u b) c ts r h = omega (arith, open_cut c ts h.0 h.3, using_cut w ds (without_in c) h.0 h.1 (cuts ds) h.5, passed h.1 h.2 h.7.2, rest_cut t u b c h.2 r (λ d m n y. cut t d m n y) (λ d m n y. cut u d m n y) (λ d m n y. cut b d m n y) h.8)
  cut (for_stmt s i t u b) c ts r h = omega (arith, open_cut c ts h.0 h.3, init_cut i c h.0 h.1 (λ d m n y. cut i d m n y) h.4, passed h.1 h.2 h.5.2, rest_cut t u b c h.2 r (λ d m n y. cut t d m n y) (λ d m n y. cut u d m n y) (λ d m n y. cut b d m n y) h.6)
  cut (for_in_stmt s (var_decl v k ds) e b) c ts r h = omega (arith, open_cut c ts h.0 h.2, bindings_cut k ds (without_in c) h.0 h.1 (cuts ds) h.3.1, over_cut _ _ e b c h.1 r (λ d m n y. cut e d m n y) (λ d m n y. cut b d m n y) h.4)
  cut (for_in_stmt s (using_decl v w ds) e b) c ts r h = omega (arith, open_cut c ts h.0 h.2, using_cut w ds (without_in c) h.0 h.1 (cuts ds) h.3.2, over_cut _ _ e b c h.1 r (λ d m n y. cut e d m n y) (λ d m n y. cut b d m n y) h.4)
  cut (for_in_stmt s a e b) c ts r h = omega (arith, open_cut c ts h.0 h.2, cut a (assigning (without_in c)) h.0 h.1 h.3.2, over_cut _ _ e b c h.1 r (λ d m n y. cut e d m n y) (λ d m n y. cut b d m n y) h.4)
  cut (for_of_stmt s w (var_decl v k ds) e b) c ts r h = omega (arith, await_open_cut w c ts h.0 h.2, bindings_cut k ds (without_in c) h.0 h.1 (cuts ds) h.3.1, over_cut _ _ e b c h.1 r (λ d m n y. cut e d m n y) (λ d m n y. cut b d m n y) h.4)
  cut (for_of_stmt s w (using_decl v i ds) e b) c ts r h = omega (arith, await_open_cut w c ts h.0 h.2, using_cut i ds (without_in c) h.0 h.1 (cuts ds) h.3.2, over_cut _ _ e b c h.1 r (λ d m n y. cut e d m n y) (λ d m n y. cut b d m n y) h.4)
  cut (for_of_stmt s w a e b) c ts r h = omega (arith, await_open_cut w c ts h.0 h.2, cut a (assigning (without_in c)) h.0 h.1 h.3.1.2, over_cut _ _ e b c h.1 r (λ d m n y. cut e d m n y) (λ d m n y. cut b d m n y) h.4)
  cut (continue_stmt s l) c ts r h = omega (arith, takes continue_kind ts h.0 h.2.0 (omega arith) h.2.3, by_cases (is_absent l) _ _ (len h.1 ≤ len h.0) h.3 (λ q x. same h.0 h.1 x) (λ q x. omega (arith, cut l _ h.0 h.1 x.1.1)), ends_cut c plain_end h.1 r h.4)
  cut (break_stmt s l) c ts r h = omega (arith, takes break_kind ts h.0 h.2.0 (omega arith) h.2.3, by_cases (is_absent l) _ _ (len h.1 ≤ len h.0) h.3 (λ q x. same h.0 h.1 x) (λ q x. omega (arith, cut l _ h.0 h.1 x.1.1)), ends_cut c plain_end h.1 r h.4)
  cut (return_stmt s e) c ts r h = omega (arith, takes return_kind ts h.0 h.1.0 (omega arith) h.1.3, by_cases (is_absent e) _ _ (len r ≤ len h.0) h.2 (λ q x. ends_cut c plain_end h.0 r x) (λ q x. omega (arith, cut e _ h.0 x.0 x.2.1, ends_cut c (ends e) x.0 r x.3)))
  cut (throw_stmt s e) c ts r h = omega (arith, takes throw_kind ts h.0 h.2.0 (omega arith) h.2.3, cut e _ h.0 h.1 h.4.1, ends_cut c (ends e) h.1 r h.5)
  cut (with_stmt s e b) c ts r h = omega (arith, takes with_kind ts h.0 h.2.0 (omega arith) h.2.3, parens_cut e c h.0 h.1 (λ d m n y. cut e d m n y) h.3, cut b _ h.1 r h.4.1)
  cut (labeled_stmt s l b) c ts r h = omega (arith, cut l _ ts h.0 h.2.1, takes colon_kind h.0 h.1 h.3.0 (omega arith) h.3.2, cut b _ h.1 r h.4.1)
  cut (switch_stmt s e xs) c ts r h = omega (arith, takes switch_kind ts h.0 h.3.0 (omega arith) h.3.3, parens_cut e c h.0 h.1 (λ d m n y. cut e d m n y) h.4, passed h.1 h.2 h.5.2, cases_cut xs c false h.2 r (cuts xs) h.6)
  cut (switch_case s t ss) c ts r h = omega (arith, by_cases (is_absent t) _ _ (len h.0 ≤ len ts) h.2 (λ q x. passed ts h.0 x.3) (λ q x. omega (arith, passed ts x.0 x.1.3, cut t _ x.0 h.0 x.2.1)), takes colon_kind h.0 h.1 h.3.0 (omega arith) h.3.2, items_cut is_item ClosesCase case_cut ss c false h.1 r (cuts ss) h.4)
  cut (catch_clause s a b) c ts r h = omega (arith, takes catch_kind ts h.0 h.2.0 (omega arith) h.2.3, by_cases (is_absent a) _ _ (len h.1 ≤ len h.0) h.3 (λ q x. same h.0 h.1 x) (λ q x. omega (arith, passed h.0 x.0 x.2.2, cut a _ x.0 x.1 x.4, passed x.1 h.1 x.5.2)), cut b _ h.1 r h.4.1)
  cut (try_stmt s b x f) c ts r h = omega (arith, takes try_kind ts h.0 h.4.0 (omega arith) h.4.3, cut b _ h.0 h.1 h.5.1, by_cases (is_absent x) _ _ (len h.2 ≤ len h.1) h.6 (λ q y. same h.1 h.2 y) (λ q y. omega (arith, cut x _ h.1 h.2 y.1)), by_cases (is_absent f) _ _ (len r ≤ len h.2) h.7 (λ q y. same h.2 r y) (λ q y. omega (arith, passed h.2 y.0 y.1.3, cut f _ y.0 r y.2.1)))
  cut (import_decl s xs f w) c ts r h = omega (arith, takes import_kind ts h.0 h.2.0 (omega arith) h.2.3, import_clause_cut xs c h.0 h.1 (cuts xs) h.3, source_cut f w c h.1 r (λ d m n y. cut f d m n y) (λ d m n y. cut w d m n y) h.4)
  cut (import_named_specifier s l i) c ts r h = omega (arith, by_cases (is_absent i) _ _ (len r < len ts) h.0 (λ q x. omega (arith, ident_least l x.0, cut l _ ts r x.1)) (λ q x. omega (arith, export_name_cut _ i c ts x.0 (λ d m n y. cut i d m n y) x.2, passed x.0 x.1 x.3.3, cut l _ x.1 r x.4.1)))
  cut (import_default_specifier s l) c ts r h = omega (arith, ident_least l h.0.0, cut l _ ts r h.0.1)
  cut (import_star_as_specifier s l) c ts r h = omega (arith, takes mul_kind ts h.0 h.2.0 (omega arith) h.2.2, passed h.0 h.1 h.3.3, cut l _ h.1 r h.4.1)
  cut (named_export s xs f w) c ts r h = omega (arith, takes export_kind ts h.0 h.1.0 (omega arith) h.1.3, specified_cut xs f w c h.0 r (cuts xs) (λ d m n y. cut f d m n y) (λ d m n y. cut w d m n y) h.2)
  cut (export_named_specifier s o e) c ts r h = omega (arith, export_name_cut _ o c ts h.0 (λ d m n y. cut o d m n y) h.1, by_cases (is_absent e) _ _ (len r ≤ len h.0) h.2 (λ q x. same h.0 r x) (λ q x. omega (arith, passed h.0 x.0 x.1.3, export_name_cut _ e c x.0 r (λ d m n y. cut e d m n y) x.2)))
  cut (export_namespace_specifier s x) c ts r h = omega (arith, takes mul_kind ts h.0 h.2.0 (omega arith) h.2.2, passed h.0 h.1 h.3.3, export_name_cut _ x c h.1 r (λ d m n y. cut x d m n y) h.4)
  cut (export_all s f w) c ts r h = omega (arith, takes export_kind ts h.0 h.3.0 (omega arith) h.3.3, passed h.0 h.1 h.4.2, passed h.1 h.2 h.5.3, source_cut f w c h.2 r (λ d m n y. cut f d m n y) (λ d m n y. cut w d m n y) h.6)
  cut (export_decl s e) c ts r h = omega (arith, takes export_kind ts h.0 h.1.0 (omega arith) h.1.3, cut e _ h.0 r h.3)
  cut (export_default_decl s e) c ts r h = omega (arith, takes export_kind ts h.1.0 h.1.1.0 (omega arith) h.1.1.3, passed h.1.0 h.0 h.1.2.3, cut e _ h.0 r h.3)
  cut (export_default_expr s e) c ts r h = omega (arith, takes export_kind ts h.2.0 h.2.1.0 (omega arith) h.2.1.3, passed h.2.0 h.0 h.2.2.3, cut e _ h.0 h.1 h.4.1, ends_cut c (ends e) h.1 r h.5)
  cut (script s ss l) c ts r h = omega (arith, hashbang_cut l c ts h.0 h.1, items_cut is_item AtEnd end_cut ss c true h.0 r (cuts ss) h.2)
  cut (es_module s ss l) c ts r h = omega (arith, hashbang_cut l c ts h.0 h.1, items_cut is_module_item AtEnd end_cut ss c true h.0 r (cuts ss) h.2)
  cut (expr_pat e) c ts r h = omega (arith, cut e _ ts r h.1)
  cut _ c ts r h = absurd h

  cuts : (ts : Trees) → AllShrink ts
  cuts none = tt
  cuts (more t ts) = ((λ c m n h. cut t c m n h), cuts ts)

-- a statement or a declaration takes tokens
pub item_cut : (t : Tree) (c : Code) (ts r : Input) → is_item t ≡ true → Produces t c ts r → len r < len ts
item_cut t c ts r i h = omega (arith, item_takes t i, cut t c ts r h)
