-- How many tokens an expression and its parts take.
use Rattle.std.proofs.Common.{◌≡◌, ℕ, ◌<◌, ◌≤◌, Bool, true, false, not, ◌&&◌, List, refl, sym, ◌∙◌, ⊎_elim, true≢false, arith}
use Rattle.std.proofs.lemmas.Bool.{and_parts}
use Rattle.base_proofs.proofs.Bools.{and_false}
use Rattle.base_token.specs.declared.place.Span.{Span}
use Rattle.base_token.specs.Kinds.{dot_kind, back_quote_kind, template_kind, hash_kind, left_paren_kind, left_bracket_kind, comma_kind}
use Rattle.tree_spec.specs.Tree.{Tree, Trees, none, more, paren_expr, expr_or_spread, member_expr, computed_prop_name, ident_name, private_name, tpl_element, super_prop_expr, expr_pat, script, es_module}
use Rattle.grammar_spec.specs.Tokens.Input.{Input, Code, with_in}
use Rattle.grammar_spec.specs.Tokens.Shape.{level, is_element, is_prop, is_target_expr, is_item_pat, is_pattern_prop, is_simple}
use Rattle.grammar_spec.specs.Children.{is_quasi, child, Sorted}
use Rattle.grammar_spec.specs.Expressions.{Arguments, ArgumentList, AccessedName, Dotted, Bracketed, TemplateSpans}
use Rattle.grammar_spec.specs.Patterns.{Property}
use Rattle.grammar_spec.specs.Grammar.{Produces, children}
use Rattle.grammar_laws.proofs.complete_base.Yields.{len, shorter}
use Rattle.grammar_laws.proofs.complete_base.Trees.{some_word, takes}
use Rattle.grammar_laws.proofs.complete_base.Cuts.{cut, level_least, least}

-- an expression takes tokens
pub taken : (t : Tree) (c : Code) (ts r : Input) → 1 ≤ level t → Produces t c ts r → len r < len ts
taken t c ts r l h = omega (arith, level_least t l, cut t c ts r h)

-- an element, a property, an item of a pattern, and a property of one
element_least : (t : Tree) → is_element t ≡ true → least t ≡ 1
element_least (expr_or_spread s d e) h = refl
element_least _ h = absurd (true≢false (sym h))

pub element_taken : (t : Tree) (c : Code) (ts r : Input) → Sorted is_element c (child t (λ y. Produces t y)) ts r → len r < len ts
element_taken t c ts r h = omega (arith, element_least t h.0, cut t c ts r h.1)

prop_least : (t : Tree) → is_prop t ≡ true → least t ≡ 1
prop_least (script s ss l) h = absurd (true≢false (sym h))
prop_least (es_module s ss l) h = absurd (true≢false (sym h))
prop_least (expr_pat e) h = absurd (true≢false (sym h))
prop_least _ h = refl

pub prop_taken : (t : Tree) (c : Code) (ts r : Input) → Sorted is_prop c (child t (λ y. Produces t y)) ts r → len r < len ts
prop_taken t c ts r h = omega (arith, prop_least t h.0, cut t c ts r h.1)

target_level : (t : Tree) (c : Code) (ts r : Input) → is_target_expr t ≡ true → Produces t c ts r → 1 ≤ level t
target_level (member_expr s o (computed_prop_name t e)) c ts r i h = omega (arith, h.2.0)
target_level (member_expr s o k) c ts r i h = omega (arith, h.2.0)
target_level (super_prop_expr s o k) c ts r i h = omega arith
target_level (paren_expr s e) c ts r i h = omega arith
target_level _ c ts r i h = absurd (true≢false (sym i))

assigned_taken : (b : Bool) (e : Tree) (c : Code) (ts r : Input) → (not b && (is_target_expr e && is_simple e)) ≡ true → Produces e c ts r → len r < len ts
assigned_taken b e c ts r i h = taken e c ts r (target_level e c ts r (and_parts (is_target_expr e) _ (and_parts (not b) _ i).1).0 h) h

pub item_taken : (b : Bool) (t : Tree) (c : Code) (ts r : Input) → is_item_pat b t ≡ true → Produces t c ts r → len r < len ts
item_taken b (expr_pat e) c ts r i h = assigned_taken b e c ts r i h.1
item_taken b (script s ss l) c ts r i h = absurd (true≢false (sym i ∙ and_false (not b)))
item_taken b (es_module s ss l) c ts r i h = absurd (true≢false (sym i ∙ and_false (not b)))
item_taken b t c ts r i h = omega (arith, cut t c ts r h)

property_least : (t : Tree) → is_pattern_prop t ≡ true → least t ≡ 1
property_least (script s ss l) h = absurd (true≢false (sym h))
property_least (es_module s ss l) h = absurd (true≢false (sym h))
property_least (expr_pat e) h = absurd (true≢false (sym h))
property_least _ h = refl

pub property_taken : (t : Tree) (c : Code) (ts r : Input) → Property c (child t (λ y. Produces t y)) ts r → len r < len ts
property_taken t c ts r h = omega (arith, property_least t h.0, cut t (with_in c) ts r h.2)

-- ---- productions

quasi_cut : (q : Tree) (c : Code) (ts m : Input) → is_quasi q ≡ true → Produces q c ts m → len m < len ts
quasi_cut (tpl_element s t w u) c ts m e h = takes template_kind ts m h.1.0 (omega arith) h.1.2
quasi_cut _ c ts m e h = absurd (true≢false (sym e))

private_cut : (s : Span) (n : List ℕ) (c : Code) (ts r : Input) → Produces (private_name s n) c ts r → len r < len ts
private_cut s n c ts r h = omega (arith, takes hash_kind ts h.0 h.1.0 (omega arith) h.1.2, shorter h.0 r (some_word h.0 h.3.0) h.3.3)

pub accessed_cut : (may : Bool) (k : Tree) (c : Code) (ts r : Input) → AccessedName may c (child k (λ y. Produces k y)) ts r → len r < len ts
accessed_cut may (ident_name s n) c ts r h = shorter ts r (some_word ts h.1.0.0) h.1.0.3
accessed_cut may (private_name s n) c ts r h = private_cut s n c ts r h.1
accessed_cut true _ c ts r h = absurd (true≢false (sym h.0))
accessed_cut false _ c ts r h = absurd (true≢false (sym h.0))

pub dotted_cut : (may : Bool) (k : Tree) (c : Code) (ts r : Input) → Dotted may c (child k (λ y. Produces k y)) ts r → len r < len ts
dotted_cut may k c ts r h = omega (arith, takes dot_kind ts h.0 h.1.0 (omega arith) h.1.2, accessed_cut may k c h.0 r h.2)

pub bracket_cut : (l : ℕ) (c : Code) (s : Span) (e : Tree) (ts r : Input) → 1 ≤ l → Bracketed l c s (child e (λ y. Produces e y)) ts r → len r < len ts
bracket_cut l c s e ts r f h = omega (arith, takes left_bracket_kind ts h.0 h.2.0 (omega arith) h.2.2, taken e _ h.0 h.1 (omega (arith, h.3.0)) h.3.1, takes 10 h.1 r h.4.0 (omega arith) h.4.2)

pub elements_cut : (c : Code) (xs : Trees) (ts r : Input) → ArgumentList c (children xs) ts r → len r < len ts
elements_cut c none ts r h = takes 8 ts r h.0 (omega arith) h.2
elements_cut c (more x xs) ts r h = let y = element_taken x c ts h.0 h.1 in
    ⊎_elim (λ j. omega (arith, y, takes comma_kind h.0 j.1 j.2.0 (omega arith) j.2.2, elements_cut c xs j.1 r j.3)) (λ j. omega (arith, y, takes 8 h.0 r j.1.0 (omega arith) j.1.2)) h.2

pub arguments_cut : (c : Code) (xs : Trees) (ts r : Input) → Arguments c (children xs) ts r → len r < len ts
arguments_cut c xs ts r h = omega (arith, takes left_paren_kind ts h.0 h.1.0 (omega arith) h.1.2, elements_cut c xs h.0 r h.2)

pub template_cut : (tagged : Bool) (c : Code) (es qs : Trees) (ts r : Input) → TemplateSpans tagged c (children es) (children qs) ts r → len r < len ts
template_cut tagged c none none ts r h = absurd h
template_cut tagged c (more e es) none ts r h = absurd h
template_cut tagged c none (more q qs) ts r h = omega (arith, quasi_cut q c ts h.0 h.4.0 h.4.1, takes back_quote_kind h.0 r h.5.0 (omega arith) h.5.2)
template_cut tagged c (more e es) (more q qs) ts r h = omega (arith, quasi_cut q c ts h.0 h.6.0 h.6.1, takes 18 h.0 h.1 h.7.0 (omega arith) h.7.2, taken e _ h.1 h.2 (omega (arith, h.8.0)) h.8.1, takes 12 h.2 h.3 h.9.0 (omega arith) h.9.2, template_cut tagged c es qs h.3 r h.10)
