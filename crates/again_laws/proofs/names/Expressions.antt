-- Expressions: the names of what a production consumes are among its tokens.
use Rattle.std.proofs.Common.{ℕ, Bool, true, false, List, [], ◌∷◌, ◌++◌, Option, Some, None}
use Rattle.base_token.specs.Kinds.{right_brace_kind, right_bracket_kind, right_paren_kind}
use Rattle.base_token.specs.declared.place.Span.{Span}
use Rattle.tree_program_spec.specs.Names.Names.{Identifier, identifiers, joined}
use Rattle.grammar_spec.specs.Tokens.Input.{Code, Input, assigning, with_in}
use Rattle.grammar_spec.specs.Tokens.Operators.{assignment_level}
use Rattle.grammar_spec.specs.Tokens.Shape.{is_element, is_prop}
use Rattle.grammar_spec.specs.Children.{Child, Expr, Sorted}
use Rattle.grammar_spec.specs.Expressions.{AccessedName, ArgumentList, Arguments, ArrayLiteral, Assignment, Await, Binary, Bracketed, Call, ChainCall, ChainMember, Conditional, CoverInitializedName, Dotted, Element, ImportArguments, ImportCall, Member, MetaProperty, NewBare, NewWith, ObjectLiteral, Optional, ParenthesizedExpression, PropertyValue, Sequence, Spread, SuperCall, SuperProperty, TaggedTemplate, TemplateLiteral, TemplateSpans, Unary, Update, Yield, YieldBare}
use Rattle.again_laws.proofs.names.Sits.{AllKnown, Known, Parts, Sits, among, comma_then, each, either, end, go, listed, one_of, only, quasi_none, skip, through, whole}

pub element_names : {ts r z : Input} {iss : List (List Identifier)} (c : Code) (s : Span) (a2 : Option Span) → (e : Child) → Known e → Element c s a2 e ts r → Parts iss r z → Parts (identifiers e.tree ∷ iss) ts z
element_names {ts} {r} c s None e ew h g = go (ew (assigning (with_in c)) ts r h.0.1) g
element_names {ts} {r} c s (Some dots) e ew h g = skip h.1.2 (go (ew (assigning (with_in c)) h.0 r h.3.1) g)

pub array_literal_names : {ts r z : Input} {iss : List (List Identifier)} (c : Code) (s : Span) → (xs : List Child) → AllKnown xs → ArrayLiteral c s xs ts r → Parts iss r z → Parts (each xs ++ iss) ts z
array_literal_names c s xs xsw h g = skip h.1.2 (listed (Sorted is_element c) (λ x k y z j. k c y z j.1) true c right_bracket_kind xs xsw h.0 h.2 g)

pub object_literal_names : {ts r z : Input} {iss : List (List Identifier)} (c : Code) (s : Span) → (ps : List Child) → AllKnown ps → ObjectLiteral c s ps ts r → Parts iss r z → Parts (each ps ++ iss) ts z
object_literal_names c s ps psw h g = skip h.1.2 (listed (Sorted is_prop c) (λ x k y z j. k c y z j.1) false c right_brace_kind ps psw h.0 h.2 g)

pub property_value_names : {ts r z : Input} {iss : List (List Identifier)} (c : Code) (s : Span) → (k : Child) → Known k → (v : Child) → Known v → PropertyValue c s k v ts r → Parts iss r z → Parts (identifiers k.tree ∷ (identifiers v.tree ∷ iss)) ts z
property_value_names {ts} {r} c s k kw v vw h g = go (kw c ts h.0 h.2.1) (skip h.3.2 (go (vw (assigning (with_in c)) h.1 r h.4.1) g))

pub cover_initialized_name_names : {ts r z : Input} {iss : List (List Identifier)} (c : Code) (s : Span) → (name : Child) → Known name → (e : Child) → Known e → CoverInitializedName c s name e ts r → Parts iss r z → Parts (identifiers name.tree ∷ (identifiers e.tree ∷ iss)) ts z
cover_initialized_name_names {ts} {r} c s name namew e ew h g = go (namew c ts h.0 h.2.1) (skip h.3.2 (go (ew (assigning (with_in c)) h.1 r h.4.1) g))

pub spread_names : {ts r z : Input} {iss : List (List Identifier)} (c : Code) (s : Span) → (e : Child) → Known e → Spread c s e ts r → Parts iss r z → Parts (identifiers e.tree ∷ iss) ts z
spread_names {ts} {r} c s e ew h g = skip h.1.2 (go (ew (assigning (with_in c)) h.0 r h.2.1) g)

pub bracketed_names : {ts r z : Input} {iss : List (List Identifier)} (l : ℕ) (c : Code) (s : Span) → (e : Child) → Known e → Bracketed l c s e ts r → Parts iss r z → Parts (identifiers e.tree ∷ iss) ts z
bracketed_names l c s e ew h g = skip h.2.2 (go (ew (assigning (with_in c)) h.0 h.1 h.3.1) (skip h.4.2 g))

template_spans : {r z : Input} {iss : List (List Identifier)} (tagged : Bool) (c : Code) (es : List Child) → AllKnown es → (qs : List Child) → AllKnown qs → (ts : Input) → TemplateSpans tagged c es qs ts r → Parts iss r z → Parts (each es ++ (each qs ++ iss)) ts z
template_spans tagged c es esw [] qsw ts h g = absurd h
template_spans tagged c [] esw (q ∷ qs) qsw ts h g = go (qsw.0 c ts h.0 h.4.1) (skip h.5.2 (only qs h.1 g))
template_spans {r} {z} {iss} tagged c (e ∷ es) esw (q ∷ qs) qsw ts h g =
    through (quasi_none q.tree h.6.0) (qsw.0 c ts h.0 h.6.1) (skip h.7.2 (go (esw.0 (assigning (with_in c)) h.1 h.2 h.8.1)
    (among (each es) (each qs ++ iss) (quasi_none q.tree h.6.0) (skip h.9.2 (template_spans tagged c es esw.1 qs qsw.1 h.3 h.10 g)))))

pub template_literal_names : {ts r z : Input} {iss : List (List Identifier)} (tagged : Bool) (c : Code) (s : Span) (es : List Child) → AllKnown es → (qs : List Child) → AllKnown qs → TemplateLiteral tagged c s es qs ts r → Parts iss r z → Parts (each es ++ (each qs ++ iss)) ts z
template_literal_names tagged c s es esw qs qsw h g = skip h.1.2 (template_spans tagged c es esw qs qsw h.0 h.2 g)

pub parenthesized_expression_names : {ts r z : Input} {iss : List (List Identifier)} (c : Code) (s : Span) → (e : Child) → Known e → ParenthesizedExpression c s e ts r → Parts iss r z → Parts (identifiers e.tree ∷ iss) ts z
parenthesized_expression_names c s e ew h g = skip h.2.2 (go (ew (assigning (with_in c)) h.0 h.1 h.3.1) (skip h.4.2 g))

pub accessed_name_names : {ts r z : Input} {iss : List (List Identifier)} (may_private : Bool) (c : Code) → (p : Child) → Known p → AccessedName may_private c p ts r → Parts iss r z → Parts (identifiers p.tree ∷ iss) ts z
accessed_name_names {ts} {r} may_private c p pw h g = go (pw c ts r h.1) g

pub dotted_names : {ts r z : Input} {iss : List (List Identifier)} (may_private : Bool) (c : Code) → (p : Child) → Known p → Dotted may_private c p ts r → Parts iss r z → Parts (identifiers p.tree ∷ iss) ts z
dotted_names may_private c p pw h g = skip h.1.2 (accessed_name_names may_private c p pw h.2 g)

pub member_names : {ts r z : Input} {iss : List (List Identifier)} (c : Code) (s : Span) → (o : Child) → Known o → (Access : Input → Input → Type 0) {Access_names : List Identifier} (Accessw : (y z : Input) → Access y z → Sits Access_names y z) → Member c s o Access ts r → Parts iss r z → Parts (identifiers o.tree ∷ (Access_names ∷ iss)) ts z
member_names {ts} {r} c s o ow Access Accessw h g = go (ow (assigning c) ts h.0 h.2.1) (go (Accessw h.0 r h.3) g)

pub super_property_names : {ts r z : Input} {iss : List (List Identifier)} (c : Code) (s : Span) (own : Span) (Access : Input → Input → Type 0) {Access_names : List Identifier} (Accessw : (y z : Input) → Access y z → Sits Access_names y z) → SuperProperty c s own Access ts r → Parts iss r z → Parts (Access_names ∷ iss) ts z
super_property_names {ts} {r} c s own Access Accessw h g = skip h.1.3 (go (Accessw h.0 r h.3) g)

pub argument_list_names : {ts r z : Input} {iss : List (List Identifier)} (c : Code) → (xs : List Child) → AllKnown xs → ArgumentList c xs ts r → Parts iss r z → Parts (each xs ++ iss) ts z
argument_list_names {ts} c xs xsw h g = listed (Sorted is_element c) (λ x k y z j. k c y z j.1) false c right_paren_kind xs xsw ts h g

pub arguments_names : {ts r z : Input} {iss : List (List Identifier)} (c : Code) → (xs : List Child) → AllKnown xs → Arguments c xs ts r → Parts iss r z → Parts (each xs ++ iss) ts z
arguments_names c xs xsw h g = skip h.1.2 (argument_list_names c xs xsw h.2 g)

pub call_names : {ts r z : Input} {iss : List (List Identifier)} (c : Code) (s : Span) → (f : Child) → Known f → (xs : List Child) → AllKnown xs → Call c s f xs ts r → Parts iss r z → Parts (identifiers f.tree ∷ (each xs ++ iss)) ts z
call_names {ts} c s f fw xs xsw h g = go (fw (assigning c) ts h.0 h.2.1) (arguments_names c xs xsw h.3 g)

pub super_call_names : {ts r z : Input} {iss : List (List Identifier)} (c : Code) (s : Span) (own : Span) → (xs : List Child) → AllKnown xs → SuperCall c s own xs ts r → Parts iss r z → Parts (each xs ++ iss) ts z
super_call_names c s own xs xsw h g = skip h.1.3 (arguments_names c xs xsw h.3 g)

pub import_arguments_names : {ts r z : Input} {iss : List (List Identifier)} (c : Code) → (xs1 : List Child) → AllKnown xs1 → ImportArguments c xs1 ts r → Parts iss r z → Parts (each xs1 ++ iss) ts z
import_arguments_names c [] hw h g = absurd h
import_arguments_names {ts} c (x ∷ xs) hw h g = either c.syntax.import_attributes h.1 (λ k3 k1. (argument_list_names c (x ∷ xs) (hw.0, hw.1) k1.1 g)) (λ k2. (go (hw.0 c ts k2.1 k2.2.1) (skip k2.3.2 (only xs k2.0 g))))

pub import_call_names : {ts r z : Input} {iss : List (List Identifier)} (c : Code) (s : Span) (own : Span) → (xs : List Child) → AllKnown xs → ImportCall c s own xs ts r → Parts iss r z → Parts (each xs ++ iss) ts z
import_call_names c s own xs xsw h g = skip h.2.3 (skip h.4.2 (import_arguments_names c xs xsw h.5 g))

pub new_with_names : {ts r z : Input} {iss : List (List Identifier)} (c : Code) (s : Span) → (f : Child) → Known f → (xs : List Child) → AllKnown xs → NewWith c s f xs ts r → Parts iss r z → Parts (identifiers f.tree ∷ (joined (each xs ++ []) ∷ iss)) ts z
new_with_names c s f fw xs xsw h g = skip h.2.3 (go (fw (assigning c) h.0 h.1 h.3.1) (go (whole (arguments_names c xs xsw h.4 end)) g))

pub new_bare_names : {ts r z : Input} {iss : List (List Identifier)} (c : Code) (s : Span) → (f : Child) → Known f → NewBare c s f ts r → Parts iss r z → Parts (identifiers f.tree ∷ iss) ts z
new_bare_names {ts} {r} c s f fw h g = skip h.1.3 (go (fw (assigning c) h.0 r h.3) g)

pub optional_names : {ts r z : Input} {iss : List (List Identifier)} (c : Code) → Optional c ts r → Parts iss r z → Parts iss ts z
optional_names c h g = skip h.1.2 (skip h.2.2 g)

pub chain_member_names : {ts r z : Input} {iss : List (List Identifier)} (c : Code) (s : Span) (b2 : Bool) (own : Span) → (o : Child) → Known o → (Access : Input → Input → Type 0) {Access_names : List Identifier} (Accessw : (y z : Input) → Access y z → Sits Access_names y z) (AccessOptional : Input → Input → Type 0) (AccessOptionalw : (y z : Input) → AccessOptional y z → Sits Access_names y z) → ChainMember c s b2 own o Access AccessOptional ts r → Parts iss r z → Parts (identifiers o.tree ∷ (Access_names ∷ iss)) ts z
chain_member_names {ts} {r} c s true own o ow Access Accessw AccessOptional AccessOptionalw h g = go (ow (assigning c) ts h.0 h.2.1) (optional_names c h.3 (go (AccessOptionalw h.1 r h.4) g))
chain_member_names {ts} {r} c s false own o ow Access Accessw AccessOptional AccessOptionalw h g = go (ow (assigning c) ts h.0 h.2) (go (Accessw h.0 r h.3) g)

pub chain_call_names : {ts r z : Input} {iss : List (List Identifier)} (c : Code) (s : Span) (b2 : Bool) (own : Span) → (f : Child) → Known f → (xs : List Child) → AllKnown xs → ChainCall c s b2 own f xs ts r → Parts iss r z → Parts (identifiers f.tree ∷ (each xs ++ iss)) ts z
chain_call_names {ts} c s true own f fw xs xsw h g = go (fw (assigning c) ts h.0 h.2.1) (optional_names c h.3 (arguments_names c xs xsw h.4 g))
chain_call_names {ts} c s false own f fw xs xsw h g = go (fw (assigning c) ts h.0 h.2) (arguments_names c xs xsw h.3 g)

pub tagged_template_names : {ts r z : Input} {iss : List (List Identifier)} (c : Code) (s : Span) → (t : Child) → Known t → (own : Span) → (es : List Child) → AllKnown es → (qs : List Child) → AllKnown qs → TaggedTemplate c s t own es qs ts r → Parts iss r z → Parts (identifiers t.tree ∷ (joined (each es ++ (each qs ++ [])) ∷ iss)) ts z
tagged_template_names {ts} c s t tw own es esw qs qsw h g = go (tw (assigning c) ts h.0 h.2.1) (go (whole (template_literal_names true c own es esw qs qsw h.3 end)) g)

pub meta_property_names : {ts r z : Input} {iss : List (List Identifier)} (c : Code) (s : Span) (k : ℕ) → MetaProperty c s k ts r → Parts iss r z → Parts iss ts z
meta_property_names c s k h g = skip h.2.3 (skip h.3.2 (one_of h.4 (λ k1. (skip k1.1.3 g)) (λ k2. (skip k2.1.3 g))))

pub update_names : {ts r z : Input} {iss : List (List Identifier)} (c : Code) (s : Span) (op : ℕ) (b3 : Bool) → (a : Child) → Known a → Update c s op b3 a ts r → Parts iss r z → Parts (identifiers a.tree ∷ iss) ts z
update_names {ts} {r} c s op true a aw h g = skip h.2.2 (go (aw (assigning c) h.0 r h.3.1) g)
update_names {ts} c s op false a aw h g = go (aw (assigning c) ts h.0 h.2.1) (skip h.4.2 g)

pub unary_names : {ts r z : Input} {iss : List (List Identifier)} (c : Code) (s : Span) (op : ℕ) → (a : Child) → Known a → Unary c s op a ts r → Parts iss r z → Parts (identifiers a.tree ∷ iss) ts z
unary_names {ts} {r} c s op a aw h g = skip h.2.3 (go (aw (assigning c) h.0 r h.3.1) g)

pub await_names : {ts r z : Input} {iss : List (List Identifier)} (c : Code) (s : Span) → (a : Child) → Known a → Await c s a ts r → Parts iss r z → Parts (identifiers a.tree ∷ iss) ts z
await_names {ts} {r} c s a aw h g = skip h.2.3 (go (aw (assigning c) h.0 r h.3.1) g)

pub binary_names : {ts r z : Input} {iss : List (List Identifier)} (c : Code) (s : Span) (op : ℕ) → (a : Child) → Known a → (b : Child) → Known b → Binary c s op a b ts r → Parts iss r z → Parts (identifiers a.tree ∷ (identifiers b.tree ∷ iss)) ts z
binary_names {ts} {r} c s op a aw b bw h g = go (aw (assigning c) ts h.0 h.4) (skip h.5.3 (go (bw (assigning c) h.1 r h.6.1) g))

pub conditional_names : {ts r z : Input} {iss : List (List Identifier)} (c : Code) (s : Span) → (a : Child) → Known a → (b : Child) → Known b → (d : Child) → Known d → Conditional c s a b d ts r → Parts iss r z → Parts (identifiers a.tree ∷ (identifiers b.tree ∷ (identifiers d.tree ∷ iss))) ts z
conditional_names {ts} {r} c s a aw b bw d dw h g = go (aw (assigning c) ts h.0 h.4.1) (skip h.5.2 (go (bw (assigning (with_in c)) h.1 h.2 h.6.1) (skip h.7.2 (go (dw (assigning c) h.3 r h.8.1) g))))

pub assignment_names : {ts r z : Input} {iss : List (List Identifier)} (c : Code) (s : Span) (op : ℕ) → (a : Child) → Known a → (b : Child) → Known b → Assignment c s op a b ts r → Parts iss r z → Parts (identifiers a.tree ∷ (identifiers b.tree ∷ iss)) ts z
assignment_names {ts} {r} c s op a aw b bw h g = go (aw (assigning c) ts h.0 h.4) (skip h.5.2 (go (bw (assigning c) h.1 r h.6.1) g))

pub sequence_names : {ts r z : Input} {iss : List (List Identifier)} (c : Code) (s : Span) → (xs2 : List Child) → AllKnown xs2 → Sequence c s xs2 ts r → Parts iss r z → Parts (each xs2 ++ iss) ts z
sequence_names c s [] hw h g = absurd h
sequence_names c s (x ∷ []) hw h g = absurd h
sequence_names {ts} c s (x ∷ (y ∷ ys)) hw h g = go (hw.0 (assigning c) ts h.0 h.1.1) (comma_then (Expr assignment_level c) (λ x k y z j. k (assigning c) y z j.1) c (y ∷ ys) (hw.1.0, hw.1.1) h.0 h.2 g)

pub yield_bare_names : {ts r z : Input} {iss : List (List Identifier)} (c : Code) (s : Span) → YieldBare c s ts r → Parts iss r z → Parts iss ts z
yield_bare_names c s h g = skip h.1.3 g

pub yield_names : {ts r z : Input} {iss : List (List Identifier)} (c : Code) (s : Span) → (a : Child) → Known a → (b3 : Bool) → Yield c s a b3 ts r → Parts iss r z → Parts (identifiers a.tree ∷ iss) ts z
yield_names {ts} {r} c s a aw false h g = skip h.2.3 (go (aw (assigning c) h.0 r h.4.1) g)
yield_names {ts} {r} c s a aw true h g = skip h.3.3 (skip h.5.2 (go (aw (assigning c) h.1 r h.6.1) g))
