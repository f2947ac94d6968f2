-- Expressions: what each production consumes keeps the braces and templates that are open.
use Rattle.std.proofs.Common.{◌≡◌, ◌≤◌, ◌⊎◌, inl, inr, ℕ, Bool, true, false, ◌&&◌, ◌||◌, ◌==◌, cond, nat_le, List, [], ◌∷◌, Option, Some, None, refl, sym, subst, arith}
use Rattle.std.proofs.lemmas.Bool.{eqb-true, leb-true}
use Rattle.base_proofs.proofs.Bools.{and_false}
use Rattle.base_number.specs.Numbers.{SpecNumber}
use Rattle.base_token.specs.declared.place.Span.{Span}
use Rattle.tree_spec.specs.Tree.{Tree}
use Rattle.base_token.specs.Kinds.{exp_kind, nullish_coalescing_kind, in_kind, hash_kind, dot_kind, dot_dot_dot_kind, left_paren_kind, right_paren_kind, left_bracket_kind, right_bracket_kind, right_brace_kind, back_quote_kind, colon_kind, dollar_brace_kind, question_mark_kind, str_kind, regex_kind, num_kind, big_int_kind, mul_kind, assign_kind, await_kind, new_kind, super_kind, import_kind, yield_kind, meta_kind, target_kind}
use Rattle.grammar_spec.specs.Tokens.Input.{has_in, Input, Code, with_in, assigning, template_end_goal}
use Rattle.grammar_spec.specs.Tokens.Operators.{bit_or_level, binary_level, update_level, expression_level, assignment_level, coalesce_level, unary_level, new_level, call_level, member_level, is_assign_op, right_level, operates}
use Rattle.grammar_spec.specs.Tokens.Shape.{level, fits_left, is_chain, is_element, is_prop, is_key, is_word_name, is_private}
use Rattle.grammar_spec.specs.Children.{is_ident, is_quasi, Child, Expr, Sorted}
use Rattle.grammar_spec.specs.Expressions.{Keyword, Identifier, IdentifierName, PrivateIdentifier, StringLiteral, NumericLiteral, BigIntLiteral, RegularExpressionLiteral, Element, ArrayLiteral, ObjectLiteral, PropertyValue, CoverInitializedName, Spread, Bracketed, TemplateSpans, TemplateLiteral, ParenthesizedExpression, AccessedName, Dotted, Member, SuperProperty, ArgumentList, Arguments, Call, SuperCall, ImportArguments, ImportCall, NewWith, NewBare, Optional, ChainMember, ChainCall, TaggedTemplate, MetaProperty, Update, Unary, Await, Binary, Conditional, Assignment, Sequence, YieldBare, Yield, is_update_op, is_unary_op}
use Rattle.grammar_laws.specs.Slash.TemplateLaws.{Outside, Inside, Behind}
use Rattle.grammar_laws.proofs.slash.Walks.{Goes, go, Plain, plain_by, plain, takes, takes_word, takes_any, takes_name, opens, closes, quotes, goes_on, takes_in, proper, sorted, a_target, leveled, Walked, AllWalked, either, one_of, listed, comma_then}
use Rattle.grammar_laws.proofs.Shapes.{right_some}

left_operand : (c : Code) (op : ℕ) (t : Tree) → operates c op ≡ true → fits_left op t ≡ true → proper t ≡ true
left_operand c op t h g = sorted (fits_left op) (λ s t w u. no_level) (λ e. no_level) t g
  where
    some : (b : Bool) → cond b (has_in c) (nat_le 1 (binary_level op)) ≡ true → (b ≡ true → op ≡ in_kind) → 1 ≤ binary_level op
    some true e f = subst (λ (k : ℕ). 1 ≤ binary_level k) (sym (f refl)) (omega arith)
    some false e f = leb-true 1 (binary_level op) e

    no_level : cond (op == exp_kind) (nat_le update_level 0) (cond (op == nullish_coalescing_kind) ((0 == coalesce_level) || nat_le bit_or_level 0) (nat_le (binary_level op) 0)) ≡ false
    no_level = by_test (op == exp_kind) (op == nullish_coalescing_kind) (nat_le (binary_level op) 0) refl
      where
        by_test : (a b d : Bool) → nat_le (binary_level op) 0 ≡ d → cond a false (cond b false d) ≡ false
        by_test true b d e = refl
        by_test false true d e = refl
        by_test false false false e = refl
        by_test false false true e = absurd (omega (arith, leb-true (binary_level op) 0 e, some (op == in_kind) h (λ q. eqb-true op in_kind q)))

new_operand : (t : Tree) → (level t ≡ new_level) ⊎ (member_level ≤ level t) → proper t ≡ true
new_operand t (inl e) = leveled new_level t (omega arith) (omega (arith, e))
new_operand t (inr e) = leveled member_level t (omega arith) e

pub keyword_walk : (k : ℕ) (pk : Plain k) (c : Code) (pl : c.placed ≡ true) (s : Span) (gs : List Bool) (ts r : Input) → Keyword k c s ts r → Goes (Outside gs) (Outside gs) ts r
keyword_walk k pk c pl s gs ts r h = takes_word c pl k gs ts r pk h.0

pub identifier_walk : (c : Code) (pl : c.placed ≡ true) (s : Span) (name : List ℕ) (gs : List Bool) (ts r : Input) → Identifier c s name ts r → Goes (Outside gs) (Outside gs) ts r
identifier_walk c pl s name gs ts r h = takes_name c pl name gs ts r h.0

pub identifier_name_walk : (c : Code) (pl : c.placed ≡ true) (s : Span) (name : List ℕ) (gs : List Bool) (ts r : Input) → IdentifierName c s name ts r → Goes (Outside gs) (Outside gs) ts r
identifier_name_walk c pl s name gs ts r h = takes_any c pl name gs ts r h.0

pub private_identifier_walk : (c : Code) (pl : c.placed ≡ true) (s : Span) (name : List ℕ) (gs : List Bool) (ts r : Input) → PrivateIdentifier c s name ts r → Goes (Outside gs) (Outside gs) ts r
private_identifier_walk c pl s name gs ts r h = go _ _ _ ts h.0 r (takes c pl hash_kind gs ts h.0 (plain hash_kind refl refl refl refl refl refl refl) h.1) (takes_any c pl name gs h.0 r h.3)

pub string_literal_walk : (c : Code) (pl : c.placed ≡ true) (s : Span) (units : List ℕ) (raw : Option (List ℕ)) (gs : List Bool) (ts r : Input) → StringLiteral c s units raw ts r → Goes (Outside gs) (Outside gs) ts r
string_literal_walk c pl s units raw gs ts r h = takes c pl str_kind gs ts r (plain str_kind refl refl refl refl refl refl refl) h.3

pub numeric_literal_walk : (c : Code) (pl : c.placed ≡ true) (s : Span) (value : SpecNumber) (raw : Option (List ℕ)) (gs : List Bool) (ts r : Input) → NumericLiteral c s value raw ts r → Goes (Outside gs) (Outside gs) ts r
numeric_literal_walk c pl s value raw gs ts r h = takes c pl num_kind gs ts r (plain num_kind refl refl refl refl refl refl refl) h.3

pub big_int_literal_walk : (c : Code) (pl : c.placed ≡ true) (s : Span) (radix : ℕ) (digits : List ℕ) (raw : Option (List ℕ)) (gs : List Bool) (ts r : Input) → BigIntLiteral c s radix digits raw ts r → Goes (Outside gs) (Outside gs) ts r
big_int_literal_walk c pl s radix digits raw gs ts r h = takes c pl big_int_kind gs ts r (plain big_int_kind refl refl refl refl refl refl refl) h.3

pub regular_expression_literal_walk : (c : Code) (pl : c.placed ≡ true) (s : Span) (body : List ℕ) (flags : List ℕ) (gs : List Bool) (ts r : Input) → RegularExpressionLiteral c s body flags ts r → Goes (Outside gs) (Outside gs) ts r
regular_expression_literal_walk c pl s body flags gs ts r h = takes c pl regex_kind gs ts r (plain regex_kind refl refl refl refl refl refl refl) h.1

pub element_walk : (c : Code) (pl : c.placed ≡ true) (s : Span) (a2 : Option Span) (e : Child) (ew : Walked e) (gs : List Bool) (ts r : Input) → Element c s a2 e ts r → Goes (Outside gs) (Outside gs) ts r
element_walk c pl s None e ew gs ts r h = ew (assigning (with_in c)) pl gs ts r (leveled assignment_level e.tree (omega arith) h.0.0) h.0.1
element_walk c pl s (Some dots) e ew gs ts r h = go _ _ _ ts h.0 r (takes c pl dot_dot_dot_kind gs ts h.0 (plain dot_dot_dot_kind refl refl refl refl refl refl refl) h.1) (ew (assigning (with_in c)) pl gs h.0 r (leveled assignment_level e.tree (omega arith) h.3.0) h.3.1)

pub array_literal_walk : (c : Code) (pl : c.placed ≡ true) (s : Span) (xs : List Child) (xsw : AllWalked xs) (gs : List Bool) (ts r : Input) → ArrayLiteral c s xs ts r → Goes (Outside gs) (Outside gs) ts r
array_literal_walk c pl s xs xsw gs ts r h = go _ _ _ ts h.0 r (takes c pl left_bracket_kind gs ts h.0 (plain left_bracket_kind refl refl refl refl refl refl refl) h.1) (listed true (Sorted is_element c) c pl right_bracket_kind gs gs (λ y z j9. takes c pl right_bracket_kind gs y z (plain right_bracket_kind refl refl refl refl refl refl refl) j9) (λ x y z v j9. v c pl gs y z (sorted is_element (λ s t w u. refl) (λ e. refl) x.tree j9.0) j9.1) xs xsw h.0 r h.2)

pub object_literal_walk : (c : Code) (pl : c.placed ≡ true) (s : Span) (ps : List Child) (psw : AllWalked ps) (gs : List Bool) (ts r : Input) → ObjectLiteral c s ps ts r → Goes (Outside gs) (Outside gs) ts r
object_literal_walk c pl s ps psw gs ts r h = go _ _ _ ts h.0 r (opens c pl gs ts h.0 h.1) (listed false (Sorted is_prop c) c pl right_brace_kind (false ∷ gs) gs (λ y z j9. closes c pl gs y z j9) (λ x y z v j9. v c pl (false ∷ gs) y z (sorted is_prop (λ s t w u. refl) (λ e. refl) x.tree j9.0) j9.1) ps psw h.0 r h.2)

pub property_value_walk : (c : Code) (pl : c.placed ≡ true) (s : Span) (k : Child) (kw : Walked k) (v : Child) (vw : Walked v) (gs : List Bool) (ts r : Input) → PropertyValue c s k v ts r → Goes (Outside gs) (Outside gs) ts r
property_value_walk c pl s k kw v vw gs ts r h = go _ _ _ ts h.0 r (kw c pl gs ts h.0 (sorted is_key (λ s t w u. refl) (λ e. refl) k.tree h.2.0) h.2.1) (go _ _ _ h.0 h.1 r (takes c pl colon_kind gs h.0 h.1 (plain colon_kind refl refl refl refl refl refl refl) h.3) (vw (assigning (with_in c)) pl gs h.1 r (leveled assignment_level v.tree (omega arith) h.4.0) h.4.1))

pub cover_initialized_name_walk : (c : Code) (pl : c.placed ≡ true) (s : Span) (name : Child) (namew : Walked name) (e : Child) (ew : Walked e) (gs : List Bool) (ts r : Input) → CoverInitializedName c s name e ts r → Goes (Outside gs) (Outside gs) ts r
cover_initialized_name_walk c pl s name namew e ew gs ts r h = go _ _ _ ts h.0 r (namew c pl gs ts h.0 (sorted is_ident (λ s t w u. refl) (λ e. refl) name.tree h.2.0) h.2.1) (go _ _ _ h.0 h.1 r (takes c pl assign_kind gs h.0 h.1 (plain assign_kind refl refl refl refl refl refl refl) h.3) (ew (assigning (with_in c)) pl gs h.1 r (leveled assignment_level e.tree (omega arith) h.4.0) h.4.1))

pub spread_walk : (c : Code) (pl : c.placed ≡ true) (s : Span) (e : Child) (ew : Walked e) (gs : List Bool) (ts r : Input) → Spread c s e ts r → Goes (Outside gs) (Outside gs) ts r
spread_walk c pl s e ew gs ts r h = go _ _ _ ts h.0 r (takes c pl dot_dot_dot_kind gs ts h.0 (plain dot_dot_dot_kind refl refl refl refl refl refl refl) h.1) (ew (assigning (with_in c)) pl gs h.0 r (leveled assignment_level e.tree (omega arith) h.2.0) h.2.1)

pub bracketed_walk : (l : ℕ) (some_l : 1 ≤ l) (c : Code) (pl : c.placed ≡ true) (s : Span) (e : Child) (ew : Walked e) (gs : List Bool) (ts r : Input) → Bracketed l c s e ts r → Goes (Outside gs) (Outside gs) ts r
bracketed_walk l some_l c pl s e ew gs ts r h = go _ _ _ ts h.0 r (takes c pl left_bracket_kind gs ts h.0 (plain left_bracket_kind refl refl refl refl refl refl refl) h.2) (go _ _ _ h.0 h.1 r (ew (assigning (with_in c)) pl gs h.0 h.1 (leveled l e.tree some_l h.3.0) h.3.1) (takes c pl right_bracket_kind gs h.1 r (plain right_bracket_kind refl refl refl refl refl refl refl) h.4))

-- the characters of templates
abbrev pub Quasi : Child → Type 0
Quasi q = (c : Code) (pl : c.placed ≡ true) (s : List Bool) (ts r : Input) → is_quasi q.tree ≡ true → q.produced c ts r → Goes (Inside s) (Behind s) ts r

abbrev pub AllQuasis : List Child → Type 0
AllQuasis [] = Unit {0}
AllQuasis (x ∷ xs) = Quasi x × AllQuasis xs

template_spans : (tagged : Bool) (c : Code) (pl : c.placed ≡ true) (es : List Child) (esw : AllWalked es) (qs : List Child) (qsw : AllQuasis qs) (gs : List Bool) (ts r : Input) → TemplateSpans tagged c es qs ts r → Goes (Inside gs) (Outside gs) ts r
template_spans tagged c pl [] w [] v gs ts r h = absurd h
template_spans tagged c pl (e ∷ es) w [] v gs ts r h = absurd h
template_spans tagged c pl [] w (q ∷ qs) v gs ts r h = go _ _ _ ts h.0 r (v.0 c pl gs ts h.0 h.4.0 h.4.1) (takes_in c pl template_end_goal back_quote_kind (Behind gs) (Outside gs) h.0 r refl refl refl h.5)
template_spans tagged c pl (e ∷ es) w (q ∷ qs) v gs ts r h = go _ _ _ ts h.0 r (v.0 c pl gs ts h.0 h.6.0 h.6.1) (go _ _ _ h.0 h.1 r (takes_in c pl template_end_goal dollar_brace_kind (Behind gs) (Outside (true ∷ gs)) h.0 h.1 refl refl refl h.7)
    (go _ _ _ h.1 h.2 r (w.0 (assigning (with_in c)) pl (true ∷ gs) h.1 h.2 (leveled expression_level e.tree (omega arith) h.8.0) h.8.1) (go _ _ _ h.2 h.3 r (goes_on c pl gs h.2 h.3 h.9) (template_spans tagged c pl es w.1 qs v.1 gs h.3 r h.10))))

pub template_literal_walk : (tagged : Bool) (c : Code) (pl : c.placed ≡ true) (s : Span) (es : List Child) (esw : AllWalked es) (qs : List Child) (qsw : AllQuasis qs) (gs : List Bool) (ts r : Input) → TemplateLiteral tagged c s es qs ts r → Goes (Outside gs) (Outside gs) ts r
template_literal_walk tagged c pl s es esw qs qsw gs ts r h = go _ _ _ ts h.0 r (quotes c pl gs ts h.0 h.1) (template_spans tagged c pl es esw qs qsw gs h.0 r h.2)

pub parenthesized_expression_walk : (c : Code) (pl : c.placed ≡ true) (s : Span) (e : Child) (ew : Walked e) (gs : List Bool) (ts r : Input) → ParenthesizedExpression c s e ts r → Goes (Outside gs) (Outside gs) ts r
parenthesized_expression_walk c pl s e ew gs ts r h = go _ _ _ ts h.0 r (takes c pl left_paren_kind gs ts h.0 (plain left_paren_kind refl refl refl refl refl refl refl) h.2) (go _ _ _ h.0 h.1 r (ew (assigning (with_in c)) pl gs h.0 h.1 (leveled expression_level e.tree (omega arith) h.3.0) h.3.1) (takes c pl right_paren_kind gs h.1 r (plain right_paren_kind refl refl refl refl refl refl refl) h.4))

pub accessed_name_walk : (may_private : Bool) (c : Code) (pl : c.placed ≡ true) (p : Child) (pw : Walked p) (gs : List Bool) (ts r : Input) → AccessedName may_private c p ts r → Goes (Outside gs) (Outside gs) ts r
accessed_name_walk may_private c pl p pw gs ts r h = pw c pl gs ts r (sorted (λ t. is_word_name t || (may_private && is_private t)) (λ s t w u. and_false _) (λ e. and_false _) p.tree h.0) h.1

pub dotted_walk : (may_private : Bool) (c : Code) (pl : c.placed ≡ true) (p : Child) (pw : Walked p) (gs : List Bool) (ts r : Input) → Dotted may_private c p ts r → Goes (Outside gs) (Outside gs) ts r
dotted_walk may_private c pl p pw gs ts r h = go _ _ _ ts h.0 r (takes c pl dot_kind gs ts h.0 (plain dot_kind refl refl refl refl refl refl refl) h.1) (accessed_name_walk may_private c pl p pw gs h.0 r h.2)

pub member_walk : (c : Code) (pl : c.placed ≡ true) (s : Span) (o : Child) (ow : Walked o) (Access : Input → Input → Type 0) (Access_walk : (gs : List Bool) (ts r : Input) → Access ts r → Goes (Outside gs) (Outside gs) ts r) (gs : List Bool) (ts r : Input) → Member c s o Access ts r → Goes (Outside gs) (Outside gs) ts r
member_walk c pl s o ow Access Access_walk gs ts r h = go _ _ _ ts h.0 r (ow (assigning c) pl gs ts h.0 (leveled call_level o.tree (omega arith) h.2.0) h.2.1) (Access_walk gs h.0 r h.3)

pub super_property_walk : (c : Code) (pl : c.placed ≡ true) (s : Span) (own : Span) (Access : Input → Input → Type 0) (Access_walk : (gs : List Bool) (ts r : Input) → Access ts r → Goes (Outside gs) (Outside gs) ts r) (gs : List Bool) (ts r : Input) → SuperProperty c s own Access ts r → Goes (Outside gs) (Outside gs) ts r
super_property_walk c pl s own Access Access_walk gs ts r h = go _ _ _ ts h.0 r (takes_word c pl super_kind gs ts h.0 (plain super_kind refl refl refl refl refl refl refl) h.1) (Access_walk gs h.0 r h.3)

pub argument_list_walk : (c : Code) (pl : c.placed ≡ true) (xs : List Child) (xsw : AllWalked xs) (gs : List Bool) (ts r : Input) → ArgumentList c xs ts r → Goes (Outside gs) (Outside gs) ts r
argument_list_walk c pl xs xsw gs ts r h = listed false (Sorted is_element c) c pl right_paren_kind gs gs (λ y z j9. takes c pl right_paren_kind gs y z (plain right_paren_kind refl refl refl refl refl refl refl) j9) (λ x y z v j9. v c pl gs y z (sorted is_element (λ s t w u. refl) (λ e. refl) x.tree j9.0) j9.1) xs xsw ts r h

pub arguments_walk : (c : Code) (pl : c.placed ≡ true) (xs : List Child) (xsw : AllWalked xs) (gs : List Bool) (ts r : Input) → Arguments c xs ts r → Goes (Outside gs) (Outside gs) ts r
arguments_walk c pl xs xsw gs ts r h = go _ _ _ ts h.0 r (takes c pl left_paren_kind gs ts h.0 (plain left_paren_kind refl refl refl refl refl refl refl) h.1) (argument_list_walk c pl xs xsw gs h.0 r h.2)

pub call_walk : (c : Code) (pl : c.placed ≡ true) (s : Span) (f : Child) (fw : Walked f) (xs : List Child) (xsw : AllWalked xs) (gs : List Bool) (ts r : Input) → Call c s f xs ts r → Goes (Outside gs) (Outside gs) ts r
call_walk c pl s f fw xs xsw gs ts r h = go _ _ _ ts h.0 r (fw (assigning c) pl gs ts h.0 (leveled call_level f.tree (omega arith) h.2.0) h.2.1) (arguments_walk c pl xs xsw gs h.0 r h.3)

pub super_call_walk : (c : Code) (pl : c.placed ≡ true) (s : Span) (own : Span) (xs : List Child) (xsw : AllWalked xs) (gs : List Bool) (ts r : Input) → SuperCall c s own xs ts r → Goes (Outside gs) (Outside gs) ts r
super_call_walk c pl s own xs xsw gs ts r h = go _ _ _ ts h.0 r (takes_word c pl super_kind gs ts h.0 (plain super_kind refl refl refl refl refl refl refl) h.1) (arguments_walk c pl xs xsw gs h.0 r h.3)

pub import_arguments_walk : (c : Code) (pl : c.placed ≡ true) (a1 : List Child) (a1w : AllWalked a1) (gs : List Bool) (ts r : Input) → ImportArguments c a1 ts r → Goes (Outside gs) (Outside gs) ts r
import_arguments_walk c pl [] w1 gs ts r h = absurd h
import_arguments_walk c pl (x ∷ xs) w1 gs ts r h = either c.syntax.import_attributes _ _ ts r h.1 (λ e1 j1. argument_list_walk c pl (x ∷ xs) (w1.0, w1.1) gs ts r j1.1) (λ j1. go _ _ _ ts j1.1 r (w1.0 c pl gs ts j1.1 (sorted is_element (λ s t w u. refl) (λ e. refl) x.tree j1.2.0) j1.2.1) (takes c pl right_paren_kind gs j1.1 r (plain right_paren_kind refl refl refl refl refl refl refl) j1.3))

pub import_call_walk : (c : Code) (pl : c.placed ≡ true) (s : Span) (own : Span) (xs : List Child) (xsw : AllWalked xs) (gs : List Bool) (ts r : Input) → ImportCall c s own xs ts r → Goes (Outside gs) (Outside gs) ts r
import_call_walk c pl s own xs xsw gs ts r h = go _ _ _ ts h.0 r (takes_word c pl import_kind gs ts h.0 (plain import_kind refl refl refl refl refl refl refl) h.2) (go _ _ _ h.0 h.1 r (takes c pl left_paren_kind gs h.0 h.1 (plain left_paren_kind refl refl refl refl refl refl refl) h.4) (import_arguments_walk c pl xs xsw gs h.1 r h.5))

pub new_with_walk : (c : Code) (pl : c.placed ≡ true) (s : Span) (f : Child) (fw : Walked f) (xs : List Child) (xsw : AllWalked xs) (gs : List Bool) (ts r : Input) → NewWith c s f xs ts r → Goes (Outside gs) (Outside gs) ts r
new_with_walk c pl s f fw xs xsw gs ts r h = go _ _ _ ts h.0 r (takes_word c pl new_kind gs ts h.0 (plain new_kind refl refl refl refl refl refl refl) h.2) (go _ _ _ h.0 h.1 r (fw (assigning c) pl gs h.0 h.1 (leveled member_level f.tree (omega arith) h.3.0) h.3.1) (arguments_walk c pl xs xsw gs h.1 r h.4))

pub new_bare_walk : (c : Code) (pl : c.placed ≡ true) (s : Span) (f : Child) (fw : Walked f) (gs : List Bool) (ts r : Input) → NewBare c s f ts r → Goes (Outside gs) (Outside gs) ts r
new_bare_walk c pl s f fw gs ts r h = go _ _ _ ts h.0 r (takes_word c pl new_kind gs ts h.0 (plain new_kind refl refl refl refl refl refl refl) h.1) (fw (assigning c) pl gs h.0 r (new_operand f.tree h.2) h.3)

pub optional_walk : (c : Code) (pl : c.placed ≡ true) (gs : List Bool) (ts r : Input) → Optional c ts r → Goes (Outside gs) (Outside gs) ts r
optional_walk c pl gs ts r h = go _ _ _ ts h.0 r (takes c pl question_mark_kind gs ts h.0 (plain question_mark_kind refl refl refl refl refl refl refl) h.1) (takes c pl dot_kind gs h.0 r (plain dot_kind refl refl refl refl refl refl refl) h.2)

pub chain_member_walk : (c : Code) (pl : c.placed ≡ true) (s : Span) (a2 : Bool) (own : Span) (o : Child) (ow : Walked o) (Access : Input → Input → Type 0) (Access_walk : (gs : List Bool) (ts r : Input) → Access ts r → Goes (Outside gs) (Outside gs) ts r) (AccessOptional : Input → Input → Type 0) (AccessOptional_walk : (gs : List Bool) (ts r : Input) → AccessOptional ts r → Goes (Outside gs) (Outside gs) ts r) (gs : List Bool) (ts r : Input) → ChainMember c s a2 own o Access AccessOptional ts r → Goes (Outside gs) (Outside gs) ts r
chain_member_walk c pl s true own o ow Access Access_walk AccessOptional AccessOptional_walk gs ts r h = go _ _ _ ts h.0 r (ow (assigning c) pl gs ts h.0 (leveled call_level o.tree (omega arith) h.2.0) h.2.1) (go _ _ _ h.0 h.1 r (optional_walk c pl gs h.0 h.1 h.3) (AccessOptional_walk gs h.1 r h.4))
chain_member_walk c pl s false own o ow Access Access_walk AccessOptional AccessOptional_walk gs ts r h = go _ _ _ ts h.0 r (ow (assigning c) pl gs ts h.0 (sorted is_chain (λ s t w u. refl) (λ e. refl) o.tree h.1) h.2) (Access_walk gs h.0 r h.3)

pub chain_call_walk : (c : Code) (pl : c.placed ≡ true) (s : Span) (a2 : Bool) (own : Span) (f : Child) (fw : Walked f) (xs : List Child) (xsw : AllWalked xs) (gs : List Bool) (ts r : Input) → ChainCall c s a2 own f xs ts r → Goes (Outside gs) (Outside gs) ts r
chain_call_walk c pl s true own f fw xs xsw gs ts r h = go _ _ _ ts h.0 r (fw (assigning c) pl gs ts h.0 (leveled call_level f.tree (omega arith) h.2.0) h.2.1) (go _ _ _ h.0 h.1 r (optional_walk c pl gs h.0 h.1 h.3) (arguments_walk c pl xs xsw gs h.1 r h.4))
chain_call_walk c pl s false own f fw xs xsw gs ts r h = go _ _ _ ts h.0 r (fw (assigning c) pl gs ts h.0 (sorted is_chain (λ s t w u. refl) (λ e. refl) f.tree h.1) h.2) (arguments_walk c pl xs xsw gs h.0 r h.3)

pub tagged_template_walk : (c : Code) (pl : c.placed ≡ true) (s : Span) (t : Child) (tw : Walked t) (own : Span) (es : List Child) (esw : AllWalked es) (qs : List Child) (qsw : AllQuasis qs) (gs : List Bool) (ts r : Input) → TaggedTemplate c s t own es qs ts r → Goes (Outside gs) (Outside gs) ts r
tagged_template_walk c pl s t tw own es esw qs qsw gs ts r h = go _ _ _ ts h.0 r (tw (assigning c) pl gs ts h.0 (leveled call_level t.tree (omega arith) h.2.0) h.2.1) (template_literal_walk true c pl own es esw qs qsw gs h.0 r h.3)

pub meta_property_walk : (c : Code) (pl : c.placed ≡ true) (s : Span) (k : ℕ) (gs : List Bool) (ts r : Input) → MetaProperty c s k ts r → Goes (Outside gs) (Outside gs) ts r
meta_property_walk c pl s k gs ts r h = one_of _ _ ts r h.4
    (λ j. go _ _ _ ts h.0 r (takes_word c pl k gs ts h.0 (subst Plain (sym j.0) (plain new_kind refl refl refl refl refl refl refl)) h.2) (go _ _ _ h.0 h.1 r (takes c pl dot_kind gs h.0 h.1 (plain dot_kind refl refl refl refl refl refl refl) h.3) (takes_word c pl target_kind gs h.1 r (plain target_kind refl refl refl refl refl refl refl) j.1)))
    (λ j. go _ _ _ ts h.0 r (takes_word c pl k gs ts h.0 (subst Plain (sym j.0) (plain import_kind refl refl refl refl refl refl refl)) h.2) (go _ _ _ h.0 h.1 r (takes c pl dot_kind gs h.0 h.1 (plain dot_kind refl refl refl refl refl refl refl) h.3) (takes_word c pl meta_kind gs h.1 r (plain meta_kind refl refl refl refl refl refl refl) j.1)))

pub update_walk : (c : Code) (pl : c.placed ≡ true) (s : Span) (op : ℕ) (a3 : Bool) (a : Child) (aw : Walked a) (gs : List Bool) (ts r : Input) → Update c s op a3 a ts r → Goes (Outside gs) (Outside gs) ts r
update_walk c pl s op true a aw gs ts r h = go _ _ _ ts h.0 r (takes c pl op gs ts h.0 (plain_by (λ k. is_update_op k) refl refl refl refl refl refl refl op h.1) h.2) (aw (assigning c) pl gs h.0 r (leveled unary_level a.tree (omega arith) h.3.0) h.3.1)
update_walk c pl s op false a aw gs ts r h = go _ _ _ ts h.0 r (aw (assigning c) pl gs ts h.0 (leveled new_level a.tree (omega arith) h.2.0) h.2.1) (takes c pl op gs h.0 r (plain_by (λ k. is_update_op k) refl refl refl refl refl refl refl op h.1) h.4)

pub unary_walk : (c : Code) (pl : c.placed ≡ true) (s : Span) (op : ℕ) (a : Child) (aw : Walked a) (gs : List Bool) (ts r : Input) → Unary c s op a ts r → Goes (Outside gs) (Outside gs) ts r
unary_walk c pl s op a aw gs ts r h = go _ _ _ ts h.0 r (takes_word c pl op gs ts h.0 (plain_by (λ k. is_unary_op k) refl refl refl refl refl refl refl op h.1) h.2) (aw (assigning c) pl gs h.0 r (leveled unary_level a.tree (omega arith) h.3.0) h.3.1)

pub await_walk : (c : Code) (pl : c.placed ≡ true) (s : Span) (a : Child) (aw : Walked a) (gs : List Bool) (ts r : Input) → Await c s a ts r → Goes (Outside gs) (Outside gs) ts r
await_walk c pl s a aw gs ts r h = go _ _ _ ts h.0 r (takes_word c pl await_kind gs ts h.0 (plain await_kind refl refl refl refl refl refl refl) h.2) (aw (assigning c) pl gs h.0 r (leveled unary_level a.tree (omega arith) h.3.0) h.3.1)

pub binary_walk : (c : Code) (pl : c.placed ≡ true) (s : Span) (op : ℕ) (a : Child) (aw : Walked a) (b : Child) (bw : Walked b) (gs : List Bool) (ts r : Input) → Binary c s op a b ts r → Goes (Outside gs) (Outside gs) ts r
binary_walk c pl s op a aw b bw gs ts r h = go _ _ _ ts h.0 r (aw (assigning c) pl gs ts h.0 (left_operand c op a.tree h.2 h.3) h.4) (go _ _ _ h.0 h.1 r (takes_word c pl op gs h.0 h.1 (plain_by (λ k. operates c k) refl refl refl refl refl refl refl op h.2) h.5) (bw (assigning c) pl gs h.1 r (leveled (right_level op) b.tree (right_some op) h.6.0) h.6.1))

pub conditional_walk : (c : Code) (pl : c.placed ≡ true) (s : Span) (a : Child) (aw : Walked a) (b : Child) (bw : Walked b) (d : Child) (dw : Walked d) (gs : List Bool) (ts r : Input) → Conditional c s a b d ts r → Goes (Outside gs) (Outside gs) ts r
conditional_walk c pl s a aw b bw d dw gs ts r h = go _ _ _ ts h.0 r (aw (assigning c) pl gs ts h.0 (leveled coalesce_level a.tree (omega arith) h.4.0) h.4.1) (go _ _ _ h.0 h.1 r (takes c pl question_mark_kind gs h.0 h.1 (plain question_mark_kind refl refl refl refl refl refl refl) h.5) (go _ _ _ h.1 h.2 r (bw (assigning (with_in c)) pl gs h.1 h.2 (leveled assignment_level b.tree (omega arith) h.6.0) h.6.1) (go _ _ _ h.2 h.3 r (takes c pl colon_kind gs h.2 h.3 (plain colon_kind refl refl refl refl refl refl refl) h.7) (dw (assigning c) pl gs h.3 r (leveled assignment_level d.tree (omega arith) h.8.0) h.8.1))))

pub assignment_walk : (c : Code) (pl : c.placed ≡ true) (s : Span) (op : ℕ) (a : Child) (aw : Walked a) (b : Child) (bw : Walked b) (gs : List Bool) (ts r : Input) → Assignment c s op a b ts r → Goes (Outside gs) (Outside gs) ts r
assignment_walk c pl s op a aw b bw gs ts r h = go _ _ _ ts h.0 r (aw (assigning c) pl gs ts h.0 (a_target op a.tree h.3) h.4) (go _ _ _ h.0 h.1 r (takes c pl op gs h.0 h.1 (plain_by (λ k. is_assign_op k) refl refl refl refl refl refl refl op h.2) h.5) (bw (assigning c) pl gs h.1 r (leveled assignment_level b.tree (omega arith) h.6.0) h.6.1))

pub sequence_walk : (c : Code) (pl : c.placed ≡ true) (s : Span) (a2 : List Child) (a2w : AllWalked a2) (gs : List Bool) (ts r : Input) → Sequence c s a2 ts r → Goes (Outside gs) (Outside gs) ts r
sequence_walk c pl s [] w2 gs ts r h = absurd h
sequence_walk c pl s (x ∷ []) w2 gs ts r h = absurd h
sequence_walk c pl s (x ∷ (y ∷ ys)) w2 gs ts r h = go _ _ _ ts h.0 r (w2.0 (assigning c) pl gs ts h.0 (leveled assignment_level x.tree (omega arith) h.1.0) h.1.1) (comma_then (Expr assignment_level c) c pl gs (λ x y z v j9. v (assigning c) pl gs y z (leveled assignment_level x.tree (omega arith) j9.0) j9.1) (y ∷ ys) (w2.1.0, w2.1.1) h.0 r h.2)

pub yield_bare_walk : (c : Code) (pl : c.placed ≡ true) (s : Span) (gs : List Bool) (ts r : Input) → YieldBare c s ts r → Goes (Outside gs) (Outside gs) ts r
yield_bare_walk c pl s gs ts r h = takes_word c pl yield_kind gs ts r (plain yield_kind refl refl refl refl refl refl refl) h.1

pub yield_walk : (c : Code) (pl : c.placed ≡ true) (s : Span) (a : Child) (aw : Walked a) (a3 : Bool) (gs : List Bool) (ts r : Input) → Yield c s a a3 ts r → Goes (Outside gs) (Outside gs) ts r
yield_walk c pl s a aw false gs ts r h = go _ _ _ ts h.0 r (takes_word c pl yield_kind gs ts h.0 (plain yield_kind refl refl refl refl refl refl refl) h.2) (aw (assigning c) pl gs h.0 r (leveled assignment_level a.tree (omega arith) h.4.0) h.4.1)
yield_walk c pl s a aw true gs ts r h = go _ _ _ ts h.0 r (takes_word c pl yield_kind gs ts h.0 (plain yield_kind refl refl refl refl refl refl refl) h.3) (go _ _ _ h.0 h.1 r (takes c pl mul_kind gs h.0 h.1 (plain mul_kind refl refl refl refl refl refl refl) h.5) (aw (assigning c) pl gs h.1 r (leveled assignment_level a.tree (omega arith) h.6.0) h.6.1))
