-- Functions and classes: what each production consumes keeps the braces and templates that are open.
use Rattle.std.proofs.Common.{◌≡◌, ◌⊎◌, inl, inr, ℕ, Bool, true, false, ◌==◌, List, [], ◌∷◌, Option, Some, None, refl, sym, subst, arith}
use Rattle.base_token.specs.declared.place.Span.{Span}
use Rattle.base_token.specs.Kinds.{arrow_kind, left_paren_kind, right_paren_kind, mul_kind, assign_kind, function_kind, class_kind, extends_kind, accessor_kind, async_kind, get_kind, set_kind, static_kind}
use Rattle.tree_spec.specs.Tree.{Tree, plain_method}
use Rattle.grammar_spec.specs.Tokens.Input.{assigning, Input, Code, kind, with_in, by, binding, setting, turned_strict, in_body, in_arrow, in_field, in_static, in_list}
use Rattle.grammar_spec.specs.Tokens.Operators.{assignment_level, new_level, key_end}
use Rattle.grammar_spec.specs.Tokens.Shape.{ends, is_absent, is_bound_name, is_param, is_key, is_any_key, is_item, is_member, constructs, field_end, FunctionParts}
use Rattle.grammar_spec.specs.Children.{is_ident, Child, Sorted}
use Rattle.grammar_spec.specs.Functions.{Parameter, Parameters, SetParameter, Closes, Body, Function, Star, Async, FunctionHead, FunctionDeclaration, Named, FunctionExpression, ArrowPattern, BareName, ArrowParameters, ArrowHead, ArrowBlock, ArrowExpression, MethodHead, Method, ObjectMethod, Getter, Setter, Heritage, Members, ClassTail, ClassDeclaration, ClassExpression, Static, Constructor, ClassMethod, Initial, Field, AutoAccessor, StaticBlock}
use Rattle.grammar_laws.specs.Slash.TemplateLaws.{Outside}
use Rattle.grammar_laws.proofs.slash.Walks.{Goes, go, stay, Plain, plain, takes, takes_word, opens, closes, proper, sorted, an_item, leveled, Walked, AllWalked, either, one_of, maybe, paused, listed, items}

pub parameter_walk : (c : Code) (pl : c.placed ≡ true) (s : Span) (decorators : List Child) (decoratorsw : AllWalked decorators) (p : Child) (pw : Walked p) (gs : List Bool) (ts r : Input) → Parameter c s decorators p ts r → Goes (Outside gs) (Outside gs) ts r
parameter_walk c pl s decorators decoratorsw p pw gs ts r h = pw (binding (with_in c)) pl gs ts r (an_item true p.tree h.1) h.2

pub parameters_walk : (c : Code) (pl : c.placed ≡ true) (ps : List Child) (psw : AllWalked ps) (gs : List Bool) (ts r : Input) → Parameters c ps ts r → Goes (Outside gs) (Outside gs) ts r
parameters_walk c pl ps psw gs ts r h = go _ _ _ ts h.0 r (takes c pl left_paren_kind gs ts h.0 (plain left_paren_kind refl refl refl refl refl refl refl) h.1) (listed false (Sorted is_param c) c pl right_paren_kind gs gs (λ y z j9. takes c pl right_paren_kind gs y z (plain right_paren_kind refl refl refl refl refl refl refl) j9) (λ x y z v j9. v c pl gs y z (sorted is_param (λ s t w u. refl) (λ e. refl) x.tree j9.0) j9.1) ps psw h.0 r h.2)

pub set_parameter_walk : (c : Code) (pl : c.placed ≡ true) (a1 : List Child) (a1w : AllWalked a1) (gs : List Bool) (ts r : Input) → SetParameter c a1 ts r → Goes (Outside gs) (Outside gs) ts r
set_parameter_walk c pl [] w1 gs ts r h = absurd h
set_parameter_walk c pl (p ∷ ps) w1 gs ts r h = go _ _ _ ts h.0 r (takes c pl left_paren_kind gs ts h.0 (plain left_paren_kind refl refl refl refl refl refl refl) h.4) (go _ _ _ h.0 h.1 r (w1.0 c pl gs h.0 h.1 (sorted is_param (λ s t w u. refl) (λ e. refl) p.tree h.5.0) h.5.1) (takes c pl right_paren_kind gs h.1 r (plain right_paren_kind refl refl refl refl refl refl refl) h.6))

pub body_walk : (c : Code) (pl : c.placed ≡ true) (s : Span) (ss : List Child) (ssw : AllWalked ss) (gs : List Bool) (ts r : Input) → Body c s ss ts r → Goes (Outside gs) (Outside gs) ts r
body_walk c pl s ss ssw gs ts r h = go _ _ _ ts h.0 r (opens c pl gs ts h.0 h.1) (items is_item Closes (false ∷ gs) gs (λ d dp y z j9. closes d dp gs y z j9) (λ t e. sorted is_item (λ s t w u. refl) (λ e. refl) t e) c pl true ss ssw h.0 r h.2)

pub function_walk : (c : Code) (pl : c.placed ≡ true) (ps : List Child) (psw : AllWalked ps) (decorators : List Child) (decoratorsw : AllWalked decorators) (s : Span) (ss : List Child) (ssw : AllWalked ss) (generator : Bool) (async : Bool) (gs : List Bool) (ts r : Input) → Function c ps decorators s ss generator async ts r → Goes (Outside gs) (Outside gs) ts r
function_walk c pl ps psw decorators decoratorsw s ss ssw generator async gs ts r h = go _ _ _ ts h.0 r (either c.sets _ _ ts h.0 h.2 (λ e1 j1. set_parameter_walk (in_body generator async c) pl ps psw gs ts h.0 j1) (λ j1. parameters_walk (in_body generator async c) pl ps psw gs ts h.0 j1)) (body_walk (in_body generator async c) pl s ss ssw gs h.0 r h.3)

pub star_walk : (a0 : Bool) (c : Code) (pl : c.placed ≡ true) (gs : List Bool) (ts r : Input) → Star a0 c ts r → Goes (Outside gs) (Outside gs) ts r
star_walk true c pl gs ts r h = takes c pl mul_kind gs ts r (plain mul_kind refl refl refl refl refl refl refl) h
star_walk false c pl gs ts r h = stay _ ts r h

pub async_walk : (a0 : Bool) (c : Code) (pl : c.placed ≡ true) (gs : List Bool) (ts r : Input) → Async a0 c ts r → Goes (Outside gs) (Outside gs) ts r
async_walk true c pl gs ts r h = takes_word c pl async_kind gs ts r (plain async_kind refl refl refl refl refl refl refl) h.0
async_walk false c pl gs ts r h = stay _ ts r h

pub function_head_walk : (generator : Bool) (async : Bool) (c : Code) (pl : c.placed ≡ true) (gs : List Bool) (ts r : Input) → FunctionHead generator async c ts r → Goes (Outside gs) (Outside gs) ts r
function_head_walk generator async c pl gs ts r h = go _ _ _ ts h.0 r (async_walk async c pl gs ts h.0 h.2) (go _ _ _ h.0 h.1 r (takes_word c pl function_kind gs h.0 h.1 (plain function_kind refl refl refl refl refl refl refl) h.3) (star_walk generator c pl gs h.1 r h.4))

pub function_declaration_walk : (c : Code) (pl : c.placed ≡ true) (s : Span) (name : Child) (namew : Walked name) (f : Child) (fw : Walked f) (fp : proper f.tree ≡ true) (a4 : Option FunctionParts) (gs : List Bool) (ts r : Input) → FunctionDeclaration c s name f a4 ts r → Goes (Outside gs) (Outside gs) ts r
function_declaration_walk c pl s name namew f fw fp None gs ts r h = absurd h
function_declaration_walk c pl s name namew f fw fp (Some parts) gs ts r h = go _ _ _ ts h.0 r (function_head_walk parts.generator parts.async c pl gs ts h.0 h.2) (go _ _ _ h.0 h.1 r (namew c pl gs h.0 h.1 (sorted is_ident (λ s t w u. refl) (λ e. refl) name.tree h.3.0) h.3.1) (fw (setting false c) pl gs h.1 r fp h.4))

pub named_walk : (c : Code) (pl : c.placed ≡ true) (name : Child) (namew : Walked name) (gs : List Bool) (ts r : Input) → Named c name ts r → Goes (Outside gs) (Outside gs) ts r
named_walk c pl name namew gs ts r h = namew c pl gs ts r (sorted is_ident (λ s t w u. refl) (λ e. refl) name.tree h.0) h.1

pub function_expression_walk : (c : Code) (pl : c.placed ≡ true) (s : Span) (name : Child) (namew : Walked name) (f : Child) (fw : Walked f) (fp : proper f.tree ≡ true) (a4 : Option FunctionParts) (gs : List Bool) (ts r : Input) → FunctionExpression c s name f a4 ts r → Goes (Outside gs) (Outside gs) ts r
function_expression_walk c pl s name namew f fw fp None gs ts r h = absurd h
function_expression_walk c pl s name namew f fw fp (Some parts) gs ts r h = go _ _ _ ts h.0 r (function_head_walk parts.generator parts.async c pl gs ts h.0 h.2) (go _ _ _ h.0 h.1 r (maybe Named (by parts.generator parts.async c) name gs h.0 h.1 (λ j9. named_walk (by parts.generator parts.async c) pl name namew gs h.0 h.1 j9) h.3) (fw (setting false c) pl gs h.1 r fp h.4))

pub arrow_pattern_walk : (c : Code) (pl : c.placed ≡ true) (p : Child) (pw : Walked p) (gs : List Bool) (ts r : Input) → ArrowPattern c p ts r → Goes (Outside gs) (Outside gs) ts r
arrow_pattern_walk c pl p pw gs ts r h = pw (binding (with_in c)) pl gs ts r (an_item true p.tree h.0) h.1

pub bare_name_walk : (c : Code) (pl : c.placed ≡ true) (a1 : List Child) (a1w : AllWalked a1) (gs : List Bool) (ts r : Input) → BareName c a1 ts r → Goes (Outside gs) (Outside gs) ts r
bare_name_walk c pl [] w1 gs ts r h = absurd h
bare_name_walk c pl (p ∷ ps) w1 gs ts r h = w1.0 c pl gs ts r (sorted is_bound_name (λ s t w u. refl) (λ e. refl) p.tree h.1.0) h.1.1

pub arrow_parameters_walk : (c : Code) (pl : c.placed ≡ true) (ps : List Child) (psw : AllWalked ps) (gs : List Bool) (ts r : Input) → ArrowParameters c ps ts r → Goes (Outside gs) (Outside gs) ts r
arrow_parameters_walk c pl ps psw gs ts r h = one_of _ _ ts r h (λ j1. bare_name_walk c pl ps psw gs ts r j1) (λ j1. go _ _ _ ts j1.0 r (takes c pl left_paren_kind gs ts j1.0 (plain left_paren_kind refl refl refl refl refl refl refl) j1.1) (listed false (ArrowPattern c) c pl right_paren_kind gs gs (λ y z j9. takes c pl right_paren_kind gs y z (plain right_paren_kind refl refl refl refl refl refl refl) j9) (λ x y z v j9. arrow_pattern_walk c pl x v gs y z j9) ps psw j1.0 r j1.2))

pub arrow_head_walk : (async : Bool) (c : Code) (pl : c.placed ≡ true) (ps : List Child) (psw : AllWalked ps) (gs : List Bool) (ts r : Input) → ArrowHead async c ps ts r → Goes (Outside gs) (Outside gs) ts r
arrow_head_walk async c pl ps psw gs ts r h = go _ _ _ ts h.0 r (async_walk async c pl gs ts h.0 h.2) (go _ _ _ h.0 h.1 r (arrow_parameters_walk c pl ps psw gs h.0 h.1 h.3) (takes c pl arrow_kind gs h.1 r (plain arrow_kind refl refl refl refl refl refl refl) h.5))

pub arrow_block_walk : (c : Code) (pl : c.placed ≡ true) (s : Span) (ps : List Child) (psw : AllWalked ps) (body : Span) (ss : List Child) (ssw : AllWalked ss) (async : Bool) (gs : List Bool) (ts r : Input) → ArrowBlock c s ps body ss async ts r → Goes (Outside gs) (Outside gs) ts r
arrow_block_walk c pl s ps psw body ss ssw async gs ts r h = go _ _ _ ts h.0 r (arrow_head_walk async c pl ps psw gs ts h.0 h.1) (body_walk (in_list (with_in (in_arrow async c))) pl body ss ssw gs h.0 r h.2)

pub arrow_expression_walk : (c : Code) (pl : c.placed ≡ true) (s : Span) (ps : List Child) (psw : AllWalked ps) (e : Child) (ew : Walked e) (async : Bool) (gs : List Bool) (ts r : Input) → ArrowExpression c s ps e async ts r → Goes (Outside gs) (Outside gs) ts r
arrow_expression_walk c pl s ps psw e ew async gs ts r h = go _ _ _ ts h.0 r (arrow_head_walk async c pl ps psw gs ts h.0 h.1) (ew (assigning (in_arrow async c)) pl gs h.0 r (leveled assignment_level e.tree (omega arith) h.3.0) h.3.1)

pub method_head_walk : (generator : Bool) (async : Bool) (c : Code) (pl : c.placed ≡ true) (gs : List Bool) (ts r : Input) → MethodHead generator async c ts r → Goes (Outside gs) (Outside gs) ts r
method_head_walk generator async c pl gs ts r h = go _ _ _ ts h.0 r (async_walk async c pl gs ts h.0 h.1) (star_walk generator c pl gs h.0 r h.2)

accessor : {Q : Type 0} (k : ℕ) → ((k ≡ get_kind) × Q) ⊎ (k ≡ set_kind) → Plain k
accessor k (inl e) = subst Plain (sym e.0) (plain get_kind refl refl refl refl refl refl refl)
accessor k (inr e) = subst Plain (sym e) (plain set_kind refl refl refl refl refl refl refl)

pub method_walk : (c : Code) (pl : c.placed ≡ true) (k : ℕ) (key : Child) (keyw : Walked key) (keyp : proper key.tree ≡ true) (parts : FunctionParts) (f : Child) (fw : Walked f) (fp : proper f.tree ≡ true) (gs : List Bool) (ts r : Input) → Method c k key parts f ts r → Goes (Outside gs) (Outside gs) ts r
method_walk c pl k key keyw keyp parts f fw fp gs ts r h = either (k == plain_method) _ _ ts r h
    (λ e j. go _ _ _ ts j.0 r (method_head_walk parts.generator parts.async c pl gs ts j.0 j.2) (go _ _ _ j.0 j.1 r (keyw c pl gs j.0 j.1 keyp j.3) (fw (setting false c) pl gs j.1 r fp j.4)))
    (λ j. go _ _ _ ts j.0 r (takes_word c pl k gs ts j.0 (accessor k j.2) j.5) (go _ _ _ j.0 j.1 r (keyw c pl gs j.0 j.1 keyp j.6) (fw (setting (k == set_kind) c) pl gs j.1 r fp j.7)))

pub object_method_walk : (c : Code) (pl : c.placed ≡ true) (s : Span) (key : Child) (keyw : Walked key) (f : Child) (fw : Walked f) (fp : proper f.tree ≡ true) (a4 : Option FunctionParts) (gs : List Bool) (ts r : Input) → ObjectMethod c s key f a4 ts r → Goes (Outside gs) (Outside gs) ts r
object_method_walk c pl s key keyw f fw fp None gs ts r h = absurd h
object_method_walk c pl s key keyw f fw fp (Some parts) gs ts r h = method_walk c pl plain_method key keyw (sorted is_key (λ s t w u. refl) (λ e. refl) key.tree h.0) parts f fw fp gs ts r h.1

pub getter_walk : (c : Code) (pl : c.placed ≡ true) (s : Span) (key : Child) (keyw : Walked key) (body : Span) (ss : List Child) (ssw : AllWalked ss) (gs : List Bool) (ts r : Input) → Getter c s key body ss ts r → Goes (Outside gs) (Outside gs) ts r
getter_walk c pl s key keyw body ss ssw gs ts r h = go _ _ _ ts h.0 r (takes_word c pl get_kind gs ts h.0 (plain get_kind refl refl refl refl refl refl refl) h.4) (go _ _ _ h.0 h.1 r (keyw c pl gs h.0 h.1 (sorted is_key (λ s t w u. refl) (λ e. refl) key.tree h.5.0) h.5.1) (go _ _ _ h.1 h.2 r (takes (in_body false false c) pl left_paren_kind gs h.1 h.2 (plain left_paren_kind refl refl refl refl refl refl refl) h.6) (go _ _ _ h.2 h.3 r (takes (in_body false false c) pl right_paren_kind gs h.2 h.3 (plain right_paren_kind refl refl refl refl refl refl refl) h.7) (body_walk (in_body false false c) pl body ss ssw gs h.3 r h.8))))

pub setter_walk : (c : Code) (pl : c.placed ≡ true) (s : Span) (key : Child) (keyw : Walked key) (pat : Child) (patw : Walked pat) (body : Span) (ss : List Child) (ssw : AllWalked ss) (gs : List Bool) (ts r : Input) → Setter c s key pat body ss ts r → Goes (Outside gs) (Outside gs) ts r
setter_walk c pl s key keyw pat patw body ss ssw gs ts r h = go _ _ _ ts h.0 r (takes_word c pl set_kind gs ts h.0 (plain set_kind refl refl refl refl refl refl refl) h.5) (go _ _ _ h.0 h.1 r (keyw c pl gs h.0 h.1 (sorted is_key (λ s t w u. refl) (λ e. refl) key.tree h.6.0) h.6.1) (go _ _ _ h.1 h.2 r (takes (in_body false false c) pl left_paren_kind gs h.1 h.2 (plain left_paren_kind refl refl refl refl refl refl refl) h.7) (go _ _ _ h.2 h.3 r (patw (binding (in_body false false c)) pl gs h.2 h.3 (an_item true pat.tree h.8) h.10) (go _ _ _ h.3 h.4 r (takes (in_body false false c) pl right_paren_kind gs h.3 h.4 (plain right_paren_kind refl refl refl refl refl refl refl) h.11) (body_walk (in_body false false c) pl body ss ssw gs h.4 r h.12)))))

pub heritage_walk : (c : Code) (pl : c.placed ≡ true) (super_class : Child) (super_classw : Walked super_class) (gs : List Bool) (ts r : Input) → Heritage c super_class ts r → Goes (Outside gs) (Outside gs) ts r
heritage_walk c pl super_class super_classw gs ts r h = go _ _ _ ts h.0 r (takes_word c pl extends_kind gs ts h.0 (plain extends_kind refl refl refl refl refl refl refl) h.1) (super_classw (assigning c) pl gs h.0 r (leveled new_level super_class.tree (omega arith) h.2.0) h.2.1)

pub members_walk : (c : Code) (pl : c.placed ≡ true) (xs : List Child) (xsw : AllWalked xs) (gs : List Bool) (ts r : Input) → Members c xs ts r → Goes (Outside (false ∷ gs)) (Outside gs) ts r
members_walk c pl [] w gs ts r h = closes c pl gs ts r h
members_walk c pl (x ∷ xs) w gs ts r h = go _ _ _ ts h.0 r (w.0 c pl (false ∷ gs) ts h.0 (sorted is_member (λ s t w u. refl) (λ e. refl) x.tree h.1.0) h.1.1) (members_walk c pl xs w.1 gs h.0 r h.2)

pub class_tail_walk : (c : Code) (pl : c.placed ≡ true) (decorators : List Child) (decoratorsw : AllWalked decorators) (members : List Child) (membersw : AllWalked members) (super_class : Child) (super_classw : Walked super_class) (gs : List Bool) (ts r : Input) → ClassTail c decorators members super_class ts r → Goes (Outside gs) (Outside gs) ts r
class_tail_walk c pl decorators decoratorsw members membersw super_class super_classw gs ts r h = go _ _ _ ts h.0 r (maybe Heritage c super_class gs ts h.0 (λ j9. heritage_walk c pl super_class super_classw gs ts h.0 j9) h.3) (go _ _ _ h.0 h.1 r (opens c pl gs h.0 h.1 h.4) (members_walk c pl members membersw gs h.1 r h.5))

pub class_declaration_walk : (c : Code) (pl : c.placed ≡ true) (s : Span) (name : Child) (namew : Walked name) (k : Child) (kw : Walked k) (kp : proper k.tree ≡ true) (own : Option Span) (gs : List Bool) (ts r : Input) → ClassDeclaration c s name k own ts r → Goes (Outside gs) (Outside gs) ts r
class_declaration_walk c pl s name namew k kw kp own gs ts r h = go _ _ _ ts h.0 r (takes_word c pl class_kind gs ts h.0 (plain class_kind refl refl refl refl refl refl refl) h.2) (go _ _ _ h.0 h.1 r (namew (turned_strict c) pl gs h.0 h.1 (sorted is_ident (λ s t w u. refl) (λ e. refl) name.tree h.3.0) h.3.1) (kw (turned_strict (with_in c)) pl gs h.1 r kp h.4))

pub class_expression_walk : (c : Code) (pl : c.placed ≡ true) (s : Span) (name : Child) (namew : Walked name) (k : Child) (kw : Walked k) (kp : proper k.tree ≡ true) (own : Option Span) (gs : List Bool) (ts r : Input) → ClassExpression c s name k own ts r → Goes (Outside gs) (Outside gs) ts r
class_expression_walk c pl s name namew k kw kp own gs ts r h = go _ _ _ ts h.0 r (takes_word c pl class_kind gs ts h.0 (plain class_kind refl refl refl refl refl refl refl) h.2) (go _ _ _ h.0 h.1 r (maybe Named (turned_strict c) name gs h.0 h.1 (λ j9. named_walk (turned_strict c) pl name namew gs h.0 h.1 j9) h.3) (kw (turned_strict (with_in c)) pl gs h.1 r kp h.4))

pub static_walk : (a0 : Bool) (c : Code) (pl : c.placed ≡ true) (gs : List Bool) (ts r : Input) → Static a0 c ts r → Goes (Outside gs) (Outside gs) ts r
static_walk true c pl gs ts r h = takes_word c pl static_kind gs ts r (plain static_kind refl refl refl refl refl refl refl) h
static_walk false c pl gs ts r h = stay _ ts r h

pub constructor_walk : (c : Code) (pl : c.placed ≡ true) (s : Span) (key : Child) (keyw : Walked key) (ps : List Child) (psw : AllWalked ps) (body : Span) (ss : List Child) (ssw : AllWalked ss) (gs : List Bool) (ts r : Input) → Constructor c s key ps body ss ts r → Goes (Outside gs) (Outside gs) ts r
constructor_walk c pl s key keyw ps psw body ss ssw gs ts r h = go _ _ _ ts h.0 r (keyw c pl gs ts h.0 (sorted constructs (λ s t w u. refl) (λ e. refl) key.tree h.2) h.3) (go _ _ _ h.0 h.1 r (parameters_walk (in_body false false c) pl ps psw gs h.0 h.1 h.4) (body_walk (in_body false false c) pl body ss ssw gs h.1 r h.5))

pub class_method_walk : (may : Tree → Bool) (sort : (t : Tree) → may t ≡ true → proper t ≡ true) (c : Code) (pl : c.placed ≡ true) (s : Span) (key : Child) (keyw : Walked key) (f : Child) (fw : Walked f) (fp : proper f.tree ≡ true) (a5 : Option FunctionParts) (k : ℕ) (is_static : Bool) (gs : List Bool) (ts r : Input) → ClassMethod may c s key f a5 k is_static ts r → Goes (Outside gs) (Outside gs) ts r
class_method_walk may sort c pl s key keyw f fw fp None k is_static gs ts r h = absurd h
class_method_walk may sort c pl s key keyw f fw fp (Some parts) k is_static gs ts r h = go _ _ _ ts h.0 r (static_walk is_static c pl gs ts h.0 h.3) (method_walk c pl k key keyw (sort key.tree h.1) parts f fw fp gs h.0 r h.4)

pub initial_walk : (c : Code) (pl : c.placed ≡ true) (e : ℕ) (value : Child) (valuew : Walked value) (gs : List Bool) (ts r : Input) → Initial c e value ts r → Goes (Outside gs) (Outside gs) ts r
initial_walk c pl e value valuew gs ts r h = either (is_absent value.tree) _ _ ts r h (λ e1 j1. paused c pl e gs ts r j1) (λ j1. go _ _ _ ts j1.0 r (takes c pl assign_kind gs ts j1.0 (plain assign_kind refl refl refl refl refl refl refl) j1.2) (go _ _ _ j1.0 j1.1 r (valuew (assigning (in_field c)) pl gs j1.0 j1.1 (leveled assignment_level value.tree (omega arith) j1.3.0) j1.3.1) (paused c pl (ends value.tree) gs j1.1 r j1.4)))

pub field_walk : (may : Tree → Bool) (sort : (t : Tree) → may t ≡ true → proper t ≡ true) (c : Code) (pl : c.placed ≡ true) (s : Span) (key : Child) (keyw : Walked key) (value : Child) (valuew : Walked value) (is_static : Bool) (decorators : List Child) (decoratorsw : AllWalked decorators) (gs : List Bool) (ts r : Input) → Field may c s key value is_static decorators ts r → Goes (Outside gs) (Outside gs) ts r
field_walk may sort c pl s key keyw value valuew is_static decorators decoratorsw gs ts r h = go _ _ _ ts h.0 r (static_walk is_static c pl gs ts h.0 h.4) (go _ _ _ h.0 h.1 r (keyw c pl gs h.0 h.1 (sort key.tree h.3) h.5) (initial_walk c pl (field_end is_static (kind h.0)) value valuew gs h.1 r h.6))

pub auto_accessor_walk : (c : Code) (pl : c.placed ≡ true) (s : Span) (key : Child) (keyw : Walked key) (value : Child) (valuew : Walked value) (is_static : Bool) (decorators : List Child) (decoratorsw : AllWalked decorators) (gs : List Bool) (ts r : Input) → AutoAccessor c s key value is_static decorators ts r → Goes (Outside gs) (Outside gs) ts r
auto_accessor_walk c pl s key keyw value valuew is_static decorators decoratorsw gs ts r h = go _ _ _ ts h.0 r (static_walk is_static c pl gs ts h.0 h.5) (go _ _ _ h.0 h.1 r (takes_word c pl accessor_kind gs h.0 h.1 (plain accessor_kind refl refl refl refl refl refl refl) h.6) (go _ _ _ h.1 h.2 r (keyw c pl gs h.1 h.2 (sorted is_any_key (λ s t w u. refl) (λ e. refl) key.tree h.8.0) h.8.1) (initial_walk c pl key_end value valuew gs h.2 r h.9)))

pub static_block_walk : (c : Code) (pl : c.placed ≡ true) (s : Span) (block : Span) (ss : List Child) (ssw : AllWalked ss) (gs : List Bool) (ts r : Input) → StaticBlock c s block ss ts r → Goes (Outside gs) (Outside gs) ts r
static_block_walk c pl s block ss ssw gs ts r h = go _ _ _ ts h.0 r (takes_word c pl static_kind gs ts h.0 (plain static_kind refl refl refl refl refl refl refl) h.2) (go _ _ _ h.0 h.1 r (opens (in_static c) pl gs h.0 h.1 h.3) (items is_item Closes (false ∷ gs) gs (λ d dp y z j9. closes d dp gs y z j9) (λ t e. sorted is_item (λ s t w u. refl) (λ e. refl) t e) (in_static c) pl false ss ssw h.1 r h.4))
