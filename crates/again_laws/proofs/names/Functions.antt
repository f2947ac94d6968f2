-- Functions and classes: the names of what a production consumes are among its tokens.
use Rattle.std.proofs.Common.{ℕ, Bool, true, false, ◌==◌, List, [], ◌∷◌, ◌++◌, Option, Some, None}
use Rattle.base_token.specs.Kinds.{right_paren_kind, set_kind}
use Rattle.base_token.specs.declared.place.Span.{Span}
use Rattle.tree_spec.specs.Tree.{Tree, plain_method}
use Rattle.tree_program_spec.specs.Names.Names.{Identifier, identifiers, joined}
use Rattle.grammar_spec.specs.Tokens.Input.{Code, Input, assigning, binding, by, in_arrow, in_body, in_field, in_list, in_static, kind, setting, turned_strict, with_in}
use Rattle.grammar_spec.specs.Tokens.Operators.{key_end}
use Rattle.grammar_spec.specs.Tokens.Shape.{FunctionParts, ends, field_end, is_item, is_param}
use Rattle.grammar_spec.specs.Children.{Child, Sorted}
use Rattle.grammar_spec.specs.Functions.{ArrowBlock, ArrowExpression, ArrowHead, ArrowParameters, ArrowPattern, Async, AutoAccessor, BareName, Body, ClassDeclaration, ClassExpression, ClassMethod, ClassTail, Closes, Constructor, Field, Function, FunctionDeclaration, FunctionExpression, FunctionHead, Getter, Heritage, Initial, Members, Method, MethodHead, Named, ObjectMethod, Parameter, Parameters, SetParameter, Setter, Star, Static, StaticBlock}
use Rattle.again_laws.proofs.names.Sits.{AllKnown, Known, Parts, each, either, end, ended, go, items, listed, one_of, only, optional, skip, stay, whole}

pub parameter_names : {ts r z : Input} {iss : List (List Identifier)} (c : Code) (s : Span) → (decorators : List Child) → AllKnown decorators → (p : Child) → Known p → Parameter c s decorators p ts r → Parts iss r z → Parts (each decorators ++ (identifiers p.tree ∷ iss)) ts z
parameter_names {ts} {r} c s decorators decoratorsw p pw h g = only decorators h.0 (go (pw (binding (with_in c)) ts r h.2) g)

pub parameters_names : {ts r z : Input} {iss : List (List Identifier)} (c : Code) → (ps : List Child) → AllKnown ps → Parameters c ps ts r → Parts iss r z → Parts (each ps ++ iss) ts z
parameters_names c ps psw h g = skip h.1.2 (listed (Sorted is_param c) (λ x k y z j. k c y z j.1) false c right_paren_kind ps psw h.0 h.2 g)

pub set_parameter_names : {ts r z : Input} {iss : List (List Identifier)} (c : Code) → (xs1 : List Child) → AllKnown xs1 → SetParameter c xs1 ts r → Parts iss r z → Parts (each xs1 ++ iss) ts z
set_parameter_names c [] hw h g = absurd h
set_parameter_names c (p ∷ ps) hw h g = skip h.4.2 (go (hw.0 c h.0 h.1 h.5.1) (skip h.6.2 (only ps h.2 g)))

pub body_names : {ts r z : Input} {iss : List (List Identifier)} (c : Code) (s : Span) → (ss : List Child) → AllKnown ss → Body c s ss ts r → Parts iss r z → Parts (each ss ++ iss) ts z
body_names c s ss ssw h g = skip h.1.2 (items is_item Closes (λ d y j g. skip j.2 g) c true ss ssw h.0 h.2 g)

pub function_names : {ts r z : Input} {iss : List (List Identifier)} (c : Code) (ps : List Child) → AllKnown ps → (decorators : List Child) → AllKnown decorators → (s : Span) (ss : List Child) → AllKnown ss → (generator async : Bool) → Function c ps decorators s ss generator async ts r → Parts iss r z → Parts (each ps ++ (each decorators ++ (joined (each ss ++ []) ∷ iss))) ts z
function_names c ps psw decorators decoratorsw s ss ssw generator async h g =
    let d = in_body generator async c in
    let b = only decorators h.1 (go (whole (body_names d s ss ssw h.3 end)) g) in
    either c.sets h.2 (λ e k. set_parameter_names d ps psw k b) (λ k. parameters_names d ps psw k b)

pub star_names : {ts r z : Input} {iss : List (List Identifier)} (b0 : Bool) (c : Code) → Star b0 c ts r → Parts iss r z → Parts iss ts z
star_names true c h g = skip h.2 g
star_names false c h g = stay h g

pub async_names : {ts r z : Input} {iss : List (List Identifier)} (b0 : Bool) (c : Code) → Async b0 c ts r → Parts iss r z → Parts iss ts z
async_names true c h g = skip h.0.3 g
async_names false c h g = stay h g

pub function_head_names : {ts r z : Input} {iss : List (List Identifier)} (generator : Bool) (async : Bool) (c : Code) → FunctionHead generator async c ts r → Parts iss r z → Parts iss ts z
function_head_names generator async c h g = async_names async c h.2 (skip h.3.3 (star_names generator c h.4 g))

pub function_declaration_names : {ts r z : Input} {iss : List (List Identifier)} (c : Code) (s : Span) → (name : Child) → Known name → (f : Child) → Known f → (a4 : Option FunctionParts) → FunctionDeclaration c s name f a4 ts r → Parts iss r z → Parts (identifiers name.tree ∷ (identifiers f.tree ∷ iss)) ts z
function_declaration_names c s name namew f fw None h g = absurd h
function_declaration_names {ts} {r} c s name namew f fw (Some parts) h g = function_head_names parts.generator parts.async c h.2 (go (namew c h.0 h.1 h.3.1) (go (fw (setting false c) h.1 r h.4) g))

pub named_names : {ts r z : Input} {iss : List (List Identifier)} (c : Code) → (name : Child) → Known name → Named c name ts r → Parts iss r z → Parts (identifiers name.tree ∷ iss) ts z
named_names {ts} {r} c name namew h g = go (namew c ts r h.1) g

pub function_expression_names : {ts r z : Input} {iss : List (List Identifier)} (c : Code) (s : Span) → (name : Child) → Known name → (f : Child) → Known f → (a4 : Option FunctionParts) → FunctionExpression c s name f a4 ts r → Parts iss r z → Parts (identifiers name.tree ∷ (identifiers f.tree ∷ iss)) ts z
function_expression_names c s name namew f fw None h g = absurd h
function_expression_names {ts} {r} c s name namew f fw (Some parts) h g = function_head_names parts.generator parts.async c h.2 (optional name.tree h.3 (λ k1. stay k1 (go (fw (setting false c) h.1 r h.4) g)) (λ k2. (named_names (by parts.generator parts.async c) name namew k2 (go (fw (setting false c) h.1 r h.4) g))))

pub bare_name_names : {ts r z : Input} {iss : List (List Identifier)} (c : Code) → (xs1 : List Child) → AllKnown xs1 → BareName c xs1 ts r → Parts iss r z → Parts (each xs1 ++ iss) ts z
bare_name_names c [] hw h g = absurd h
bare_name_names {ts} {r} c (p ∷ ps) hw h g = go (hw.0 c ts r h.1.1) (only ps h.0 g)

pub arrow_parameters_names : {ts r z : Input} {iss : List (List Identifier)} (c : Code) → (ps : List Child) → AllKnown ps → ArrowParameters c ps ts r → Parts iss r z → Parts (each ps ++ iss) ts z
arrow_parameters_names c ps psw h g = one_of h (λ k1. (bare_name_names c ps psw k1 g)) (λ k2. (skip k2.1.2 (listed (ArrowPattern c) (λ x k y z j. k (binding (with_in c)) y z j.1) false c right_paren_kind ps psw k2.0 k2.2 g)))

pub arrow_head_names : {ts r z : Input} {iss : List (List Identifier)} (async : Bool) (c : Code) → (ps : List Child) → AllKnown ps → ArrowHead async c ps ts r → Parts iss r z → Parts (each ps ++ iss) ts z
arrow_head_names async c ps psw h g = async_names async c h.2 (arrow_parameters_names c ps psw h.3 (skip h.5.2 g))

pub arrow_block_names : {ts r z : Input} {iss : List (List Identifier)} (c : Code) (s : Span) → (ps : List Child) → AllKnown ps → (body : Span) → (ss : List Child) → AllKnown ss → (async : Bool) → ArrowBlock c s ps body ss async ts r → Parts iss r z → Parts (each ps ++ (joined (each ss ++ []) ∷ iss)) ts z
arrow_block_names c s ps psw body ss ssw async h g = arrow_head_names async c ps psw h.1 (go (whole (body_names (in_list (with_in (in_arrow async c))) body ss ssw h.2 end)) g)

pub arrow_expression_names : {ts r z : Input} {iss : List (List Identifier)} (c : Code) (s : Span) → (ps : List Child) → AllKnown ps → (e : Child) → Known e → (async : Bool) → ArrowExpression c s ps e async ts r → Parts iss r z → Parts (each ps ++ (identifiers e.tree ∷ iss)) ts z
arrow_expression_names {ts} {r} c s ps psw e ew async h g = arrow_head_names async c ps psw h.1 (go (ew (assigning (in_arrow async c)) h.0 r h.3.1) g)

pub method_head_names : {ts r z : Input} {iss : List (List Identifier)} (generator : Bool) (async : Bool) (c : Code) → MethodHead generator async c ts r → Parts iss r z → Parts iss ts z
method_head_names generator async c h g = async_names async c h.1 (star_names generator c h.2 g)

pub method_names : {ts r z : Input} {iss : List (List Identifier)} (c : Code) (k : ℕ) → (key : Child) → Known key → (parts : FunctionParts) → (f : Child) → Known f → Method c k key parts f ts r → Parts iss r z → Parts (identifiers key.tree ∷ (identifiers f.tree ∷ iss)) ts z
method_names {ts} {r} c k key keyw parts f fw h g = either (k == plain_method) h (λ k3 k1. (method_head_names parts.generator parts.async c k1.2 (go (keyw c k1.0 k1.1 k1.3) (go (fw (setting false c) k1.1 r k1.4) g)))) (λ k2. (skip k2.5.3 (go (keyw c k2.0 k2.1 k2.6) (go (fw (setting (k == set_kind) c) k2.1 r k2.7) g))))

pub object_method_names : {ts r z : Input} {iss : List (List Identifier)} (c : Code) (s : Span) → (key : Child) → Known key → (f : Child) → Known f → (a4 : Option FunctionParts) → ObjectMethod c s key f a4 ts r → Parts iss r z → Parts (identifiers key.tree ∷ (identifiers f.tree ∷ iss)) ts z
object_method_names c s key keyw f fw None h g = absurd h
object_method_names c s key keyw f fw (Some parts) h g = method_names c plain_method key keyw parts f fw h.1 g

pub getter_names : {ts r z : Input} {iss : List (List Identifier)} (c : Code) (s : Span) → (key : Child) → Known key → (body : Span) → (ss : List Child) → AllKnown ss → Getter c s key body ss ts r → Parts iss r z → Parts (identifiers key.tree ∷ (joined (each ss ++ []) ∷ iss)) ts z
getter_names c s key keyw body ss ssw h g = skip h.4.3 (go (keyw c h.0 h.1 h.5.1) (skip h.6.2 (skip h.7.2 (go (whole (body_names (in_body false false c) body ss ssw h.8 end)) g))))

pub setter_names : {ts r z : Input} {iss : List (List Identifier)} (c : Code) (s : Span) → (key : Child) → Known key → (pat : Child) → Known pat → (body : Span) → (ss : List Child) → AllKnown ss → Setter c s key pat body ss ts r → Parts iss r z → Parts (identifiers key.tree ∷ (identifiers pat.tree ∷ (joined (each ss ++ []) ∷ iss))) ts z
setter_names c s key keyw pat patw body ss ssw h g = skip h.5.3 (go (keyw c h.0 h.1 h.6.1) (skip h.7.2 (go (patw (binding (in_body false false c)) h.2 h.3 h.10) (skip h.11.2 (go (whole (body_names (in_body false false c) body ss ssw h.12 end)) g)))))

pub heritage_names : {ts r z : Input} {iss : List (List Identifier)} (c : Code) → (super_class : Child) → Known super_class → Heritage c super_class ts r → Parts iss r z → Parts (identifiers super_class.tree ∷ iss) ts z
heritage_names {ts} {r} c super_class super_classw h g = skip h.1.3 (go (super_classw (assigning c) h.0 r h.2.1) g)

members_from : {r z : Input} {iss : List (List Identifier)} (c : Code) (xs : List Child) → AllKnown xs → (ts : Input) → Members c xs ts r → Parts iss r z → Parts (each xs ++ iss) ts z
members_from c [] xsw ts h g = skip h.2 g
members_from c (x ∷ xs) xsw ts h g = go (xsw.0 c ts h.0 h.1.1) (members_from c xs xsw.1 h.0 h.2 g)

pub members_names : {ts r z : Input} {iss : List (List Identifier)} (c : Code) (xs : List Child) → AllKnown xs → Members c xs ts r → Parts iss r z → Parts (each xs ++ iss) ts z
members_names {ts} c xs xsw h g = members_from c xs xsw ts h g

pub class_tail_names : {ts r z : Input} {iss : List (List Identifier)} (c : Code) → (decorators : List Child) → AllKnown decorators → (members : List Child) → AllKnown members → (super_class : Child) → Known super_class → ClassTail c decorators members super_class ts r → Parts iss r z → Parts (each decorators ++ (identifiers super_class.tree ∷ (each members ++ iss))) ts z
class_tail_names c decorators decoratorsw members membersw super_class super_classw h g = only decorators h.2 (optional super_class.tree h.3 (λ k1. stay k1 (skip h.4.2 (members_names c members membersw h.5 g))) (λ k2. (heritage_names c super_class super_classw k2 (skip h.4.2 (members_names c members membersw h.5 g)))))

pub class_declaration_names : {ts r z : Input} {iss : List (List Identifier)} (c : Code) (s : Span) → (name : Child) → Known name → (k : Child) → Known k → (own : Option Span) → ClassDeclaration c s name k own ts r → Parts iss r z → Parts (identifiers name.tree ∷ (identifiers k.tree ∷ iss)) ts z
class_declaration_names {ts} {r} c s name namew k kw own h g = skip h.2.3 (go (namew (turned_strict c) h.0 h.1 h.3.1) (go (kw (turned_strict (with_in c)) h.1 r h.4) g))

pub class_expression_names : {ts r z : Input} {iss : List (List Identifier)} (c : Code) (s : Span) → (name : Child) → Known name → (k : Child) → Known k → (own : Option Span) → ClassExpression c s name k own ts r → Parts iss r z → Parts (identifiers name.tree ∷ (identifiers k.tree ∷ iss)) ts z
class_expression_names {ts} {r} c s name namew k kw own h g = skip h.2.3 (optional name.tree h.3 (λ k1. stay k1 (go (kw (turned_strict (with_in c)) h.1 r h.4) g)) (λ k2. (named_names (turned_strict c) name namew k2 (go (kw (turned_strict (with_in c)) h.1 r h.4) g))))

pub static_names : {ts r z : Input} {iss : List (List Identifier)} (b0 : Bool) (c : Code) → Static b0 c ts r → Parts iss r z → Parts iss ts z
static_names true c h g = skip h.3 g
static_names false c h g = stay h g

pub constructor_names : {ts r z : Input} {iss : List (List Identifier)} (c : Code) (s : Span) → (key : Child) → Known key → (ps : List Child) → AllKnown ps → (body : Span) → (ss : List Child) → AllKnown ss → Constructor c s key ps body ss ts r → Parts iss r z → Parts (identifiers key.tree ∷ (each ps ++ (joined (each ss ++ []) ∷ iss))) ts z
constructor_names {ts} c s key keyw ps psw body ss ssw h g = go (keyw c ts h.0 h.3) (parameters_names (in_body false false c) ps psw h.4 (go (whole (body_names (in_body false false c) body ss ssw h.5 end)) g))

pub class_method_names : {ts r z : Input} {iss : List (List Identifier)} (may : (Tree → Bool)) (c : Code) (s : Span) → (key : Child) → Known key → (f : Child) → Known f → (a5 : Option FunctionParts) (k : ℕ) (is_static : Bool) → ClassMethod may c s key f a5 k is_static ts r → Parts iss r z → Parts (identifiers key.tree ∷ (identifiers f.tree ∷ iss)) ts z
class_method_names may c s key keyw f fw None k is_static h g = absurd h
class_method_names may c s key keyw f fw (Some parts) k is_static h g = static_names is_static c h.3 (method_names c k key keyw parts f fw h.4 g)

pub initial_names : {ts r z : Input} {iss : List (List Identifier)} (c : Code) (e : ℕ) → (value : Child) → Known value → Initial c e value ts r → Parts iss r z → Parts (identifiers value.tree ∷ iss) ts z
initial_names c e value valuew h g = optional value.tree h (λ k1. (ended c e k1 g)) (λ k2. (skip k2.2.2 (go (valuew (assigning (in_field c)) k2.0 k2.1 k2.3.1) (ended c (ends value.tree) k2.4 g))))

pub field_names : {ts r z : Input} {iss : List (List Identifier)} (may : (Tree → Bool)) (c : Code) (s : Span) → (key : Child) → Known key → (value : Child) → Known value → (is_static : Bool) → (decorators : List Child) → AllKnown decorators → Field may c s key value is_static decorators ts r → Parts iss r z → Parts (each decorators ++ (identifiers key.tree ∷ (identifiers value.tree ∷ iss))) ts z
field_names may c s key keyw value valuew is_static decorators decoratorsw h g = only decorators h.2 (static_names is_static c h.4 (go (keyw c h.0 h.1 h.5) (initial_names c (field_end is_static (kind h.0)) value valuew h.6 g)))

pub auto_accessor_names : {ts r z : Input} {iss : List (List Identifier)} (c : Code) (s : Span) → (key : Child) → Known key → (value : Child) → Known value → (is_static : Bool) → (decorators : List Child) → AllKnown decorators → AutoAccessor c s key value is_static decorators ts r → Parts iss r z → Parts (each decorators ++ (identifiers key.tree ∷ (identifiers value.tree ∷ iss))) ts z
auto_accessor_names c s key keyw value valuew is_static decorators decoratorsw h g = only decorators h.4 (static_names is_static c h.5 (skip h.6.3 (go (keyw c h.1 h.2 h.8.1) (initial_names c key_end value valuew h.9 g))))

pub static_block_names : {ts r z : Input} {iss : List (List Identifier)} (c : Code) (s block : Span) (ss : List Child) → AllKnown ss → StaticBlock c s block ss ts r → Parts iss r z → Parts (joined (each ss ++ []) ∷ iss) ts z
static_block_names c s block ss ssw h g = skip h.2.3 (go (whole (skip h.3.2 (items is_item Closes (λ d y j k. skip j.2 k) (in_static c) false ss ssw h.1 h.4 end))) g)
