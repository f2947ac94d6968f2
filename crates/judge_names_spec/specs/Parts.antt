-- What stands near names: code that turns strict late, what is deleted, labels of functions, members of classes (ECMA-262, 11.2.2, 13.5.1.1, 14.6.1 and 15.7.1).
use Rattle.std.specs.Prelude.{ℕ, Bool, true, false, not, ◌&&◌, ◌||◌, ◌==◌, if◌then◌else◌, List, [], ◌∷◌, ◌++◌, Option, Some, None, filter, codes, bytes_eq}
use Rattle.base_token.specs.declared.place.Span.{Span}
use Rattle.base_token.specs.Kinds.{get_kind, set_kind}
use Rattle.base_token.specs.Reserved.{strict_reserved, is_among}
use Rattle.tree_spec.specs.Tree.{Tree, Trees, none, more, block_stmt, labeled_stmt, expr_stmt, fn_decl, function, ident_name, private_name, ident, member_expr, paren_expr, opt_chain_expr, str_lit}
use Rattle.grammar_spec.specs.Judge.Early.{has_octal, is_evil}
use Rattle.grammar_spec.specs.Tokens.Shape.{is_use_strict, turns_strict}
use Rattle.judge_scopes_spec.specs.Declared.{Names, given}
use Rattle.judge_names_spec.specs.Faults.{NameFault, fault, faults_at, late_reserved, late_evil, late_octal, let_declared, labelled_function, deleted_name, deleted_private, special_constructor, constructor_field, static_prototype, private_constructor}

-- ---- strict code that stands before the directive that turns it strict (11.2.2)

-- names of a function and of its parameters (13.1.1)
abbrev pub late_names : Names → List NameFault
late_names ns = faults_at late_reserved (filter (λ n. is_among strict_reserved n.sym) ns) ++ faults_at late_evil (filter (λ n. is_evil n.sym) ns)

abbrev pub has_octal_in : Option (List ℕ) → Bool
has_octal_in None = false
has_octal_in (Some raw) = has_octal raw

-- the directives before the first `use strict` (12.9.4.1)
abbrev pub late_strings : Trees → List NameFault
late_strings none = []
late_strings (more (expr_stmt s (str_lit t u w)) ts) = if is_use_strict (expr_stmt s (str_lit t u w)) then [] else (fault (has_octal_in w) late_octal t ++ late_strings ts)
late_strings (more t ts) = []

-- a body, or a script, in code that is strict or not
abbrev pub late_directives : Bool → Trees → List NameFault
late_directives strict ss = given (not strict && turns_strict ss) (late_strings ss)

-- a function with these parameters
abbrev pub late_faults : Bool → Names → Tree → List NameFault
late_faults strict ps (block_stmt s ss) = given (not strict && turns_strict ss) (late_names ps) ++ late_directives strict ss
late_faults strict ps b = []

-- the name of a function, which is strict code with it (11.2)
abbrev pub late_name : Bool → Names → Tree → List NameFault
late_name strict ns (function s ps ds (block_stmt t ss) g a) = given (not strict && turns_strict ss) (late_names ns)
late_name strict ns f = []

-- ---- `let` (14.3.1.1, 14.7.5.1)

abbrev pub lets : Names → List NameFault
lets ns = faults_at let_declared (filter (λ n. bytes_eq n.sym (codes "let")) ns)

-- ---- labels of functions (IsLabelledFunction, 14.13.2)

abbrev pub labelled : Tree → List NameFault
labelled (labeled_stmt s l b) = labelled b
labelled (fn_decl s n f) = fault true labelled_function s
labelled t = []

-- the body of another statement; a function without labels there is one of B.3.3
abbrev pub labelled_body : Tree → List NameFault
labelled_body (labeled_stmt s l b) = labelled b
labelled_body t = []

-- ---- `delete` (13.5.1.1)

abbrev pub deleted : Span → Tree → List NameFault
deleted s (ident t n) = fault true deleted_name s
deleted s (member_expr t o (private_name u n)) = fault true deleted_private s
deleted s (opt_chain_expr t q b) = deleted s b
deleted s (paren_expr t e) = deleted s e
deleted s e = []

-- ---- members of classes (15.7.1)

-- PropName (13.2.5.5): a key that is this word or string, as a name
abbrev pub called : List ℕ → Tree → Names
called word (ident_name s n) = given (bytes_eq n word) (record { sym = n; span = s } ∷ [])
called word (str_lit s u w) = given (bytes_eq u word) (record { sym = u; span = s } ∷ [])
called word k = []

-- SpecialMethod (15.4.3): a getter, a setter, a generator, an async method
abbrev pub is_special : ℕ → Tree → Bool
is_special kind (function s ps ds b g a) = (kind == get_kind) || ((kind == set_kind) || (g || a))
is_special kind f = false

abbrev pub method_faults : Tree → Tree → ℕ → Bool → List NameFault
method_faults k f kind is_static =
    faults_at special_constructor (given (not is_static && is_special kind f) (called (codes "constructor") k))
    ++ faults_at static_prototype (given is_static (called (codes "prototype") k))

abbrev pub field_faults : Tree → Bool → List NameFault
field_faults k is_static = faults_at constructor_field (called (codes "constructor") k) ++ faults_at static_prototype (given is_static (called (codes "prototype") k))

-- `#constructor` as the name of a member
abbrev pub private_key_faults : Tree → List NameFault
private_key_faults (private_name s n) = fault (bytes_eq n (codes "constructor")) private_constructor s
private_key_faults k = []
