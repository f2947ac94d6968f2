-- What stands against what in one scope: declarations in the order of the text, each with how it declares its word, and the ones that an
-- earlier one stands against (ECMA-262, 14.2.1, 14.12.1, 14.15.1, 15.1.1, 15.2.1 and the like, 15.7.1, 16.1.1, 16.2.1.1, B.3.2).
use Rattle.std.specs.Prelude.{ℕ, Bool, true, false, not, ◌&&◌, ◌==◌, if◌then◌else◌, List, [], ◌∷◌, ◌++◌, map, bytes_eq}
use Rattle.std.specs.List.{list_any}
use Rattle.base_token.specs.declared.place.Span.{Span}
use Rattle.base_token.specs.Kinds.{get_kind, set_kind}
use Rattle.tree_spec.specs.Tree.{Tree, Trees, none, more, labeled_stmt, switch_case, private_method, private_prop, auto_accessor, private_name, binding_ident}
use Rattle.grammar_spec.specs.Tokens.Shape.{is_plain_function}
use Rattle.judge_scopes_spec.specs.Declared.{Names, bound_names, let_names, lexical_names, var_names}
use Rattle.judge_names_spec.specs.Faults.{FaultKind, NameFault, fault}

-- How a word is declared.
pub data Sort : Type 0 where
  -- by `let`, `const`, `using`, `class` or an import, by a function but as below, by a pattern of `catch`: no other may have the word
  alone : Sort
  -- by `var`, and by a function at the top of a function, a static block or a script
  by_var : Sort
  -- by a plain function in a block of sloppy code (B.3.2.4, B.3.2.5)
  by_function : Sort
  -- as a parameter of a function, or a bare one of `catch`
  by_parameter : Sort
  -- as a private getter or setter, which is static or not
  by_getter : Bool → Sort
  by_setter : Bool → Sort

pub record Declaration : Type 0 where
  pub word : List ℕ
  pub sort : Sort
  pub place : Span

abbrev pub same_bool : Bool → Bool → Bool
same_bool true b = b
same_bool false b = not b

-- Whether one word may be declared in both ways: by `var` twice, also where a parameter has it (15.2.1, B.3.4), by plain functions in a block of sloppy code, by a
-- getter and a setter that are both static or both not (15.7.1). What two parameters may do is said of parameters alone (15.1.1).
abbrev pub agree : Sort → Sort → Bool
agree by_var by_var = true
agree by_var by_parameter = true
agree by_parameter by_var = true
agree by_parameter by_parameter = true
agree by_function by_function = true
agree (by_getter a) (by_setter b) = same_bool a b
agree (by_setter a) (by_getter b) = same_bool a b
agree a b = false

abbrev pub clash : Declaration → Declaration → Bool
clash d e = bytes_eq d.word e.word && not (agree d.sort e.sort)

-- each declaration that one before it stands against
abbrev pub clashes_behind : FaultKind → List Declaration → List Declaration → List NameFault
clashes_behind kind before [] = []
clashes_behind kind before (d ∷ ds) = fault (list_any (λ e. clash d e) before) kind d.place ++ clashes_behind kind (d ∷ before) ds

abbrev pub clashes : FaultKind → List Declaration → List NameFault
clashes kind ds = clashes_behind kind [] ds

-- whether a word is declared
abbrev pub declares : List ℕ → List Declaration → Bool
declares word ds = list_any (λ d. bytes_eq d.word word) ds

-- names that are declared in one way
abbrev pub all_by : Sort → Names → List Declaration
all_by sort ns = map (λ n. record { word = n.sym; sort = sort; place = n.span }) ns

-- ---- lists of statements

-- How a statement declares its lexical names: a plain function, also one with labels, otherwise in a block of sloppy code.
abbrev pub lexical_sort : Bool → Tree → Sort
lexical_sort strict (labeled_stmt s l b) = lexical_sort strict b
lexical_sort strict t = if is_plain_function t && not strict then by_function else alone

-- LexicallyDeclaredNames and VarDeclaredNames of a list of statements (8.2.4, 8.2.6), at the top of a function, a static block or a script (8.2.8, 8.2.10) or not.
abbrev pub declared : Bool → Bool → Trees → List Declaration
declared top strict none = []
declared top strict (more t ts) = all_by (lexical_sort strict t) (lexical_names top t) ++ (all_by by_var (var_names top t) ++ declared top strict ts)

-- those of the clauses of a `switch` (14.12)
abbrev pub clause_declared : Bool → Trees → List Declaration
clause_declared strict none = []
clause_declared strict (more (switch_case s t ss) cs) = declared false strict ss ++ clause_declared strict cs
clause_declared strict (more c cs) = clause_declared strict cs

-- of a `for` that declares by `let`, `const` or `using`: what it declares, and each `var` of its body (14.7.4.1, 14.7.5.1)
abbrev pub loop_declared : Tree → Tree → List Declaration
loop_declared head body = all_by alone (let_names head) ++ all_by by_var (var_names false body)

-- what stands before the block of a `catch` (14.15.1): a `var` may have the name of a bare parameter (B.3.4)
abbrev pub caught : Tree → List Declaration
caught (binding_ident s i) = all_by by_parameter (bound_names (binding_ident s i))
caught p = all_by alone (bound_names p)

-- what stands before the body of a function
abbrev pub parameters : Names → List Declaration
parameters ns = all_by by_parameter ns

-- ---- private names (15.7.1)

abbrev pub private_by : Sort → Tree → List Declaration
private_by sort (private_name s n) = record { word = n; sort = sort; place = s } ∷ []
private_by sort k = []

abbrev pub method_sort : ℕ → Bool → Sort
method_sort kind is_static = if kind == get_kind then by_getter is_static else (if kind == set_kind then by_setter is_static else alone)

abbrev pub private_of : Tree → List Declaration
private_of (private_method s k f m i) = private_by (method_sort m i) k
private_of (private_prop s k v i ds) = private_by alone k
private_of (auto_accessor s k v i ds) = private_by alone k
private_of m = []

-- PrivateBoundIdentifiers of the members of a class (15.7.1)
abbrev pub privates : Trees → List Declaration
privates none = []
privates (more m ms) = private_of m ++ privates ms
