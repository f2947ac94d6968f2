-- What parts of a program declare (ECMA-262, 8.2), also where they stand at the top of a function, a static block or a script, and the
-- functions in blocks that sloppy code declares by `var` as well (B.3.2). Lists stand in the order of the text; a name that is declared
-- twice stands there twice.
use Rattle.std.specs.Prelude.{ℕ, Bool, true, false, not, ◌==◌, List, [], ◌∷◌, ◌++◌, filter, bytes_eq}
use Rattle.std.specs.List.{list_any}
use Rattle.base_token.specs.Kinds.{var_kind}
use Rattle.tree_spec.specs.Tree.{Tree, Trees, none, more, import_decl, export_decl, export_default_decl, import_named_specifier, import_default_specifier, import_star_as_specifier, block_stmt, with_stmt, labeled_stmt, if_stmt, switch_stmt, switch_case, try_stmt, catch_clause, while_stmt, do_while_stmt, for_stmt, for_in_stmt, for_of_stmt, class_decl, fn_decl, var_decl, using_decl, var_declarator, function, param, ident, class_expr, fn_expr, binding_ident, array_pat, rest_pat, object_pat, assign_pat, key_value_pat_prop, assign_pat_prop}
use Rattle.tree_program_spec.specs.Names.Names.{Identifier}

abbrev pub Names : Type 0
Names = List Identifier

-- whether one of some names is this word
abbrev pub has_name : List ℕ → Names → Bool
has_name word names = list_any (λ n. bytes_eq n.sym word) names

-- the names whose words no other list has
abbrev pub without : Names → Names → Names
without others names = filter (λ n. not (has_name n.sym others)) names

-- these where the test holds, and else none
abbrev pub given : {A : Type 0} → Bool → List A → List A
given true xs = xs
given false xs = []

-- ---- BoundNames (8.2.1)

-- the name that an `ident` is
abbrev pub name_in : Tree → Names
name_in (ident s n) = record { sym = n; span = s } ∷ []
name_in _ = []

-- The names that a pattern, a declaration, a parameter or an imported specifier binds (8.2.1).
abbrev mutual
  pub bound_names : Tree → Names
  bound_names (binding_ident s i) = name_in i
  bound_names (array_pat s ps) = all_bound_names ps
  bound_names (rest_pat s d p) = bound_names p
  bound_names (object_pat s ps) = all_bound_names ps
  bound_names (assign_pat s p e) = bound_names p
  bound_names (key_value_pat_prop s k p) = bound_names p
  bound_names (assign_pat_prop s k e) = bound_names k
  bound_names (param s ds p) = bound_names p
  bound_names (var_declarator s p e) = bound_names p
  bound_names (var_decl s k ds) = all_bound_names ds
  bound_names (using_decl s w ds) = all_bound_names ds
  bound_names (fn_decl s n f) = name_in n
  bound_names (class_decl s n k) = name_in n
  bound_names (fn_expr s n f) = name_in n
  bound_names (class_expr s n k) = name_in n
  bound_names (import_named_specifier s l i) = name_in l
  bound_names (import_default_specifier s l) = name_in l
  bound_names (import_star_as_specifier s l) = name_in l
  bound_names _ = []

  pub all_bound_names : Trees → Names
  all_bound_names none = []
  all_bound_names (more t ts) = bound_names t ++ all_bound_names ts

-- ---- LexicallyDeclaredNames (8.2.4)

-- The names of a declaration by `let`, `const` or `using` (14.3.1); none of one by `var`, nor of what is no declaration.
abbrev pub let_names : Tree → Names
let_names (var_decl s k ds) = given (not (k == var_kind)) (all_bound_names ds)
let_names (using_decl s w ds) = all_bound_names ds
let_names _ = []

-- LexicallyDeclaredNames of a statement or an item (8.2.4); at the top of a function, a static block or a script functions aren't among
-- them (8.2.8).
abbrev pub lexical_names : Bool → Tree → Names
lexical_names top (var_decl s k ds) = let_names (var_decl s k ds)
lexical_names top (using_decl s w ds) = all_bound_names ds
lexical_names top (class_decl s n k) = name_in n
lexical_names top (fn_decl s n f) = given (not top) (name_in n)
lexical_names top (labeled_stmt s l b) = lexical_names top b
lexical_names top (import_decl s is f w) = all_bound_names is
lexical_names top (export_decl s d) = lexical_names top d
lexical_names top (export_default_decl s d) = bound_names d
lexical_names top _ = []

abbrev pub all_lexical_names : Bool → Trees → Names
all_lexical_names top none = []
all_lexical_names top (more t ts) = lexical_names top t ++ all_lexical_names top ts

-- those of the clauses of a `switch` (14.12), which are one scope
abbrev pub clause_names : Trees → Names
clause_names none = []
clause_names (more (switch_case s t ss) cs) = all_lexical_names false ss ++ clause_names cs
clause_names (more c cs) = clause_names cs

-- ---- VarDeclaredNames (8.2.6)

-- VarDeclaredNames of a statement or an item (8.2.6): of no function and no static block within. At the top of a function, a static
-- block or a script functions are among them (8.2.10).
abbrev mutual
  pub var_names : Bool → Tree → Names
  var_names top (var_decl s k ds) = given (k == var_kind) (all_bound_names ds)
  var_names top (fn_decl s n f) = given top (name_in n)
  var_names top (labeled_stmt s l b) = var_names top b
  var_names top (block_stmt s ss) = all_var_names false ss
  var_names top (if_stmt s t c a) = var_names false c ++ var_names false a
  var_names top (for_stmt s i t u b) = var_names false i ++ var_names false b
  var_names top (for_in_stmt s l r b) = var_names false l ++ var_names false b
  var_names top (for_of_stmt s w l r b) = var_names false l ++ var_names false b
  var_names top (while_stmt s t b) = var_names false b
  var_names top (do_while_stmt s t b) = var_names false b
  var_names top (with_stmt s o b) = var_names false b
  var_names top (switch_stmt s d cs) = all_var_names false cs
  var_names top (switch_case s t ss) = all_var_names false ss
  var_names top (try_stmt s b h f) = var_names false b ++ (var_names false h ++ var_names false f)
  var_names top (catch_clause s p b) = var_names false b
  var_names top (export_decl s d) = var_names false d
  var_names top _ = []

  pub all_var_names : Bool → Trees → Names
  all_var_names top none = []
  all_var_names top (more t ts) = var_names top t ++ all_var_names top ts

-- ---- functions in blocks (B.3.2)

-- the name of a declared function that is neither async nor a generator, which alone B.3.2 and B.3.3 speak of
abbrev pub plain_function : Tree → Names
plain_function (fn_decl s n (function t ps ds b false false)) = name_in n
plain_function _ = []

abbrev pub plain_functions : Trees → Names
plain_functions none = []
plain_functions (more t ts) = plain_function t ++ plain_functions ts

abbrev pub clause_functions : Trees → Names
clause_functions none = []
clause_functions (more (switch_case s t ss) cs) = plain_functions ss ++ clause_functions cs
clause_functions (more c cs) = clause_functions cs

-- What of a parameter of `catch` stands in the way of a `var` in its block (14.15.1): a pattern's names, but no bare name (B.3.4).
abbrev pub caught_names : Tree → Names
caught_names (binding_ident s i) = []
caught_names p = bound_names p

-- The functions in blocks within a statement that are a `var` as well (B.3.2.1): those that a `var` in their place would not collide with
-- a name of a block around. `barred` has the names that stand in the way so far.
abbrev mutual
  pub block_functions : Names → Tree → Names
  block_functions barred (block_stmt s ss) = without barred (plain_functions ss) ++ all_block_functions (all_lexical_names false ss ++ barred) ss
  block_functions barred (switch_stmt s d cs) = without barred (clause_functions cs) ++ all_block_functions (clause_names cs ++ barred) cs
  block_functions barred (switch_case s t ss) = all_block_functions barred ss
  block_functions barred (labeled_stmt s l b) = block_functions barred b
  block_functions barred (if_stmt s t c a) = without barred (plain_function c ++ plain_function a) ++ (block_functions barred c ++ block_functions barred a)
  block_functions barred (for_stmt s i t u b) = block_functions (let_names i ++ barred) b
  block_functions barred (for_in_stmt s l r b) = block_functions (let_names l ++ barred) b
  block_functions barred (for_of_stmt s w l r b) = block_functions (let_names l ++ barred) b
  block_functions barred (while_stmt s t b) = block_functions barred b
  block_functions barred (do_while_stmt s t b) = block_functions barred b
  block_functions barred (with_stmt s o b) = block_functions barred b
  block_functions barred (try_stmt s b h f) = block_functions barred b ++ (block_functions barred h ++ block_functions barred f)
  block_functions barred (catch_clause s p b) = block_functions (caught_names p ++ barred) b
  block_functions barred _ = []

  pub all_block_functions : Names → Trees → Names
  all_block_functions barred none = []
  all_block_functions barred (more t ts) = block_functions barred t ++ all_block_functions barred ts

-- ---- bodies

-- The functions in blocks of a sloppy body or script that are a `var` of it (B.3.2.1, B.3.2.2): a name at its top and a parameter stand in the way.
abbrev pub hoisted : Bool → Names → Trees → Names
hoisted strict params ss = given (not strict) (without params (all_block_functions (all_lexical_names true ss ++ params) ss))

-- The names of a body behind these parameters (10.2.11): a `var` with the name of a parameter is that parameter, also where the body has
-- variables of its own, since these begin with the parameter's value.
abbrev pub body_names : Bool → Names → Trees → Names
body_names strict params ss = all_lexical_names true ss ++ (without params (all_var_names true ss) ++ hoisted strict params ss)

-- The names of a module (8.2.4, 8.2.6): functions at its top are lexical.
abbrev pub module_names : Trees → Names
module_names ss = all_lexical_names false ss ++ all_var_names false ss
