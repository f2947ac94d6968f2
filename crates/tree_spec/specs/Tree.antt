-- Written by tools/tree/spec_tree.py from tools/tree/tree.table. Don't edit this file.
-- The syntax tree as definitions see it (ECMA-262, clauses 12 to 16): one constructor for each struct of the
-- code's tree, with its place and its fields in the table's order. Texts are bytes, values of strings are
-- UTF-16 units, operators and other words are kinds of tokens. A `Trees` is a list of trees.
use Rattle.std.specs.Prelude.{ℕ, Bool, List, [], ◌∷◌, Option, Some, None}
use Rattle.base_token.specs.declared.place.Span.{Span}
use Rattle.base_token.specs.Numbers.{SpecNumber}

mutual
  pub data Tree : Type 0 where
    -- programs and modules (16.1 and 16.2)
    script : Span → Trees → Option (List ℕ) → Tree
    es_module : Span → Trees → Option (List ℕ) → Tree
    import_decl : Span → Trees → Tree → Tree → Tree
    export_decl : Span → Tree → Tree
    named_export : Span → Trees → Tree → Tree → Tree
    export_default_decl : Span → Tree → Tree
    export_default_expr : Span → Tree → Tree
    export_all : Span → Tree → Tree → Tree
    import_named_specifier : Span → Tree → Tree → Tree
    import_default_specifier : Span → Tree → Tree
    import_star_as_specifier : Span → Tree → Tree
    export_namespace_specifier : Span → Tree → Tree
    export_default_specifier : Span → Tree → Tree
    export_named_specifier : Span → Tree → Tree → Tree
    -- statements (clause 14)
    block_stmt : Span → Trees → Tree
    empty_stmt : Span → Tree
    debugger_stmt : Span → Tree
    with_stmt : Span → Tree → Tree → Tree
    return_stmt : Span → Tree → Tree
    labeled_stmt : Span → Tree → Tree → Tree
    break_stmt : Span → Tree → Tree
    continue_stmt : Span → Tree → Tree
    if_stmt : Span → Tree → Tree → Tree → Tree
    switch_stmt : Span → Tree → Trees → Tree
    switch_case : Span → Tree → Trees → Tree
    throw_stmt : Span → Tree → Tree
    try_stmt : Span → Tree → Tree → Tree → Tree
    catch_clause : Span → Tree → Tree → Tree
    while_stmt : Span → Tree → Tree → Tree
    do_while_stmt : Span → Tree → Tree → Tree
    for_stmt : Span → Tree → Tree → Tree → Tree → Tree
    for_in_stmt : Span → Tree → Tree → Tree → Tree
    for_of_stmt : Span → Bool → Tree → Tree → Tree → Tree
    expr_stmt : Span → Tree → Tree
    -- declarations
    class_decl : Span → Tree → Tree → Tree
    fn_decl : Span → Tree → Tree → Tree
    var_decl : Span → ℕ → Trees → Tree
    using_decl : Span → Bool → Trees → Tree
    var_declarator : Span → Tree → Tree → Tree
    -- functions and classes (clause 15)
    function : Span → Trees → Trees → Tree → Bool → Bool → Tree
    param : Span → Trees → Tree → Tree
    decorator : Span → Tree → Tree
    class : Span → Trees → Trees → Tree → Tree
    constructor : Span → Tree → Trees → Tree → Tree
    class_method : Span → Tree → Tree → ℕ → Bool → Tree
    private_method : Span → Tree → Tree → ℕ → Bool → Tree
    class_prop : Span → Tree → Tree → Bool → Trees → Tree
    private_prop : Span → Tree → Tree → Bool → Trees → Tree
    static_block : Span → Tree → Tree
    auto_accessor : Span → Tree → Tree → Bool → Trees → Tree
    ident_name : Span → List ℕ → Tree
    computed_prop_name : Span → Tree → Tree
    private_name : Span → List ℕ → Tree
    -- expressions (clause 13)
    this_expr : Span → Tree
    array_lit : Span → Trees → Tree
    object_lit : Span → Trees → Tree
    fn_expr : Span → Tree → Tree → Tree
    unary_expr : Span → ℕ → Tree → Tree
    update_expr : Span → ℕ → Bool → Tree → Tree
    bin_expr : Span → ℕ → Tree → Tree → Tree
    assign_expr : Span → ℕ → Tree → Tree → Tree
    member_expr : Span → Tree → Tree → Tree
    super_prop_expr : Span → Tree → Tree → Tree
    cond_expr : Span → Tree → Tree → Tree → Tree
    call_expr : Span → Tree → Trees → Tree
    new_expr : Span → Tree → Tree → Tree
    seq_expr : Span → Trees → Tree
    ident : Span → List ℕ → Tree
    tpl : Span → Trees → Trees → Tree
    tpl_element : Span → Bool → List ℕ → Option (List ℕ) → Tree
    tagged_tpl : Span → Tree → Tree → Tree
    arrow_expr : Span → Trees → Tree → Bool → Tree
    class_expr : Span → Tree → Tree → Tree
    yield_expr : Span → Tree → Bool → Tree
    meta_prop_expr : Span → ℕ → Tree
    await_expr : Span → Tree → Tree
    paren_expr : Span → Tree → Tree
    opt_chain_expr : Span → Bool → Tree → Tree
    opt_call : Span → Tree → Trees → Tree
    super : Span → Tree
    import : Span → Tree
    invalid : Span → Tree
    expr_or_spread : Span → Option Span → Tree → Tree
    spread_element : Span → Tree → Tree
    -- properties of objects (13.2.5)
    key_value_prop : Span → Tree → Tree → Tree
    assign_prop : Span → Tree → Tree → Tree
    getter_prop : Span → Tree → Tree → Tree
    setter_prop : Span → Tree → Tree → Tree → Tree
    method_prop : Span → Tree → Tree → Tree
    -- literals (13.2.3)
    str_lit : Span → List ℕ → Option (List ℕ) → Tree
    bool_lit : Span → Bool → Tree
    null_lit : Span → Tree
    number_lit : Span → SpecNumber → Option (List ℕ) → Tree
    big_int_lit : Span → ℕ → List ℕ → Option (List ℕ) → Tree
    regex_lit : Span → List ℕ → List ℕ → Tree
    -- patterns (13.15.5 and 14.3.3)
    binding_ident : Span → Tree → Tree
    array_pat : Span → Trees → Tree
    rest_pat : Span → Span → Tree → Tree
    object_pat : Span → Trees → Tree
    assign_pat : Span → Tree → Tree → Tree
    key_value_pat_prop : Span → Tree → Tree → Tree
    assign_pat_prop : Span → Tree → Tree → Tree
    -- an expression as a target, which has the place of the expression; what could not be read, as a pattern or a target
    expr_pat : Tree → Tree
    invalid_pat : Span → Tree
    invalid_target : Span → Tree
    -- a list that may be left out, where it is there; a part, and an element of a list, that is left out
    list : Trees → Tree
    absent : Tree
    hole : Tree

  pub data Trees : Type 0 where
    none : Trees
    more : Tree → Trees → Trees

-- the kind of a method that is no getter and no setter; those are `get_kind` and `set_kind`
abbrev pub plain_method : ℕ
plain_method = 0

-- what stands for each element of a list
abbrev pub trees_by : {A : Type 0} → (A → Tree) → List A → Trees
trees_by f [] = none
trees_by f (x ∷ xs) = more (f x) (trees_by f xs)

-- what stands for a part that may be left out
abbrev pub part_by : {A : Type 0} → (A → Tree) → Option A → Tree
part_by f None = absent
part_by f (Some x) = f x

-- what stands for an element that may be left out
abbrev pub element_by : {A : Type 0} → (A → Tree) → Option A → Tree
element_by f None = hole
element_by f (Some x) = f x

-- a list of trees, and its trees
abbrev pub pack : List Tree → Trees
pack ts = trees_by (λ t. t) ts

abbrev pub unpack : Trees → List Tree
unpack none = []
unpack (more t ts) = t ∷ unpack ts
