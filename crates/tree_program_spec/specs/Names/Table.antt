-- A table of names, worked out by hand: trees whose fields stand in another order than their text, and what is no name.
use Rattle.std.specs.Prelude.{◌≡◌, ℕ, ◌+◌, true, false, List, [], ◌∷◌, None, map}
use Rattle.base_token.specs.declared.place.Span.{Span}
use Rattle.tree_spec.specs.Tree.{Tree, Trees, none, more, plain_method, import_named_specifier, export_named_specifier, labeled_stmt, break_stmt, do_while_stmt, for_stmt, expr_stmt, decorator, class, class_decl, class_prop, class_method, function, param, block_stmt, ident_name, private_name, computed_prop_name, member_expr, ident, key_value_prop, object_lit, object_pat, assign_pat_prop, str_lit, binding_ident, absent}
use Rattle.tree_program_spec.specs.Names.Names.{Name, names}

-- a place that begins here
abbrev pub at : ℕ → Span
at n = record { lo = record { 0 = n }; hi = record { 0 = 0 } }

-- the name of one letter that begins here
abbrev pub name : ℕ → Tree
name n = ident (at n) ((n + 90) ∷ [])

abbrev pub bound : ℕ → Tree
bound n = binding_ident (at n) (name n)

abbrev pub key : Tree
key = ident_name (at 99) (99 ∷ [])

abbrev pub one : Tree → Trees
one t = more t none

abbrev pub body : Tree → Tree
body t = block_stmt (at 99) (one (expr_stmt (at 99) t))

abbrev pub plain : Tree → Tree → Tree
plain p b = function (at 99) (one (param (at 99) none p)) none b false false

-- a tree, and where its names begin
abbrev pub places : List (Tree × List ℕ)
places =
    (name 1, 1 ∷ [])
    ∷ (bound 1, 1 ∷ [])
    ∷ (labeled_stmt (at 1) (name 1) (break_stmt (at 2) (name 2)), 1 ∷ 2 ∷ [])
    -- `import {a as b}`, `import {a}` and `export {a as b}`
    ∷ (import_named_specifier (at 1) (name 2) (name 1), 1 ∷ 2 ∷ [])
    ∷ (import_named_specifier (at 1) (name 1) absent, 1 ∷ [])
    ∷ (export_named_specifier (at 1) (name 1) (name 2), 1 ∷ 2 ∷ [])
    -- `do {a} while (b)`, `for (a; b; c) d`
    ∷ (do_while_stmt (at 1) (name 2) (body (name 1)), 1 ∷ 2 ∷ [])
    ∷ (for_stmt (at 1) (name 1) (name 2) (name 3) (body (name 4)), 1 ∷ 2 ∷ 3 ∷ 4 ∷ [])
    -- `class a extends b {k = c}`, and with decorators
    ∷ (class_decl (at 1) (name 1) (class (at 1) none (one (class_prop (at 2) key (name 3) false none)) (name 2)), 1 ∷ 2 ∷ 3 ∷ [])
    ∷ (class (at 1) (one (decorator (at 1) (name 1))) (one (class_prop (at 2) (computed_prop_name (at 4) (name 4)) (name 5) true (one (decorator (at 3) (name 3))))) (name 2), 1 ∷ 2 ∷ 3 ∷ 4 ∷ 5 ∷ [])
    -- `[a](b) {c}`, `{k: a, b}` and `{a = b}`
    ∷ (class_method (at 1) (computed_prop_name (at 1) (name 1)) (plain (bound 2) (body (name 3))) plain_method false, 1 ∷ 2 ∷ 3 ∷ [])
    ∷ (object_lit (at 1) (more (key_value_prop (at 1) key (name 1)) (one (name 2))), 1 ∷ 2 ∷ [])
    ∷ (object_pat (at 1) (one (assign_pat_prop (at 1) (bound 1) (name 2))), 1 ∷ 2 ∷ [])
    -- `a.k`, `a.#k` and `a[b]`
    ∷ (member_expr (at 1) (name 1) key, 1 ∷ [])
    ∷ (member_expr (at 1) (name 1) (private_name (at 2) (99 ∷ [])), 1 ∷ [])
    ∷ (member_expr (at 1) (name 1) (computed_prop_name (at 2) (name 2)), 1 ∷ 2 ∷ [])
    -- a string is no name
    ∷ (import_named_specifier (at 1) (name 2) (str_lit (at 1) [] None), 2 ∷ [])
    ∷ []

-- names of one letter that begin here
abbrev pub letters : List ℕ → List Name
letters ns = map (λ n. record { sym = (n + 90) ∷ []; at = n }) ns

-- the names of each tree of the table are those that stand beside it
abbrev pub NamesHold : Type 0
NamesHold = map (λ row. names row.0) places ≡ map (λ row. letters row.1) places
