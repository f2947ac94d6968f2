-- A child of a node with what it produces, and the forms that productions share: optional children, lists with commas, lists of statements.
use Rattle.std.specs.Prelude.{◌≡◌, ◌≤◌, ◌⊎◌, ℕ, Bool, true, false, ◌&&◌, ◌||◌, if◌then◌else◌, List, [], ◌∷◌}
use Rattle.tree_spec.specs.Kinds.{comma_kind, semicolon_kind}
use Rattle.tree_spec.specs.Tree.{Tree, ident, tpl_element}
use Rattle.grammar_spec.specs.Tokens.Input.{Input, Code, Takes, kind, in_list, assigning, turned_strict}
use Rattle.grammar_spec.specs.Tokens.Operators.{pauses}
use Rattle.grammar_spec.specs.Tokens.Shape.{level, is_absent, is_hole, is_rest, is_item, is_module_decl, is_use_strict, is_directive}

-- A production sees of a child its tree, and in which code it produces which tokens up to which rest.
pub record Child : Type 1 where
  pub tree : Tree
  pub produced : Code → Input → Input → Type 0

abbrev pub child : Tree → (Code → Input → Input → Type 0) → Child
child t produced = record { tree = t; produced = produced }

-- one of two, by a test
abbrev pub By : Bool → Type 0 → Type 0 → Type 0
By true P Q = P
By false P Q = Q

abbrev pub IsEmpty : List Child → Type 0
IsEmpty [] = Unit {0}
IsEmpty (x ∷ xs) = ⊥

-- an expression of a level, or of a tighter one: no pattern that binds reaches into it
abbrev pub Expr : ℕ → Code → Child → Input → Input → Type 0
Expr l c a ts r = (l ≤ level a.tree) × a.produced (assigning c) ts r

-- a child of a sort
abbrev pub Sorted : (Tree → Bool) → Code → Child → Input → Input → Type 0
Sorted is_sort c a ts r = (is_sort a.tree ≡ true) × a.produced c ts r

-- a name, as of a function, a class, a label or an import
abbrev pub is_ident : Tree → Bool
is_ident (ident s n) = true
is_ident _ = false

-- the characters of a template
abbrev pub is_quasi : Tree → Bool
is_quasi (tpl_element s t w u) = true
is_quasi _ = false

-- a child that may be left out
abbrev pub Maybe : (Code → Child → Input → Input → Type 0) → Code → Child → Input → Input → Type 0
Maybe P c a ts r = By (is_absent a.tree) (ts ≡ r) (P c a ts r)

-- ---- lists with commas

-- Items with commas up to what closes the list, which a comma may precede but after a rest. Where holes may stand, each comma takes one item.
abbrev pub Listed : Bool → (Child → Input → Input → Type 0) → Code → ℕ → List Child → Input → Input → Type 0
Listed holes P c close [] ts r = Takes c close ts r
Listed holes P c close (x ∷ xs) ts r =
    By (holes && is_hole x.tree)
    ((m : Input) × Takes c comma_kind ts m × Listed holes P c close xs m r)
    ((m : Input) × P x ts m × (((is_rest x.tree ≡ false) × (n : Input) × Takes c comma_kind m n × Listed holes P c close xs n r) ⊎ (IsEmpty xs × Takes c close m r)))

-- one item after each comma
abbrev pub CommaThen : (Child → Input → Input → Type 0) → Code → List Child → Input → Input → Type 0
CommaThen P c [] ts r = ts ≡ r
CommaThen P c (x ∷ xs) ts r = (m : Input) × (n : Input) × Takes c comma_kind ts m × P x m n × CommaThen P c xs n r

-- one item, and more
abbrev pub Commas : (Child → Input → Input → Type 0) → Code → List Child → Input → Input → Type 0
Commas P c [] ts r = ⊥
Commas P c (x ∷ xs) ts r = (m : Input) × P x ts m × CommaThen P c xs m r

-- ---- what ends a statement or a field

-- A semicolon where one follows, else nothing before what pauses (12.10).
abbrev pub Ends : Code → ℕ → Input → Input → Type 0
Ends c e m r = Takes c semicolon_kind m r ⊎ ((kind m ≡ semicolon_kind → ⊥) × (pauses c e m ≡ true) × (m ≡ r))

-- ---- lists of statements

-- Statements, and what closes them in the code that they leave. In a body (`starts`) the tokens after the statement `'use strict'` of the
-- directives that start it are strict (11.2.1, 11.2.2).
abbrev pub Items : (Tree → Bool) → (Code → Input → Input → Type 0) → Code → Bool → List Child → Input → Input → Type 0
Items may close c starts [] ts r = close c ts r
Items may close c starts (s ∷ ss) ts r = (m : Input) × (may s.tree ≡ true) × s.produced (in_list c) ts m
    × Items may close (if starts && is_use_strict s.tree then turned_strict c else c) (starts && is_directive s.tree) ss m r

-- a StatementListItem, or a ModuleItem
abbrev pub is_module_item : Tree → Bool
is_module_item t = is_item t || is_module_decl t

-- where a program ends
abbrev pub AtEnd : Code → Input → Input → Type 0
AtEnd c ts r = (ts.places ≡ []) × (ts ≡ r)
