-- A child is not the same program as what may stand in its place beside it.
use Rattle.std.proofs.Common.{◌≡◌, ◌∙◌, ℕ, nat_eq, Bool, true, false, if◌then◌else◌, refl, sym, ap}
use Rattle.std.proofs.lemmas.Bool.{false_from_ne_true}
use Rattle.base_token.specs.declared.place.Span.{Span}
use Rattle.tree_spec.specs.Places.{no_place}
use Rattle.tree_spec.specs.Tree.{Tree, Trees, absent, hole, super, import, var_decl, using_decl}
use Rattle.tree_program_spec.specs.Program.{program}
use Rattle.tree_program_spec.specs.Same.{same}
use Rattle.tree_program_spec.proofs.SameLemmas.{same_decides}
use Rattle.tree_nodes.specs.View.{view_module_decl}
use Rattle.tree_nodes.specs.Placed.{Placed, inner, in_expr, in_stmt, in_pat}
use Rattle.tree_nodes.specs.declared.programs.ModuleDeclOf.{ModuleDeclOf}
use Rattle.tree_nodes.specs.declared.programs.ModuleDeclOf.TheVariants as ModuleDecl
use Rattle.tree_same.specs.Sorts.{is_statement, is_pattern, is_node, is_left_out}
use Rattle.tree_same.specs.Seen.{is_in_stmt, is_in_pat, sort_number}

clash : {A : Type 0} → true ≡ false → A
clash h = absurd cc

statement_kept : (t : Tree) → is_statement (program t) ≡ is_statement t
statement_kept absent = refl
statement_kept t = refl

pattern_kept : (t : Tree) → is_pattern (program t) ≡ is_pattern t
pattern_kept absent = refl
pattern_kept t = refl

node_kept : (t : Tree) → is_node (program t) ≡ is_node t
node_kept absent = refl
node_kept t = refl

left_out_kept : (t : Tree) → is_left_out (program t) ≡ is_left_out t
left_out_kept absent = refl
left_out_kept t = refl

module _ (test : Tree → Bool) (kept : (t : Tree) → test (program t) ≡ test t) (t u : Tree) where
  alike : same t u ≡ true → test t ≡ test u
  alike s = sym (kept t) ∙ (ap test ((same_decides t u).0 s) ∙ kept u)

  only_first : test t ≡ true → test u ≡ false → same t u ≡ false
  only_first h k = false_from_ne_true (same t u) (λ s. clash (sym h ∙ (alike s ∙ k)))

  only_last : test t ≡ false → test u ≡ true → same t u ≡ false
  only_last h k = false_from_ne_true (same t u) (λ s. clash (sym k ∙ (sym (alike s) ∙ h)))

pub node_is_there : (t : Tree) → is_node t ≡ true → is_left_out t ≡ false
node_is_there absent h = clash (sym h)
node_is_there hole h = clash (sym h)
node_is_there t h = refl

pub both_absent : same absent absent ≡ true
unfolding same
both_absent = refl

pub absent_last : (t : Tree) → is_left_out t ≡ false → same t absent ≡ false
absent_last t h = only_last is_left_out left_out_kept t absent h refl

pub absent_first : (t : Tree) → is_left_out t ≡ false → same absent t ≡ false
absent_first t h = only_first is_left_out left_out_kept absent t refl h

pub ruleset part_cases = (both_absent, absent_last, absent_first)

pub both_holes : same hole hole ≡ true
unfolding same
both_holes = refl

pub hole_last : (t : Tree) → is_left_out t ≡ false → same t hole ≡ false
hole_last t h = only_last is_left_out left_out_kept t hole h refl

pub hole_first : (t : Tree) → is_left_out t ≡ false → same hole t ≡ false
hole_first t h = only_first is_left_out left_out_kept hole t refl h

pub ruleset element_cases = (both_holes, hole_last, hole_first)

pub node_super : (t : Tree) (s : Span) → is_node t ≡ true → same t (super s) ≡ false
node_super t s h = only_first is_node node_kept t (super s) h refl

pub super_node : (t : Tree) (s : Span) → is_node t ≡ true → same (super s) t ≡ false
super_node t s h = only_last is_node node_kept (super s) t refl h

pub node_import : (t : Tree) (s : Span) → is_node t ≡ true → same t (import s) ≡ false
node_import t s h = only_first is_node node_kept t (import s) h refl

pub import_node : (t : Tree) (s : Span) → is_node t ≡ true → same (import s) t ≡ false
import_node t s h = only_last is_node node_kept (import s) t refl h

pub super_import : (s s2 : Span) → same (super s) (import s2) ≡ false
unfolding same
super_import s s2 = refl

pub import_super : (s s2 : Span) → same (import s) (super s2) ≡ false
unfolding same
import_super s s2 = refl

pub both_super : (s s2 : Span) → same (super s) (super s2) ≡ true
unfolding same
both_super s s2 = refl

pub ruleset callee_cases = (node_super, super_node, node_import, import_node, super_import, import_super)

pub ruleset in_place_cases = (node_super, super_node, both_super)

no_node : {T : Type 0} (f : T → Tree) (d : ModuleDeclOf T) → is_node (view_module_decl f d) ≡ false
no_node f (ModuleDecl.Import x) = refl
no_node f (ModuleDecl.ExportDecl x) = refl
no_node f (ModuleDecl.ExportNamed x) = refl
no_node f (ModuleDecl.ExportDefaultDecl x) = refl
no_node f (ModuleDecl.ExportDefaultExpr x) = refl
no_node f (ModuleDecl.ExportAll x) = refl

pub node_decl : {T : Type 0} (f : T → Tree) (d : ModuleDeclOf T) (t : Tree) → is_node t ≡ true → same t (view_module_decl f d) ≡ false
node_decl f d t h = only_first is_node node_kept t (view_module_decl f d) h (no_node f d)

pub decl_node : {T : Type 0} (f : T → Tree) (d : ModuleDeclOf T) (t : Tree) → is_node t ≡ true → same (view_module_decl f d) t ≡ false
decl_node f d t h = only_last is_node node_kept (view_module_decl f d) t (no_node f d) h

pub ruleset module_item_cases = (node_decl, decl_node)

pub statement_first : (t u : Tree) → is_statement u ≡ false → is_statement t ≡ true → same t u ≡ false
statement_first t u k h = only_first is_statement statement_kept t u h k

pub statement_last : (t u : Tree) → is_statement t ≡ false → is_statement u ≡ true → same t u ≡ false
statement_last t u h k = only_last is_statement statement_kept t u h k

pub var_using : (s s2 : Span) (n : ℕ) (b : Bool) (ts us : Trees) → same (var_decl s n ts) (using_decl s2 b us) ≡ false
unfolding same
var_using s s2 n b ts us = refl

pub using_var : (s s2 : Span) (n : ℕ) (b : Bool) (ts us : Trees) → same (using_decl s2 b us) (var_decl s n ts) ≡ false
unfolding same
using_var s s2 n b ts us = refl

pub ruleset block_stmt_or_expr_cases = (statement_first, statement_last)

pub ruleset for_head_cases = (statement_first, statement_last, var_using, using_var)

pub ruleset var_decl_or_expr_cases = (statement_first, statement_last, var_using, using_var)

pub in_place_statement : (b : Bool) (t : Tree) → is_statement t ≡ b → is_statement (if b then super no_place else t) ≡ false
in_place_statement true t h = refl
in_place_statement false t h = h

pub in_place_there : (b : Bool) (t : Tree) → is_node t ≡ true → is_left_out (if b then super no_place else t) ≡ false
in_place_there true t h = refl
in_place_there false t h = node_is_there t h

-- parts of different sorts
pub sorts_apart : (p q : Placed) → is_statement (inner p) ≡ is_in_stmt p → is_pattern (inner p) ≡ is_in_pat p → is_statement (inner q) ≡ is_in_stmt q → is_pattern (inner q) ≡ is_in_pat q → nat_eq (sort_number p) (sort_number q) ≡ false → same (inner p) (inner q) ≡ false
sorts_apart (in_expr t) (in_expr u) a b c d h = clash h
sorts_apart (in_stmt t) (in_stmt u) a b c d h = clash h
sorts_apart (in_pat t) (in_pat u) a b c d h = clash h
sorts_apart (in_expr t) (in_stmt u) a b c d h = statement_last t u a c
sorts_apart (in_expr t) (in_pat u) a b c d h = only_last is_pattern pattern_kept t u b d
sorts_apart (in_stmt t) (in_expr u) a b c d h = statement_first t u c a
sorts_apart (in_stmt t) (in_pat u) a b c d h = statement_first t u c a
sorts_apart (in_pat t) (in_expr u) a b c d h = only_first is_pattern pattern_kept t u b d
sorts_apart (in_pat t) (in_stmt u) a b c d h = statement_last t u a c
