-- Written by tools/tree/same.py from tools/tree/tree.table. Don't edit this file.
-- Trees of different kinds are not the same program.
use Rattle.std.proofs.Common.{◌≡◌, ℕ, Bool, true, false, nat_eq, refl, sym, ap, ◌∙◌}
use Rattle.std.proofs.lemmas.Bool.Decides.{Decides-eqb}
use Rattle.base_token.specs.declared.place.Span.{Span}
use Rattle.tree_program_spec.specs.Program.{program}
use Rattle.tree_program_spec.specs.Same.{same}
use Rattle.tree_program_spec.proofs.SameLemmas.{same_decides}
use Rattle.tree_same.specs.Seen.{seen_expr_kind, seen_stmt_kind}
use Rattle.tree_nodes.specs.View.{view_program_kind, view_module_decl, view_default_decl, view_import_specifier, view_export_specifier, view_module_export_name, view_decl, view_class_member, view_member_prop, view_super_prop, view_opt_chain_base, view_prop_or_spread, view_prop, view_lit, view_pat_kind, view_object_pat_prop, view_assign_target}
use Rattle.tree_spec.specs.Tree.{Tree, script, es_module, import_decl, export_decl, named_export, export_default_decl, export_default_expr, export_all, import_named_specifier, import_default_specifier, import_star_as_specifier, export_namespace_specifier, export_default_specifier, export_named_specifier, block_stmt, empty_stmt, debugger_stmt, with_stmt, return_stmt, labeled_stmt, break_stmt, continue_stmt, if_stmt, switch_stmt, switch_case, throw_stmt, try_stmt, catch_clause, while_stmt, do_while_stmt, for_stmt, for_in_stmt, for_of_stmt, expr_stmt, class_decl, fn_decl, var_decl, using_decl, var_declarator, function, param, decorator, class, constructor, class_method, private_method, class_prop, private_prop, static_block, auto_accessor, ident_name, computed_prop_name, private_name, this_expr, array_lit, object_lit, fn_expr, unary_expr, update_expr, bin_expr, assign_expr, member_expr, super_prop_expr, cond_expr, call_expr, new_expr, seq_expr, ident, tpl, tpl_element, tagged_tpl, arrow_expr, class_expr, yield_expr, meta_prop_expr, await_expr, paren_expr, opt_chain_expr, opt_call, super, import, invalid, expr_or_spread, spread_element, key_value_prop, assign_prop, getter_prop, setter_prop, method_prop, str_lit, bool_lit, null_lit, number_lit, big_int_lit, regex_lit, binding_ident, array_pat, rest_pat, object_pat, assign_pat, key_value_pat_prop, assign_pat_prop, expr_pat, invalid_pat, invalid_target, list, absent, hole}
use Rattle.tree_nodes.specs.declared.programs.ProgramKindOf.{ProgramKindOf}
use Rattle.tree_nodes.specs.declared.programs.ProgramKindOf.TheVariants as ProgramKind
use Rattle.tree_nodes.specs.declared.programs.ModuleDeclOf.{ModuleDeclOf}
use Rattle.tree_nodes.specs.declared.programs.ModuleDeclOf.TheVariants as ModuleDecl
use Rattle.tree_nodes.specs.declared.programs.DefaultDeclOf.{DefaultDeclOf}
use Rattle.tree_nodes.specs.declared.programs.DefaultDeclOf.TheVariants as DefaultDecl
use Rattle.tree_nodes.specs.declared.programs.ImportSpecifier.{ImportSpecifier}
use Rattle.tree_nodes.specs.declared.programs.ImportSpecifier.TheVariants as ImportSpecifier
use Rattle.tree_nodes.specs.declared.programs.ExportSpecifier.{ExportSpecifier}
use Rattle.tree_nodes.specs.declared.programs.ExportSpecifier.TheVariants as ExportSpecifier
use Rattle.tree_nodes.specs.declared.programs.ModuleExportName.{ModuleExportName}
use Rattle.tree_nodes.specs.declared.programs.ModuleExportName.TheVariants as ModuleExportName
use Rattle.tree_nodes.specs.declared.statements.StmtKindOf.{StmtKindOf}
use Rattle.tree_nodes.specs.declared.statements.StmtKindOf.TheVariants as StmtKind
use Rattle.tree_nodes.specs.declared.declarations.DeclOf.{DeclOf}
use Rattle.tree_nodes.specs.declared.declarations.DeclOf.TheVariants as Decl
use Rattle.tree_nodes.specs.declared.functions.ClassMemberOf.{ClassMemberOf}
use Rattle.tree_nodes.specs.declared.functions.ClassMemberOf.TheVariants as ClassMember
use Rattle.tree_nodes.specs.declared.expressions.ExprKindOf.{ExprKindOf}
use Rattle.tree_nodes.specs.declared.expressions.ExprKindOf.TheVariants as ExprKind
use Rattle.tree_nodes.specs.declared.expressions.MemberPropOf.{MemberPropOf}
use Rattle.tree_nodes.specs.declared.expressions.MemberPropOf.TheVariants as MemberProp
use Rattle.tree_nodes.specs.declared.expressions.SuperPropOf.{SuperPropOf}
use Rattle.tree_nodes.specs.declared.expressions.SuperPropOf.TheVariants as SuperProp
use Rattle.tree_nodes.specs.declared.expressions.OptChainBaseOf.{OptChainBaseOf}
use Rattle.tree_nodes.specs.declared.expressions.OptChainBaseOf.TheVariants as OptChainBase
use Rattle.tree_nodes.specs.declared.objects.PropOrSpreadOf.{PropOrSpreadOf}
use Rattle.tree_nodes.specs.declared.objects.PropOrSpreadOf.TheVariants as PropOrSpread
use Rattle.tree_nodes.specs.declared.objects.PropOf.{PropOf}
use Rattle.tree_nodes.specs.declared.objects.PropOf.TheVariants as Prop
use Rattle.tree_nodes.specs.declared.literals.Lit.{Lit}
use Rattle.tree_nodes.specs.declared.literals.Lit.TheVariants as Lit
use Rattle.tree_nodes.specs.declared.patterns.PatKindOf.{PatKindOf}
use Rattle.tree_nodes.specs.declared.patterns.PatKindOf.TheVariants as PatKind
use Rattle.tree_nodes.specs.declared.patterns.ObjectPatPropOf.{ObjectPatPropOf}
use Rattle.tree_nodes.specs.declared.patterns.ObjectPatPropOf.TheVariants as ObjectPatProp
use Rattle.tree_nodes.specs.declared.patterns.AssignTargetOf.{AssignTargetOf}
use Rattle.tree_nodes.specs.declared.patterns.AssignTargetOf.TheVariants as AssignTarget

-- a number for each kind
abbrev tag : Tree → ℕ
tag (script _ _ _) = 0
tag (es_module _ _ _) = 1
tag (import_decl _ _ _ _) = 2
tag (export_decl _ _) = 3
tag (named_export _ _ _ _) = 4
tag (export_default_decl _ _) = 5
tag (export_default_expr _ _) = 6
tag (export_all _ _ _) = 7
tag (import_named_specifier _ _ _) = 8
tag (import_default_specifier _ _) = 9
tag (import_star_as_specifier _ _) = 10
tag (export_namespace_specifier _ _) = 11
tag (export_default_specifier _ _) = 12
tag (export_named_specifier _ _ _) = 13
tag (block_stmt _ _) = 14
tag (empty_stmt _) = 15
tag (debugger_stmt _) = 16
tag (with_stmt _ _ _) = 17
tag (return_stmt _ _) = 18
tag (labeled_stmt _ _ _) = 19
tag (break_stmt _ _) = 20
tag (continue_stmt _ _) = 21
tag (if_stmt _ _ _ _) = 22
tag (switch_stmt _ _ _) = 23
tag (switch_case _ _ _) = 24
tag (throw_stmt _ _) = 25
tag (try_stmt _ _ _ _) = 26
tag (catch_clause _ _ _) = 27
tag (while_stmt _ _ _) = 28
tag (do_while_stmt _ _ _) = 29
tag (for_stmt _ _ _ _ _) = 30
tag (for_in_stmt _ _ _ _) = 31
tag (for_of_stmt _ _ _ _ _) = 32
tag (expr_stmt _ _) = 33
tag (class_decl _ _ _) = 34
tag (fn_decl _ _ _) = 35
tag (var_decl _ _ _) = 36
tag (using_decl _ _ _) = 37
tag (var_declarator _ _ _) = 38
tag (function _ _ _ _ _ _) = 39
tag (param _ _ _) = 40
tag (decorator _ _) = 41
tag (class _ _ _ _) = 42
tag (constructor _ _ _ _) = 43
tag (class_method _ _ _ _ _) = 44
tag (private_method _ _ _ _ _) = 45
tag (class_prop _ _ _ _ _) = 46
tag (private_prop _ _ _ _ _) = 47
tag (static_block _ _) = 48
tag (auto_accessor _ _ _ _ _) = 49
tag (ident_name _ _) = 50
tag (computed_prop_name _ _) = 51
tag (private_name _ _) = 52
tag (this_expr _) = 53
tag (array_lit _ _) = 54
tag (object_lit _ _) = 55
tag (fn_expr _ _ _) = 56
tag (unary_expr _ _ _) = 57
tag (update_expr _ _ _ _) = 58
tag (bin_expr _ _ _ _) = 59
tag (assign_expr _ _ _ _) = 60
tag (member_expr _ _ _) = 61
tag (super_prop_expr _ _ _) = 62
tag (cond_expr _ _ _ _) = 63
tag (call_expr _ _ _) = 64
tag (new_expr _ _ _) = 65
tag (seq_expr _ _) = 66
tag (ident _ _) = 67
tag (tpl _ _ _) = 68
tag (tpl_element _ _ _ _) = 69
tag (tagged_tpl _ _ _) = 70
tag (arrow_expr _ _ _ _) = 71
tag (class_expr _ _ _) = 72
tag (yield_expr _ _ _) = 73
tag (meta_prop_expr _ _) = 74
tag (await_expr _ _) = 75
tag (paren_expr _ _) = 76
tag (opt_chain_expr _ _ _) = 77
tag (opt_call _ _ _) = 78
tag (super _) = 79
tag (import _) = 80
tag (invalid _) = 81
tag (expr_or_spread _ _ _) = 82
tag (spread_element _ _) = 83
tag (key_value_prop _ _ _) = 84
tag (assign_prop _ _ _) = 85
tag (getter_prop _ _ _) = 86
tag (setter_prop _ _ _ _) = 87
tag (method_prop _ _ _) = 88
tag (str_lit _ _ _) = 89
tag (bool_lit _ _) = 90
tag (null_lit _) = 91
tag (number_lit _ _ _) = 92
tag (big_int_lit _ _ _ _) = 93
tag (regex_lit _ _ _) = 94
tag (binding_ident _ _) = 95
tag (array_pat _ _) = 96
tag (rest_pat _ _ _) = 97
tag (object_pat _ _) = 98
tag (assign_pat _ _ _) = 99
tag (key_value_pat_prop _ _ _) = 100
tag (assign_pat_prop _ _ _) = 101
tag (expr_pat _) = 102
tag (invalid_pat _) = 103
tag (invalid_target _) = 104
tag (list _) = 105
tag absent = 106
tag hole = 107

-- the same, but for kinds that an enum takes together
abbrev group : Tree → ℕ
group (str_lit _ _ _) = 200
group (bool_lit _ _) = 200
group (null_lit _) = 200
group (number_lit _ _ _) = 200
group (big_int_lit _ _ _ _) = 200
group (regex_lit _ _ _) = 200
group (class_decl _ _ _) = 201
group (fn_decl _ _ _) = 201
group (var_decl _ _ _) = 201
group (using_decl _ _ _) = 201
group (import_decl _ _ _ _) = 202
group (export_decl _ _) = 202
group (named_export _ _ _ _) = 202
group (export_default_decl _ _) = 202
group (export_default_expr _ _) = 202
group (export_all _ _ _) = 202
group (ident _ _) = 203
group (key_value_prop _ _ _) = 203
group (assign_prop _ _ _) = 203
group (getter_prop _ _ _) = 203
group (setter_prop _ _ _ _) = 203
group (method_prop _ _ _) = 203
group t = tag t

clash : {A : Type 0} → true ≡ false → A
clash h = absurd cc

tag_kept : (t : Tree) → tag (program t) ≡ tag t
tag_kept absent = refl
tag_kept t = refl

group_kept : (t : Tree) → group (program t) ≡ group t
group_kept absent = refl
group_kept t = refl

-- what is false unless it is true
false_unless : (b : Bool) → (b ≡ true → ⊥) → false ≡ b
false_unless true h = absurd (h refl)
false_unless false h = refl

by_number : (test : Tree → ℕ) (kept : (t : Tree) → test (program t) ≡ test t) (t u : Tree) → nat_eq (test t) (test u) ≡ false → false ≡ same t u
by_number test kept t u h = false_unless (same t u) (λ s. clash (sym ((Decides-eqb (test t) (test u)).1 (sym (kept t) ∙ (ap test ((same_decides t u).0 s) ∙ kept u))) ∙ h))

by_tag : (t u : Tree) → nat_eq (tag t) (tag u) ≡ false → false ≡ same t u
by_tag = by_number tag tag_kept

by_group : (t u : Tree) → nat_eq (group t) (group u) ≡ false → false ≡ same t u
by_group = by_number group group_kept

abbrev module_decl_index : {T : Type 0} → ModuleDeclOf T → ℕ
module_decl_index (ModuleDecl.Import x) = 2
module_decl_index (ModuleDecl.ExportDecl x) = 3
module_decl_index (ModuleDecl.ExportNamed x) = 4
module_decl_index (ModuleDecl.ExportDefaultDecl x) = 5
module_decl_index (ModuleDecl.ExportDefaultExpr x) = 6
module_decl_index (ModuleDecl.ExportAll x) = 7

module_decl_number : {T : Type 0} (f : T → Tree) → (k : ModuleDeclOf T) → tag (view_module_decl f k) ≡ module_decl_index k
module_decl_number f (ModuleDecl.Import x) = refl
module_decl_number f (ModuleDecl.ExportDecl x) = refl
module_decl_number f (ModuleDecl.ExportNamed x) = refl
module_decl_number f (ModuleDecl.ExportDefaultDecl x) = refl
module_decl_number f (ModuleDecl.ExportDefaultExpr x) = refl
module_decl_number f (ModuleDecl.ExportAll x) = refl

module_decl_together : {T : Type 0} (f : T → Tree) → (k : ModuleDeclOf T) → group (view_module_decl f k) ≡ 202
module_decl_together f (ModuleDecl.Import x) = refl
module_decl_together f (ModuleDecl.ExportDecl x) = refl
module_decl_together f (ModuleDecl.ExportNamed x) = refl
module_decl_together f (ModuleDecl.ExportDefaultDecl x) = refl
module_decl_together f (ModuleDecl.ExportDefaultExpr x) = refl
module_decl_together f (ModuleDecl.ExportAll x) = refl

pub module_decl_apart : {T : Type 0} (f : T → Tree) → (a b : ModuleDeclOf T) → nat_eq (module_decl_index a) (module_decl_index b) ≡ false → false ≡ same (view_module_decl f a) (view_module_decl f b)
module_decl_apart f a b h = by_tag (view_module_decl f a) (view_module_decl f b) (rw (module_decl_number f a) (rw (module_decl_number f b) h))

abbrev decl_index : {T : Type 0} → DeclOf T → ℕ
decl_index (Decl.Class x) = 34
decl_index (Decl.Fn x) = 35
decl_index (Decl.Var x) = 36
decl_index (Decl.Using x) = 37

decl_number : {T : Type 0} (f : T → Tree) → (k : DeclOf T) → tag (view_decl f k) ≡ decl_index k
decl_number f (Decl.Class x) = refl
decl_number f (Decl.Fn x) = refl
decl_number f (Decl.Var x) = refl
decl_number f (Decl.Using x) = refl

decl_together : {T : Type 0} (f : T → Tree) → (k : DeclOf T) → group (view_decl f k) ≡ 201
decl_together f (Decl.Class x) = refl
decl_together f (Decl.Fn x) = refl
decl_together f (Decl.Var x) = refl
decl_together f (Decl.Using x) = refl

pub decl_apart : {T : Type 0} (f : T → Tree) → (a b : DeclOf T) → nat_eq (decl_index a) (decl_index b) ≡ false → false ≡ same (view_decl f a) (view_decl f b)
decl_apart f a b h = by_tag (view_decl f a) (view_decl f b) (rw (decl_number f a) (rw (decl_number f b) h))

abbrev prop_index : {T : Type 0} → PropOf T → ℕ
prop_index (Prop.Shorthand x) = 67
prop_index (Prop.KeyValue x) = 84
prop_index (Prop.Assign x) = 85
prop_index (Prop.Getter x) = 86
prop_index (Prop.Setter x) = 87
prop_index (Prop.Method x) = 88

prop_number : {T : Type 0} (f : T → Tree) → (k : PropOf T) → tag (view_prop f k) ≡ prop_index k
prop_number f (Prop.Shorthand x) = refl
prop_number f (Prop.KeyValue x) = refl
prop_number f (Prop.Assign x) = refl
prop_number f (Prop.Getter x) = refl
prop_number f (Prop.Setter x) = refl
prop_number f (Prop.Method x) = refl

prop_together : {T : Type 0} (f : T → Tree) → (k : PropOf T) → group (view_prop f k) ≡ 203
prop_together f (Prop.Shorthand x) = refl
prop_together f (Prop.KeyValue x) = refl
prop_together f (Prop.Assign x) = refl
prop_together f (Prop.Getter x) = refl
prop_together f (Prop.Setter x) = refl
prop_together f (Prop.Method x) = refl

pub prop_apart : {T : Type 0} (f : T → Tree) → (a b : PropOf T) → nat_eq (prop_index a) (prop_index b) ≡ false → false ≡ same (view_prop f a) (view_prop f b)
prop_apart f a b h = by_tag (view_prop f a) (view_prop f b) (rw (prop_number f a) (rw (prop_number f b) h))

abbrev lit_index : Lit → ℕ
lit_index (Lit.Str x) = 89
lit_index (Lit.Bool x) = 90
lit_index (Lit.Null x) = 91
lit_index (Lit.Num x) = 92
lit_index (Lit.BigInt x) = 93
lit_index (Lit.Regex x) = 94

lit_number : (k : Lit) → tag (view_lit k) ≡ lit_index k
lit_number (Lit.Str x) = refl
lit_number (Lit.Bool x) = refl
lit_number (Lit.Null x) = refl
lit_number (Lit.Num x) = refl
lit_number (Lit.BigInt x) = refl
lit_number (Lit.Regex x) = refl

lit_together : (k : Lit) → group (view_lit k) ≡ 200
lit_together (Lit.Str x) = refl
lit_together (Lit.Bool x) = refl
lit_together (Lit.Null x) = refl
lit_together (Lit.Num x) = refl
lit_together (Lit.BigInt x) = refl
lit_together (Lit.Regex x) = refl

pub lit_apart : (a b : Lit) → nat_eq (lit_index a) (lit_index b) ≡ false → false ≡ same (view_lit a) (view_lit b)
lit_apart a b h = by_tag (view_lit a) (view_lit b) (rw (lit_number a) (rw (lit_number b) h))

abbrev program_kind_index : {T : Type 0} → ProgramKindOf T → ℕ
program_kind_index (ProgramKind.Script x) = 0
program_kind_index (ProgramKind.Module x) = 1

program_kind_number : {T : Type 0} (f : T → Tree) → (k : ProgramKindOf T) → group (view_program_kind f k) ≡ program_kind_index k
program_kind_number f (ProgramKind.Script x) = refl
program_kind_number f (ProgramKind.Module x) = refl

pub program_kind_apart : {T : Type 0} (f : T → Tree) → (a b : ProgramKindOf T) → nat_eq (program_kind_index a) (program_kind_index b) ≡ false → false ≡ same (view_program_kind f a) (view_program_kind f b)
program_kind_apart f a b h = by_group (view_program_kind f a) (view_program_kind f b) (rw (program_kind_number f a) (rw (program_kind_number f b) h))

abbrev default_decl_index : {T : Type 0} → DefaultDeclOf T → ℕ
default_decl_index (DefaultDecl.Class x) = 72
default_decl_index (DefaultDecl.Fn x) = 56

default_decl_number : {T : Type 0} (f : T → Tree) → (k : DefaultDeclOf T) → group (view_default_decl f k) ≡ default_decl_index k
default_decl_number f (DefaultDecl.Class x) = refl
default_decl_number f (DefaultDecl.Fn x) = refl

pub default_decl_apart : {T : Type 0} (f : T → Tree) → (a b : DefaultDeclOf T) → nat_eq (default_decl_index a) (default_decl_index b) ≡ false → false ≡ same (view_default_decl f a) (view_default_decl f b)
default_decl_apart f a b h = by_group (view_default_decl f a) (view_default_decl f b) (rw (default_decl_number f a) (rw (default_decl_number f b) h))

abbrev import_specifier_index : ImportSpecifier → ℕ
import_specifier_index (ImportSpecifier.Named x) = 8
import_specifier_index (ImportSpecifier.Default x) = 9
import_specifier_index (ImportSpecifier.Namespace x) = 10

import_specifier_number : (k : ImportSpecifier) → group (view_import_specifier k) ≡ import_specifier_index k
import_specifier_number (ImportSpecifier.Named x) = refl
import_specifier_number (ImportSpecifier.Default x) = refl
import_specifier_number (ImportSpecifier.Namespace x) = refl

pub import_specifier_apart : (a b : ImportSpecifier) → nat_eq (import_specifier_index a) (import_specifier_index b) ≡ false → false ≡ same (view_import_specifier a) (view_import_specifier b)
import_specifier_apart a b h = by_group (view_import_specifier a) (view_import_specifier b) (rw (import_specifier_number a) (rw (import_specifier_number b) h))

abbrev export_specifier_index : ExportSpecifier → ℕ
export_specifier_index (ExportSpecifier.Namespace x) = 11
export_specifier_index (ExportSpecifier.Default x) = 12
export_specifier_index (ExportSpecifier.Named x) = 13

export_specifier_number : (k : ExportSpecifier) → group (view_export_specifier k) ≡ export_specifier_index k
export_specifier_number (ExportSpecifier.Namespace x) = refl
export_specifier_number (ExportSpecifier.Default x) = refl
export_specifier_number (ExportSpecifier.Named x) = refl

pub export_specifier_apart : (a b : ExportSpecifier) → nat_eq (export_specifier_index a) (export_specifier_index b) ≡ false → false ≡ same (view_export_specifier a) (view_export_specifier b)
export_specifier_apart a b h = by_group (view_export_specifier a) (view_export_specifier b) (rw (export_specifier_number a) (rw (export_specifier_number b) h))

abbrev module_export_name_index : ModuleExportName → ℕ
module_export_name_index (ModuleExportName.Ident x) = 203
module_export_name_index (ModuleExportName.Str x) = 200

module_export_name_number : (k : ModuleExportName) → group (view_module_export_name k) ≡ module_export_name_index k
module_export_name_number (ModuleExportName.Ident x) = refl
module_export_name_number (ModuleExportName.Str x) = refl

pub module_export_name_apart : (a b : ModuleExportName) → nat_eq (module_export_name_index a) (module_export_name_index b) ≡ false → false ≡ same (view_module_export_name a) (view_module_export_name b)
module_export_name_apart a b h = by_group (view_module_export_name a) (view_module_export_name b) (rw (module_export_name_number a) (rw (module_export_name_number b) h))

abbrev stmt_kind_index : {T : Type 0} → StmtKindOf T → ℕ
stmt_kind_index (StmtKind.Block x) = 14
stmt_kind_index (StmtKind.Empty x) = 15
stmt_kind_index (StmtKind.Debugger x) = 16
stmt_kind_index (StmtKind.With x) = 17
stmt_kind_index (StmtKind.Return x) = 18
stmt_kind_index (StmtKind.Labeled x) = 19
stmt_kind_index (StmtKind.Break x) = 20
stmt_kind_index (StmtKind.Continue x) = 21
stmt_kind_index (StmtKind.If x) = 22
stmt_kind_index (StmtKind.Switch x) = 23
stmt_kind_index (StmtKind.Throw x) = 25
stmt_kind_index (StmtKind.Try x) = 26
stmt_kind_index (StmtKind.While x) = 28
stmt_kind_index (StmtKind.DoWhile x) = 29
stmt_kind_index (StmtKind.For x) = 30
stmt_kind_index (StmtKind.ForIn x) = 31
stmt_kind_index (StmtKind.ForOf x) = 32
stmt_kind_index (StmtKind.Decl x) = 201
stmt_kind_index (StmtKind.Expr x) = 33

stmt_kind_number : {T : Type 0} (s : T → Bool) (f : T → Tree) → (k : StmtKindOf T) → group (seen_stmt_kind s f k) ≡ stmt_kind_index k
stmt_kind_number s f (StmtKind.Block x) = refl
stmt_kind_number s f (StmtKind.Empty x) = refl
stmt_kind_number s f (StmtKind.Debugger x) = refl
stmt_kind_number s f (StmtKind.With x) = refl
stmt_kind_number s f (StmtKind.Return x) = refl
stmt_kind_number s f (StmtKind.Labeled x) = refl
stmt_kind_number s f (StmtKind.Break x) = refl
stmt_kind_number s f (StmtKind.Continue x) = refl
stmt_kind_number s f (StmtKind.If x) = refl
stmt_kind_number s f (StmtKind.Switch x) = refl
stmt_kind_number s f (StmtKind.Throw x) = refl
stmt_kind_number s f (StmtKind.Try x) = refl
stmt_kind_number s f (StmtKind.While x) = refl
stmt_kind_number s f (StmtKind.DoWhile x) = refl
stmt_kind_number s f (StmtKind.For x) = refl
stmt_kind_number s f (StmtKind.ForIn x) = refl
stmt_kind_number s f (StmtKind.ForOf x) = refl
stmt_kind_number s f (StmtKind.Decl x) = decl_together f x
stmt_kind_number s f (StmtKind.Expr x) = refl

pub stmt_kind_apart : {T : Type 0} (s : T → Bool) (f : T → Tree) → (a b : StmtKindOf T) → nat_eq (stmt_kind_index a) (stmt_kind_index b) ≡ false → false ≡ same (seen_stmt_kind s f a) (seen_stmt_kind s f b)
stmt_kind_apart s f a b h = by_group (seen_stmt_kind s f a) (seen_stmt_kind s f b) (rw (stmt_kind_number s f a) (rw (stmt_kind_number s f b) h))

abbrev class_member_index : {T : Type 0} → ClassMemberOf T → ℕ
class_member_index (ClassMember.Constructor x) = 43
class_member_index (ClassMember.Method x) = 44
class_member_index (ClassMember.PrivateMethod x) = 45
class_member_index (ClassMember.ClassProp x) = 46
class_member_index (ClassMember.PrivateProp x) = 47
class_member_index (ClassMember.StaticBlock x) = 48
class_member_index (ClassMember.AutoAccessor x) = 49
class_member_index (ClassMember.Empty x) = 15

class_member_number : {T : Type 0} (f : T → Tree) → (k : ClassMemberOf T) → group (view_class_member f k) ≡ class_member_index k
class_member_number f (ClassMember.Constructor x) = refl
class_member_number f (ClassMember.Method x) = refl
class_member_number f (ClassMember.PrivateMethod x) = refl
class_member_number f (ClassMember.ClassProp x) = refl
class_member_number f (ClassMember.PrivateProp x) = refl
class_member_number f (ClassMember.StaticBlock x) = refl
class_member_number f (ClassMember.AutoAccessor x) = refl
class_member_number f (ClassMember.Empty x) = refl

pub class_member_apart : {T : Type 0} (f : T → Tree) → (a b : ClassMemberOf T) → nat_eq (class_member_index a) (class_member_index b) ≡ false → false ≡ same (view_class_member f a) (view_class_member f b)
class_member_apart f a b h = by_group (view_class_member f a) (view_class_member f b) (rw (class_member_number f a) (rw (class_member_number f b) h))

abbrev expr_kind_index : {T : Type 0} → ExprKindOf T → ℕ
expr_kind_index (ExprKind.This x) = 53
expr_kind_index (ExprKind.Array x) = 54
expr_kind_index (ExprKind.Object x) = 55
expr_kind_index (ExprKind.Fn x) = 56
expr_kind_index (ExprKind.Unary x) = 57
expr_kind_index (ExprKind.Update x) = 58
expr_kind_index (ExprKind.Bin x) = 59
expr_kind_index (ExprKind.Assign x) = 60
expr_kind_index (ExprKind.Member x) = 61
expr_kind_index (ExprKind.SuperProp x) = 62
expr_kind_index (ExprKind.Cond x) = 63
expr_kind_index (ExprKind.Call x) = 64
expr_kind_index (ExprKind.New x) = 65
expr_kind_index (ExprKind.Seq x) = 66
expr_kind_index (ExprKind.Ident x) = 203
expr_kind_index (ExprKind.Lit x) = 200
expr_kind_index (ExprKind.Tpl x) = 68
expr_kind_index (ExprKind.TaggedTpl x) = 70
expr_kind_index (ExprKind.Arrow x) = 71
expr_kind_index (ExprKind.Class x) = 72
expr_kind_index (ExprKind.Yield x) = 73
expr_kind_index (ExprKind.MetaProp x) = 74
expr_kind_index (ExprKind.Await x) = 75
expr_kind_index (ExprKind.Paren x) = 76
expr_kind_index (ExprKind.PrivateName x) = 52
expr_kind_index (ExprKind.OptChain x) = 77
expr_kind_index (ExprKind.Invalid x) = 81

expr_kind_number : {T : Type 0} (s : T → Bool) (f : T → Tree) → (k : ExprKindOf T) → group (seen_expr_kind s f k) ≡ expr_kind_index k
expr_kind_number s f (ExprKind.This x) = refl
expr_kind_number s f (ExprKind.Array x) = refl
expr_kind_number s f (ExprKind.Object x) = refl
expr_kind_number s f (ExprKind.Fn x) = refl
expr_kind_number s f (ExprKind.Unary x) = refl
expr_kind_number s f (ExprKind.Update x) = refl
expr_kind_number s f (ExprKind.Bin x) = refl
expr_kind_number s f (ExprKind.Assign x) = refl
expr_kind_number s f (ExprKind.Member x) = refl
expr_kind_number s f (ExprKind.SuperProp x) = refl
expr_kind_number s f (ExprKind.Cond x) = refl
expr_kind_number s f (ExprKind.Call x) = refl
expr_kind_number s f (ExprKind.New x) = refl
expr_kind_number s f (ExprKind.Seq x) = refl
expr_kind_number s f (ExprKind.Ident x) = refl
expr_kind_number s f (ExprKind.Lit x) = lit_together x
expr_kind_number s f (ExprKind.Tpl x) = refl
expr_kind_number s f (ExprKind.TaggedTpl x) = refl
expr_kind_number s f (ExprKind.Arrow x) = refl
expr_kind_number s f (ExprKind.Class x) = refl
expr_kind_number s f (ExprKind.Yield x) = refl
expr_kind_number s f (ExprKind.MetaProp x) = refl
expr_kind_number s f (ExprKind.Await x) = refl
expr_kind_number s f (ExprKind.Paren x) = refl
expr_kind_number s f (ExprKind.PrivateName x) = refl
expr_kind_number s f (ExprKind.OptChain x) = refl
expr_kind_number s f (ExprKind.Invalid x) = refl

pub expr_kind_apart : {T : Type 0} (s : T → Bool) (f : T → Tree) → (a b : ExprKindOf T) → nat_eq (expr_kind_index a) (expr_kind_index b) ≡ false → false ≡ same (seen_expr_kind s f a) (seen_expr_kind s f b)
expr_kind_apart s f a b h = by_group (seen_expr_kind s f a) (seen_expr_kind s f b) (rw (expr_kind_number s f a) (rw (expr_kind_number s f b) h))

abbrev member_prop_index : {T : Type 0} → MemberPropOf T → ℕ
member_prop_index (MemberProp.Ident x) = 50
member_prop_index (MemberProp.PrivateName x) = 52
member_prop_index (MemberProp.Computed x) = 51

member_prop_number : {T : Type 0} (f : T → Tree) → (k : MemberPropOf T) → group (view_member_prop f k) ≡ member_prop_index k
member_prop_number f (MemberProp.Ident x) = refl
member_prop_number f (MemberProp.PrivateName x) = refl
member_prop_number f (MemberProp.Computed x) = refl

pub member_prop_apart : {T : Type 0} (f : T → Tree) → (a b : MemberPropOf T) → nat_eq (member_prop_index a) (member_prop_index b) ≡ false → false ≡ same (view_member_prop f a) (view_member_prop f b)
member_prop_apart f a b h = by_group (view_member_prop f a) (view_member_prop f b) (rw (member_prop_number f a) (rw (member_prop_number f b) h))

abbrev super_prop_index : {T : Type 0} → SuperPropOf T → ℕ
super_prop_index (SuperProp.Ident x) = 50
super_prop_index (SuperProp.Computed x) = 51

super_prop_number : {T : Type 0} (f : T → Tree) → (k : SuperPropOf T) → group (view_super_prop f k) ≡ super_prop_index k
super_prop_number f (SuperProp.Ident x) = refl
super_prop_number f (SuperProp.Computed x) = refl

pub super_prop_apart : {T : Type 0} (f : T → Tree) → (a b : SuperPropOf T) → nat_eq (super_prop_index a) (super_prop_index b) ≡ false → false ≡ same (view_super_prop f a) (view_super_prop f b)
super_prop_apart f a b h = by_group (view_super_prop f a) (view_super_prop f b) (rw (super_prop_number f a) (rw (super_prop_number f b) h))

abbrev opt_chain_base_index : {T : Type 0} → OptChainBaseOf T → ℕ
opt_chain_base_index (OptChainBase.Member x) = 61
opt_chain_base_index (OptChainBase.Call x) = 78

opt_chain_base_number : {T : Type 0} (f : T → Tree) → (k : OptChainBaseOf T) → group (view_opt_chain_base f k) ≡ opt_chain_base_index k
opt_chain_base_number f (OptChainBase.Member x) = refl
opt_chain_base_number f (OptChainBase.Call x) = refl

pub opt_chain_base_apart : {T : Type 0} (f : T → Tree) → (a b : OptChainBaseOf T) → nat_eq (opt_chain_base_index a) (opt_chain_base_index b) ≡ false → false ≡ same (view_opt_chain_base f a) (view_opt_chain_base f b)
opt_chain_base_apart f a b h = by_group (view_opt_chain_base f a) (view_opt_chain_base f b) (rw (opt_chain_base_number f a) (rw (opt_chain_base_number f b) h))

abbrev prop_or_spread_index : {T : Type 0} → PropOrSpreadOf T → ℕ
prop_or_spread_index (PropOrSpread.Spread x) = 83
prop_or_spread_index (PropOrSpread.Prop x) = 203

prop_or_spread_number : {T : Type 0} (f : T → Tree) → (k : PropOrSpreadOf T) → group (view_prop_or_spread f k) ≡ prop_or_spread_index k
prop_or_spread_number f (PropOrSpread.Spread x) = refl
prop_or_spread_number f (PropOrSpread.Prop x) = prop_together f x.value

pub prop_or_spread_apart : {T : Type 0} (f : T → Tree) → (a b : PropOrSpreadOf T) → nat_eq (prop_or_spread_index a) (prop_or_spread_index b) ≡ false → false ≡ same (view_prop_or_spread f a) (view_prop_or_spread f b)
prop_or_spread_apart f a b h = by_group (view_prop_or_spread f a) (view_prop_or_spread f b) (rw (prop_or_spread_number f a) (rw (prop_or_spread_number f b) h))

abbrev pat_kind_index : {T : Type 0} → PatKindOf T → ℕ
pat_kind_index (PatKind.Ident x) = 95
pat_kind_index (PatKind.Array x) = 96
pat_kind_index (PatKind.Rest x) = 97
pat_kind_index (PatKind.Object x) = 98
pat_kind_index (PatKind.Assign x) = 99
pat_kind_index (PatKind.Expr x) = 102
pat_kind_index (PatKind.Invalid x) = 103

pat_kind_number : {T : Type 0} (f : T → Tree) → (k : PatKindOf T) → group (view_pat_kind f k) ≡ pat_kind_index k
pat_kind_number f (PatKind.Ident x) = refl
pat_kind_number f (PatKind.Array x) = refl
pat_kind_number f (PatKind.Rest x) = refl
pat_kind_number f (PatKind.Object x) = refl
pat_kind_number f (PatKind.Assign x) = refl
pat_kind_number f (PatKind.Expr x) = refl
pat_kind_number f (PatKind.Invalid x) = refl

pub pat_kind_apart : {T : Type 0} (f : T → Tree) → (a b : PatKindOf T) → nat_eq (pat_kind_index a) (pat_kind_index b) ≡ false → false ≡ same (view_pat_kind f a) (view_pat_kind f b)
pat_kind_apart f a b h = by_group (view_pat_kind f a) (view_pat_kind f b) (rw (pat_kind_number f a) (rw (pat_kind_number f b) h))

pub expr_pat_rule : (t u : Tree) → same (expr_pat t) (expr_pat u) ≡ same t u
unfolding same
expr_pat_rule t u = refl

pub invalid_pat_rule : (s s2 : Span) → same (invalid_pat s) (invalid_pat s2) ≡ same (invalid s) (invalid s2)
unfolding same
invalid_pat_rule s s2 = refl

pub ruleset pat_kind_cases = (pat_kind_apart, expr_pat_rule, invalid_pat_rule)

abbrev object_pat_prop_index : {T : Type 0} → ObjectPatPropOf T → ℕ
object_pat_prop_index (ObjectPatProp.KeyValue x) = 100
object_pat_prop_index (ObjectPatProp.Assign x) = 101
object_pat_prop_index (ObjectPatProp.Rest x) = 97

object_pat_prop_number : {T : Type 0} (f : T → Tree) → (k : ObjectPatPropOf T) → group (view_object_pat_prop f k) ≡ object_pat_prop_index k
object_pat_prop_number f (ObjectPatProp.KeyValue x) = refl
object_pat_prop_number f (ObjectPatProp.Assign x) = refl
object_pat_prop_number f (ObjectPatProp.Rest x) = refl

pub object_pat_prop_apart : {T : Type 0} (f : T → Tree) → (a b : ObjectPatPropOf T) → nat_eq (object_pat_prop_index a) (object_pat_prop_index b) ≡ false → false ≡ same (view_object_pat_prop f a) (view_object_pat_prop f b)
object_pat_prop_apart f a b h = by_group (view_object_pat_prop f a) (view_object_pat_prop f b) (rw (object_pat_prop_number f a) (rw (object_pat_prop_number f b) h))

abbrev assign_target_index : {T : Type 0} → AssignTargetOf T → ℕ
assign_target_index (AssignTarget.Ident x) = 95
assign_target_index (AssignTarget.Member x) = 61
assign_target_index (AssignTarget.SuperProp x) = 62
assign_target_index (AssignTarget.Paren x) = 76
assign_target_index (AssignTarget.OptChain x) = 77
assign_target_index (AssignTarget.Array x) = 96
assign_target_index (AssignTarget.Object x) = 98
assign_target_index (AssignTarget.Invalid x) = 104

assign_target_number : {T : Type 0} (f : T → Tree) → (k : AssignTargetOf T) → group (view_assign_target f k) ≡ assign_target_index k
assign_target_number f (AssignTarget.Ident x) = refl
assign_target_number f (AssignTarget.Member x) = refl
assign_target_number f (AssignTarget.SuperProp x) = refl
assign_target_number f (AssignTarget.Paren x) = refl
assign_target_number f (AssignTarget.OptChain x) = refl
assign_target_number f (AssignTarget.Array x) = refl
assign_target_number f (AssignTarget.Object x) = refl
assign_target_number f (AssignTarget.Invalid x) = refl

pub assign_target_apart : {T : Type 0} (f : T → Tree) → (a b : AssignTargetOf T) → nat_eq (assign_target_index a) (assign_target_index b) ≡ false → false ≡ same (view_assign_target f a) (view_assign_target f b)
assign_target_apart f a b h = by_group (view_assign_target f a) (view_assign_target f b) (rw (assign_target_number f a) (rw (assign_target_number f b) h))

pub invalid_target_rule : (s s2 : Span) → same (invalid_target s) (invalid_target s2) ≡ same (invalid s) (invalid s2)
unfolding same
invalid_target_rule s s2 = refl

pub ruleset assign_target_cases = (assign_target_apart, invalid_target_rule)
