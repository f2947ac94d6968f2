-- Scripts and modules that produce tokens can be printed.
use Rattle.std.proofs.Common.{ℕ, true, false, List, Option}
use Rattle.base_token.specs.declared.place.Span.{Span}
use Rattle.base_token.specs.Kinds.{right_brace_kind}
use Rattle.tree_spec.specs.Tree.{Tree, Trees, none, more, script, es_module, import_decl, export_decl, named_export, export_default_decl, export_default_expr, export_all, import_named_specifier, import_default_specifier, import_star_as_specifier, export_namespace_specifier, export_named_specifier, class_decl, class_expr, class, ident, absent}
use Rattle.grammar_spec.specs.Tokens.Input.{Input, Code}
use Rattle.grammar_spec.specs.Tokens.Shape.{is_absent, is_item, is_default_import, is_star_import, is_named_import, is_star_export, is_named_export, export_name}
use Rattle.grammar_spec.specs.Children.{child, is_module_item, AtEnd}
use Rattle.grammar_spec.specs.Modules.{ExportName, NamedImports, AfterDefault, ImportClause, Source, NamedExports, ExportList, Specified}
use Rattle.grammar_spec.specs.Grammar.{Produces, children}
use Rattle.print_layout_spec.specs.declared.look.Look.{Look}
use Rattle.print_layout_spec.specs.declared.look.Stand.TheVariants.{Alone, Key}
use Rattle.print_layout_spec.specs.Layout.{is_named, is_no_namespace}
use Rattle.print_layout_laws.proofs.Fine.{◌▸◌, first, second, ok, when_fine, if_fine, maybe, ended_fine, hashbang_fine, identifier_fine, from_fine, attributes_fine, imports_fine, exports_fine}
use Rattle.print_layout_laws.proofs.PrintedLists.{Good, AllGood, statements_fine, import_heads_fine, named_items_fine, first_namespace_fine}
use Rattle.print_layout_laws.proofs.Forms.{Sound, AllSound, either, absent_good, maybe_good, none_good, all_sorted, items}

module _ (look : Look) where
  -- ---- 16.2.2 imports

  -- a name of an export: any word, or a string
  named : (t : Tree) → Sound look t → (c : Code) (ts r : Input) → ExportName c (export_name t) (child t (λ y. Produces t y)) ts r → Good look t
  named (ident s n) f c ts r h st = identifier_fine look s n
  named t f c ts r h st = f c ts r h.1 st

  import_named_good : (s : Span) (l i : Tree) → Good look l → Good look i → Good look (import_named_specifier s l i)
  import_named_good s l absent p q st = ok ▸ p Alone ▸ ok
  import_named_good s l i p q st = ok ▸ q Key ▸ ok ▸ ok ▸ ok ▸ p Alone ▸ ok

  pub named_import : (s : Span) (l i : Tree) → Sound look l → Sound look i → Sound look (import_named_specifier s l i)
  named_import s l i f g c ts r h = either (is_absent i) h.0
      (λ e z. import_named_good s l i (f _ _ _ z.1) (absent_good look i e))
      (λ e z. import_named_good s l i (f _ _ _ z.4.1) (named i g c ts z.0 z.2))

  pub default_import : (s : Span) (l : Tree) → Sound look l → Sound look (import_default_specifier s l)
  default_import s l f c ts r h st = f _ _ _ h.0.1 Alone

  pub star_import : (s : Span) (l : Tree) → Sound look l → Sound look (import_star_as_specifier s l)
  star_import s l f c ts r h st = ok ▸ maybe _ _ ▸ ok ▸ ok ▸ f _ _ _ h.4.1 Alone

  named_imports : (xs : Trees) → AllSound look xs → (c : Code) (ts r : Input) → NamedImports c (children xs) ts r → AllGood look xs
  named_imports xs a c ts r h = all_sorted look is_named_import false c right_brace_kind xs a h.0 r h.2

  after_default : (xs : Trees) → AllSound look xs → (c : Code) (ts r : Input) → AfterDefault c (children xs) ts r → AllGood look xs
  after_default none a c ts r h = tt
  after_default (more x xs) a c ts r h = either (is_star_import x) h.2 (λ e z. (a.0 _ _ _ z.1, none_good look xs z.0)) (λ e z. named_imports (more x xs) a c h.0 r z)

  import_clause : (xs : Trees) → AllSound look xs → (c : Code) (ts r : Input) → ImportClause c (children xs) ts r → AllGood look xs
  import_clause none a c ts r h = tt
  import_clause (more x xs) a c ts r h = either (is_default_import x) h.1
      (λ e z. (a.0 _ _ _ z.1, after_default xs a.1 c z.0 h.0 z.2))
      (λ e z. either (is_star_import x) z (λ d y. (a.0 _ _ _ y.1, none_good look xs y.0)) (λ d y. named_imports (more x xs) a c ts h.0 y))

  source : (f w : Tree) → Sound look f → Sound look w → (c : Code) (ts r : Input) → Source c (child f (λ y. Produces f y)) (child w (λ y. Produces w y)) ts r → Good look f × Good look w
  source f w p q c ts r h = (p _ _ _ h.1.1, maybe_good look _ w h.2 (λ z. q _ _ _ z.1.4))

  pub import_on : (s : Span) (xs : Trees) (f w : Tree) → AllSound look xs → Sound look f → Sound look w → Sound look (import_decl s xs f w)
  import_on s xs f w a p q c ts r h st = let z = import_clause xs a c h.0 h.1 h.3 in let y = source f w p q c h.1 r h.4 in
      ok ▸ ok ▸ if_fine _ ok (maybe _ _) ▸ imports_fine look xs (import_heads_fine look false xs z) (named_items_fine look is_named false xs z) ▸ y.0 Key ▸ attributes_fine look w (y.1 Alone) ▸ ok ▸ ok

  -- ---- 16.2.3 exports

  export_named_good : (s : Span) (o e : Tree) → Good look o → Good look e → Good look (export_named_specifier s o e)
  export_named_good s o absent p q st = ok ▸ p Key ▸ ok
  export_named_good s o e p q st = ok ▸ p Key ▸ ok ▸ ok ▸ ok ▸ q Key ▸ ok

  pub named_export_on : (s : Span) (o e : Tree) → Sound look o → Sound look e → Sound look (export_named_specifier s o e)
  named_export_on s o e f g c ts r h = export_named_good s o e (named o f c ts h.0 h.1) (maybe_good look _ e h.2 (λ z. named e g c z.0 r z.2))

  pub star_export : (s : Span) (n : Tree) → Sound look n → Sound look (export_namespace_specifier s n)
  star_export s n f c ts r h st = ok ▸ ok ▸ maybe _ _ ▸ ok ▸ ok ▸ named n f c h.1 r h.4 Key ▸ ok

  named_exports : (xs : Trees) → AllSound look xs → (c : Code) (ts r : Input) → NamedExports c (children xs) ts r → AllGood look xs
  named_exports xs a c ts r h = all_sorted look is_named_export false c right_brace_kind xs a h.0 r h.2

  export_list : (xs : Trees) (f w : Tree) → AllSound look xs → Sound look f → Sound look w → (c : Code) (ts r : Input) → ExportList c (children xs) (child f (λ y. Produces f y)) (child w (λ y. Produces w y)) ts r
      → AllGood look xs × Good look f × Good look w
  export_list xs f w a p q c ts r h = let k = named_exports xs a c ts h.0 h.1 in either (is_absent f) h.2
      (λ e z. (k, absent_good look f e, absent_good look w z.0))
      (λ e z. let y = source f w p q c z.0 r z.2 in (k, y.0, y.1))

  specified : (xs : Trees) (f w : Tree) → AllSound look xs → Sound look f → Sound look w → (c : Code) (ts r : Input) → Specified c (children xs) (child f (λ y. Produces f y)) (child w (λ y. Produces w y)) ts r
      → AllGood look xs × Good look f × Good look w
  specified none f w a p q c ts r h = export_list none f w a p q c ts r h
  specified (more x xs) f w a p q c ts r h = either (is_star_export x) h
      (λ e z. let y = source f w p q c z.1.1 r z.1.4 in ((a.0 _ _ _ z.1.2, none_good look xs z.0), y.0, y.1))
      (λ e z. export_list (more x xs) f w a p q c ts r z)

  pub exports_on : (s : Span) (xs : Trees) (f w : Tree) → AllSound look xs → Sound look f → Sound look w → Sound look (named_export s xs f w)
  exports_on s xs f w a p q c ts r h st = let z = specified xs f w a p q c h.0 r h.2 in
      ok ▸ ok ▸ maybe _ _ ▸ first_namespace_fine look xs z.0 ▸ exports_fine look xs (named_items_fine look is_no_namespace false xs z.0)
      ▸ when_fine _ (if_fine _ ok (maybe _ _) ▸ from_fine look (z.1 Key) ▸ attributes_fine look w (z.2 Alone)) ▸ ok ▸ ok

  pub export_all_on : (s : Span) (f w : Tree) → Sound look f → Sound look w → Sound look (export_all s f w)
  export_all_on s f w p q c ts r h st = let y = source f w p q c h.2 r h.6 in
      ok ▸ ok ▸ maybe _ _ ▸ ok ▸ maybe _ _ ▸ from_fine look (y.0 Key) ▸ attributes_fine look w (y.1 Alone) ▸ ok ▸ ok

  -- A class stands behind `export` as it stands alone, with its decorators before that.
  export_good : (s : Span) (d : Tree) → Good look d → Good look (export_decl s d)
  export_good s (class_decl cs id (class at ds ms p)) f st = let z = second (f Alone) in ok ▸ first z ▸ ok ▸ ok ▸ ok ▸ second z
  export_good s d f st = ok ▸ ok ▸ ok ▸ f Alone ▸ ended_fine d s

  default_good : (s : Span) (d : Tree) → Good look d → Good look (export_default_decl s d)
  default_good s (class_expr cs id (class at ds ms p)) f st = let z = second (f Alone) in ok ▸ first z ▸ ok ▸ ok ▸ ok ▸ ok ▸ ok ▸ second z
  default_good s d f st = ok ▸ ok ▸ ok ▸ ok ▸ ok ▸ f Alone

  pub export_declaration : (s : Span) (d : Tree) → Sound look d → Sound look (export_decl s d)
  export_declaration s d f c ts r h = export_good s d (f _ _ _ h.3)

  pub default_declaration : (s : Span) (d : Tree) → Sound look d → Sound look (export_default_decl s d)
  default_declaration s d f c ts r h = default_good s d (f _ _ _ h.3)

  pub default_expression : (s : Span) (e : Tree) → Sound look e → Sound look (export_default_expr s e)
  default_expression s e f c ts r h st = ok ▸ ok ▸ ok ▸ ok ▸ maybe _ _ ▸ f _ _ _ h.4.1 Alone ▸ ok ▸ ok

  -- ---- 16.1, 16.2

  pub script_on : (s : Span) (ss : Trees) (l : Option (List ℕ)) → AllSound look ss → Sound look (script s ss l)
  script_on s ss l a c ts r h st = maybe _ _ ▸ hashbang_fine l ▸ statements_fine look ss (items look is_item AtEnd c true ss a h.0 r h.2) ▸ maybe _ _

  pub module_on : (s : Span) (ss : Trees) (l : Option (List ℕ)) → AllSound look ss → Sound look (es_module s ss l)
  module_on s ss l a c ts r h st = maybe _ _ ▸ hashbang_fine l ▸ statements_fine look ss (items look is_module_item AtEnd c true ss a h.0 r h.2) ▸ maybe _ _
