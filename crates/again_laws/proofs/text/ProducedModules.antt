-- Imports and exports that produce tokens.
use Rattle.std.proofs.Common.{◌≡◌, ℕ, ⊎_elim, true, false, refl, sym, ◌∙◌}
use Rattle.std.proofs.lemmas.Bool.{false≢true}
use Rattle.std.proofs.lemmas.Option.{none-some}
use Rattle.base_token.specs.declared.place.Span.{Span}
use Rattle.base_token.specs.Kinds.{right_brace_kind}
use Rattle.tree_spec.specs.Tree.{Tree, Trees, none, more, import_decl, export_decl, named_export, export_default_decl, export_default_expr, export_all, import_named_specifier, import_default_specifier, import_star_as_specifier, export_namespace_specifier, export_named_specifier, class_expr, class_decl, class, fn_expr, fn_decl, function, var_decl, block_stmt, ident, str_lit, absent}
use Rattle.grammar_spec.specs.Tokens.Input.{Input, Code, in_list, with_in, turned_strict, setting}
use Rattle.grammar_spec.specs.Tokens.Shape.{is_absent, is_string, is_attributes, export_name, is_named_import, is_named_export}
use Rattle.print_gaps.specs.Edges.{is_there}
use Rattle.grammar_spec.specs.Grammar.{Produces, children}
use Rattle.print_layout_spec.specs.declared.look.Look.{Look}
use Rattle.grammar_spec.specs.Children.{is_ident, child, IsEmpty, Sorted, Listed}
use Rattle.grammar_spec.specs.Modules.{ExportName, AfterDefault, ImportClause, Source, ExportList}
use Rattle.again_laws.proofs.text.Forms.{Good, Sound, AllSound, all_sorted, not_absent}
use Rattle.again_laws.proofs.text.Patterns.{PlainPart}
use Rattle.again_laws.proofs.text.Modules.{AllNamed, AllExported, Clause, no_clause, names_clause, star_clause, default_names, default_star, import_node, named_alone, named_as, default_node, star_node, space_node, exported_alone, exported_as, export_list, export_space, all_node, export_function, export_variables, export_class, default_class, default_function, default_expression}
use Rattle.again_laws.proofs.text.ProducedFunctions.{Inside, members, heritage, function_params, function_items}
use Rattle.again_laws.proofs.text.GrammarToLayout.{by_there, either_by, assigned}

ident_plain : (t : Tree) → is_ident t ≡ true → PlainPart t
ident_plain (ident s n) e = record { plain = refl; opens = refl; no_star = refl }
ident_plain _ e = absurd (false≢true e)

string_plain : (t : Tree) → is_string t ≡ true → PlainPart t
string_plain (str_lit s u w) e = record { plain = refl; opens = refl; no_star = refl }
string_plain _ e = absurd (false≢true e)

none_named : (xs : Trees) → IsEmpty (children xs) → AllNamed xs
none_named none h = tt
none_named (more x xs) h = absurd h

named_of : (c : Code) (close : ℕ) (xs : Trees) (ts r : Input) → Listed false (Sorted is_named_import c) c close (children xs) ts r → AllNamed xs
named_of c close none ts r h = tt
named_of c close (more x xs) ts r h = (h.1.0, ⊎_elim (λ z. named_of c close xs _ _ z.3) (λ z. none_named xs z.0) h.2)

none_exported : (xs : Trees) → IsEmpty (children xs) → AllExported xs
none_exported none h = tt
none_exported (more x xs) h = absurd h

exported_of : (c : Code) (close : ℕ) (xs : Trees) (ts r : Input) → Listed false (Sorted is_named_export c) c close (children xs) ts r → AllExported xs
exported_of c close none ts r h = tt
exported_of c close (more x xs) ts r h = (h.1.0, ⊎_elim (λ z. exported_of c close xs _ _ z.3) (λ z. none_exported xs z.0) h.2)

module _ (look : Look) where
  -- a name of an export, whose word may be reserved
  named_good : (k : Tree) → (is_ident k ≡ true → Good look k) → Sound look k → (c : Code) (ts r : Input) → ExportName c (export_name k) (child k (λ y. Produces k y)) ts r → Good look k
  named_good (ident s n) e f c ts r h = e refl
  named_good k e f c ts r h = f c ts r h.1

  named_plain : (k : Tree) (c : Code) (ts r : Input) → ExportName c (export_name k) (child k (λ y. Produces k y)) ts r → PlainPart k
  named_plain (ident s n) c ts r h = record { plain = refl; opens = refl; no_star = refl }
  named_plain k c ts r h = string_plain k h.0

  pub named_import : (s : Span) (l i : Tree) → Sound look l → (is_ident i ≡ true → Good look i) → Sound look i → Sound look (import_named_specifier s l i)
  named_import s l absent f e g c ts r h = named_alone look s l (f c ts r h.0.1) (ident_plain l h.0.0)
  named_import s l i f e g c ts r h = named_as look s l i (f c h.0.1 r h.0.4.1) (ident_plain l h.0.4.0) (named_good i e g c ts h.0.0 h.0.2) (named_plain i c ts h.0.0 h.0.2) refl

  pub default_import : (s : Span) (l : Tree) → Sound look l → Sound look (import_default_specifier s l)
  default_import s l f c ts r h = default_node look s l (f c ts r h.0.1) (ident_plain l h.0.0)

  pub star_import : (s : Span) (l : Tree) → Sound look l → Sound look (import_star_as_specifier s l)
  star_import s l f c ts r h = star_node look s l (f c h.1 r h.4.1) (ident_plain l h.4.0)

  pub star_export : (s : Span) (k : Tree) → (is_ident k ≡ true → Good look k) → Sound look k → Sound look (export_namespace_specifier s k)
  star_export s k e f c ts r h = space_node look s k (named_good k e f c h.1 r h.4) (named_plain k c h.1 r h.4)

  pub named_export_on : (s : Span) (o e : Tree) → (is_ident o ≡ true → Good look o) → Sound look o → (is_ident e ≡ true → Good look e) → Sound look e → Sound look (export_named_specifier s o e)
  named_export_on s o absent i f j g c ts r h = exported_alone look s o (named_good o i f c ts h.0 h.1) (named_plain o c ts h.0 h.1)
  named_export_on s o e i f j g c ts r h = exported_as look s o e (named_good o i f c ts h.0 h.1) (named_plain o c ts h.0 h.1) (named_good e j g c h.2.0 r h.2.2) (named_plain e c h.2.0 r h.2.2) refl

  -- ---- imports

  after_default : (s : Span) (l : Tree) (xs : Trees) → Good look (import_default_specifier s l) → AllSound look xs → (c : Code) (ts r : Input) → AfterDefault c (children xs) ts r → Clause look (more (import_default_specifier s l) xs)
  after_default s l none k a c ts r h = default_names look s l none k tt tt
  after_default s l (more (import_star_as_specifier t y) none) k a c ts r h = default_star look s l t y k (a.0 c h.0 r h.2.1)
  after_default s l (more (import_star_as_specifier t y) (more z zs)) k a c ts r h = absurd h.2.0
  after_default s l (more y ys) k a c ts r h = default_names look s l (more y ys) k (named_of c right_brace_kind (more y ys) h.2.0 r h.2.2) (all_sorted look is_named_import false c right_brace_kind (more y ys) a h.2.0 r h.2.2)

  clause_on : (xs : Trees) → AllSound look xs → (c : Code) (ts r : Input) → ImportClause c (children xs) ts r → Clause look xs
  clause_on none a c ts r h = no_clause look
  clause_on (more (import_default_specifier s l) xs) a c ts r h = after_default s l xs (a.0 c ts h.1.0 h.1.1) a.1 c h.1.0 h.0 h.1.2
  clause_on (more (import_star_as_specifier s l) none) a c ts r h = star_clause look s l (a.0 c ts h.0 h.1.1)
  clause_on (more (import_star_as_specifier s l) (more z zs)) a c ts r h = absurd h.1.0
  clause_on (more x xs) a c ts r h = names_clause look x xs (named_of c right_brace_kind (more x xs) h.1.0 h.0 h.1.2) (all_sorted look is_named_import false c right_brace_kind (more x xs) a h.1.0 h.0 h.1.2)

  with_on : (src w : Tree) → Sound look w → (c : Code) (ts r : Input) → Source c (child src (λ y. Produces src y)) (child w (λ y. Produces w y)) ts r → is_there w ≡ true → Good look w × (is_attributes w ≡ true)
  with_on src w g c ts r h i = let q = by_there w _ _ h.2 i in (g c q.1.0 q.0 q.1.4, q.1.3)

  pub import_on : (s : Span) (xs : Trees) (src w : Tree) → AllSound look xs → Sound look src → Sound look w → Sound look (import_decl s xs src w)
  import_on s xs src w a f g c ts r h = import_node look s xs src w (clause_on xs a c h.0 h.1 h.3) (f c h.1 h.4.0 h.4.1.1) h.4.1.0 (with_on src w g c h.1 r h.4)

  -- ---- exports

  list_on : (s : Span) (xs : Trees) (src w : Tree) → AllSound look xs → Sound look src → Sound look w → (c : Code) (ts r : Input) → ExportList c (children xs) (child src (λ y. Produces src y)) (child w (λ y. Produces w y)) ts r → Good look (named_export s xs src w)
  list_on s xs src w a f g c ts r h = export_list look s xs src w (exported_of c right_brace_kind xs h.1.0 h.0 h.1.2) (all_sorted look is_named_export false c right_brace_kind xs a h.1.0 h.0 h.1.2)
      (λ i. let q = by_there src _ _ h.2 i in (f c q.0 q.2.0 q.2.1.1, q.2.1.0))
      (λ i. either_by (is_absent src) _ _ h.2 (λ z. absurd (false≢true (sym (not_absent w i) ∙ z.0))) (λ q. with_on src w g c q.0 r q.2 i))

  pub exports_on : (s : Span) (xs : Trees) (src w : Tree) → AllSound look xs → Sound look src → Sound look w → Sound look (named_export s xs src w)
  exports_on s none src w a f g c ts r h = list_on s none src w a f g c h.0 r h.2
  exports_on s (more (export_namespace_specifier t n) none) src w a f g c ts r h =
      let q = h.2.1 in export_space look s t n src w (a.0 c h.0 q.0 q.2) (λ i. (f c q.1 q.4.0 q.4.1.1, q.4.1.0)) (with_on src w g c q.1 r q.4)
  exports_on s (more (export_namespace_specifier t n) (more z zs)) src w a f g c ts r h = absurd h.2.0
  exports_on s (more x xs) src w a f g c ts r h = list_on s (more x xs) src w a f g c h.0 r h.2

  pub export_all_on : (s : Span) (src w : Tree) → Sound look src → Sound look w → Sound look (export_all s src w)
  export_all_on s src w f g c ts r h = all_node look s src w (f c h.2 h.6.0 h.6.1.1) h.6.1.0 (with_on src w g c h.2 r h.6)

  pub export_class_on : (s cs : Span) (n k : Tree) → Sound look n → Inside look k → Sound look (export_decl s (class_decl cs n k))
  export_class_on s cs n (class at' none ms p) f q c ts r h = export_class look s cs n at' ms p (λ i. f _ _ _ h.3.3.1) (members look ms q.0 _ _ _ h.3.4.5) (heritage look p q.1 none ms (turned_strict (with_in (in_list c))) h.3.1 r h.3.4)
  export_class_on s cs n (class at' (more d ds) ms p) f q c ts r h = absurd h.3.4.2
  export_class_on s cs n _ f q c ts r h = absurd (none-some cs h.3.5)

  pub export_function_on : (s fs : Span) (n k : Tree) → Sound look (fn_decl fs n k) → Sound look (export_decl s (fn_decl fs n k))
  export_function_on s fs n k f c ts r h = export_function look s fs n k (f (in_list c) h.0 r h.3)

  pub export_variables_on : (s vs : Span) (k : ℕ) (ds : Trees) → Sound look (var_decl vs k ds) → Sound look (export_decl s (var_decl vs k ds))
  export_variables_on s vs k ds f c ts r h = export_variables look s vs k ds (f (in_list c) h.0 r h.3)

  pub default_class_on : (s cs : Span) (n k : Tree) → Sound look n → Inside look k → Sound look (export_default_decl s (class_expr cs n k))
  default_class_on s cs n (class at' none ms p) f q c ts r h = default_class look s cs n at' ms p (λ i. f _ _ _ (by_there n _ _ h.3.3 i).1) (members look ms q.0 _ _ _ h.3.4.5) (heritage look p q.1 none ms (turned_strict (with_in c)) h.3.1 r h.3.4)
  default_class_on s cs n (class at' (more d ds) ms p) f q c ts r h = absurd h.3.4.2
  default_class_on s cs n _ f q c ts r h = absurd (none-some cs h.3.5)

  pub default_function_on : (s fs : Span) (n k : Tree) → Sound look n → Inside look k → Sound look (export_default_decl s (fn_expr fs n k))
  default_function_on s fs n (function at' ps ds (block_stmt b ss) g w) p q c ts r h =
      default_function look s fs n at' ps ds b ss g w (λ i. p _ _ _ (by_there n _ _ h.3.3 i).1) (function_params look (setting false c) ps ds b ss g w q.0 h.3.1 r h.3.4) (function_items look (setting false c) ps ds b ss g w q.1 h.3.1 r h.3.4)
  default_function_on s fs n (function at' ps ds _ g w) p q c ts r h = absurd h.3.4
  default_function_on s fs n _ p q c ts r h = absurd h.3

  pub default_expression_on : (s : Span) (e : Tree) → Sound look e → Sound look (export_default_expr s e)
  default_expression_on s e f c ts r h = default_expression look s e (f _ _ _ h.4.1) (assigned e h.4.0)
