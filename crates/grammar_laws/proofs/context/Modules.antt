-- Scripts and modules under their goals and in their contexts.
use Rattle.std.proofs.Common.{◌≡◌, ℕ, ◌⊎◌, inl, inr, Bool, true, false, List, [], ◌∷◌, Option, Some, None, sym, ◌∙◌}
use Rattle.base_token.specs.declared.place.Span.{Span}
use Rattle.base_token.specs.Kinds.{left_brace_kind, right_brace_kind, comma_kind, mul_kind, shebang_kind, default_kind, with_kind, export_kind, import_kind, as_kind, assert_kind, from_kind}
use Rattle.tree_spec.specs.Tree.{Tree}
use Rattle.grammar_spec.specs.Tokens.Input.{Input, Code, TakesWord, brk, in_list}
use Rattle.grammar_spec.specs.Tokens.Operators.{assignment_level, exports_end, source_end, plain_end}
use Rattle.grammar_spec.specs.Tokens.Shape.{ends, is_absent, is_string, is_default_import, is_star_import, is_named_import, is_star_export, is_named_export, export_name}
use Rattle.grammar_spec.specs.Children.{is_ident, Child, By, IsEmpty, Sorted, Ends, AtEnd}
use Rattle.grammar_spec.specs.Modules.{ExportName, NamedImport, DefaultImport, StarImport, NamedImports, AfterDefault, ImportClause, Attributes, Source, Import, NamedExport, StarExport, NamedExports, ExportList, ExportStarAs, Specified, Exports, ExportAll, ExportDeclaration, ExportDefault, DefaultDeclaration, DefaultExpression, Hashbang, Program}
use Rattle.grammar_laws.specs.Context.Laws.{placing}
use Rattle.grammar_laws.proofs.context.Kin.{Kin, Moves, spans_like}
use Rattle.grammar_laws.proofs.context.Forms.{Moved, AllMoved, same, either, expr, sorted, listed, ends_on, items}

module _ (p : Bool) (kin : Kin p) where
  export_name_on : (c : Code) (o : Option (List ℕ × Span)) (a : Child) → Moved p kin a → Moves p kin (ExportName c o a) (ExportName (placing p c) o a)
  export_name_on c (Some n) a f ts r q h l = let z = kin.take_any c n.0 ts r q h.0 l in (z.0, z.1, (z.2, spans_like p kin n.1 ts z.0 r q z.1 l h.1))
  export_name_on c None a f ts r q h l = sorted p kin is_string c a f ts r q h l

  -- ---- 16.2.2

  abbrev As : Code → Child → Child → Input → Input → Type 0
  As c a i ts r = By (is_absent i.tree) (Sorted is_ident c a ts r) ((m : Input) × (n : Input) × ExportName c (export_name i.tree) i ts m × TakesWord c as_kind m n × Sorted is_ident c a n r)

  as_on : (c : Code) (a i : Child) → Moved p kin a → Moved p kin i → Moves p kin (As c a i) (As (placing p c) a i)
  as_on c a i f g ts r q h l = either p kin (is_absent i.tree) ts h (λ k. sorted p kin is_ident c a f ts r q k l)
      (λ k. let z = sorted p kin is_ident c a f k.1 r q k.4 l in let y = kin.take_word c as_kind k.0 k.1 z.0 k.3 z.1 in let x = export_name_on c (export_name i.tree) i g ts k.0 y.0 k.2 y.1 in (x.0, x.1, (y.0, z.0, x.2, y.2, z.2)))

  pub named_import : (c : Code) (s : Span) (a i : Child) → Moved p kin a → Moved p kin i → Moves p kin (NamedImport c s a i) (NamedImport (placing p c) s a i)
  named_import c s a i f g ts r q h l = let z = as_on c a i f g ts r q h.0 l in (z.0, z.1, (z.2, spans_like p kin s ts z.0 r q z.1 l h.1))

  pub default_import : (c : Code) (s : Span) (a : Child) → Moved p kin a → Moves p kin (DefaultImport c s a) (DefaultImport (placing p c) s a)
  default_import c s a f ts r q h l = let z = sorted p kin is_ident c a f ts r q h.0 l in (z.0, z.1, (z.2, spans_like p kin s ts z.0 r q z.1 l h.1))

  pub star_import : (c : Code) (s : Span) (a : Child) → Moved p kin a → Moves p kin (StarImport c s a) (StarImport (placing p c) s a)
  star_import c s a f ts r q h l = let z = sorted p kin is_ident c a f h.1 r q h.4 l in let y = kin.take_word c as_kind h.0 h.1 z.0 h.3 z.1 in let x = kin.take c mul_kind ts h.0 y.0 h.2 y.1 in (x.0, x.1, (y.0, z.0, x.2, y.2, z.2, spans_like p kin s ts x.0 r q x.1 l h.5))

  named_imports : (c : Code) (xs : List Child) → AllMoved p kin xs → Moves p kin (NamedImports c xs) (NamedImports (placing p c) xs)
  named_imports c xs a ts r q h l = let z = listed p kin (Sorted is_named_import c) (Sorted is_named_import (placing p c)) (λ x f. sorted p kin is_named_import c x f) false c right_brace_kind xs a h.0 r q h.2 l in
      let y = kin.take c left_brace_kind ts h.0 z.0 h.1 z.1 in (y.0, y.1, (z.0, y.2, z.2))

  abbrev StarOrNames : Code → Child → List Child → Input → Input → Type 0
  StarOrNames c x xs m r = By (is_star_import x.tree) (IsEmpty xs × x.produced c m r) (NamedImports c (x ∷ xs) m r)

  star_or_names : (c : Code) (x : Child) (xs : List Child) → AllMoved p kin (x ∷ xs) → Moves p kin (StarOrNames c x xs) (StarOrNames (placing p c) x xs)
  star_or_names c x xs a ts r q h l = either p kin (is_star_import x.tree) ts h (λ k. let z = a.0 c ts r q k.1 l in (z.0, z.1, (k.0, z.2))) (λ k. named_imports c (x ∷ xs) a ts r q k l)

  after_default : (c : Code) (xs : List Child) → AllMoved p kin xs → Moves p kin (AfterDefault c xs) (AfterDefault (placing p c) xs)
  after_default c [] a ts r q (inl h) l = let z = same p kin ts r q h l in (z.0, z.1, inl z.2)
  after_default c [] a ts r q (inr h) l = let z = named_imports c [] tt h.0 r q h.2 l in let y = kin.take c comma_kind ts h.0 z.0 h.1 z.1 in (y.0, y.1, inr (z.0, y.2, z.2))
  after_default c (x ∷ xs) a ts r q h l = let z = star_or_names c x xs a h.0 r q h.2 l in let y = kin.take c comma_kind ts h.0 z.0 h.1 z.1 in (y.0, y.1, (z.0, y.2, z.2))

  abbrev Clauses : Code → Child → List Child → Input → Input → Type 0
  Clauses c x xs ts m = By (is_default_import x.tree) ((n : Input) × x.produced c ts n × AfterDefault c xs n m) (StarOrNames c x xs ts m)

  clauses : (c : Code) (x : Child) (xs : List Child) → AllMoved p kin (x ∷ xs) → Moves p kin (Clauses c x xs) (Clauses (placing p c) x xs)
  clauses c x xs a ts r q h l = either p kin (is_default_import x.tree) ts h (λ k. let z = after_default c xs a.1 k.0 r q k.2 l in let y = a.0 c ts k.0 z.0 k.1 z.1 in (y.0, y.1, (z.0, y.2, z.2))) (λ k. star_or_names c x xs a ts r q k l)

  import_clause : (c : Code) (xs : List Child) → AllMoved p kin xs → Moves p kin (ImportClause c xs) (ImportClause (placing p c) xs)
  import_clause c [] a ts r q (inl h) l = let z = same p kin ts r q h l in (z.0, z.1, inl z.2)
  import_clause c [] a ts r q (inr h) l = let z = kin.take_word c from_kind h.0 r q h.2 l in let y = named_imports c [] tt ts h.0 z.0 h.1 z.1 in (y.0, y.1, inr (z.0, y.2, z.2))
  import_clause c (x ∷ xs) a ts r q h l = let z = kin.take_word c from_kind h.0 r q h.2 l in let y = clauses c x xs a ts h.0 z.0 h.1 z.1 in (y.0, y.1, (z.0, y.2, z.2))

  attributes_word : (c : Code) → Moves p kin (λ ts m. TakesWord c with_kind ts m ⊎ ((brk ts ≡ false) × TakesWord c assert_kind ts m)) (λ ts m. TakesWord (placing p c) with_kind ts m ⊎ ((brk ts ≡ false) × TakesWord (placing p c) assert_kind ts m))
  attributes_word c ts r q (inl h) l = let z = kin.take_word c with_kind ts r q h l in (z.0, z.1, inl z.2)
  attributes_word c ts r q (inr h) l = let z = kin.take_word c assert_kind ts r q h.1 l in (z.0, z.1, inr (sym (kin.breaks ts z.0 z.1) ∙ h.0, z.2))

  attributes : (c : Code) (w : Child) → Moved p kin w → Moves p kin (Attributes c w) (Attributes (placing p c) w)
  attributes c w f ts r q h l = let z = f c h.0 r q h.4 l in let y = attributes_word c ts h.0 z.0 h.2 z.1 in (y.0, y.1, (z.0, h.1, y.2, h.3, z.2))

  abbrev SourceEnd : Code → Child → Input → Input → Type 0
  SourceEnd c w m r = By (is_absent w.tree) (Ends c source_end m r) ((n : Input) × Attributes c w m n × Ends c plain_end n r)

  source_end_on : (c : Code) (w : Child) → Moved p kin w → Moves p kin (SourceEnd c w) (SourceEnd (placing p c) w)
  source_end_on c w f ts r q h l = either p kin (is_absent w.tree) ts h (λ k. ends_on p kin c source_end ts r q k l) (λ k. let z = ends_on p kin c plain_end k.0 r q k.2 l in let y = attributes c w f ts k.0 z.0 k.1 z.1 in (y.0, y.1, (z.0, y.2, z.2)))

  source : (c : Code) (e w : Child) → Moved p kin e → Moved p kin w → Moves p kin (Source c e w) (Source (placing p c) e w)
  source c e w f g ts r q h l = let z = source_end_on c w g h.0 r q h.2 l in let y = sorted p kin is_string c e f ts h.0 z.0 h.1 z.1 in (y.0, y.1, (z.0, y.2, z.2))

  pub import_on : (c : Code) (s : Span) (xs : List Child) (e w : Child) → AllMoved p kin xs → Moved p kin e → Moved p kin w → Moves p kin (Import c s xs e w) (Import (placing p c) s xs e w)
  import_on c s xs e w a f g ts r q h l = let z = source c e w f g h.1 r q h.4 l in let y = import_clause c xs a h.0 h.1 z.0 h.3 z.1 in let x = kin.take_word c import_kind ts h.0 y.0 h.2 y.1 in (x.0, x.1, (y.0, z.0, x.2, y.2, z.2, spans_like p kin s ts x.0 r q x.1 l h.5))

  -- ---- 16.2.3

  abbrev Renamed : Code → Child → Input → Input → Type 0
  Renamed c e m r = By (is_absent e.tree) (m ≡ r) ((n : Input) × TakesWord c as_kind m n × ExportName c (export_name e.tree) e n r)

  renamed : (c : Code) (e : Child) → Moved p kin e → Moves p kin (Renamed c e) (Renamed (placing p c) e)
  renamed c e f ts r q h l = either p kin (is_absent e.tree) ts h (λ k. same p kin ts r q k l) (λ k. let z = export_name_on c (export_name e.tree) e f k.0 r q k.2 l in let y = kin.take_word c as_kind ts k.0 z.0 k.1 z.1 in (y.0, y.1, (z.0, y.2, z.2)))

  pub named_export_on : (c : Code) (s : Span) (o e : Child) → Moved p kin o → Moved p kin e → Moves p kin (NamedExport c s o e) (NamedExport (placing p c) s o e)
  named_export_on c s o e f g ts r q h l = let z = renamed c e g h.0 r q h.2 l in let y = export_name_on c (export_name o.tree) o f ts h.0 z.0 h.1 z.1 in (y.0, y.1, (z.0, y.2, z.2, spans_like p kin s ts y.0 r q y.1 l h.3))

  pub star_export : (c : Code) (s : Span) (n : Child) → Moved p kin n → Moves p kin (StarExport c s n) (StarExport (placing p c) s n)
  star_export c s n f ts r q h l = let z = export_name_on c (export_name n.tree) n f h.1 r q h.4 l in let y = kin.take_word c as_kind h.0 h.1 z.0 h.3 z.1 in let x = kin.take c mul_kind ts h.0 y.0 h.2 y.1 in (x.0, x.1, (y.0, z.0, x.2, y.2, z.2, spans_like p kin s ts x.0 r q x.1 l h.5))

  named_exports : (c : Code) (xs : List Child) → AllMoved p kin xs → Moves p kin (NamedExports c xs) (NamedExports (placing p c) xs)
  named_exports c xs a ts r q h l = let z = listed p kin (Sorted is_named_export c) (Sorted is_named_export (placing p c)) (λ x f. sorted p kin is_named_export c x f) false c right_brace_kind xs a h.0 r q h.2 l in
      let y = kin.take c left_brace_kind ts h.0 z.0 h.1 z.1 in (y.0, y.1, (z.0, y.2, z.2))

  abbrev FromSource : Code → Child → Child → Input → Input → Type 0
  FromSource c e w m r = By (is_absent e.tree) ((is_absent w.tree ≡ true) × Ends c exports_end m r) ((n : Input) × TakesWord c from_kind m n × Source c e w n r)

  from_source : (c : Code) (e w : Child) → Moved p kin e → Moved p kin w → Moves p kin (FromSource c e w) (FromSource (placing p c) e w)
  from_source c e w f g ts r q h l = either p kin (is_absent e.tree) ts h (λ k. let z = ends_on p kin c exports_end ts r q k.1 l in (z.0, z.1, (k.0, z.2))) (λ k. let z = source c e w f g k.0 r q k.2 l in let y = kin.take_word c from_kind ts k.0 z.0 k.1 z.1 in (y.0, y.1, (z.0, y.2, z.2)))

  export_list : (c : Code) (xs : List Child) (e w : Child) → AllMoved p kin xs → Moved p kin e → Moved p kin w → Moves p kin (ExportList c xs e w) (ExportList (placing p c) xs e w)
  export_list c xs e w a f g ts r q h l = let z = from_source c e w f g h.0 r q h.2 l in let y = named_exports c xs a ts h.0 z.0 h.1 z.1 in (y.0, y.1, (z.0, y.2, z.2))

  export_star_as : (c : Code) (x e w : Child) → Moved p kin x → Moved p kin e → Moved p kin w → Moves p kin (ExportStarAs c x e w) (ExportStarAs (placing p c) x e w)
  export_star_as c x e w k f g ts r q h l = let z = source c e w f g h.1 r q h.4 l in let y = kin.take_word c from_kind h.0 h.1 z.0 h.3 z.1 in let v = k c ts h.0 y.0 h.2 y.1 in (v.0, v.1, (y.0, z.0, v.2, y.2, z.2))

  specified : (c : Code) (xs : List Child) (e w : Child) → AllMoved p kin xs → Moved p kin e → Moved p kin w → Moves p kin (Specified c xs e w) (Specified (placing p c) xs e w)
  specified c [] e w a f g ts r q h l = export_list c [] e w tt f g ts r q h l
  specified c (x ∷ xs) e w a f g ts r q h l = either p kin (is_star_export x.tree) ts h (λ k. let z = export_star_as c x e w a.0 f g ts r q k.1 l in (z.0, z.1, (k.0, z.2))) (λ k. export_list c (x ∷ xs) e w a f g ts r q k l)

  pub exports_on : (c : Code) (s : Span) (xs : List Child) (e w : Child) → AllMoved p kin xs → Moved p kin e → Moved p kin w → Moves p kin (Exports c s xs e w) (Exports (placing p c) s xs e w)
  exports_on c s xs e w a f g ts r q h l = let z = specified c xs e w a f g h.0 r q h.2 l in let y = kin.take_word c export_kind ts h.0 z.0 h.1 z.1 in (y.0, y.1, (z.0, y.2, z.2, spans_like p kin s ts y.0 r q y.1 l h.3))

  pub export_all_on : (c : Code) (s : Span) (e w : Child) → Moved p kin e → Moved p kin w → Moves p kin (ExportAll c s e w) (ExportAll (placing p c) s e w)
  export_all_on c s e w f g ts r q h l = let z = source c e w f g h.2 r q h.6 l in let y = kin.take_word c from_kind h.1 h.2 z.0 h.5 z.1 in let x = kin.take c mul_kind h.0 h.1 y.0 h.4 y.1 in let v = kin.take_word c export_kind ts h.0 x.0 h.3 x.1 in
      (v.0, v.1, (x.0, y.0, z.0, v.2, x.2, y.2, z.2, spans_like p kin s ts v.0 r q v.1 l h.7))

  pub export_declaration : (c : Code) (s : Span) (d : Child) → Moved p kin d → Moves p kin (ExportDeclaration c s d) (ExportDeclaration (placing p c) s d)
  export_declaration c s d f ts r q h l = let z = f (in_list c) h.0 r q h.3 l in let y = kin.take_word c export_kind ts h.0 z.0 h.1 z.1 in (y.0, y.1, (z.0, y.2, h.2, z.2, spans_like p kin s ts y.0 r q y.1 l h.4))

  export_default : (c : Code) → Moves p kin (ExportDefault c) (ExportDefault (placing p c))
  export_default c ts r q h l = let z = kin.take_word c default_kind h.0 r q h.2 l in let y = kin.take_word c export_kind ts h.0 z.0 h.1 z.1 in (y.0, y.1, (z.0, y.2, z.2))

  pub default_declaration : (c : Code) (s : Span) (d : Child) → Moved p kin d → Moves p kin (DefaultDeclaration c s d) (DefaultDeclaration (placing p c) s d)
  default_declaration c s d f ts r q h l = let z = f c h.0 r q h.3 l in let y = export_default c ts h.0 z.0 h.1 z.1 in (y.0, y.1, (z.0, y.2, h.2, z.2, spans_like p kin s ts y.0 r q y.1 l h.4))

  pub default_expression : (c : Code) (s : Span) (e : Child) → Moved p kin e → Moves p kin (DefaultExpression c s e) (DefaultExpression (placing p c) s e)
  default_expression c s e f ts r q h l = let z = ends_on p kin c (ends e.tree) h.1 r q h.5 l in let y = expr p kin assignment_level c e f h.0 h.1 z.0 h.4 z.1 in let x = export_default c ts h.0 y.0 h.2 y.1 in
      (x.0, x.1, (y.0, z.0, x.2, kin.defaults h.0 y.0 y.1 h.3, y.2, z.2, spans_like p kin s ts x.0 r q x.1 l h.6))

  -- ---- 16.1, 16.2

  hashbang : (c : Code) (o : Option (List ℕ)) → Moves p kin (Hashbang c o) (Hashbang (placing p c) o)
  hashbang c None ts r q h l = same p kin ts r q h l
  hashbang c (Some line) ts r q h l = let z = kin.take c shebang_kind ts r q h.1 l in (z.0, z.1, (sym (kin.contents ts z.0 z.1) ∙ h.0, z.2))

  at_end : (c : Code) → Moves p kin (AtEnd c) (AtEnd (placing p c))
  at_end c ts r q h l = let z = same p kin ts r q h.1 l in (z.0, z.1, (kin.nothing ts z.0 z.1 h.0, z.2))

  pub program : (may : Tree → Bool) (c : Code) (s : Span) (o : Option (List ℕ)) (ss : List Child) → AllMoved p kin ss → Moves p kin (Program may c s o ss) (Program may (placing p c) s o ss)
  program may c s o ss a ts r q h l = let z = items p kin may AtEnd (λ d. at_end d) c true ss a h.0 r q h.2 l in let y = hashbang c o ts h.0 z.0 h.1 z.1 in (y.0, y.1, (z.0, y.2, z.2, spans_like p kin s ts y.0 r q y.1 l h.3))
