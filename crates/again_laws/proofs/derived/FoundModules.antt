-- Imports, exports and programs that are derived from known tokens are read from these.
use Rattle.std.proofs.Common.{◌≡◌, ◌⊎◌, inl, inr, ℕ, Bool, true, false, List, Option, Some, None, ap, refl}
use Rattle.base_token.specs.declared.place.Span.{Span}
use Rattle.base_token.specs.Kinds.{right_brace_kind, as_kind, with_kind, assert_kind, from_kind}
use Rattle.tree_spec.specs.Tree.{Tree, Trees, none, more, script, es_module, import_decl, export_decl, named_export, export_default_decl, export_default_expr, export_all, import_named_specifier, import_default_specifier, import_star_as_specifier, export_namespace_specifier, export_named_specifier, ident}
use Rattle.grammar_spec.specs.Tokens.Input.{Input, Code, brk, TakesWord}
use Rattle.grammar_spec.specs.Tokens.Shape.{is_absent, is_string, is_attributes, is_exportable, is_default_decl, is_item, is_default_import, is_star_import, is_star_export, is_named_import, is_named_export, export_name}
use Rattle.grammar_spec.specs.Tokens.Operators.{assignment_level, exports_end}
use Rattle.grammar_spec.specs.Children.{child, By, Sorted, is_ident, is_module_item, Ends, IsEmpty, AtEnd}
use Rattle.grammar_spec.specs.Modules.{ExportName, NamedImports, AfterDefault, ImportClause, Attributes, Source, NamedExports, ExportList, ExportStarAs, Specified, Hashbang, ExportDefault}
use Rattle.grammar_spec.specs.Grammar.{Produces, children}
use Rattle.again_laws.specs.Derived.Redo.{Plain}
use Rattle.again_laws.specs.Derived.Every.{every, every_all}
use Rattle.again_laws.specs.Derived.Read.{Knowledge, Read}
use Rattle.again_laws.proofs.derived.FoundParts.{Fine, AllFine, Found, AllFound, took, word, at, ended, whole_test, whole_level, sorted, gone, choice, listed, items}
use Rattle.again_laws.proofs.derived.FoundFunctions.{no_parts}

module _ (know : Knowledge) where
  -- ---- modules

  pub export_name_found : (c : Code) (t : Tree) → Found know t → (ts r : Input) → ExportName c (export_name t) (child t (λ y. Produces t y)) ts r → know.Known ts.places → Fine know Plain t r
  export_name_found c (ident s k) f ts r h l = (record { at = ts; known = l; word = h.0.0; is = h.0.1; begins = ap (λ (p : Span). p.lo.0) h.1 }, know.later ts r h.0.3 l)
  export_name_found c t f ts r h l = named t f h
    where
      named : (t : Tree) → Found know t → ExportName c None (child t (λ y. Produces t y)) ts r → Fine know Plain t r
      named t f h = f Plain refl (whole_test know is_string t (λ s b w u. refl) h.0) c ts r h.1 l

  pub named_import_found : (s : Span) (k i : Tree) → Found know k → Found know i → Found know (import_named_specifier s k i)
  named_import_found s k i f g mode n whole c ts r h l = by (is_absent i) refl h.0
    where
      by : (b : Bool) → is_absent i ≡ b → By b (Sorted is_ident c (child k (λ y. Produces k y)) ts r) ((m : Input) × (n : Input) × ExportName c (export_name i) (child i (λ y. Produces i y)) ts m × TakesWord c as_kind m n × Sorted is_ident c (child k (λ y. Produces k y)) n r)
          → Fine know mode (import_named_specifier s k i) r
      by true e j = let y = f Plain refl (whole_test know is_ident k (λ s b w u. refl) j.0) _ ts r j.1 l in ((tt, y.0, gone know i e), y.1)
      by false e j = let z = export_name_found c i g ts j.0 j.2 l in let y = f Plain refl (whole_test know is_ident k (λ s b w u. refl) j.4.0) _ j.1 r j.4.1 (word know c _ j.0 j.1 j.3 z.1) in ((tt, y.0, z.0), y.1)

  pub default_import_found : (s : Span) (k : Tree) → Found know k → Found know (import_default_specifier s k)
  default_import_found s k f mode n whole c ts r h l = let y = f Plain refl (whole_test know is_ident k (λ s b w u. refl) h.0.0) _ ts r h.0.1 l in ((tt, y.0), y.1)

  pub star_import_found : (s : Span) (k : Tree) → Found know k → Found know (import_star_as_specifier s k)
  star_import_found s k f mode n whole c ts r h l = let y = f Plain refl (whole_test know is_ident k (λ s b w u. refl) h.4.0) _ h.1 r h.4.1 (word know c _ h.0 h.1 h.3 (took know c _ ts h.0 h.2 l)) in ((tt, y.0), y.1)

  pub named_imports : (c : Code) (xs : Trees) → AllFound know xs → (ts r : Input) → NamedImports c (children xs) ts r → know.Known ts.places → AllFine know Plain xs r
  named_imports c xs a ts r h l = listed know false _ (sorted know is_named_import (λ s b w u. refl) c) c right_brace_kind xs a h.0 r h.2 (took know c _ ts h.0 h.1 l)

  pub star_or_named : (b : Bool) (c : Code) (t : Tree) (us : Trees) → is_star_import t ≡ b → AllFound know (more t us) → (ts r : Input) → By b (IsEmpty (children us) × Produces t c ts r) (NamedImports c (children (more t us)) ts r) → know.Known ts.places → AllFine know Plain (more t us) r
  star_or_named true c t us e a ts r h l = let y = a.0 Plain refl (whole_test know is_star_import t (λ s b w u. refl) e) _ ts r h.1 l in ((y.0, no_parts know us h.0), y.1)
  star_or_named false c t us e a ts r h l = named_imports c (more t us) a ts r h l

  pub after_default : (c : Code) (xs : Trees) → AllFound know xs → (ts r : Input) → AfterDefault c (children xs) ts r → know.Known ts.places → AllFine know Plain xs r
  after_default c none a ts r (inl h) l = (tt, at know ts r h l)
  after_default c none a ts r (inr h) l = named_imports c none a h.0 r h.2 (took know c _ ts h.0 h.1 l)
  after_default c (more t us) a ts r h l = star_or_named (is_star_import t) c t us refl a h.0 r h.2 (took know c _ ts h.0 h.1 l)

  pub import_clause : (c : Code) (xs : Trees) → AllFound know xs → (ts r : Input) → ImportClause c (children xs) ts r → know.Known ts.places → AllFine know Plain xs r
  import_clause c none a ts r (inl h) l = (tt, at know ts r h l)
  import_clause c none a ts r (inr h) l = let y = named_imports c none a ts h.0 h.1 l in (y.0, word know c _ h.0 r h.2 y.1)
  import_clause c (more t us) a ts r h l = let y = by (is_default_import t) refl h.1 in (y.0, word know c _ h.0 r h.2 y.1)
    where
      by : (b : Bool) → is_default_import t ≡ b → By b ((n : Input) × Produces t c ts n × AfterDefault c (children us) n h.0) (By (is_star_import t) (IsEmpty (children us) × Produces t c ts h.0) (NamedImports c (children (more t us)) ts h.0)) → AllFine know Plain (more t us) h.0
      by true e i = let y = a.0 Plain refl (whole_test know is_default_import t (λ s b w u. refl) e) _ ts i.0 i.1 l in let z = after_default c us a.1 i.0 h.0 i.2 y.1 in ((y.0, z.0), z.1)
      by false e i = star_or_named (is_star_import t) c t us refl a ts h.0 i l

  pub attributes : (c : Code) (w : Tree) → Found know w → (ts r : Input) → Attributes c (child w (λ y. Produces w y)) ts r → know.Known ts.places → Fine know Plain w r
  attributes c w f ts r h l = f Plain refl (whole_test know is_attributes w (λ s b w u. refl) h.3) _ h.0 r h.4 (by h.2)
    where
      by : TakesWord c with_kind ts h.0 ⊎ ((brk ts ≡ false) × TakesWord c assert_kind ts h.0) → know.Known (h.0).places
      by (inl i) = word know c _ ts h.0 i l
      by (inr i) = word know c _ ts h.0 i.1 l

  pub source : (c : Code) (k w : Tree) → Found know k → Found know w → (ts r : Input) → Source c (child k (λ y. Produces k y)) (child w (λ y. Produces w y)) ts r → know.Known ts.places → every (Read know.Known) Plain k × every (Read know.Known) Plain w × know.Known r.places
  source c k w f g ts r h l =
      let y = f Plain refl (whole_test know is_string k (λ s b w u. refl) h.1.0) _ ts h.0 h.1.1 l in
      let z = choice know (is_absent w) w refl _ _ r h.2 (λ i. ended know c _ _ h.0 r i y.1) (λ i. let v = attributes c w g h.0 i.0 i.1 y.1 in (v.0, ended know c _ _ i.0 r i.2 v.1)) in (y.0, z.0, z.1)

  pub import_found : (s : Span) (xs : Trees) (k w : Tree) → AllFound know xs → Found know k → Found know w → Found know (import_decl s xs k w)
  import_found s xs k w a f g mode n whole c ts r h l = let y = import_clause c xs a h.0 h.1 h.3 (word know c _ ts h.0 h.2 l) in let z = source c k w f g h.1 r h.4 y.1 in ((tt, y.0, z.0, z.1), z.2)

  pub named_export_found : (s : Span) (o e : Tree) → Found know o → Found know e → Found know (export_named_specifier s o e)
  named_export_found s o e f g mode n whole c ts r h l =
      let y = export_name_found c o f ts h.0 h.1 l in
      let z = choice know (is_absent e) e refl _ _ r h.2 (λ i. at know h.0 r i y.1) (λ i. export_name_found c e g i.0 r i.2 (word know c _ h.0 i.0 i.1 y.1)) in ((tt, y.0, z.0), z.1)

  pub star_export_found : (s : Span) (k : Tree) → Found know k → Found know (export_namespace_specifier s k)
  star_export_found s k f mode n whole c ts r h l = let y = export_name_found c k f h.1 r h.4 (word know c _ h.0 h.1 h.3 (took know c _ ts h.0 h.2 l)) in ((tt, y.0), y.1)

  -- what is exported, the name of the module, and its attributes
  abbrev pub ExportsFine : Trees → Tree → Tree → Input → Type 0
  ExportsFine xs k w r = every_all (Read know.Known) Plain xs × every (Read know.Known) Plain k × every (Read know.Known) Plain w × know.Known r.places

  pub named_exports : (c : Code) (xs : Trees) → AllFound know xs → (ts r : Input) → NamedExports c (children xs) ts r → know.Known ts.places → AllFine know Plain xs r
  named_exports c xs a ts r h l = listed know false _ (sorted know is_named_export (λ s b w u. refl) c) c right_brace_kind xs a h.0 r h.2 (took know c _ ts h.0 h.1 l)

  pub export_list : (c : Code) (xs : Trees) (k w : Tree) → AllFound know xs → Found know k → Found know w → (ts r : Input) → ExportList c (children xs) (child k (λ y. Produces k y)) (child w (λ y. Produces w y)) ts r → know.Known ts.places → ExportsFine xs k w r
  export_list c xs k w a f g ts r h l = let y = named_exports c xs a ts h.0 h.1 l in by (is_absent k) refl y h.2
    where
      by : (b : Bool) → is_absent k ≡ b → AllFine know Plain xs h.0
          → By b ((is_absent w ≡ true) × Ends c exports_end h.0 r) ((n : Input) × TakesWord c from_kind h.0 n × Source c (child k (λ y. Produces k y)) (child w (λ y. Produces w y)) n r) → ExportsFine xs k w r
      by true e y i = (y.0, gone know k e, gone know w i.0, ended know c _ _ h.0 r i.1 y.1)
      by false e y i = let z = source c k w f g i.0 r i.2 (word know c _ h.0 i.0 i.1 y.1) in (y.0, z.0, z.1, z.2)

  pub specified : (c : Code) (xs : Trees) (k w : Tree) → AllFound know xs → Found know k → Found know w → (ts r : Input) → Specified c (children xs) (child k (λ y. Produces k y)) (child w (λ y. Produces w y)) ts r → know.Known ts.places → ExportsFine xs k w r
  specified c none k w a f g ts r h l = export_list c none k w a f g ts r h l
  specified c (more t us) k w a f g ts r h l = by (is_star_export t) refl h
    where
      by : (b : Bool) → is_star_export t ≡ b → By b (IsEmpty (children us) × ExportStarAs c (child t (λ y. Produces t y)) (child k (λ y. Produces k y)) (child w (λ y. Produces w y)) ts r) (ExportList c (children (more t us)) (child k (λ y. Produces k y)) (child w (λ y. Produces w y)) ts r) → ExportsFine (more t us) k w r
      by true e i = let y = a.0 Plain refl (whole_test know is_star_export t (λ s b w u. refl) e) _ ts i.1.0 i.1.2 l in let z = source c k w f g i.1.1 r i.1.4 (word know c _ i.1.0 i.1.1 i.1.3 y.1) in ((y.0, no_parts know us i.0), z.0, z.1, z.2)
      by false e i = export_list c (more t us) k w a f g ts r i l

  pub exports_found : (s : Span) (xs : Trees) (k w : Tree) → AllFound know xs → Found know k → Found know w → Found know (named_export s xs k w)
  exports_found s xs k w a f g mode n whole c ts r h l = let y = specified c xs k w a f g h.0 r h.2 (word know c _ ts h.0 h.1 l) in ((tt, y.0, y.1, y.2), y.3)

  pub export_all_found : (s : Span) (k w : Tree) → Found know k → Found know w → Found know (export_all s k w)
  export_all_found s k w f g mode n whole c ts r h l = let z = source c k w f g h.2 r h.6 (word know c _ h.1 h.2 h.5 (took know c _ h.0 h.1 h.4 (word know c _ ts h.0 h.3 l))) in ((tt, z.0, z.1), z.2)

  pub export_declaration_found : (s : Span) (d : Tree) → Found know d → Found know (export_decl s d)
  export_declaration_found s d f mode n whole c ts r h l = let y = f Plain refl (whole_test know is_exportable d (λ s b w u. refl) h.2) _ h.0 r h.3 (word know c _ ts h.0 h.1 l) in ((tt, y.0), y.1)

  pub export_default : (c : Code) (ts r : Input) → ExportDefault c ts r → know.Known ts.places → know.Known r.places
  export_default c ts r h l = word know c _ h.0 r h.2 (word know c _ ts h.0 h.1 l)

  pub default_declaration_found : (s : Span) (d : Tree) → Found know d → Found know (export_default_decl s d)
  default_declaration_found s d f mode n whole c ts r h l = let y = f Plain refl (whole_test know is_default_decl d (λ s b w u. refl) h.2) _ h.0 r h.3 (export_default c ts h.0 h.1 l) in ((tt, y.0), y.1)

  pub default_expression_found : (s : Span) (e : Tree) → Found know e → Found know (export_default_expr s e)
  default_expression_found s e f mode n whole c ts r h l = let y = f Plain refl (whole_level know assignment_level e refl h.4.0) _ h.0 h.1 h.4.1 (export_default c ts h.0 h.2 l) in ((tt, y.0), ended know c _ _ h.1 r h.5 y.1)

  pub ends_there : (c : Code) (m r : Input) → AtEnd c m r → know.Known m.places → know.Known r.places
  ends_there c m r h l = at know m r h.1 l

  pub hashbang_found : (c : Code) (o : Option (List ℕ)) (ts r : Input) → Hashbang c o ts r → know.Known ts.places → know.Known r.places
  hashbang_found c None ts r h l = at know ts r h l
  hashbang_found c (Some line) ts r h l = took know c _ ts r h.1 l

  pub script_found : (s : Span) (ss : Trees) (o : Option (List ℕ)) → AllFound know ss → Found know (script s ss o)
  script_found s ss o a mode n whole c ts r h l = let z = items know is_item (λ s b w u. refl) AtEnd ends_there c true ss a h.0 r h.2 (hashbang_found c o ts h.0 h.1 l) in ((tt, z.0), z.1)

  pub module_found : (s : Span) (ss : Trees) (o : Option (List ℕ)) → AllFound know ss → Found know (es_module s ss o)
  module_found s ss o a mode n whole c ts r h l = let z = items know is_module_item (λ s b w u. refl) AtEnd ends_there c true ss a h.0 r h.2 (hashbang_found c o ts h.0 h.1 l) in ((tt, z.0), z.1)
