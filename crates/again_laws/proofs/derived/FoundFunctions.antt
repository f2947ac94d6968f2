-- Functions, methods and classes that are derived from known tokens are read from these.
use Rattle.std.proofs.Common.{◌≡◌, ◌⊎◌, inl, inr, ℕ, Bool, true, false, ◌==◌, Option, Some, None, refl}
use Rattle.base_token.specs.declared.place.Span.{Span}
use Rattle.base_token.specs.Kinds.{right_paren_kind, get_kind, set_kind}
use Rattle.tree_spec.specs.Tree.{Tree, Trees, none, more, block_stmt, class_decl, fn_decl, function, param, class, constructor, static_block, auto_accessor, fn_expr, arrow_expr, class_expr, getter_prop, setter_prop, method_prop, plain_method}
use Rattle.grammar_spec.specs.Tokens.Input.{Input, Code, kind, TakesWord, in_body, in_static, setting}
use Rattle.grammar_spec.specs.Tokens.Shape.{is_absent, is_bound_name, is_member, is_any_key, constructs, is_item, is_param, is_key, function_parts, field_end, FunctionParts}
use Rattle.grammar_spec.specs.Tokens.Operators.{assignment_level, new_level, key_end}
use Rattle.grammar_spec.specs.Children.{child, By, is_quasi, is_ident, IsEmpty}
use Rattle.grammar_spec.specs.Functions.{Parameters, SetParameter, Body, Closes, Star, Async, FunctionHead, Named, ArrowPattern, ArrowParameters, ArrowHead, MethodHead, Heritage, Members, Static, Initial, FunctionDeclaration, FunctionExpression, ArrowExpression, ObjectMethod, ClassMethod, Field}
use Rattle.grammar_spec.specs.Grammar.{Produces, children}
use Rattle.again_laws.specs.Derived.Redo.{Mode, Plain}
use Rattle.again_laws.specs.Derived.Every.{every, every_all}
use Rattle.again_laws.specs.Derived.Read.{Knowledge, Read}
use Rattle.again_laws.proofs.derived.FoundParts.{Fine, AllFine, Found, AllFound, took, word, at, ended, Apart, whole_test, whole_level, whole_item, whole_function, whole_class, sorted, choice, maybe, listed, items, closes}

module _ (know : Knowledge) where
  -- ---- functions

  pub no_parts : (ds : Trees) → IsEmpty (children ds) → every_all (Read know.Known) Plain ds
  no_parts none e = tt
  no_parts (more d ds) e = absurd e

  pub param_found : (s : Span) (ds : Trees) (p : Tree) → Found know p → Found know (param s ds p)
  param_found s ds p f mode n whole c ts r h l = let y = f Plain refl (whole_item know true p h.1) _ ts r h.2 l in ((tt, no_parts ds h.0, y.0), y.1)

  pub parameters : (c : Code) (ps : Trees) → AllFound know ps → (ts r : Input) → Parameters c (children ps) ts r → know.Known ts.places → AllFine know Plain ps r
  parameters c ps a ts r h l = listed know false _ (sorted know is_param (λ s b w u. refl) c) c right_paren_kind ps a h.0 r h.2 (took know c _ ts h.0 h.1 l)

  pub set_parameter : (c : Code) (ps : Trees) → AllFound know ps → (ts r : Input) → SetParameter c (children ps) ts r → know.Known ts.places → AllFine know Plain ps r
  set_parameter c none a ts r h l = absurd h
  set_parameter c (more p ps) a ts r h l = let y = a.0 Plain refl (whole_test know is_param p (λ s b w u. refl) h.5.0) _ h.0 h.1 h.5.1 (took know c _ ts h.0 h.4 l) in ((y.0, no_parts ps h.2), took know c _ h.1 r h.6 y.1)

  pub either_parameters : (b : Bool) (c : Code) (ps : Trees) → AllFound know ps → (ts r : Input) → By b (SetParameter c (children ps) ts r) (Parameters c (children ps) ts r) → know.Known ts.places → AllFine know Plain ps r
  either_parameters true c ps a ts r h l = set_parameter c ps a ts r h l
  either_parameters false c ps a ts r h l = parameters c ps a ts r h l

  pub body : (c : Code) (s : Span) (ss : Trees) → AllFound know ss → (ts r : Input) → Body c s (children ss) ts r → know.Known ts.places → Fine know Plain (block_stmt s ss) r
  body c s ss a ts r h l = let z = items know is_item (λ s b w u. refl) Closes (closes know) c true ss a h.0 r h.2 (took know c _ ts h.0 h.1 l) in ((tt, z.0), z.1)

  pub star : (g : Bool) (c : Code) (ts r : Input) → Star g c ts r → know.Known ts.places → know.Known r.places
  star true c ts r h l = took know c _ ts r h l
  star false c ts r h l = at know ts r h l

  pub waits : (a : Bool) (c : Code) (ts r : Input) → Async a c ts r → know.Known ts.places → know.Known r.places
  waits true c ts r h l = word know c _ ts r h.0 l
  waits false c ts r h l = at know ts r h l

  pub function_head : (g a : Bool) (c : Code) (ts r : Input) → FunctionHead g a c ts r → know.Known ts.places → know.Known r.places
  function_head g a c ts r h l = star g c h.1 r h.4 (word know c _ h.0 h.1 h.3 (waits a c ts h.0 h.2 l))

  pub function_found : (s : Span) (ps ds : Trees) (b : Span) (ss : Trees) (g a : Bool) → AllFound know ps → AllFound know ss → Found know (function s ps ds (block_stmt b ss) g a)
  function_found s ps ds b ss g a f j mode n whole c ts r h l =
      let y = either_parameters c.sets _ ps f ts h.0 h.2 l in let z = body _ b ss j h.0 r h.3 y.1 in ((tt, y.0, no_parts ds h.1, z.0), z.1)

  pub declaration_found : (s : Span) (k f : Tree) → Found know k → Found know f → Found know (fn_decl s k f)
  declaration_found s k f g j mode n whole c ts r h l = by (function_parts f) refl h
    where
      by : (o : Option FunctionParts) → function_parts f ≡ o → FunctionDeclaration c s (child k (λ y. Produces k y)) (child f (λ y. Produces f y)) o ts r → Fine know mode (fn_decl s k f) r
      by None e h = absurd h
      by (Some p) e h = let y = g Plain refl (whole_test know is_ident k (λ s b w u. refl) h.3.0) _ h.0 h.1 h.3.1 (function_head p.generator p.async c ts h.0 h.2 l) in let z = j Plain refl (whole_function know f p e) _ h.1 r h.4 y.1 in ((tt, y.0, z.0), z.1)

  pub expression_found : (s : Span) (k f : Tree) → Found know k → Found know f → Found know (fn_expr s k f)
  expression_found s k f g j mode n whole c ts r h l = by (function_parts f) refl h
    where
      by : (o : Option FunctionParts) → function_parts f ≡ o → FunctionExpression c s (child k (λ y. Produces k y)) (child f (λ y. Produces f y)) o ts r → Fine know mode (fn_expr s k f) r
      by None e h = absurd h
      by (Some p) e h = let y = maybe know Named _ (λ t i ts r h l. i Plain refl (whole_test know is_ident t (λ s b w u. refl) h.0) _ ts r h.1 l) k g h.0 h.1 h.3 (function_head p.generator p.async c ts h.0 h.2 l) in let z = j Plain refl (whole_function know f p e) _ h.1 r h.4 y.1 in ((tt, y.0, z.0), z.1)

  pub arrow_parameters : (c : Code) (ps : Trees) → AllFound know ps → (ts r : Input) → ArrowParameters c (children ps) ts r → know.Known ts.places → AllFine know Plain ps r
  arrow_parameters c none a ts r (inl h) l = absurd h
  arrow_parameters c (more p ps) a ts r (inl h) l = let y = a.0 Plain refl (whole_test know is_bound_name p (λ s b w u. refl) h.1.0) _ ts r h.1.1 l in ((y.0, no_parts ps h.0), y.1)
  arrow_parameters c ps a ts r (inr h) l = listed know false (ArrowPattern c) (λ t f ts r h l. f Plain refl (whole_item know true t h.0) _ ts r h.1 l) c right_paren_kind ps a h.0 r h.2 (took know c _ ts h.0 h.1 l)

  pub arrow_head : (i : Bool) (c : Code) (ps : Trees) → AllFound know ps → (ts r : Input) → ArrowHead i c (children ps) ts r → know.Known ts.places → AllFine know Plain ps r
  arrow_head i c ps a ts r h l = let y = arrow_parameters c ps a h.0 h.1 h.3 (waits i c ts h.0 h.2 l) in (y.0, took know c _ h.1 r h.5 y.1)

  pub arrow_block_found : (s : Span) (ps : Trees) (b : Span) (ss : Trees) (i : Bool) → AllFound know ps → AllFound know ss → Found know (arrow_expr s ps (block_stmt b ss) i)
  arrow_block_found s ps b ss i f j mode n whole c ts r h l = let y = arrow_head i c ps f ts h.0 h.1 l in let z = body _ b ss j h.0 r h.2 y.1 in ((tt, y.0, z.0), z.1)

  pub arrow_found : (s : Span) (ps : Trees) (e : Tree) (i : Bool) → AllFound know ps → Found know e → (mode : Mode) (c : Code) (ts r : Input)
      → ArrowExpression c s (children ps) (child e (λ y. Produces e y)) i ts r → know.Known ts.places → Fine know mode (arrow_expr s ps e i) r
  arrow_found s ps e i f g mode c ts r h l = let y = arrow_head i c ps f ts h.0 h.1 l in let z = g Plain refl (whole_level know assignment_level e refl h.3.0) _ h.0 r h.3.1 y.1 in ((tt, y.0, z.0), z.1)

  -- ---- methods and classes

  pub method_head : (g a : Bool) (c : Code) (ts r : Input) → MethodHead g a c ts r → know.Known ts.places → know.Known r.places
  method_head g a c ts r h l = star g c h.0 r h.2 (waits a c ts h.0 h.1 l)

  pub method : (c : Code) (b : Bool) (k : ℕ) (key f : Tree) (p : FunctionParts) → Found know key → Found know f → is_quasi key ≡ false → is_quasi f ≡ false → (ts r : Input)
      → By b ((m : Input) × (n : Input) × MethodHead p.generator p.async c ts m × Produces key c m n × Produces f (setting false c) n r)
      ((m : Input) × (n : Input) × (((k ≡ get_kind) × (p.count ≡ 0)) ⊎ (k ≡ set_kind)) × (p.generator ≡ false) × (p.async ≡ false)
      × TakesWord c k ts m × Produces key c m n × Produces f (setting (k == set_kind) c) n r)
      → know.Known ts.places → every (Read know.Known) Plain key × every (Read know.Known) Plain f × know.Known r.places
  method c true k key f p g j n o ts r h l = let y = g Plain refl n _ h.0 h.1 h.3 (method_head p.generator p.async c ts h.0 h.2 l) in let z = j Plain refl o _ h.1 r h.4 y.1 in (y.0, z.0, z.1)
  method c false k key f p g j n o ts r h l = let y = g Plain refl n _ h.0 h.1 h.6 (word know c k ts h.0 h.5 l) in let z = j Plain refl o _ h.1 r h.7 y.1 in (y.0, z.0, z.1)

  pub object_method_found : (s : Span) (k f : Tree) → Found know k → Found know f → Found know (method_prop s k f)
  object_method_found s k f g j mode n whole c ts r h l = by (function_parts f) refl h
    where
      by : (o : Option FunctionParts) → function_parts f ≡ o → ObjectMethod c s (child k (λ y. Produces k y)) (child f (λ y. Produces f y)) o ts r → Fine know mode (method_prop s k f) r
      by None e h = absurd h
      by (Some p) e h = let y = method c (plain_method == plain_method) plain_method k f p g j (whole_test know is_key k (λ s b w u. refl) h.0) (whole_function know f p e) ts r h.1 l in ((tt, y.0, y.1), y.2)

  pub getter_found : (s : Span) (k : Tree) (b : Span) (ss : Trees) → Found know k → AllFound know ss → Found know (getter_prop s k (block_stmt b ss))
  getter_found s k b ss f a mode n whole c ts r h l =
      let y = f Plain refl (whole_test know is_key k (λ s b w u. refl) h.5.0) _ h.0 h.1 h.5.1 (word know c _ ts h.0 h.4 l) in let z = body _ b ss a h.3 r h.8 (took know (in_body false false c) _ h.2 h.3 h.7 (took know (in_body false false c) _ h.1 h.2 h.6 y.1)) in ((tt, y.0, z.0), z.1)

  pub setter_found : (s : Span) (k p : Tree) (b : Span) (ss : Trees) → Found know k → Found know p → AllFound know ss → Found know (setter_prop s k p (block_stmt b ss))
  setter_found s k p b ss f g a mode n whole c ts r h l =
      let y = f Plain refl (whole_test know is_key k (λ s b w u. refl) h.6.0) _ h.0 h.1 h.6.1 (word know c _ ts h.0 h.5 l) in let v = g Plain refl (whole_item know true p h.8) _ h.2 h.3 h.10 (took know (in_body false false c) _ h.1 h.2 h.7 y.1) in let z = body _ b ss a h.4 r h.12 (took know (in_body false false c) _ h.3 h.4 h.11 v.1) in ((tt, y.0, v.0, z.0), z.1)

  pub members : (c : Code) (ms : Trees) → AllFound know ms → (ts r : Input) → Members c (children ms) ts r → know.Known ts.places → AllFine know Plain ms r
  members c none a ts r h l = (tt, took know c _ ts r h l)
  members c (more t us) a ts r h l = let y = a.0 Plain refl (whole_test know is_member t (λ s b w u. refl) h.1.0) _ ts h.0 h.1.1 l in let z = members c us a.1 h.0 r h.2 y.1 in ((y.0, z.0), z.1)

  pub class_found : (s : Span) (ds ms : Trees) (e : Tree) → AllFound know ms → Found know e → Found know (class s ds ms e)
  class_found s ds ms e a f mode n whole c ts r h l =
      let y = maybe know Heritage c (λ t i ts r h l. i Plain refl (whole_level know new_level t refl h.2.0) _ h.0 r h.2.1 (word know c _ ts h.0 h.1 l)) e f ts h.0 h.3 l in let z = members c ms a h.1 r h.5 (took know c _ h.0 h.1 h.4 y.1) in ((tt, no_parts ds h.2, z.0, y.0), z.1)

  pub class_declaration_found : (s : Span) (k b : Tree) → Found know k → Found know b → Found know (class_decl s k b)
  class_declaration_found s k b f g mode n whole c ts r h l = let y = f Plain refl (whole_test know is_ident k (λ s b w u. refl) h.3.0) _ h.0 h.1 h.3.1 (word know c _ ts h.0 h.2 l) in let z = g Plain refl (whole_class know b s h.5) _ h.1 r h.4 y.1 in ((tt, y.0, z.0), z.1)

  pub class_expression_found : (s : Span) (k b : Tree) → Found know k → Found know b → Found know (class_expr s k b)
  class_expression_found s k b f g mode n whole c ts r h l =
      let y = maybe know Named _ (λ t i ts r h l. i Plain refl (whole_test know is_ident t (λ s b w u. refl) h.0) _ ts r h.1 l) k f h.0 h.1 h.3 (word know c _ ts h.0 h.2 l) in let z = g Plain refl (whole_class know b s h.5) _ h.1 r h.4 y.1 in ((tt, y.0, z.0), z.1)

  pub constructor_found : (s : Span) (k : Tree) (ps : Trees) (b : Span) (ss : Trees) → Found know k → AllFound know ps → AllFound know ss → Found know (constructor s k ps (block_stmt b ss))
  constructor_found s k ps b ss f g j mode n whole c ts r h l =
      let y = f Plain refl (whole_test know constructs k (λ s b w u. refl) h.2) _ ts h.0 h.3 l in let v = parameters _ ps g h.0 h.1 h.4 y.1 in let z = body _ b ss j h.1 r h.5 v.1 in ((tt, y.0, v.0, z.0), z.1)

  pub fixed : (i : Bool) (c : Code) (ts r : Input) → Static i c ts r → know.Known ts.places → know.Known r.places
  fixed true c ts r h l = word know c _ ts r h l
  fixed false c ts r h l = at know ts r h l

  pub method_parts : (may : Tree → Bool) → Apart know may → (s : Span) (k f : Tree) (m : ℕ) (i : Bool) → Found know k → Found know f → (c : Code) (ts r : Input)
      → ClassMethod may c s (child k (λ y. Produces k y)) (child f (λ y. Produces f y)) (function_parts f) m i ts r → know.Known ts.places → every (Read know.Known) Plain k × every (Read know.Known) Plain f × know.Known r.places
  method_parts may never s k f m i g j c ts r h l = by (function_parts f) refl h
    where
      by : (o : Option FunctionParts) → function_parts f ≡ o → ClassMethod may c s (child k (λ y. Produces k y)) (child f (λ y. Produces f y)) o m i ts r → every (Read know.Known) Plain k × every (Read know.Known) Plain f × know.Known r.places
      by None e h = absurd h
      by (Some p) e h = method c (m == plain_method) m k f p g j (whole_test know may k never h.1) (whole_function know f p e) h.0 r h.4 (fixed i c ts h.0 h.3 l)

  pub initial : (e : ℕ) (c : Code) (v : Tree) → Found know v → (ts r : Input) → Initial c e (child v (λ y. Produces v y)) ts r → know.Known ts.places → Fine know Plain v r
  initial e c v f ts r h l = choice know (is_absent v) v refl _ _ r h (λ i. ended know c _ _ ts r i l) (λ i. let y = f Plain refl (whole_level know assignment_level v refl i.3.0) _ i.0 i.1 i.3.1 (took know c _ ts i.0 i.2 l) in (y.0, ended know c _ _ i.1 r i.4 y.1))

  pub field : (may : Tree → Bool) → Apart know may → (s : Span) (k v : Tree) (i : Bool) (ds : Trees) → Found know k → Found know v → (c : Code) (ts r : Input)
      → Field may c s (child k (λ y. Produces k y)) (child v (λ y. Produces v y)) i (children ds) ts r → know.Known ts.places → every (Read know.Known) Plain k × every (Read know.Known) Plain v × every_all (Read know.Known) Plain ds × know.Known r.places
  field may never s k v i ds f g c ts r h l = let y = f Plain refl (whole_test know may k never h.3) _ h.0 h.1 h.5 (fixed i c ts h.0 h.4 l) in let z = initial (field_end i (kind h.0)) c v g h.1 r h.6 y.1 in (y.0, z.0, no_parts ds h.2, z.1)

  pub accessor_found : (s : Span) (k v : Tree) (i : Bool) (ds : Trees) → Found know k → Found know v → Found know (auto_accessor s k v i ds)
  accessor_found s k v i ds f g mode n whole c ts r h l =
      let y = f Plain refl (whole_test know is_any_key k (λ s b w u. refl) h.8.0) _ h.1 h.2 h.8.1 (word know c _ h.0 h.1 h.6 (fixed i c ts h.0 h.5 l)) in let z = initial key_end c v g h.2 r h.9 y.1 in ((tt, y.0, z.0, no_parts ds h.4), z.1)

  pub static_block_found : (s b : Span) (ss : Trees) → AllFound know ss → Found know (static_block s (block_stmt b ss))
  static_block_found s b ss a mode n whole c ts r h l = let z = items know is_item (λ s b w u. refl) Closes (closes know) (in_static c) false ss a h.1 r h.4 (took know (in_static c) _ h.0 h.1 h.3 (word know c _ ts h.0 h.2 l)) in ((tt, (tt, z.0)), z.1)
