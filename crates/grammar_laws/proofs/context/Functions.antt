-- Functions, methods and classes under their goals and in their contexts.
use Rattle.std.proofs.Common.{ℕ, inl, inr, Bool, true, false, eqb, refl, List, [], ◌∷◌, Option, Some, None, sym, ◌∙◌}
use Rattle.base_token.specs.declared.place.Span.{Span}
use Rattle.base_token.specs.Kinds.{arrow_kind, left_paren_kind, right_paren_kind, left_brace_kind, right_brace_kind, mul_kind, assign_kind, function_kind, class_kind, extends_kind, accessor_kind, async_kind, get_kind, set_kind, static_kind}
use Rattle.tree_spec.specs.Tree.{Tree, plain_method}
use Rattle.grammar_spec.specs.Tokens.Input.{Input, Code, kind, with_in, by, binding, setting, turned_strict, in_body, in_arrow, in_field, in_static, in_list}
use Rattle.grammar_spec.specs.Tokens.Operators.{assignment_level, new_level, key_end}
use Rattle.grammar_spec.specs.Tokens.Shape.{ends, is_absent, is_bound_name, is_param, is_key, is_any_key, is_item, is_member, field_end, FunctionParts}
use Rattle.grammar_spec.specs.Children.{Ends, is_ident, Child, By, Sorted}
use Rattle.grammar_spec.specs.Functions.{Parameter, Parameters, SetParameter, Closes, Body, Function, Star, Async, FunctionHead, FunctionDeclaration, Named, FunctionExpression, ArrowPattern, BareName, ArrowParameters, ArrowHead, ArrowBlock, ArrowExpression, MethodHead, Method, ObjectMethod, Getter, Setter, Heritage, Members, ClassTail, ClassDeclaration, ClassExpression, Static, Constructor, ClassMethod, Initial, Field, AutoAccessor, StaticBlock}
use Rattle.grammar_laws.specs.Context.Laws.{placing}
use Rattle.grammar_laws.proofs.context.Kin.{Kin, Moves, spans_like}
use Rattle.grammar_laws.proofs.context.Forms.{Moved, AllMoved, same, either, expr, sorted, maybe, listed, ends_on, items, brace}

module _ (p : Bool) (kin : Kin p) where
  -- ---- 15.1, 15.2

  pub parameter : (c : Code) (s : Span) (ds : List Child) (a : Child) → Moved p kin a → Moves p kin (Parameter c s ds a) (Parameter (placing p c) s ds a)
  parameter c s ds a f ts r q h l = let z = f (binding (with_in c)) ts r q h.2 l in (z.0, z.1, (h.0, h.1, z.2, spans_like p kin s ts z.0 r q z.1 l h.3))

  pub parameters : (c : Code) (xs : List Child) → AllMoved p kin xs → Moves p kin (Parameters c xs) (Parameters (placing p c) xs)
  parameters c xs a ts r q h l = let z = listed p kin (Sorted is_param c) (Sorted is_param (placing p c)) (λ x f. sorted p kin is_param c x f) false c right_paren_kind xs a h.0 r q h.2 l in
      let y = kin.take c left_paren_kind ts h.0 z.0 h.1 z.1 in (y.0, y.1, (z.0, y.2, z.2))

  set_parameter : (c : Code) (xs : List Child) → AllMoved p kin xs → Moves p kin (SetParameter c xs) (SetParameter (placing p c) xs)
  set_parameter c [] a ts r q h l = absurd h
  set_parameter c (x ∷ xs) a ts r q h l = let z = kin.take c right_paren_kind h.1 r q h.6 l in let y = sorted p kin is_param c x a.0 h.0 h.1 z.0 h.5 z.1 in let w = kin.take c left_paren_kind ts h.0 y.0 h.4 y.1 in
      (w.0, w.1, (y.0, z.0, h.2, h.3, w.2, y.2, z.2))

  pub body : (c : Code) (s : Span) (ss : List Child) → AllMoved p kin ss → Moves p kin (Body c s ss) (Body (placing p c) s ss)
  body c s ss a ts r q h l = let z = items p kin is_item Closes (λ d. brace p kin d) c true ss a h.0 r q h.2 l in let y = kin.take c left_brace_kind ts h.0 z.0 h.1 z.1 in (y.0, y.1, (z.0, y.2, z.2, spans_like p kin s ts y.0 r q y.1 l h.3))

  abbrev Taken : Bool → Code → List Child → Input → Input → Type 0
  Taken sets c ps ts m = By sets (SetParameter c ps ts m) (Parameters c ps ts m)

  taken : (b : Bool) (c : Code) (ps : List Child) → AllMoved p kin ps → Moves p kin (Taken b c ps) (Taken b (placing p c) ps)
  taken b c ps a ts r q h l = either p kin b ts h (λ k. set_parameter c ps a ts r q k l) (λ k. parameters c ps a ts r q k l)

  pub function_on : (c : Code) (ps ds : List Child) (s : Span) (ss : List Child) (g i : Bool) → AllMoved p kin ps → AllMoved p kin ss → Moves p kin (Function c ps ds s ss g i) (Function (placing p c) ps ds s ss g i)
  function_on c ps ds s ss g i a b ts r q h l = let z = body (in_body g i c) s ss b h.0 r q h.3 l in let y = taken c.sets (in_body g i c) ps a ts h.0 z.0 h.2 z.1 in (y.0, y.1, (z.0, h.1, y.2, z.2))

  star : (b : Bool) (c : Code) → Moves p kin (Star b c) (Star b (placing p c))
  star true c ts r q h l = kin.take c mul_kind ts r q h l
  star false c ts r q h l = same p kin ts r q h l

  pub async_on : (b : Bool) (c : Code) → Moves p kin (Async b c) (Async b (placing p c))
  async_on true c ts r q h l = let z = kin.take_word c async_kind ts r q h.0 l in (z.0, z.1, (z.2, sym (kin.breaks r q l) ∙ h.1))
  async_on false c ts r q h l = same p kin ts r q h l

  head : (g i : Bool) (c : Code) → Moves p kin (FunctionHead g i c) (FunctionHead g i (placing p c))
  head g i c ts r q h l = let z = star g c h.1 r q h.4 l in let y = kin.take_word c function_kind h.0 h.1 z.0 h.3 z.1 in let x = async_on i c ts h.0 y.0 h.2 y.1 in (x.0, x.1, (y.0, z.0, x.2, y.2, z.2))

  pub function_declaration : (c : Code) (s : Span) (n e : Child) (o : Option FunctionParts) → Moved p kin n → Moved p kin e → Moves p kin (FunctionDeclaration c s n e o) (FunctionDeclaration (placing p c) s n e o)
  function_declaration c s n e None f g ts r q h l = absurd h
  function_declaration c s n e (Some k) f g ts r q h l = let z = g (setting false c) h.1 r q h.4 l in let y = sorted p kin is_ident c n f h.0 h.1 z.0 h.3 z.1 in let x = head k.generator k.async c ts h.0 y.0 h.2 y.1 in
      (x.0, x.1, (y.0, z.0, x.2, y.2, z.2, h.5, spans_like p kin s ts x.0 r q x.1 l h.6))

  pub function_expression : (c : Code) (s : Span) (n e : Child) (o : Option FunctionParts) → Moved p kin n → Moved p kin e → Moves p kin (FunctionExpression c s n e o) (FunctionExpression (placing p c) s n e o)
  function_expression c s n e None f g ts r q h l = absurd h
  function_expression c s n e (Some k) f g ts r q h l = let z = g (setting false c) h.1 r q h.4 l in let d = by k.generator k.async c in
      let y = maybe p kin Named d n (λ ts r q h l. sorted p kin is_ident d n f ts r q h l) h.0 h.1 z.0 h.3 z.1 in let x = head k.generator k.async c ts h.0 y.0 h.2 y.1 in
      (x.0, x.1, (y.0, z.0, x.2, y.2, z.2, h.5, spans_like p kin s ts x.0 r q x.1 l h.6))

  -- ---- 15.3, 15.9

  arrow_pattern : (c : Code) (x : Child) → Moved p kin x → Moves p kin (ArrowPattern c x) (ArrowPattern (placing p c) x)
  arrow_pattern c x f ts r q h l = let z = f (binding (with_in c)) ts r q h.1 l in (z.0, z.1, (h.0, z.2))

  bare_name : (c : Code) (xs : List Child) → AllMoved p kin xs → Moves p kin (BareName c xs) (BareName (placing p c) xs)
  bare_name c [] a ts r q h l = absurd h
  bare_name c (x ∷ xs) a ts r q h l = let z = sorted p kin is_bound_name c x a.0 ts r q h.1 l in (z.0, z.1, (h.0, z.2))

  pub arrow_parameters : (c : Code) (xs : List Child) → AllMoved p kin xs → Moves p kin (ArrowParameters c xs) (ArrowParameters (placing p c) xs)
  arrow_parameters c xs a ts r q (inl h) l = let z = bare_name c xs a ts r q h l in (z.0, z.1, inl z.2)
  arrow_parameters c xs a ts r q (inr h) l = let z = listed p kin (ArrowPattern c) (ArrowPattern (placing p c)) (λ x f. arrow_pattern c x f) false c right_paren_kind xs a h.0 r q h.2 l in
      let y = kin.take c left_paren_kind ts h.0 z.0 h.1 z.1 in (y.0, y.1, inr (z.0, y.2, z.2))

  pub arrow_head : (i : Bool) (c : Code) (xs : List Child) → AllMoved p kin xs → Moves p kin (ArrowHead i c xs) (ArrowHead i (placing p c) xs)
  arrow_head i c xs a ts r q h l = let z = kin.take c arrow_kind h.1 r q h.5 l in let y = arrow_parameters c xs a h.0 h.1 z.0 h.3 z.1 in let x = async_on i c ts h.0 y.0 h.2 y.1 in
      (x.0, x.1, (y.0, z.0, x.2, y.2, sym (kin.breaks h.1 z.0 z.1) ∙ h.4, z.2))

  pub arrow_block : (c : Code) (s : Span) (ps : List Child) (t : Span) (ss : List Child) (i : Bool) → AllMoved p kin ps → AllMoved p kin ss → Moves p kin (ArrowBlock c s ps t ss i) (ArrowBlock (placing p c) s ps t ss i)
  arrow_block c s ps t ss i a b ts r q h l = let z = body (in_list (with_in (in_arrow i c))) t ss b h.0 r q h.2 l in let y = arrow_head i c ps a ts h.0 z.0 h.1 z.1 in (y.0, y.1, (z.0, y.2, z.2, spans_like p kin s ts y.0 r q y.1 l h.3))

  pub arrow_expression : (c : Code) (s : Span) (ps : List Child) (e : Child) (i : Bool) → AllMoved p kin ps → Moved p kin e → Moves p kin (ArrowExpression c s ps e i) (ArrowExpression (placing p c) s ps e i)
  arrow_expression c s ps e i a f ts r q h l = let z = expr p kin assignment_level (in_arrow i c) e f h.0 r q h.3 l in let y = arrow_head i c ps a ts h.0 z.0 h.1 z.1 in
      (y.0, y.1, (z.0, y.2, kin.unlike left_brace_kind refl h.0 z.0 z.1 h.2, z.2, spans_like p kin s ts y.0 r q y.1 l h.4))

  -- ---- 15.4

  method_head : (g i : Bool) (c : Code) → Moves p kin (MethodHead g i c) (MethodHead g i (placing p c))
  method_head g i c ts r q h l = let z = star g c h.0 r q h.2 l in let y = async_on i c ts h.0 z.0 h.1 z.1 in (y.0, y.1, (z.0, y.2, z.2))

  method : (c : Code) (n : ℕ) (k : Child) (o : FunctionParts) (e : Child) → Moved p kin k → Moved p kin e → Moves p kin (Method c n k o e) (Method (placing p c) n k o e)
  method c n k o e f g ts r q h l = either p kin (eqb n plain_method) ts h
      (λ h. let z = g (setting false c) h.1 r q h.4 l in let y = f c h.0 h.1 z.0 h.3 z.1 in let x = method_head o.generator o.async c ts h.0 y.0 h.2 y.1 in (x.0, x.1, (y.0, z.0, x.2, y.2, z.2)))
      (λ h. let z = g (setting (eqb n set_kind) c) h.1 r q h.7 l in let y = f c h.0 h.1 z.0 h.6 z.1 in let x = kin.take_word c n ts h.0 y.0 h.5 y.1 in (x.0, x.1, (y.0, z.0, h.2, h.3, h.4, x.2, y.2, z.2)))

  pub object_method : (c : Code) (s : Span) (k e : Child) (o : Option FunctionParts) → Moved p kin k → Moved p kin e → Moves p kin (ObjectMethod c s k e o) (ObjectMethod (placing p c) s k e o)
  object_method c s k e None f g ts r q h l = absurd h
  object_method c s k e (Some o) f g ts r q h l = let z = method c plain_method k o e f g ts r q h.1 l in (z.0, z.1, (h.0, z.2, h.2, spans_like p kin s ts z.0 r q z.1 l h.3))

  pub getter : (c : Code) (s : Span) (k : Child) (t : Span) (ss : List Child) → Moved p kin k → AllMoved p kin ss → Moves p kin (Getter c s k t ss) (Getter (placing p c) s k t ss)
  getter c s k t ss f a ts r q h l = let d = in_body false false c in let z = body d t ss a h.3 r q h.8 l in let y = kin.take d right_paren_kind h.2 h.3 z.0 h.7 z.1 in let x = kin.take d left_paren_kind h.1 h.2 y.0 h.6 y.1 in
      let w = sorted p kin is_key c k f h.0 h.1 x.0 h.5 x.1 in let v = kin.take_word c get_kind ts h.0 w.0 h.4 w.1 in (v.0, v.1, (w.0, x.0, y.0, z.0, v.2, w.2, x.2, y.2, z.2, spans_like p kin s ts v.0 r q v.1 l h.9))

  pub setter : (c : Code) (s : Span) (k e : Child) (t : Span) (ss : List Child) → Moved p kin k → Moved p kin e → AllMoved p kin ss → Moves p kin (Setter c s k e t ss) (Setter (placing p c) s k e t ss)
  setter c s k e t ss f g a ts r q h l = let d = in_body false false c in let z = body d t ss a h.4 r q h.12 l in let y = kin.take d right_paren_kind h.3 h.4 z.0 h.11 z.1 in let u = g (binding d) h.2 h.3 y.0 h.10 y.1 in let x = kin.take d left_paren_kind h.1 h.2 u.0 h.7 u.1 in
      let w = sorted p kin is_key c k f h.0 h.1 x.0 h.6 x.1 in let v = kin.take_word c set_kind ts h.0 w.0 h.5 w.1 in (v.0, v.1, (w.0, x.0, u.0, y.0, z.0, v.2, w.2, x.2, h.8, h.9, u.2, y.2, z.2, spans_like p kin s ts v.0 r q v.1 l h.13))

  -- ---- 15.7

  heritage : (c : Code) (e : Child) → Moved p kin e → Moves p kin (Heritage c e) (Heritage (placing p c) e)
  heritage c e f ts r q h l = let z = expr p kin new_level c e f h.0 r q h.2 l in let y = kin.take_word c extends_kind ts h.0 z.0 h.1 z.1 in (y.0, y.1, (z.0, y.2, z.2))

  members : (c : Code) (xs : List Child) → AllMoved p kin xs → Moves p kin (Members c xs) (Members (placing p c) xs)
  members c [] a ts r q h l = kin.take c right_brace_kind ts r q h l
  members c (x ∷ xs) a ts r q h l = let z = members c xs a.1 h.0 r q h.2 l in let y = sorted p kin is_member c x a.0 ts h.0 z.0 h.1 z.1 in (y.0, y.1, (z.0, y.2, z.2))

  pub class_tail : (c : Code) (ds ms : List Child) (e : Child) → AllMoved p kin ms → Moved p kin e → Moves p kin (ClassTail c ds ms e) (ClassTail (placing p c) ds ms e)
  class_tail c ds ms e a f ts r q h l = let z = members c ms a h.1 r q h.5 l in let y = kin.take c left_brace_kind h.0 h.1 z.0 h.4 z.1 in
      let x = maybe p kin Heritage c e (λ ts r q h l. heritage c e f ts r q h l) ts h.0 y.0 h.3 y.1 in (x.0, x.1, (y.0, z.0, h.2, x.2, y.2, z.2))

  pub class_declaration : (c : Code) (s : Span) (n k : Child) (o : Option Span) → Moved p kin n → Moved p kin k → Moves p kin (ClassDeclaration c s n k o) (ClassDeclaration (placing p c) s n k o)
  class_declaration c s n k o f g ts r q h l = let z = g (turned_strict (with_in c)) h.1 r q h.4 l in let y = sorted p kin is_ident (turned_strict c) n f h.0 h.1 z.0 h.3 z.1 in let x = kin.take_word c class_kind ts h.0 y.0 h.2 y.1 in
      (x.0, x.1, (y.0, z.0, x.2, y.2, z.2, h.5, spans_like p kin s ts x.0 r q x.1 l h.6))

  pub class_expression : (c : Code) (s : Span) (n k : Child) (o : Option Span) → Moved p kin n → Moved p kin k → Moves p kin (ClassExpression c s n k o) (ClassExpression (placing p c) s n k o)
  class_expression c s n k o f g ts r q h l = let z = g (turned_strict (with_in c)) h.1 r q h.4 l in let d = turned_strict c in let y = maybe p kin Named d n (λ ts r q h l. sorted p kin is_ident d n f ts r q h l) h.0 h.1 z.0 h.3 z.1 in
      let x = kin.take_word c class_kind ts h.0 y.0 h.2 y.1 in (x.0, x.1, (y.0, z.0, x.2, y.2, z.2, h.5, spans_like p kin s ts x.0 r q x.1 l h.6))

  static_on : (b : Bool) (c : Code) → Moves p kin (Static b c) (Static b (placing p c))
  static_on true c ts r q h l = kin.take_word c static_kind ts r q h l
  static_on false c ts r q h l = same p kin ts r q h l

  pub constructs_on : (c : Code) (s : Span) (k : Child) (ps : List Child) (t : Span) (ss : List Child) → Moved p kin k → AllMoved p kin ps → AllMoved p kin ss → Moves p kin (Constructor c s k ps t ss) (Constructor (placing p c) s k ps t ss)
  constructs_on c s k ps t ss f a b ts r q h l = let d = in_body false false c in let z = body d t ss b h.1 r q h.5 l in let y = parameters d ps a h.0 h.1 z.0 h.4 z.1 in let x = f c ts h.0 y.0 h.3 y.1 in
      (x.0, x.1, (y.0, z.0, h.2, x.2, y.2, z.2, spans_like p kin s ts x.0 r q x.1 l h.6))

  pub class_method_on : (may : Tree → Bool) (c : Code) (s : Span) (k e : Child) (o : Option FunctionParts) (n : ℕ) (i : Bool) → Moved p kin k → Moved p kin e → Moves p kin (ClassMethod may c s k e o n i) (ClassMethod may (placing p c) s k e o n i)
  class_method_on may c s k e None n i f g ts r q h l = absurd h
  class_method_on may c s k e (Some o) n i f g ts r q h l = let z = method c n k o e f g h.0 r q h.4 l in let y = static_on i c ts h.0 z.0 h.3 z.1 in (y.0, y.1, (z.0, h.1, h.2, y.2, z.2, h.5, spans_like p kin s ts y.0 r q y.1 l h.6))

  initial : (c : Code) (n : ℕ) (v : Child) → Moved p kin v → Moves p kin (Initial c n v) (Initial (placing p c) n v)
  initial c n v f ts r q h l = either p kin (is_absent v.tree) ts h (λ k. ends_on p kin c n ts r q k l)
      (λ k. let z = ends_on p kin c (ends v.tree) k.1 r q k.4 l in let y = expr p kin assignment_level (in_field c) v f k.0 k.1 z.0 k.3 z.1 in let x = kin.take c assign_kind ts k.0 y.0 k.2 y.1 in (x.0, x.1, (y.0, z.0, x.2, y.2, z.2)))

  initial_like : (c : Code) (i : Bool) (a b : Input) → kin.Like a b → (v : Child) (m q : Input) → Initial c (field_end i (kind a)) v m q → Initial c (field_end i (kind b)) v m q
  initial_like c i a b l v m q h = by_test _ (is_absent v.tree) h
    where
      by_end : Ends c (field_end i (kind a)) m q → Ends c (field_end i (kind b)) m q
      by_end (inl k) = inl k
      by_end (inr k) = inr (k.0, kin.fields c i a b m l k.1, k.2)

      by_test : (P : Type 0) (t : Bool) → By t (Ends c (field_end i (kind a)) m q) P → By t (Ends c (field_end i (kind b)) m q) P
      by_test P true k = by_end k
      by_test P false k = k

  pub field : (may : Tree → Bool) (c : Code) (s : Span) (k v : Child) (i : Bool) (ds : List Child) → Moved p kin k → Moved p kin v → Moves p kin (Field may c s k v i ds) (Field may (placing p c) s k v i ds)
  field may c s k v i ds f g ts r q h l = let z = initial c (field_end i (kind h.0)) v g h.1 r q h.6 l in let y = f c h.0 h.1 z.0 h.5 z.1 in let x = static_on i c ts h.0 y.0 h.4 y.1 in
      (x.0, x.1, (y.0, z.0, h.2, h.3, x.2, y.2, initial_like (placing p c) i h.0 y.0 y.1 v z.0 q z.2, spans_like p kin s ts x.0 r q x.1 l h.7))

  pub accessor : (c : Code) (s : Span) (k v : Child) (i : Bool) (ds : List Child) → Moved p kin k → Moved p kin v → Moves p kin (AutoAccessor c s k v i ds) (AutoAccessor (placing p c) s k v i ds)
  accessor c s k v i ds f g ts r q h l = let z = initial c key_end v g h.2 r q h.9 l in let y = sorted p kin is_any_key c k f h.1 h.2 z.0 h.8 z.1 in let x = kin.take_word c accessor_kind h.0 h.1 y.0 h.6 y.1 in let w = static_on i c ts h.0 x.0 h.5 x.1 in
      (w.0, w.1, (x.0, y.0, z.0, h.3, h.4, w.2, x.2, sym (kin.breaks h.1 y.0 y.1) ∙ h.7, y.2, z.2, spans_like p kin s ts w.0 r q w.1 l h.10))

  pub static_block_on : (c : Code) (s t : Span) (ss : List Child) → AllMoved p kin ss → Moves p kin (StaticBlock c s t ss) (StaticBlock (placing p c) s t ss)
  static_block_on c s t ss a ts r q h l = let d = in_static c in let z = items p kin is_item Closes (λ d. brace p kin d) d false ss a h.1 r q h.4 l in let y = kin.take d left_brace_kind h.0 h.1 z.0 h.3 z.1 in let x = kin.take_word c static_kind ts h.0 y.0 h.2 y.1 in
      (x.0, x.1, (y.0, z.0, x.2, y.2, z.2, spans_like p kin t h.0 y.0 r q y.1 l h.5, spans_like p kin s ts x.0 r q x.1 l h.6))
