-- Expressions and patterns under their goals and in their contexts.
use Rattle.std.proofs.Common.{◌≡◌, ℕ, ◌⊎◌, inl, inr, Bool, true, false, List, [], ◌∷◌, Option, Some, None, eqb, refl, sym, ap, ap₂, ◌∙◌, true≢false}
use Rattle.base_number.specs.Numbers.{SpecNumber}
use Rattle.base_token.specs.declared.place.Span.{Span}
use Rattle.base_token.specs.Kinds.{hash_kind, dot_kind, dot_dot_dot_kind, left_paren_kind, right_paren_kind, left_bracket_kind, right_bracket_kind, left_brace_kind, right_brace_kind, back_quote_kind, template_kind, colon_kind, dollar_brace_kind, question_mark_kind, str_kind, regex_kind, num_kind, big_int_kind, mul_kind, assign_kind, await_kind, new_kind, super_kind, import_kind, yield_kind, meta_kind, target_kind}
use Rattle.grammar_spec.specs.Tokens.Input.{Input, Code, kind, span, Takes, TakesWord, first_span, with_in, assigning, template_goal, template_end_goal}
use Rattle.grammar_spec.specs.Tokens.Operators.{expression_level, assignment_level, coalesce_level, unary_level, new_level, call_level, member_level, right_level}
use Rattle.grammar_spec.specs.Tokens.Shape.{is_absent, is_element, is_prop, is_key, is_bound_name}
use Rattle.grammar_spec.specs.Children.{is_ident, is_quasi, Child, By, IsEmpty, Expr, Sorted}
use Rattle.grammar_spec.specs.Expressions.{Keyword, Identifier, IdentifierName, PrivateIdentifier, StringLiteral, NumericLiteral, BigIntLiteral, RegularExpressionLiteral, Element, ArrayLiteral, ObjectLiteral, PropertyValue, CoverInitializedName, Spread, Bracketed, Characters, TemplateSpans, TemplateLiteral, ParenthesizedExpression, AccessedName, Dotted, Member, SuperProperty, ArgumentList, Arguments, Call, SuperCall, is_at_most_one, ImportArguments, ImportCall, NewWith, NewBare, Optional, ChainMember, ChainCall, TaggedTemplate, MetaProperty, Update, Unary, Await, Binary, Conditional, Assignment, Sequence, YieldBare, Yield}
use Rattle.grammar_spec.specs.Patterns.{Target, Item, ArrayPattern, Property, ObjectPattern, Initialised, Rest, KeyedItem, NamedItem}
use Rattle.grammar_laws.specs.Context.Laws.{placing}
use Rattle.grammar_laws.proofs.context.Kin.{Kin, Moves, spans_like}
use Rattle.grammar_laws.proofs.context.Forms.{Moved, AllMoved, same, either, expr, sorted, listed, comma_then}

module _ (p : Bool) (kin : Kin p) where
  -- ---- 13.2

  pub keyword : (k : ℕ) (c : Code) (s : Span) → Moves p kin (Keyword k c s) (Keyword k (placing p c) s)
  keyword k c s ts r q h l = let z = kin.take_word c k ts r q h.0 l in (z.0, z.1, (z.2, spans_like p kin s ts z.0 r q z.1 l h.1))

  pub identifier : (c : Code) (s : Span) (n : List ℕ) → Moves p kin (Identifier c s n) (Identifier (placing p c) s n)
  identifier c s n ts r q h l = let z = kin.take_name c n ts r q h.0 l in (z.0, z.1, (z.2, spans_like p kin s ts z.0 r q z.1 l h.1))

  pub identifier_name : (c : Code) (s : Span) (n : List ℕ) → Moves p kin (IdentifierName c s n) (IdentifierName (placing p c) s n)
  identifier_name c s n ts r q h l = let z = kin.take_any c n ts r q h.0 l in (z.0, z.1, (z.2, spans_like p kin s ts z.0 r q z.1 l h.1))

  pub private : (c : Code) (s : Span) (n : List ℕ) → Moves p kin (PrivateIdentifier c s n) (PrivateIdentifier (placing p c) s n)
  private c s n ts r q h l = let z = kin.take_any c n h.0 r q h.3 l in let y = kin.take c hash_kind ts h.0 z.0 h.1 z.1 in
      (y.0, y.1, (z.0, y.2, sym (kin.starts h.0 z.0 z.1) ∙ (h.2 ∙ kin.last h.0 z.0 z.1), z.2, spans_like p kin s ts y.0 r q y.1 l h.4))

  pub string : (c : Code) (s : Span) (u : List ℕ) (w : Option (List ℕ)) → Moves p kin (StringLiteral c s u w) (StringLiteral (placing p c) s u w)
  string c s u w ts r q h l = let z = kin.take c str_kind ts r q h.3 l in (z.0, z.1, (h.0, h.1, sym (kin.contents ts z.0 z.1) ∙ h.2, z.2, spans_like p kin s ts z.0 r q z.1 l h.4))

  pub number : (c : Code) (s : Span) (v : SpecNumber) (w : Option (List ℕ)) → Moves p kin (NumericLiteral c s v w) (NumericLiteral (placing p c) s v w)
  number c s v w ts r q h l = let z = kin.take c num_kind ts r q h.3 l in (z.0, z.1, (h.0, h.1, sym (kin.contents ts z.0 z.1) ∙ h.2, z.2, spans_like p kin s ts z.0 r q z.1 l h.4))

  pub big_int : (c : Code) (s : Span) (b : ℕ) (d : List ℕ) (w : Option (List ℕ)) → Moves p kin (BigIntLiteral c s b d w) (BigIntLiteral (placing p c) s b d w)
  big_int c s b d w ts r q h l = let z = kin.take c big_int_kind ts r q h.3 l in (z.0, z.1, (h.0, h.1, sym (kin.contents ts z.0 z.1) ∙ h.2, z.2, spans_like p kin s ts z.0 r q z.1 l h.4))

  pub regexp : (c : Code) (s : Span) (e f : List ℕ) → Moves p kin (RegularExpressionLiteral c s e f) (RegularExpressionLiteral (placing p c) s e f)
  regexp c s e f ts r q h l = let z = kin.take c regex_kind ts r q h.1 l in (z.0, z.1, (sym (kin.contents ts z.0 z.1) ∙ h.0, z.2, spans_like p kin s ts z.0 r q z.1 l h.2))

  first_like : (k : ℕ) → eqb k template_kind ≡ false → (a b : Input) → kin.Like a b → kind a ≡ k → first_span a ≡ first_span b
  first_like k n a b l e = ap₂ (λ (x y : ℕ). span x y) (kin.starts a b l) (kin.stops a b l (λ o. true≢false (sym (ap (λ (z : ℕ). eqb z template_kind) o) ∙ (ap (λ (z : ℕ). eqb z template_kind) e ∙ n))))

  pub element : (c : Code) (s : Span) (d : Option Span) (e : Child) → Moved p kin e → Moves p kin (Element c s d e) (Element (placing p c) s d e)
  element c s None e f ts r q h l = let z = expr p kin assignment_level (with_in c) e f ts r q h.0 l in (z.0, z.1, (z.2, spans_like p kin s ts z.0 r q z.1 l h.1))
  element c s (Some d) e f ts r q h l = let z = expr p kin assignment_level (with_in c) e f h.0 r q h.3 l in let y = kin.take c dot_dot_dot_kind ts h.0 z.0 h.1 z.1 in
      (y.0, y.1, (z.0, y.2, h.2 ∙ first_like dot_dot_dot_kind refl ts y.0 y.1 h.1.0, z.2, spans_like p kin s ts y.0 r q y.1 l h.4))

  pub array : (c : Code) (s : Span) (xs : List Child) → AllMoved p kin xs → Moves p kin (ArrayLiteral c s xs) (ArrayLiteral (placing p c) s xs)
  array c s xs a ts r q h l = let z = listed p kin (Sorted is_element c) (Sorted is_element (placing p c)) (λ x f. sorted p kin is_element c x f) true c right_bracket_kind xs a h.0 r q h.2 l in
      let y = kin.take c left_bracket_kind ts h.0 z.0 h.1 z.1 in (y.0, y.1, (z.0, y.2, z.2, spans_like p kin s ts y.0 r q y.1 l h.3))

  pub object : (c : Code) (s : Span) (xs : List Child) → AllMoved p kin xs → Moves p kin (ObjectLiteral c s xs) (ObjectLiteral (placing p c) s xs)
  object c s xs a ts r q h l = let z = listed p kin (Sorted is_prop c) (Sorted is_prop (placing p c)) (λ x f. sorted p kin is_prop c x f) false c right_brace_kind xs a h.0 r q h.2 l in
      let y = kin.take c left_brace_kind ts h.0 z.0 h.1 z.1 in (y.0, y.1, (z.0, y.2, z.2, spans_like p kin s ts y.0 r q y.1 l h.3))

  pub property : (c : Code) (s : Span) (k v : Child) → Moved p kin k → Moved p kin v → Moves p kin (PropertyValue c s k v) (PropertyValue (placing p c) s k v)
  property c s k v f g ts r q h l = let z = expr p kin assignment_level (with_in c) v g h.1 r q h.4 l in let y = kin.take c colon_kind h.0 h.1 z.0 h.3 z.1 in let x = sorted p kin is_key c k f ts h.0 y.0 h.2 y.1 in
      (x.0, x.1, (y.0, z.0, x.2, y.2, z.2, spans_like p kin s ts x.0 r q x.1 l h.5))

  pub cover : (c : Code) (s : Span) (k v : Child) → Moved p kin k → Moved p kin v → Moves p kin (CoverInitializedName c s k v) (CoverInitializedName (placing p c) s k v)
  cover c s k v f g ts r q h l = let z = expr p kin assignment_level (with_in c) v g h.1 r q h.4 l in let y = kin.take c assign_kind h.0 h.1 z.0 h.3 z.1 in let x = sorted p kin is_ident c k f ts h.0 y.0 h.2 y.1 in
      (x.0, x.1, (y.0, z.0, x.2, y.2, z.2, spans_like p kin s ts x.0 r q x.1 l h.5))

  pub spread : (c : Code) (s : Span) (e : Child) → Moved p kin e → Moves p kin (Spread c s e) (Spread (placing p c) s e)
  spread c s e f ts r q h l = let z = expr p kin assignment_level (with_in c) e f h.0 r q h.2 l in let y = kin.take c dot_dot_dot_kind ts h.0 z.0 h.1 z.1 in (y.0, y.1, (z.0, y.2, z.2, spans_like p kin s ts y.0 r q y.1 l h.3))

  pub bracketed : (n : ℕ) (c : Code) (s : Span) (e : Child) → Moved p kin e → Moves p kin (Bracketed n c s e) (Bracketed n (placing p c) s e)
  bracketed n c s e f ts r q h l = let z = kin.take c right_bracket_kind h.1 r q h.4 l in let y = expr p kin n (with_in c) e f h.0 h.1 z.0 h.3 z.1 in let x = kin.take c left_bracket_kind ts h.0 y.0 h.2 y.1 in
      (x.0, x.1, (y.0, z.0, x.2, y.2, z.2, spans_like p kin s ts x.0 r q x.1 l h.5))

  pub characters : (c : Code) (s : Span) (t : Bool) (w : List ℕ) (u : Option (List ℕ)) → Moves p kin (Characters c s t w u) (Characters (placing p c) s t w u)
  characters c s t w u ts r q h l = let z = kin.take_in c template_goal template_kind (λ e. cc) ts r q h.1 l in (z.0, z.1, (sym (kin.contents ts z.0 z.1) ∙ h.0, z.2, spans_like p kin s ts z.0 r q z.1 l h.2))

  template_spans : (t : Bool) (c : Code) (es qs : List Child) → AllMoved p kin es → AllMoved p kin qs → Moves p kin (TemplateSpans t c es qs) (TemplateSpans t (placing p c) es qs)
  template_spans t c [] [] a b ts r q h l = absurd h
  template_spans t c (e ∷ es) [] a b ts r q h l = absurd h
  template_spans t c [] (y ∷ ys) a b ts r q h l = let z = kin.take_in c template_end_goal back_quote_kind (λ e. cc) h.0 r q h.5 l in let x = sorted p kin is_quasi c y b.0 ts h.0 z.0 h.4 z.1 in
      (x.0, x.1, (z.0, h.1, h.2, h.3, x.2, z.2))
  template_spans t c (e ∷ es) (y ∷ ys) a b ts r q h l = let z = template_spans t c es ys a.1 b.1 h.3 r q h.10 l in let x = kin.take c right_brace_kind h.2 h.3 z.0 h.9 z.1 in
      let w = expr p kin expression_level (with_in c) e a.0 h.1 h.2 x.0 h.8 x.1 in let v = kin.take_in c template_end_goal dollar_brace_kind (λ e. cc) h.0 h.1 w.0 h.7 w.1 in let u = sorted p kin is_quasi c y b.0 ts h.0 v.0 h.6 v.1 in
      (u.0, u.1, (v.0, w.0, x.0, z.0, h.4, h.5, u.2, v.2, w.2, x.2, z.2))

  pub template : (t : Bool) (c : Code) (s : Span) (es qs : List Child) → AllMoved p kin es → AllMoved p kin qs → Moves p kin (TemplateLiteral t c s es qs) (TemplateLiteral t (placing p c) s es qs)
  template t c s es qs a b ts r q h l = let z = template_spans t c es qs a b h.0 r q h.2 l in let y = kin.take c back_quote_kind ts h.0 z.0 h.1 z.1 in (y.0, y.1, (z.0, y.2, z.2, spans_like p kin s ts y.0 r q y.1 l h.3))

  pub parens : (c : Code) (s : Span) (e : Child) → Moved p kin e → Moves p kin (ParenthesizedExpression c s e) (ParenthesizedExpression (placing p c) s e)
  parens c s e f ts r q h l = let z = kin.take c right_paren_kind h.1 r q h.4 l in let y = expr p kin expression_level (with_in c) e f h.0 h.1 z.0 h.3 z.1 in let x = kin.take c left_paren_kind ts h.0 y.0 h.2 y.1 in
      (x.0, x.1, (y.0, z.0, x.2, y.2, z.2, spans_like p kin s ts x.0 r q x.1 l h.5))

  -- ---- 13.3

  pub accessed : (b : Bool) (c : Code) (k : Child) → Moved p kin k → Moves p kin (AccessedName b c k) (AccessedName b (placing p c) k)
  accessed b c k f ts r q h l = let z = f c ts r q h.1 l in (z.0, z.1, (h.0, z.2))

  pub dotted : (b : Bool) (c : Code) (k : Child) → Moved p kin k → Moves p kin (Dotted b c k) (Dotted b (placing p c) k)
  dotted b c k f ts r q h l = let z = accessed b c k f h.0 r q h.2 l in let y = kin.take c dot_kind ts h.0 z.0 h.1 z.1 in (y.0, y.1, (z.0, y.2, z.2))

  pub member : (c : Code) (s : Span) (o : Child) (A B : Input → Input → Type 0) → Moved p kin o → Moves p kin A B → Moves p kin (Member c s o A) (Member (placing p c) s o B)
  member c s o A B f g ts r q h l = let z = g h.0 r q h.3 l in let y = expr p kin call_level c o f ts h.0 z.0 h.2 z.1 in (y.0, y.1, (z.0, h.1, y.2, z.2, spans_like p kin s ts y.0 r q y.1 l h.4))

  pub super_property : (c : Code) (s t : Span) (A B : Input → Input → Type 0) → Moves p kin A B → Moves p kin (SuperProperty c s t A) (SuperProperty (placing p c) s t B)
  super_property c s t A B g ts r q h l = let z = g h.0 r q h.3 l in let y = kin.take_word c super_kind ts h.0 z.0 h.1 z.1 in (y.0, y.1, (z.0, y.2, spans_like p kin t ts y.0 h.0 z.0 y.1 z.1 h.2, z.2, spans_like p kin s ts y.0 r q y.1 l h.4))

  argument_list : (c : Code) (xs : List Child) → AllMoved p kin xs → Moves p kin (ArgumentList c xs) (ArgumentList (placing p c) xs)
  argument_list c xs a ts r q h l = listed p kin (Sorted is_element c) (Sorted is_element (placing p c)) (λ x f. sorted p kin is_element c x f) false c right_paren_kind xs a ts r q h l

  pub arguments : (c : Code) (xs : List Child) → AllMoved p kin xs → Moves p kin (Arguments c xs) (Arguments (placing p c) xs)
  arguments c xs a ts r q h l = let z = argument_list c xs a h.0 r q h.2 l in let y = kin.take c left_paren_kind ts h.0 z.0 h.1 z.1 in (y.0, y.1, (z.0, y.2, z.2))

  pub call : (c : Code) (s : Span) (e : Child) (xs : List Child) → Moved p kin e → AllMoved p kin xs → Moves p kin (Call c s e xs) (Call (placing p c) s e xs)
  call c s e xs f a ts r q h l = let z = arguments c xs a h.0 r q h.3 l in let y = expr p kin call_level c e f ts h.0 z.0 h.2 z.1 in (y.0, y.1, (z.0, h.1, y.2, z.2, spans_like p kin s ts y.0 r q y.1 l h.4))

  pub super_call : (c : Code) (s t : Span) (xs : List Child) → AllMoved p kin xs → Moves p kin (SuperCall c s t xs) (SuperCall (placing p c) s t xs)
  super_call c s t xs a ts r q h l = let z = arguments c xs a h.0 r q h.3 l in let y = kin.take_word c super_kind ts h.0 z.0 h.1 z.1 in (y.0, y.1, (z.0, y.2, spans_like p kin t ts y.0 h.0 z.0 y.1 z.1 h.2, z.2, spans_like p kin s ts y.0 r q y.1 l h.4))

  abbrev Imported : Code → Child → List Child → Input → Input → Type 0
  Imported c x xs ts r = By c.syntax.import_attributes ((is_at_most_one xs ≡ true) × ArgumentList c (x ∷ xs) ts r) (IsEmpty xs × (m : Input) × Sorted is_element c x ts m × Takes c right_paren_kind m r)

  imported : (c : Code) (x : Child) (xs : List Child) → AllMoved p kin (x ∷ xs) → Moves p kin (Imported c x xs) (Imported (placing p c) x xs)
  imported c x xs a ts r q h l = either p kin c.syntax.import_attributes ts h (λ k. let z = argument_list c (x ∷ xs) a ts r q k.1 l in (z.0, z.1, (k.0, z.2)))
      (λ k. let z = kin.take c right_paren_kind k.1 r q k.3 l in let y = sorted p kin is_element c x a.0 ts k.1 z.0 k.2 z.1 in (y.0, y.1, (k.0, z.0, y.2, z.2)))

  import_arguments : (c : Code) (xs : List Child) → AllMoved p kin xs → Moves p kin (ImportArguments c xs) (ImportArguments (placing p c) xs)
  import_arguments c [] a ts r q h l = absurd h
  import_arguments c (x ∷ xs) a ts r q h l = let z = imported c x xs a ts r q h.1 l in (z.0, z.1, (h.0, z.2))

  pub import_call : (c : Code) (s t : Span) (xs : List Child) → AllMoved p kin xs → Moves p kin (ImportCall c s t xs) (ImportCall (placing p c) s t xs)
  import_call c s t xs a ts r q h l = let z = import_arguments c xs a h.1 r q h.5 l in let y = kin.take c left_paren_kind h.0 h.1 z.0 h.4 z.1 in let x = kin.take_word c import_kind ts h.0 y.0 h.2 y.1 in
      (x.0, x.1, (y.0, z.0, x.2, spans_like p kin t ts x.0 h.0 y.0 x.1 y.1 h.3, y.2, z.2, spans_like p kin s ts x.0 r q x.1 l h.6))

  pub new_with : (c : Code) (s : Span) (e : Child) (xs : List Child) → Moved p kin e → AllMoved p kin xs → Moves p kin (NewWith c s e xs) (NewWith (placing p c) s e xs)
  new_with c s e xs f a ts r q h l = let z = arguments c xs a h.1 r q h.4 l in let y = expr p kin member_level c e f h.0 h.1 z.0 h.3 z.1 in let x = kin.take_word c new_kind ts h.0 y.0 h.2 y.1 in
      (x.0, x.1, (y.0, z.0, x.2, y.2, z.2, spans_like p kin s ts x.0 r q x.1 l h.5))

  pub new_bare : (c : Code) (s : Span) (e : Child) → Moved p kin e → Moves p kin (NewBare c s e) (NewBare (placing p c) s e)
  new_bare c s e f ts r q h l = let z = f (assigning c) h.0 r q h.3 l in let y = kin.take_word c new_kind ts h.0 z.0 h.1 z.1 in
      (y.0, y.1, (z.0, y.2, h.2, z.2, kin.goes c r q l h.4, spans_like p kin s ts y.0 r q y.1 l h.5))

  optional : (c : Code) → Moves p kin (Optional c) (Optional (placing p c))
  optional c ts r q h l = let z = kin.take c dot_kind h.0 r q h.2 l in let y = kin.take c question_mark_kind ts h.0 z.0 h.1 z.1 in (y.0, y.1, (z.0, y.2, z.2))

  pub chain_member : (c : Code) (s : Span) (b : Bool) (t : Span) (o : Child) (A B C D : Input → Input → Type 0) → Moved p kin o → Moves p kin A C → Moves p kin B D → Moves p kin (ChainMember c s b t o A B) (ChainMember (placing p c) s b t o C D)
  chain_member c s true t o A B C D f g k ts r q h l = let z = k h.1 r q h.4 l in let y = optional c h.0 h.1 z.0 h.3 z.1 in let x = expr p kin call_level c o f ts h.0 y.0 h.2 y.1 in
      (x.0, x.1, (y.0, z.0, x.2, y.2, z.2, spans_like p kin s ts x.0 r q x.1 l h.5, spans_like p kin t ts x.0 r q x.1 l h.6))
  chain_member c s false t o A B C D f g k ts r q h l = let z = g h.0 r q h.3 l in let y = f (assigning c) ts h.0 z.0 h.2 z.1 in (y.0, y.1, (z.0, h.1, y.2, z.2, spans_like p kin s ts y.0 r q y.1 l h.4, spans_like p kin t ts y.0 r q y.1 l h.5))

  pub chain_call : (c : Code) (s : Span) (b : Bool) (t : Span) (e : Child) (xs : List Child) → Moved p kin e → AllMoved p kin xs → Moves p kin (ChainCall c s b t e xs) (ChainCall (placing p c) s b t e xs)
  chain_call c s true t e xs f a ts r q h l = let z = arguments c xs a h.1 r q h.4 l in let y = optional c h.0 h.1 z.0 h.3 z.1 in let x = expr p kin call_level c e f ts h.0 y.0 h.2 y.1 in
      (x.0, x.1, (y.0, z.0, x.2, y.2, z.2, spans_like p kin s ts x.0 r q x.1 l h.5, spans_like p kin t ts x.0 r q x.1 l h.6))
  chain_call c s false t e xs f a ts r q h l = let z = arguments c xs a h.0 r q h.3 l in let y = f (assigning c) ts h.0 z.0 h.2 z.1 in (y.0, y.1, (z.0, h.1, y.2, z.2, spans_like p kin s ts y.0 r q y.1 l h.4, spans_like p kin t ts y.0 r q y.1 l h.5))

  pub tagged : (c : Code) (s : Span) (e : Child) (t : Span) (es qs : List Child) → Moved p kin e → AllMoved p kin es → AllMoved p kin qs → Moves p kin (TaggedTemplate c s e t es qs) (TaggedTemplate (placing p c) s e t es qs)
  tagged c s e t es qs f a b ts r q h l = let z = template true c t es qs a b h.0 r q h.3 l in let y = expr p kin call_level c e f ts h.0 z.0 h.2 z.1 in (y.0, y.1, (z.0, h.1, y.2, z.2, spans_like p kin s ts y.0 r q y.1 l h.4))

  meta_word : (c : Code) (k : ℕ) → Moves p kin (λ n r. ((k ≡ new_kind) × TakesWord c target_kind n r) ⊎ ((k ≡ import_kind) × TakesWord c meta_kind n r)) (λ n r. ((k ≡ new_kind) × TakesWord (placing p c) target_kind n r) ⊎ ((k ≡ import_kind) × TakesWord (placing p c) meta_kind n r))
  meta_word c k ts r q (inl h) l = let z = kin.take_word c target_kind ts r q h.1 l in (z.0, z.1, inl (h.0, z.2))
  meta_word c k ts r q (inr h) l = let z = kin.take_word c meta_kind ts r q h.1 l in (z.0, z.1, inr (h.0, z.2))

  pub meta_property : (c : Code) (s : Span) (k : ℕ) → Moves p kin (MetaProperty c s k) (MetaProperty (placing p c) s k)
  meta_property c s k ts r q h l = let z = meta_word c k h.1 r q h.4 l in let y = kin.take c dot_kind h.0 h.1 z.0 h.3 z.1 in let x = kin.take_word c k ts h.0 y.0 h.2 y.1 in (x.0, x.1, (y.0, z.0, x.2, y.2, z.2, spans_like p kin s ts x.0 r q x.1 l h.5))

  -- ---- 13.4 to 13.16

  pub update : (c : Code) (s : Span) (op : ℕ) (b : Bool) (a : Child) → Moved p kin a → Moves p kin (Update c s op b a) (Update (placing p c) s op b a)
  update c s op true a f ts r q h l = let z = expr p kin unary_level c a f h.0 r q h.3 l in let y = kin.take c op ts h.0 z.0 h.2 z.1 in (y.0, y.1, (z.0, h.1, y.2, z.2, spans_like p kin s ts y.0 r q y.1 l h.4))
  update c s op false a f ts r q h l = let z = kin.take c op h.0 r q h.4 l in let y = expr p kin new_level c a f ts h.0 z.0 h.2 z.1 in (y.0, y.1, (z.0, h.1, y.2, sym (kin.breaks h.0 z.0 z.1) ∙ h.3, z.2, spans_like p kin s ts y.0 r q y.1 l h.5))

  pub unary : (c : Code) (s : Span) (op : ℕ) (a : Child) → Moved p kin a → Moves p kin (Unary c s op a) (Unary (placing p c) s op a)
  unary c s op a f ts r q h l = let z = expr p kin unary_level c a f h.0 r q h.3 l in let y = kin.take_word c op ts h.0 z.0 h.2 z.1 in (y.0, y.1, (z.0, h.1, y.2, z.2, spans_like p kin s ts y.0 r q y.1 l h.4))

  pub awaits : (c : Code) (s : Span) (a : Child) → Moved p kin a → Moves p kin (Await c s a) (Await (placing p c) s a)
  awaits c s a f ts r q h l = let z = expr p kin unary_level c a f h.0 r q h.3 l in let y = kin.take_word c await_kind ts h.0 z.0 h.2 z.1 in (y.0, y.1, (z.0, h.1, y.2, z.2, spans_like p kin s ts y.0 r q y.1 l h.4))

  pub binary : (c : Code) (s : Span) (op : ℕ) (a b : Child) → Moved p kin a → Moved p kin b → Moves p kin (Binary c s op a b) (Binary (placing p c) s op a b)
  binary c s op a b f g ts r q h l = let z = expr p kin (right_level op) c b g h.1 r q h.6 l in let y = kin.take_word c op h.0 h.1 z.0 h.5 z.1 in let x = f (assigning c) ts h.0 y.0 h.4 y.1 in
      (x.0, x.1, (y.0, z.0, h.2, h.3, x.2, y.2, z.2, spans_like p kin s ts x.0 r q x.1 l h.7))

  pub conditional : (c : Code) (s : Span) (a b d : Child) → Moved p kin a → Moved p kin b → Moved p kin d → Moves p kin (Conditional c s a b d) (Conditional (placing p c) s a b d)
  conditional c s a b d f g k ts r q h l = let z = expr p kin assignment_level c d k h.3 r q h.8 l in let y = kin.take c colon_kind h.2 h.3 z.0 h.7 z.1 in let x = expr p kin assignment_level (with_in c) b g h.1 h.2 y.0 h.6 y.1 in
      let w = kin.take c question_mark_kind h.0 h.1 x.0 h.5 x.1 in let v = expr p kin coalesce_level c a f ts h.0 w.0 h.4 w.1 in (v.0, v.1, (w.0, x.0, y.0, z.0, v.2, w.2, x.2, y.2, z.2, spans_like p kin s ts v.0 r q v.1 l h.9))

  pub assignment : (c : Code) (s : Span) (op : ℕ) (a b : Child) → Moved p kin a → Moved p kin b → Moves p kin (Assignment c s op a b) (Assignment (placing p c) s op a b)
  assignment c s op a b f g ts r q h l = let z = expr p kin assignment_level c b g h.1 r q h.6 l in let y = kin.take c op h.0 h.1 z.0 h.5 z.1 in let x = f (assigning c) ts h.0 y.0 h.4 y.1 in
      (x.0, x.1, (y.0, z.0, h.2, h.3, x.2, y.2, z.2, spans_like p kin s ts x.0 r q x.1 l h.7))

  pub sequence : (c : Code) (s : Span) (xs : List Child) → AllMoved p kin xs → Moves p kin (Sequence c s xs) (Sequence (placing p c) s xs)
  sequence c s [] a ts r q h l = absurd h
  sequence c s (x ∷ []) a ts r q h l = absurd h
  sequence c s (x ∷ (y ∷ ys)) a ts r q h l = let z = comma_then p kin (Expr assignment_level c) (Expr assignment_level (placing p c)) (λ v f. expr p kin assignment_level c v f) c (y ∷ ys) a.1 h.0 r q h.2 l in
      let w = expr p kin assignment_level c x a.0 ts h.0 z.0 h.1 z.1 in (w.0, w.1, (z.0, w.2, z.2, spans_like p kin s ts w.0 r q w.1 l h.3))

  pub yield_bare : (c : Code) (s : Span) → Moves p kin (YieldBare c s) (YieldBare (placing p c) s)
  yield_bare c s ts r q h l = let z = kin.take_word c yield_kind ts r q h.1 l in (z.0, z.1, (h.0, z.2, spans_like p kin s ts z.0 r q z.1 l h.2))

  pub yields : (c : Code) (s : Span) (a : Child) (b : Bool) → Moved p kin a → Moves p kin (Yield c s a b) (Yield (placing p c) s a b)
  yields c s a false f ts r q h l = let z = expr p kin assignment_level c a f h.0 r q h.4 l in let y = kin.take_word c yield_kind ts h.0 z.0 h.2 z.1 in (y.0, y.1, (z.0, h.1, y.2, sym (kin.breaks h.0 z.0 z.1) ∙ h.3, z.2, spans_like p kin s ts y.0 r q y.1 l h.5))
  yields c s a true f ts r q h l = let z = expr p kin assignment_level c a f h.1 r q h.6 l in let y = kin.take c mul_kind h.0 h.1 z.0 h.5 z.1 in let x = kin.take_word c yield_kind ts h.0 y.0 h.3 y.1 in
      (x.0, x.1, (y.0, z.0, h.2, x.2, sym (kin.breaks h.0 y.0 y.1) ∙ h.4, y.2, z.2, spans_like p kin s ts x.0 r q x.1 l h.7))

  -- ---- patterns (13.15.5, 14.3.3)

  pub item : (c : Code) (x : Child) → Moved p kin x → Moves p kin (Item c x) (Item (placing p c) x)
  item c x f ts r q h l = let z = f (with_in c) ts r q h.1 l in (z.0, z.1, (h.0, z.2))

  pub array_pattern : (c : Code) (s : Span) (xs : List Child) → AllMoved p kin xs → Moves p kin (ArrayPattern c s xs) (ArrayPattern (placing p c) s xs)
  array_pattern c s xs a ts r q h l = let z = listed p kin (Item c) (Item (placing p c)) (λ x f. item c x f) true c right_bracket_kind xs a h.0 r q h.2 l in
      let y = kin.take c left_bracket_kind ts h.0 z.0 h.1 z.1 in (y.0, y.1, (z.0, y.2, z.2, spans_like p kin s ts y.0 r q y.1 l h.3))

  pattern_property : (c : Code) (x : Child) → Moved p kin x → Moves p kin (Property c x) (Property (placing p c) x)
  pattern_property c x f ts r q h l = let z = f (with_in c) ts r q h.2 l in (z.0, z.1, (h.0, h.1, z.2))

  pub object_pattern : (c : Code) (s : Span) (xs : List Child) → AllMoved p kin xs → Moves p kin (ObjectPattern c s xs) (ObjectPattern (placing p c) s xs)
  object_pattern c s xs a ts r q h l = let z = listed p kin (Property c) (Property (placing p c)) (λ x f. pattern_property c x f) false c right_brace_kind xs a h.0 r q h.2 l in
      let y = kin.take c left_brace_kind ts h.0 z.0 h.1 z.1 in (y.0, y.1, (z.0, y.2, z.2, spans_like p kin s ts y.0 r q y.1 l h.3))

  pub target : (c : Code) (e : Child) → Moved p kin e → Moves p kin (Target c e) (Target (placing p c) e)
  target c e f ts r q h l = let z = f c ts r q h.1 l in (z.0, z.1, (h.0, z.2))

  pub initialised : (c : Code) (s : Span) (a e : Child) → Moved p kin a → Moved p kin e → Moves p kin (Initialised c s a e) (Initialised (placing p c) s a e)
  initialised c s a e f g ts r q h l = let z = expr p kin assignment_level (with_in c) e g h.1 r q h.5 l in let y = kin.take c assign_kind h.0 h.1 z.0 h.4 z.1 in let x = f c ts h.0 y.0 h.3 y.1 in
      (x.0, x.1, (y.0, z.0, h.2, x.2, y.2, z.2, spans_like p kin s ts x.0 r q x.1 l h.6))

  pub rests : (c : Code) (s d : Span) (a : Child) → Moved p kin a → Moves p kin (Rest c s d a) (Rest (placing p c) s d a)
  rests c s d a f ts r q h l = let z = f c h.0 r q h.4 l in let y = kin.take c dot_dot_dot_kind ts h.0 z.0 h.1 z.1 in (y.0, y.1, (z.0, y.2, h.2 ∙ rw (kin.starts ts y.0 y.1) refl, h.3, z.2, spans_like p kin s ts y.0 r q y.1 l h.5))

  pub keyed_item : (c : Code) (s : Span) (k a : Child) → Moved p kin k → Moved p kin a → Moves p kin (KeyedItem c s k a) (KeyedItem (placing p c) s k a)
  keyed_item c s k a f g ts r q h l = let z = item c a g h.1 r q h.4 l in let y = kin.take c colon_kind h.0 h.1 z.0 h.3 z.1 in let x = sorted p kin is_key (assigning c) k f ts h.0 y.0 h.2 y.1 in
      (x.0, x.1, (y.0, z.0, x.2, y.2, z.2, h.5, spans_like p kin s ts x.0 r q x.1 l h.6))

  -- an initialiser that may be left out, after its sign
  abbrev pub Initialiser : Code → Code → Child → Input → Input → Type 0
  Initialiser c d e m r = By (is_absent e.tree) (m ≡ r) ((n : Input) × Takes c assign_kind m n × Expr assignment_level d e n r)

  pub initialiser : (c d : Code) (e : Child) → Moved p kin e → Moves p kin (Initialiser c d e) (Initialiser (placing p c) (placing p d) e)
  initialiser c d e f ts r q h l = either p kin (is_absent e.tree) ts h (λ k. same p kin ts r q k l) (λ k. let z = expr p kin assignment_level d e f k.0 r q k.2 l in let y = kin.take c assign_kind ts k.0 z.0 k.1 z.1 in (y.0, y.1, (z.0, y.2, z.2)))

  pub named_item : (c : Code) (s : Span) (k e : Child) → Moved p kin k → Moved p kin e → Moves p kin (NamedItem c s k e) (NamedItem (placing p c) s k e)
  named_item c s k e f g ts r q h l = let z = initialiser c (with_in c) e g h.0 r q h.2 l in let y = sorted p kin is_bound_name c k f ts h.0 z.0 h.1 z.1 in (y.0, y.1, (z.0, y.2, z.2, spans_like p kin s ts y.0 r q y.1 l h.3))
