-- Two inputs that go on alike: what is asked of such a relation, so that what produces tokens produces those that are like them.
use Rattle.std.proofs.Common.{◌≡◌, ◌<◌, ℕ, Bool, true, false, ◌||◌, ◌==◌, eqb, List, [], ap₂, ◌∙◌}
use Rattle.base_token.specs.declared.place.Span.{Span}
use Rattle.base_token.specs.Kinds.{right_brace_kind, template_kind, case_kind, default_kind}
use Rattle.tree_spec.specs.Tree.{Tree}
use Rattle.grammar_spec.specs.Tokens.Input.{Input, Code, kind, brk, content, lo, hi, kind_of, span, Spans, Takes, TakesWord, TakesAnyWord, TakesName, TakesIn}
use Rattle.grammar_spec.specs.Tokens.Operators.{goes_expr, pauses, other_end, call_level}
use Rattle.grammar_spec.specs.Tokens.Shape.{field_end}
use Rattle.grammar_spec.specs.Statements.{starts_expression_statement, statement_end, starts_head, starts_of, starts_using, starts_pattern}
use Rattle.grammar_spec.specs.Modules.{starts_default}
use Rattle.grammar_laws.specs.Context.Laws.{placing}

-- The second input may also end before a closing brace where the first goes on, so each condition on what stands there is asked one way alone.
pub record Kin (p : Bool) : Type 1 where
  pub Like : Input → Input → Type 0
  pub last : (a b : Input) → Like a b → a.last ≡ b.last
  pub breaks : (a b : Input) → Like a b → brk a ≡ brk b
  pub contents : (a b : Input) → Like a b → content a ≡ content b
  pub starts : (a b : Input) → Like a b → lo a ≡ lo b
  pub stops : (a b : Input) → Like a b → (kind a ≡ template_kind → ⊥) → hi a ≡ hi b
  pub nothing : (a b : Input) → Like a b → a.places ≡ [] → b.places ≡ []
  -- what may not stand there, and what may
  pub unlike : (k : ℕ) → eqb right_brace_kind k ≡ false → (a b : Input) → Like a b → (kind a ≡ k → ⊥) → kind b ≡ k → ⊥
  pub no_pattern : (a b : Input) → Like a b → starts_pattern (kind a) ≡ false → starts_pattern (kind b) ≡ false
  pub ends_case : (a b : Input) → Like a b → ((kind a == case_kind) || ((kind a == default_kind) || (kind a == right_brace_kind))) ≡ true → ((kind b == case_kind) || ((kind b == default_kind) || (kind b == right_brace_kind))) ≡ true
  pub goes : (c : Code) (a b : Input) → Like a b → goes_expr c other_end a < call_level → goes_expr c other_end b < call_level
  pub stays : (c : Code) (e : ℕ) (a b : Input) → Like a b → pauses c e a ≡ true → pauses c e b ≡ true
  pub ended : (c d : Code) (t : Tree) (a b m : Input) → Like a b → pauses d (statement_end c a t) m ≡ true → pauses d (statement_end c b t) m ≡ true
  pub fields : (c : Code) (i : Bool) (a b m : Input) → Like a b → pauses c (field_end i (kind a)) m ≡ true → pauses c (field_end i (kind b)) m ≡ true
  pub begins : (a b : Input) → Like a b → starts_expression_statement a ≡ true → starts_expression_statement b ≡ true
  pub heads : (a b : Input) → Like a b → starts_head a ≡ true → starts_head b ≡ true
  pub ofs : (w : Bool) (a b : Input) → Like a b → starts_of w a ≡ true → starts_of w b ≡ true
  pub usings : (w : Bool) (a b : Input) → Like a b → starts_using w a ≡ true → starts_using w b ≡ true
  pub defaults : (a b : Input) → Like a b → starts_default a ≡ true → starts_default b ≡ true
  -- a token that is taken
  pub take : (c : Code) (k : ℕ) (ts r q : Input) → Takes c k ts r → Like r q → (o : Input) × Like ts o × Takes (placing p c) k o q
  pub take_word : (c : Code) (k : ℕ) (ts r q : Input) → TakesWord c k ts r → Like r q → (o : Input) × Like ts o × TakesWord (placing p c) k o q
  pub take_any : (c : Code) (n : List ℕ) (ts r q : Input) → TakesAnyWord c n ts r → Like r q → (o : Input) × Like ts o × TakesAnyWord (placing p c) n o q
  pub take_name : (c : Code) (n : List ℕ) (ts r q : Input) → TakesName c n ts r → Like r q → (o : Input) × Like ts o × TakesName (placing p c) n o q
  pub take_in : (c : Code) (g k : ℕ) → (kind_of [] ≡ k → ⊥) → (ts r q : Input) → TakesIn c g k ts r → Like r q → (o : Input) × Like ts o × TakesIn (placing p c) g k o q

module _ (p : Bool) (kin : Kin p) where
  -- what produces one list produces the other, up to any such rest
  abbrev pub Moves : (Input → Input → Type 0) → (Input → Input → Type 0) → Type 0
  Moves P Q = (ts r q : Input) → P ts r → kin.Like r q → (o : Input) × kin.Like ts o × Q o q

  pub spans_like : (s : Span) (a b r q : Input) → kin.Like a b → kin.Like r q → Spans s a r → Spans s b q
  spans_like s a b r q l k h = h ∙ ap₂ (λ (x y : ℕ). span x y) (kin.starts a b l) (kin.last r q k)
