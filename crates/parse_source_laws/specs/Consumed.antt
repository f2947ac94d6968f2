-- What is read of a source is read of a list that the source hands out.
use Rattle.std.specs.Prelude.{◌≡◌, ◌⊎◌, ℕ, Bool, true, false, nat_le, List, ◌∷◌, ◌++◌, Result, Ok, Err}
use Rattle.base_token.specs.declared.context.Context.{Context}
use Rattle.base_token.specs.declared.syntax.EsSyntax.{EsSyntax}
use Rattle.base_token.specs.Kinds.{div_assign_kind, error_kind}
use Rattle.tree_spec.specs.Tree.{Tree}
use Rattle.grammar_spec.specs.Tokens.Input.{PlacedToken, Input, Code, kind_of}
use Rattle.grammar_spec.specs.Tokens.Operators.{closed_end}
use Rattle.grammar_spec.specs.Tokens.Shape.{ends}
use Rattle.grammar_spec.specs.Reader.Source.{Fault, Stream, State, Read, list_stream, operand}
use Rattle.grammar_spec.specs.Reader.Expressions.{key_by, parameter_by, prop_by}
use Rattle.grammar_spec.specs.Reader.Statements.{pattern_prop}
use Rattle.grammar_spec.specs.Reader.Modules.{item_by}
use Rattle.grammar_spec.specs.Reader.Reading.{readers, read_program, read_list}
use Rattle.parse_source_laws.specs.Sources.{is_slash, Rereads, HandsOut, Orderly}
use Rattle.parse_source_laws.specs.Laws.{from_source, from_list}

-- What is asked of a source besides, so that a list of its tokens can be told from a reading of it.
pub record Backward {S : Type 0} (m : Stream S) (Live : S → Type 0) (modules : Bool) : Type 0 where
  -- what it hands out under other code around, it handed out before
  pub told_back : (x : Context) (s : S) (ps : List PlacedToken) → x.module_ ≡ modules → Live s → HandsOut m ps (m.retold x s) → HandsOut m ps s
  -- a slash is read again as a regular expression in its place, or as a fault, or it stays
  pub reread : (s : S) (q p : PlacedToken) (qs rs : List PlacedToken) → Live s → m.seen s ≡ q ∷ qs → is_slash q.spot.token.kind ≡ true → m.seen (m.operand s) ≡ p ∷ rs
      → (p.spot.token.kind ≡ error_kind) ⊎ (Rereads q p ⊎ (m.operand s ≡ s))

module _ {S : Type 0} (m : Stream S) where
  -- Where `/=` comes, the list has it too, and no regular expression in its place. So much is asked of the list behind an expression that isn't closed, and
  -- behind what may end with an expression; behind anything else nothing is asked.
  abbrev pub Assigns : Tree → List PlacedToken → S → Type 0
  Assigns t qs s = kind_of (m.seen s) ≡ div_assign_kind → kind_of qs ≡ div_assign_kind

  abbrev pub AssignsUnlessClosed : Tree → List PlacedToken → S → Type 0
  AssignsUnlessClosed t qs s = nat_le closed_end (ends t) ≡ false → Assigns t qs s

  abbrev pub Unasked : Tree → List PlacedToken → S → Type 0
  Unasked t qs s = Unit {0}

module _ {S : Type 0} (m : Stream S) (Live : S → Type 0) where
  -- What tree is read of a source, as a script or a module, is read of a list that the source hands out, by calls so deep.
  abbrev pub ProgramsConsumed : Type 0
  ProgramsConsumed = (modules : Bool) → Orderly m Live modules → Backward m Live modules → (depth : ℕ) (syntax : EsSyntax) (s : S) (t : Tree)
      → Live s → read_program m depth modules syntax s ≡ Ok t → (ps : List PlacedToken) × HandsOut m ps s × (read_list depth modules syntax (m.last s) ps ≡ Ok t)

  -- A tree is read of a front of lists that the source hands out: of each that goes on with one that it hands out behind, as is asked of that, which is left.
  -- It hands out such a list.
  pub record Consumed (Asked : Tree → List PlacedToken → S → Type 0) (s : S) (commas : List ℕ) (t : Tree) (r : State S) (f : Read Input Tree) : Type 0 where
    pub front : List PlacedToken
    pub rest : List PlacedToken
    pub handed : HandsOut m rest r.source
    pub asked : Asked t rest r.source
    pub each : (qs : List PlacedToken) → HandsOut m qs r.source → Asked t qs r.source → HandsOut m (front ++ qs) s × (f (from_list m Live s (front ++ qs) commas) ≡ Ok (t, from_list m Live r.source qs r.commas))

  abbrev pub ReadConsumed : (Tree → List PlacedToken → S → Type 0) → S → List ℕ → Result (Tree × State S) Fault → Read Input Tree → Type 0
  ReadConsumed Asked s commas (Ok x) f = Consumed Asked s commas x.0 x.1 f
  ReadConsumed Asked s commas (Err e) f = Unit {0}

  -- So it is of parts, from one state on: an expression, a pattern that binds, a statement, an item of a program, a key, a parameter, a property of an object
  -- and one of an object pattern.
  pub record EachConsumed (modules : Bool) (depth : ℕ) (c : Code) (s : S) (commas : List ℕ) : Type 0 where
    pub expressions : (l : ℕ) → ReadConsumed (AssignsUnlessClosed m) s commas ((readers m depth).expr c l (from_source m Live s commas)) (λ r. (readers list_stream depth).expr c l r)
    pub bindings : ReadConsumed (Unasked m) s commas ((readers m depth).pat c (from_source m Live s commas)) (λ r. (readers list_stream depth).pat c r)
    pub statements : ReadConsumed (Unasked m) s commas ((readers m depth).stmt c (from_source m Live s commas)) (λ r. (readers list_stream depth).stmt c r)
    pub items : ReadConsumed (Unasked m) s commas (item_by m (readers m depth) modules c (operand m (from_source m Live s commas))) (λ r. item_by list_stream (readers list_stream depth) modules c r)
    pub keys : ReadConsumed (Unasked m) s commas (key_by m (readers m depth) c (from_source m Live s commas)) (λ r. key_by list_stream (readers list_stream depth) c r)
    pub parameters : ReadConsumed (Assigns m) s commas (parameter_by m (readers m depth) c (from_source m Live s commas)) (λ r. parameter_by list_stream (readers list_stream depth) c r)
    pub properties : ReadConsumed (Assigns m) s commas (prop_by m (readers m depth) c (from_source m Live s commas)) (λ r. prop_by list_stream (readers list_stream depth) c r)
    pub patterns : ReadConsumed (Assigns m) s commas (pattern_prop m (readers m depth) c (from_source m Live s commas)) (λ r. pattern_prop list_stream (readers list_stream depth) c r)

  abbrev pub PartsConsumed : Type 0
  PartsConsumed = (modules : Bool) → Orderly m Live modules → Backward m Live modules → (depth : ℕ) (c : Code) (s : S) (commas : List ℕ) → c.context.module_ ≡ modules → Live s
      → EachConsumed modules depth c s commas
