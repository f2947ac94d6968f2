-- What a tree produces is read, within the limit of nesting: the statements of the laws.
use Rattle.std.specs.Prelude.{◌≡◌, ◌≤◌, ◌<◌, ℕ, Bool, true, false, List, [], Option, Result, Ok, Err}
use Rattle.base_token.specs.declared.place.Span.{Span}
use Rattle.base_token.specs.declared.syntax.EsSyntax.{EsSyntax}
use Rattle.tree_spec.specs.Tree.{Tree, Trees, script, es_module}
use Rattle.tree_nesting.specs.Nesting.{nesting}
use Rattle.grammar_spec.specs.Tokens.Input.{PlacedToken, Input, Code, script_code, module_code}
use Rattle.grammar_spec.specs.Tokens.Shape.{level, ends, is_binding}
use Rattle.grammar_spec.specs.Grammar.{Produces, Derives}
use Rattle.grammar_spec.specs.Reader.Source.{Fault, Unexpected, TooDeep, State, list_stream}
use Rattle.grammar_spec.specs.Reader.Reading.{readers, read_list}
use Rattle.grammar_laws.specs.CompleteBase.Laws.{coded, patterned, InOrder, Asked, Follow}

-- ---- answers

-- The answer is this tree, with these tokens as the rest, or too deep where that may be; it is never that a token is unexpected.
abbrev pub Answered : Result (Tree × State Input) Fault → Tree → Input → Type 0 → Type 0
Answered (Ok x) t r P = (x.0 ≡ t) × (x.1.source ≡ r)
Answered (Err (Unexpected n)) t r P = ⊥
Answered (Err (TooDeep n)) t r P = P

-- the same of a whole list
abbrev pub Decided : Result Tree Fault → Tree → Type 0 → Type 0
Decided (Ok x) t P = x ≡ t
Decided (Err (Unexpected n)) t P = ⊥
Decided (Err (TooDeep n)) t P = P

-- ---- expressions and patterns

-- In the code, the tree produces the tokens up to the rest, as an expression of the level, and the rest doesn't go on at that level. Goals and
-- contexts are judged, or the tokens alone.
pub record Stands (placed : Bool) (c : Code) (l : ℕ) (t : Tree) (ts r : Input) : Type 0 where
  pub produced : Produces t (coded placed c) ts r
  pub tight : l ≤ level t
  pub follow : Follow c (ends t) l r

-- A level that is asked for, below that of the callee of `new`.
pub record Level (l : ℕ) : Type 0 where
  pub least : 1 ≤ l
  pub most : l < 20
  pub asked : Asked l

-- What an expression produces (clause 13) is read, whatever the limit, or nests deeper than it.
abbrev pub ExpressionsComplete : Type 0
ExpressionsComplete = (limit : ℕ) (placed : Bool) (c : Code) (l : ℕ) (t : Tree) (ts r : Input) → InOrder ts.last ts.places → Level l → Stands placed c l t ts r
    → Answered ((readers list_stream limit).expr c l (record { source = ts; commas = [] })) t r (limit < nesting t)

-- At most one expression produces the front of a list of tokens, up to what doesn't go on.
abbrev pub OneExpression : Type 0
OneExpression = (p q : Bool) (c : Code) (l : ℕ) (t u : Tree) (ts r o : Input) → InOrder ts.last ts.places → Level l → Stands p c l t ts r → Stands q c l u ts o → (t ≡ u) × (r ≡ o)

-- In the code, the pattern binds and produces the tokens up to the rest.
pub record Bound (placed : Bool) (c : Code) (t : Tree) (ts r : Input) : Type 0 where
  pub binding : is_binding t ≡ true
  pub produced : Produces t (patterned placed c) ts r

-- the same of patterns that bind (14.3.3)
abbrev pub PatternsComplete : Type 0
PatternsComplete = (limit : ℕ) (placed : Bool) (c : Code) (t : Tree) (ts r : Input) → InOrder ts.last ts.places → Bound placed c t ts r → Answered ((readers list_stream limit).pat c (record { source = ts; commas = [] })) t r (limit < nesting t)

abbrev pub OnePattern : Type 0
OnePattern = (p q : Bool) (c : Code) (t u : Tree) (ts r o : Input) → InOrder ts.last ts.places → Bound p c t ts r → Bound q c u ts o → (t ≡ u) × (r ≡ o)

-- ---- scripts (16.1)

-- A script that derives the tokens is what is read of them, whatever the limit, or it nests deeper than the limit.
abbrev pub ScriptsComplete : Type 0
ScriptsComplete = (limit : ℕ) (placed : Bool) (syntax : EsSyntax) (s : Span) (ss : Trees) (l : Option (List ℕ)) (start : ℕ) (places : List PlacedToken) (r : Input) → InOrder start places
    → Derives (script s ss l) (coded placed (script_code syntax)) (record { last = start; places = places }) r → Decided (read_list limit false syntax start places) (script s ss l) (limit < nesting (script s ss l))

-- At most one script derives a list of tokens.
abbrev pub OneScript : Type 0
OneScript = (p q : Bool) (syntax : EsSyntax) (s w : Span) (ss us : Trees) (l m : Option (List ℕ)) (start : ℕ) (places : List PlacedToken) (r o : Input) → InOrder start places
    → Derives (script s ss l) (coded p (script_code syntax)) (record { last = start; places = places }) r → Derives (script w us m) (coded q (script_code syntax)) (record { last = start; places = places }) o → script s ss l ≡ script w us m

-- Where a token is unexpected at one limit, whichever it is, no script of any nesting derives the tokens.
abbrev pub NoScript : Type 0
NoScript = (limit : ℕ) (placed : Bool) (syntax : EsSyntax) (s : Span) (ss : Trees) (l : Option (List ℕ)) (start : ℕ) (places : List PlacedToken) (r : Input) (n : ℕ) → InOrder start places → read_list limit false syntax start places ≡ Err (Unexpected n)
    → Derives (script s ss l) (coded placed (script_code syntax)) (record { last = start; places = places }) r → ⊥

-- ---- modules (16.2)

-- A module that derives the tokens is what is read of them, whatever the limit, or it nests deeper than the limit.
abbrev pub ModulesComplete : Type 0
ModulesComplete = (limit : ℕ) (placed : Bool) (syntax : EsSyntax) (s : Span) (ss : Trees) (l : Option (List ℕ)) (start : ℕ) (places : List PlacedToken) (r : Input) → InOrder start places
    → Derives (es_module s ss l) (coded placed (module_code syntax)) (record { last = start; places = places }) r → Decided (read_list limit true syntax start places) (es_module s ss l) (limit < nesting (es_module s ss l))

-- At most one module derives a list of tokens.
abbrev pub OneModule : Type 0
OneModule = (p q : Bool) (syntax : EsSyntax) (s w : Span) (ss us : Trees) (l m : Option (List ℕ)) (start : ℕ) (places : List PlacedToken) (r o : Input) → InOrder start places
    → Derives (es_module s ss l) (coded p (module_code syntax)) (record { last = start; places = places }) r → Derives (es_module w us m) (coded q (module_code syntax)) (record { last = start; places = places }) o → es_module s ss l ≡ es_module w us m

-- Where a token is unexpected at one limit, whichever it is, no module of any nesting derives the tokens.
abbrev pub NoModule : Type 0
NoModule = (limit : ℕ) (placed : Bool) (syntax : EsSyntax) (s : Span) (ss : Trees) (l : Option (List ℕ)) (start : ℕ) (places : List PlacedToken) (r : Input) (n : ℕ) → InOrder start places → read_list limit true syntax start places ≡ Err (Unexpected n)
    → Derives (es_module s ss l) (coded placed (module_code syntax)) (record { last = start; places = places }) r → ⊥
