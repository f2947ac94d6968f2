-- What a reading function reads from, and what it answers.
use Rattle.std.specs.Prelude.{ℕ, zero, suc, Bool, true, false, not, ◌&&◌, ◌==◌, nat_lt, if◌then◌else◌, List, [], ◌∷◌, length, Result, Ok, Err}
use Rattle.tree_spec.specs.Context.{Context}
use Rattle.tree_spec.specs.Span.{Span}
use Rattle.tree_spec.specs.Kinds.{semicolon_kind}
use Rattle.tree_spec.specs.Tree.{Tree}
use Rattle.grammar_spec.specs.Tokens.Input.{PlacedToken, Input, Code, span, kind, lo, text, is_word, no_name, barred, others, hi_of}
use Rattle.grammar_spec.specs.Tokens.Operators.{pauses}

-- Why nothing was read: no tree, or none by calls so deep; and how many tokens may come where that was found.
pub data Fault : Type 0 where
  Unexpected : ℕ → Fault
  TooDeep : ℕ → Fault

infixl 10 ◌>>=◌
abbrev pub ◌>>=◌ : {A B : Type 0} → Result A Fault → (A → Result B Fault) → Result B Fault
(Ok x) >>= f = f x
(Err e) >>= f = Err e

-- a tree that doesn't fit, wherever it stands
abbrev pub unfit : {A : Type 0} → Result A Fault
unfit = Err (Unexpected 0)

-- What is answered where so many tokens may come: there a fault is found.
abbrev pub placed : {A : Type 0} → ℕ → Result A Fault → Result A Fault
placed n (Ok x) = Ok x
placed n (Err (Unexpected k)) = Err (Unexpected n)
placed n (Err (TooDeep k)) = Err (TooDeep n)

-- A stream of tokens: those to come; the stream after the first; the same where an operand may start, so that a slash at its front is read
-- again as a regular expression; the same in another context, so that what was read ahead is read again; how many tokens may come at most;
-- where the last one consumed ends.
pub record Stream (S : Type 0) : Type 0 where
  pub seen : S → List PlacedToken
  pub after : S → S
  pub operand : S → S
  pub retold : Context → S → S
  pub bound : S → ℕ
  pub last : S → ℕ

abbrev pub is_nil : {A : Type 0} → List A → Bool
is_nil [] = true
is_nil (x ∷ xs) = false

-- the stream of a list, whose tokens are as they will be consumed
abbrev pub list_stream : Stream Input
list_stream = record { seen = λ ts. ts.places; after = λ ts. record { last = hi_of ts.last ts.places; places = others ts.places }; operand = λ ts. ts; retold = λ x ts. ts; bound = λ ts. length ts.places; last = λ ts. ts.last }

-- The state of a reading: the source, and the starts of arrays and objects in which a comma follows a last spread, since none is a pattern.
pub record State (S : Type 0) : Type 0 where
  pub source : S
  pub commas : List ℕ

abbrev pub Read : Type 0 → Type 0 → Type 0
Read S A = State S → Result (A × State S) Fault

-- ---- the tokens at hand

module _ {S : Type 0} (m : Stream S) where
  abbrev pub input : State S → Input
  input s = record { last = m.last s.source; places = m.seen s.source }

  abbrev pub past : State S → State S
  past s = record { source = m.after s.source; commas = s.commas }

  abbrev pub operand : State S → State S
  operand s = record { source = m.operand s.source; commas = s.commas }

  abbrev pub retold : Context → State S → State S
  retold x s = record { source = m.retold x s.source; commas = s.commas }

  abbrev pub bound : State S → ℕ
  bound s = m.bound s.source

  -- nothing is read here
  abbrev pub unexpected : {A : Type 0} → State S → Result A Fault
  unexpected s = Err (Unexpected (bound s))

  -- what is read here nests too deep
  abbrev pub too_deep : {A : Type 0} → State S → Result A Fault
  too_deep s = Err (TooDeep (bound s))

  -- the place where the token at hand begins
  abbrev pub here : State S → ℕ
  here s = lo (input s)

  -- from a place to the end of what was consumed before a state
  abbrev pub spanned : ℕ → State S → Span
  spanned start r = span start (m.last r.source)

  abbrev pub at : ℕ → State S → Bool
  at k s = kind (input s) == k

  -- whether no token is to come
  abbrev pub ended : State S → Bool
  ended s = is_nil (m.seen s.source)

  -- a token of a kind
  unfoldable pub eat : ℕ → State S → Result (State S) Fault
  eat k s = if at k s then Ok (past s) else unexpected s

  -- a word as a word of the grammar
  unfoldable pub eat_word : Code → ℕ → State S → Result (State S) Fault
  eat_word c k s = if at k s && not (barred c.context (input s)) then Ok (past s) else unexpected s

  -- a word that is a name here
  abbrev pub is_name : Code → State S → Bool
  is_name c s = is_word (kind (input s)) && (not (no_name c.context (kind (input s))) && not (barred c.context (input s)))

  unfoldable pub name : Code → Read S (List ℕ)
  name c s = if is_name c s then Ok (text (input s), past s) else unexpected s

  unfoldable pub any_word : Read S (List ℕ)
  any_word s = if is_word (kind (input s)) then Ok (text (input s), past s) else unexpected s

  -- what ends a statement or a field, whose last part is of a class
  unfoldable pub end_of : Code → ℕ → State S → Result (State S) Fault
  end_of c e s = if at semicolon_kind s then Ok (past s) else (if pauses c e (input s) then Ok s else unexpected s)

-- ---- going on until a step says that it is done

pub data Step (A : Type 0) : Type 0 where
  go_on : A → Step A
  finished : A → Step A

abbrev pub next_by : {S A : Type 0} → (State S → ℕ) → (A → Read S A) → ℕ → Step A × State S → Result (A × State S) Fault
next_by bound again below (go_on x, r) = if nat_lt (bound r) below then again x r else Err (Unexpected (bound r))
next_by bound again below (finished x, r) = Ok (x, r)

unfoldable pub iterate_n : {S A : Type 0} → (State S → ℕ) → ℕ → (A → Read S (Step A)) → A → Read S A
iterate_n bound zero step x s = Err (Unexpected (bound s))
iterate_n bound (suc n) step x s = step x s >>= next_by bound (iterate_n bound n step) (bound s)

unfoldable pub iterate : {S A : Type 0} → (State S → ℕ) → (A → Read S (Step A)) → A → Read S A
iterate bound step x s = iterate_n bound (suc (bound s)) step x s

-- ---- the readers of what is nested, which the rules take

pub record Inner (S : Type 0) : Type 0 where
  -- an expression of a level or a tighter one
  pub expr : Code → ℕ → Read S Tree
  -- a binding: a name or a pattern
  pub pat : Code → Read S Tree
  -- a statement; where the code says so, a declaration
  pub stmt : Code → Read S Tree
  -- a function's body in its braces
  pub body : Code → Read S Tree
  -- what follows a class's name; the span of the class starts here
  pub class_tail : Code → ℕ → Read S Tree
