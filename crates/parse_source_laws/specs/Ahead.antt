-- Reading depends on the tokens that it takes and the next one alone.
use Rattle.std.specs.Prelude.{◌≡◌, ℕ, Bool, true, false, not, ◌&&◌, ◌==◌, nat_le, List, [], ◌∷◌, ◌++◌, Ok, codes, bytes_eq}
use Rattle.base_token.specs.Kinds.{dot_kind, question_mark_kind, arrow_kind, async_kind}
use Rattle.tree_spec.specs.Tree.{Tree, Trees, none, more, ident, update_expr, unary_expr, await_expr, bin_expr, cond_expr, assign_expr, arrow_expr, yield_expr, seq_expr, new_expr, absent}
use Rattle.grammar_spec.specs.Tokens.Input.{PlacedToken, Input, Code, kind_of, break_of, others, text_in}
use Rattle.grammar_spec.specs.Tokens.Operators.{closed_end, may_name}
use Rattle.grammar_spec.specs.Tokens.Shape.{ends}
use Rattle.grammar_spec.specs.Reader.Source.{State, Read, list_stream}
use Rattle.grammar_spec.specs.Reader.Expressions.{key_by, parameter_by, prop_by}
use Rattle.grammar_spec.specs.Reader.Statements.{pattern_prop}
use Rattle.grammar_spec.specs.Reader.Modules.{item_by}
use Rattle.grammar_spec.specs.Reader.Reading.{readers}
use Rattle.parse_source_laws.specs.Sources.{one}

-- whether the word `async` stands last in an expression, as a name
abbrev mutual
  pub ends_async : Tree → Bool
  ends_async (ident s n) = bytes_eq n (codes "async")
  ends_async (update_expr s op true a) = ends_async a
  ends_async (unary_expr s op a) = ends_async a
  ends_async (await_expr s a) = ends_async a
  ends_async (bin_expr s op a b) = ends_async b
  ends_async (cond_expr s a b d) = ends_async d
  ends_async (assign_expr s op a b) = ends_async b
  ends_async (arrow_expr s ps b i) = ends_async b
  ends_async (yield_expr s a g) = ends_async a
  ends_async (new_expr s f absent) = ends_async f
  ends_async (seq_expr s xs) = last_async xs
  ends_async _ = false

  pub last_async : Trees → Bool
  last_async none = false
  last_async (more t none) = ends_async t
  last_async (more t (more u ts)) = last_async (more u ts)

-- a token that is the word `async` by its kind has that text
abbrev pub Named : List PlacedToken → Type 0
Named [] = Unit {0}
Named (p ∷ ps) = (p.spot.token.kind ≡ async_kind → text_in p.spot.token.content ≡ codes "async") × Named ps

-- `.` stands second, or `=>` does on its line
abbrev pub dots : List PlacedToken → Bool
dots ps = kind_of (others ps) == dot_kind

abbrev pub heads : List PlacedToken → Bool
heads ps = (kind_of (others ps) == arrow_kind) && not (break_of (others ps))

-- What stands there instead begins with the same token, or nothing stands there either.
abbrev pub SameNext : Tree → List PlacedToken → List PlacedToken → Type 0
SameNext t ps qs = one ps ≡ one qs

-- After an expression also what follows that token is the same as far as it counts: where the token is `?`, and where the word `async` stands before
-- a word on its line that may be a name.
pub record Instead (t : Tree) (ps qs : List PlacedToken) : Type 0 where
  pub next : one ps ≡ one qs
  pub question : nat_le closed_end (ends t) ≡ false → kind_of ps ≡ question_mark_kind → dots qs ≡ dots ps
  pub word : nat_le closed_end (ends t) ≡ false → ends_async t ≡ true → break_of ps ≡ false → may_name (kind_of ps) ≡ true → heads qs ≡ heads ps

-- the same after whatever may end with an expression
pub record InsteadOfAny (t : Tree) (ps qs : List PlacedToken) : Type 0 where
  pub next : one ps ≡ one qs
  pub question : kind_of ps ≡ question_mark_kind → dots qs ≡ dots ps
  pub word : break_of ps ≡ false → may_name (kind_of ps) ≡ true → heads qs ≡ heads ps

-- a state before a list
abbrev pub at_list : ℕ → List PlacedToken → List ℕ → State Input
at_list n ps commas = record { source = record { last = n; places = ps }; commas = commas }

-- What is read of a front and leaves a rest is read of the same front before what may stand there instead, and leaves that.
abbrev pub ReadAhead : (Tree → List PlacedToken → List PlacedToken → Type 0) → Read Input Tree → Type 0
ReadAhead Q f = (n : ℕ) (ps : List PlacedToken) (commas : List ℕ) (t : Tree) (r : State Input) → Named ps → f (at_list n ps commas) ≡ Ok (t, r)
    → (front : List PlacedToken) × (ps ≡ front ++ r.source.places) × ((qs : List PlacedToken) → Q t r.source.places qs → f (at_list n (front ++ qs) commas) ≡ Ok (t, at_list r.source.last qs r.commas))

-- So it is of an expression, a pattern that binds, a statement, an item of a program, a key, a parameter, a property of an object and one of an object
-- pattern, at every depth.
pub record PartsAhead (depth : ℕ) (c : Code) : Type 0 where
  pub expressions : (l : ℕ) → ReadAhead Instead (λ s. (readers list_stream depth).expr c l s)
  pub bindings : ReadAhead SameNext (λ s. (readers list_stream depth).pat c s)
  pub statements : ReadAhead SameNext (λ s. (readers list_stream depth).stmt c s)
  pub items : ReadAhead SameNext (λ s. item_by list_stream (readers list_stream depth) c.context.module_ c s)
  pub keys : ReadAhead SameNext (λ s. key_by list_stream (readers list_stream depth) c s)
  pub parameters : ReadAhead InsteadOfAny (λ s. parameter_by list_stream (readers list_stream depth) c s)
  pub properties : ReadAhead InsteadOfAny (λ s. prop_by list_stream (readers list_stream depth) c s)
  pub patterns : ReadAhead InsteadOfAny (λ s. pattern_prop list_stream (readers list_stream depth) c s)

abbrev pub OneAhead : Type 0
OneAhead = (depth : ℕ) (c : Code) → PartsAhead depth c
