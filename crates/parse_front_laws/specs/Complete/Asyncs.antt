-- The word `async` at the end of an expression, before a name: where an assignment may stand an arrow goes on with it.
use Rattle.std.specs.Prelude.{◌≡◌, ◌≤◌, ◌<◌, ℕ, Bool, true, false, not, ◌&&◌, List, [], ◌∷◌, Ok, codes, bytes_eq}
use Rattle.base_token.specs.Kinds.{async_kind}
use Rattle.tree_spec.specs.Tree.{Tree, ident, assign_expr, cond_expr, arrow_expr, yield_expr}
use Rattle.grammar_spec.specs.Tokens.Input.{PlacedToken, Input, Code, kind, brk, text_in, is_word, no_name, barred, in_arrow}
use Rattle.grammar_spec.specs.Tokens.Operators.{goes_expr}
use Rattle.grammar_spec.specs.Tokens.Shape.{ends, last_of}
use Rattle.grammar_spec.specs.Reader.Source.{State, list_stream}
use Rattle.grammar_spec.specs.Reader.Reading.{readers}
use Rattle.grammar_laws.specs.CompleteBase.Laws.{InOrder}
use Rattle.parse_source_laws.specs.Ahead.{Named, at_list}
use Rattle.parse_front_laws.specs.Complete.Laws.{input_at, IsComplete, Expression}

-- a name in the code stands on its line
abbrev pub names_next : Code → Input → Bool
names_next c r = not (brk r) && (is_word (kind r) && (not (no_name c.context (kind r)) && not (barred c.context r)))

-- The last operand of an AssignmentExpression is the word `async`, and such a name stands there (15.9).
abbrev pub takes_name : Code → Tree → Input → Bool
takes_name c (ident s n) r = bytes_eq n (codes "async") && names_next c r
takes_name c (assign_expr s op p e) r = takes_name c e r
takes_name c (cond_expr s a b d) r = takes_name c d r
takes_name c (arrow_expr s ps b i) r = takes_name (in_arrow i c) b r
takes_name c (yield_expr s e g) r = takes_name c e r
takes_name c _ r = false

-- What is read as an expression is derived from a complete front, and the next token doesn't go on with it; but where an arrow may go on so.
abbrev pub ExpressionsSettle : Type 0
ExpressionsSettle = (depth : ℕ) (placed : Bool) (c : Code) (l n : ℕ) (ps : List PlacedToken) (t : Tree) (r : State Input) → 1 ≤ l → l ≤ 2 → Named ps → InOrder n ps
    → (readers list_stream depth).expr c l (at_list n ps []) ≡ Ok (t, r) → takes_name c (last_of t) r.source ≡ false
    → Expression false l c t (input_at n ps) r.source × IsComplete (Expression placed l c) n ps r.source.places × (goes_expr c (ends t) r.source < l)

-- a word with the text `async` is that word by its kind
abbrev pub Worded : List PlacedToken → Type 0
Worded [] = Unit {0}
Worded (p ∷ ps) = (is_word p.spot.token.kind ≡ true → text_in p.spot.token.content ≡ codes "async" → p.spot.token.kind ≡ async_kind) × Worded ps

-- Behind a complete front that ends so no such name stands: an arrow would go on with it.
abbrev pub FrontsStandAlone : Type 0
FrontsStandAlone = (c : Code) (l n : ℕ) (ps : List PlacedToken) (t : Tree) (r : Input) → 1 ≤ l → l ≤ 2 → Worded ps → InOrder n ps
    → Expression false l c t (input_at n ps) r → IsComplete (Expression false l c) n ps r.places → takes_name c (last_of t) r ≡ false
