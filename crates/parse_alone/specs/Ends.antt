-- Where a part of a program ends that is read alone: its end doesn't go on as an arrow.
use Rattle.std.specs.Prelude.{Bool, false, not, ◌&&◌, if◌then◌else◌, List, [], ◌∷◌, Option, Some, None, codes, bytes_eq}
use Rattle.tree_spec.specs.Tree.{Tree, ident, assign_expr, cond_expr, arrow_expr, yield_expr, param, assign_pat, absent}
use Rattle.grammar_spec.specs.Tokens.Input.{Code, brk, in_arrow}
use Rattle.grammar_spec.specs.Reader.Source.{Stream, State, input, is_name}

-- ---- the word `async` at the end of an expression

-- Where the last operand of an AssignmentExpression is that word, the code in which it stands: with a name behind it an arrow would start there (15.9).
abbrev pub async_end : Code → Tree → Option Code
async_end c (ident s n) = if bytes_eq n (codes "async") then Some c else None
async_end c (assign_expr s op p e) = async_end c e
async_end c (cond_expr s a b d) = async_end c d
async_end c (arrow_expr s ps b i) = async_end (in_arrow i c) b
async_end c (yield_expr s e g) = async_end c e
async_end c _ = None

-- the initialiser of the last parameter
abbrev pub initial_of : Tree → Tree
initial_of (param s ds (assign_pat t p e)) = e
initial_of _ = absent

abbrev pub last_initial : List Tree → Tree
last_initial [] = absent
last_initial (p ∷ []) = initial_of p
last_initial (p ∷ (q ∷ ps)) = last_initial (q ∷ ps)

module _ {S : Type 0} (m : Stream S) where
  -- Such a word ends a tree, and a name stands on its line.
  abbrev pub heads_arrow : Option Code → State S → Bool
  heads_arrow None s = false
  heads_arrow (Some c) s = not (brk (input m s)) && is_name m c s
