-- A word is a key as it stands.
use Rattle.std.proofs.Common.{◌≡◌, ℕ, true, false, not, ◌&&◌, if◌then◌else◌, refl, arith, ◌==◌, Ok}
use Rattle.std.proofs.lemmas.Bool.Decides.{nat_tests}
use Rattle.std.proofs.lemmas.Bool.{and_parts}
use Rattle.tree_spec.specs.Tree.{ident_name}
use Rattle.grammar_spec.specs.Tokens.Input.{Code, lo, kind, text, first_span, is_word, no_name, barred}
use Rattle.base_token.specs.Kinds.{colon_kind}
use Rattle.grammar_spec.specs.Reader.Source.{Stream, State, Inner, input, past, at, is_name, name}
use Rattle.grammar_spec.specs.Reader.Expressions.{key_by}
use Rattle.grammar_spec.specs.Reader.Statements.{keyed_item, named_item, pattern_prop}
use Rattle.parse_patterns.specs.Items.{named_rest}

no_bracket : (k : ℕ) → is_word k ≡ true → (k == 9) ≡ false
no_bracket k e = grind (arith, nat_tests)

-- a word is a key as it stands
pub word_key : {S : Type 0} (m : Stream S) (inner : Inner S) (c : Code) (s : State S) → is_word (kind (input m s)) ≡ true
    → key_by m inner c s ≡ Ok (ident_name (first_span (input m s)) (text (input m s)), past m s)
unfolding key_by
word_key m inner c s e = rw (no_bracket (kind (input m s)) e, e) refl

-- a property that begins with a name
pub word_prop : {S : Type 0} (m : Stream S) (inner : Inner S) (c : Code) (s : State S) → is_name m c s ≡ true
    → pattern_prop m inner c s ≡ (if at m colon_kind (past m s) then keyed_item m inner c (lo (input m s)) (ident_name (first_span (input m s)) (text (input m s))) (past m (past m s))
    else named_rest m inner c (first_span (input m s)) (text (input m s)) (past m s))
unfolding pattern_prop named_item named_rest name
word_prop m inner c s e = rw (word_key m inner c s (and_parts (is_word (kind (input m s))) (not (no_name c.context (kind (input m s))) && not (barred c.context (input m s))) e).0, e) refl
