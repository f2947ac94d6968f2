-- A key that is a name is what the name itself would be read as.
use Rattle.std.proofs.Common.{◌≡◌, ℕ, refl, sym, ap, ◌∙◌, Bool, true, false, Ok, ◌&&◌, ◌==◌, not}
use Rattle.std.proofs.lemmas.Bool.{and_parts, ne_eqb, true≢false}
use Rattle.base_token.specs.Kinds.{left_bracket_kind}
use Rattle.tree_spec.specs.Tree.{Tree, ident_name}
use Rattle.grammar_spec.specs.Tokens.Input.{Code, barred, is_word, kind, no_name, text}
use Rattle.grammar_spec.specs.Reader.Source.{Stream, State, Inner, input, past, name, is_name, ◌>>=◌}
use Rattle.grammar_spec.specs.Reader.Expressions.{first, key_by, prop_rest}
use Rattle.parse_objects.specs.Props.{keyed_by, prop_end, shorthand_by, word_of}

no_bracket : (k : ℕ) → is_word k ≡ true → (k == left_bracket_kind) ≡ false
no_bracket k h = ne_eqb k left_bracket_kind (λ q. true≢false (sym h ∙ ap is_word q))

module _ {S : Type 0} (m : Stream S) (inner : Inner S) (c : Code) (s : State S) where
  word_key : is_name m c s ≡ true → key_by m inner c s ≡ Ok (ident_name (first m inner s) (text (input m s)), past m s)
  unfolding key_by
  word_key e = let w = (and_parts (is_word (kind (input m s))) (not (no_name c.context (kind (input m s))) && not (barred c.context (input m s))) e).0 in rw (no_bracket (kind (input m s)) w, w) refl

  other_end : is_name m c s ≡ false → (k : Tree) (r : State S) → prop_rest m inner c s k r ≡ prop_end m inner c (first m inner s) (word_of (is_name m c s) k) k r
  unfolding prop_rest prop_end name
  other_end e k r = rw e refl

  name_end : is_name m c s ≡ true → prop_rest m inner c s (ident_name (first m inner s) (text (input m s))) (past m s)
      ≡ prop_end m inner c (first m inner s) (word_of (is_name m c s) (ident_name (first m inner s) (text (input m s)))) (ident_name (first m inner s) (text (input m s))) (past m s)
  unfolding prop_rest prop_end name shorthand_by
  name_end e = rw e refl

  pub keyed_is : keyed_by m inner c s ≡ (key_by m inner c s >>= λ k. prop_end m inner c (first m inner s) (word_of (is_name m c s) k.0) k.0 k.1)
  unfolding keyed_by
  keyed_is = go (is_name m c s) refl
    where
      go : (b : Bool) → is_name m c s ≡ b
          → (key_by m inner c s >>= λ k. prop_rest m inner c s k.0 k.1) ≡ (key_by m inner c s >>= λ k. prop_end m inner c (first m inner s) (word_of (is_name m c s) k.0) k.0 k.1)
      go true e = rw (word_key e) (name_end e)
      go false e = λ i. key_by m inner c s >>= λ k. other_end e k.0 k.1 i
